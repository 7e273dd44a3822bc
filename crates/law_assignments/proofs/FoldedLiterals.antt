-- What the foldings give at typed literals is a literal, but for functions, `option.get` of none, selectors of IP ranges at the
-- other family, and shifts by more places than the folding takes.
use Rattle.std.proofs.Common.{◌≡◌, ℕ, Bool, true, false, ◌&&◌, cond, List, [], ◌∷◌, refl, ap, ◌∙◌, sym}
use Rattle.std.specs.Prelude.{bytes_eq, filter, Option, Some, None, IfSome, ◌==◌, ◌||◌}
use Rattle.std.specs.Cmp.{first_so, second_so}
use Rattle.std.specs.Cmp.Derive.{both_true}
use Rattle.std.specs.List.{AllByRecursion}
use Rattle.std.specs.Option.{unwrap_or}
use Rattle.std.proofs.lemmas.Bool.{eq-eqb}
use Rattle.law_numbers.specs.BitOperators.{BitsOperator, TestOperator, OverflowOperator}
use Rattle.law_assignments.specs.Assignments.{is_of_other_family}
use Rattle.law_assignments.proofs.Literals.{of_bits, of_boolean, of_extension, of_record, of_set, of_string, of_two_bits}
use Rattle.law_folding.specs.Applications.{bits_literal, false_term, true_term, truth_literal}
use Rattle.law_folding.specs.FoldBits.{folded_bits, folded_bvneg, folded_bvnego, folded_overflow, folded_test, folded_zero_extend, takes_right}
use Rattle.law_folding.specs.FoldConnectives.{folded_and, folded_not, folded_or}
use Rattle.law_folding.specs.FoldEquality.{folded_eq, folded_eq_inside, folded_ite, folded_ite_inside}
use Rattle.law_folding.specs.FoldExtensions.{extension_literal, folded_extension, prefix_literal}
use Rattle.law_folding.specs.FoldRecords.{field_in, folded_record_get}
use Rattle.law_folding.specs.FoldSets.{common_set, folded_set_inter, folded_set_member, folded_set_subset, is_among}
use Rattle.law_folding.specs.FoldStrings.{folded_string_like}
use Rattle.law_folding.specs.Parts.{is_empty_set}
use Rattle.law_folding.proofs.SetLists.{filtered, literal_each}
use Rattle.law_terms.specs.Literals.{is_literal, are_literals, are_literal_fields}
use Rattle.law_terms.specs.Plain.{ExtensionKind, IpAddrKind, DecimalKind, DatetimeKind, DurationKind, PlainType, BitVecType, BoolType, ExtensionType, StringType, ExtensionOp, DatetimeOfBitVecOp, DatetimeValOp, DecimalValOp, DurationOfBitVecOp, DurationValOp, IpAddrV4Op, IpAddrV6Op, IpIsV4Op, IpPrefixV4Op, IpPrefixV6Op, PatternPart, PlainExtension, DecimalOf, Ipv4Of, Ipv6Of, DatetimeOf, DurationOf, PlainTerm, NoneTerm, RecordTerm, SetTerm, SomeTerm, PlainTerms, PlainFields, no_fields, one_field, list_of_terms, terms}
use Rattle.law_terms.specs.TermOrder.{term_eq}
use Rattle.law_terms.specs.TermSets.{set_term, sorted_terms}
use Rattle.law_terms.specs.Types.{attribute_type, bits_and_bits, extension_signature, is_bits, is_set, type_of}
use Rattle.law_terms.proofs.SortedSets.{all-terms}

abbrev pub IsLiteral : PlainTerm → Type 0
IsLiteral t = is_literal t ≡ true

-- ---- a choice between terms

either : (b : Bool) (t u : PlainTerm) → IsLiteral t → IsLiteral u → IsLiteral (cond b t u)
either true t u h k = h
either false t u h k = k

first : (b : Bool) (t u : PlainTerm) → b ≡ true → IsLiteral t → IsLiteral (cond b t u)
first true t u e h = h
first false t u e h = cc

unwrapped : (o : Option PlainTerm) (t : PlainTerm) → IfSome o IsLiteral → IsLiteral t → IsLiteral (unwrap_or o t)
unwrapped (Some u) t h k = h
unwrapped None t h k = k

-- ---- connectives, equality and choice

pub not_literal : (t : PlainTerm) → IsLiteral t → type_of t ≡ BoolType → IsLiteral (folded_not t)
not_literal t h e = of_boolean (λ v. IsLiteral (folded_not v)) (λ b. refl) t h e

both_truths : (b c : Bool) → IsLiteral (folded_and (truth_literal b) (truth_literal c))
both_truths true true = refl
both_truths true false = refl
both_truths false true = refl
both_truths false false = refl

pub and_literal : (t u : PlainTerm) → IsLiteral t → IsLiteral u → type_of t ≡ BoolType → type_of u ≡ BoolType → IsLiteral (folded_and t u)
and_literal t u h k e f = of_boolean (λ v. IsLiteral (folded_and v u)) (λ b. of_boolean (λ w. IsLiteral (folded_and (truth_literal b) w)) (λ c. both_truths b c) u k f) t h e

either_truth : (b c : Bool) → IsLiteral (folded_or (truth_literal b) (truth_literal c))
either_truth true true = refl
either_truth true false = refl
either_truth false true = refl
either_truth false false = refl

pub or_literal : (t u : PlainTerm) → IsLiteral t → IsLiteral u → type_of t ≡ BoolType → type_of u ≡ BoolType → IsLiteral (folded_or t u)
or_literal t u h k e f = of_boolean (λ v. IsLiteral (folded_or v u)) (λ b. of_boolean (λ w. IsLiteral (folded_or (truth_literal b) w)) (λ c. either_truth b c) u k f) t h e

eq_inside : (t u : PlainTerm) → IsLiteral t → IsLiteral u → IsLiteral (folded_eq_inside t u)
eq_inside t u h k = either (term_eq t u) true_term _ refl (first (is_literal t && is_literal u) false_term _ (both_true h k) refl)

pub eq_literal : (t u : PlainTerm) → IsLiteral t → IsLiteral u → IsLiteral (folded_eq t u)
eq_literal (SomeTerm t) (SomeTerm u) h k = eq_inside t u h k
eq_literal (SomeTerm t) (NoneTerm ty) h k = refl
eq_literal (NoneTerm ty) (SomeTerm u) h k = refl
eq_literal (SomeTerm t) u h k = eq_inside (SomeTerm t) u h k
eq_literal (NoneTerm ty) u h k = eq_inside (NoneTerm ty) u h k
eq_literal t u h k = eq_inside t u h k

ite_inside : (b : Bool) (t u : PlainTerm) → IsLiteral t → IsLiteral u → IsLiteral (folded_ite_inside (truth_literal b) t u)
ite_inside true t u h k = h
ite_inside false t u h k = either (term_eq t u) t u h k

chosen_literal : (b : Bool) (t u : PlainTerm) → IsLiteral t → IsLiteral u → IsLiteral (folded_ite (truth_literal b) t u)
chosen_literal b (SomeTerm t) (SomeTerm u) h k = ite_inside b t u h k
chosen_literal b (SomeTerm t) u h k = ite_inside b (SomeTerm t) u h k
chosen_literal b t u h k = ite_inside b t u h k

pub ite_literal : (g t u : PlainTerm) → IsLiteral g → IsLiteral t → IsLiteral u → type_of g ≡ BoolType → IsLiteral (folded_ite g t u)
ite_literal g t u h k l e = of_boolean (λ v. IsLiteral (folded_ite v t u)) (λ b. chosen_literal b t u k l) g h e

-- ---- bits

pub bvneg_literal : (t : PlainTerm) → IsLiteral t → is_bits (type_of t) ≡ true → IsLiteral (folded_bvneg t)
bvneg_literal t h e = of_bits (λ v. IsLiteral (folded_bvneg v)) (λ n x. refl) t h e

pub bvnego_literal : (t : PlainTerm) → IsLiteral t → is_bits (type_of t) ≡ true → IsLiteral (folded_bvnego t)
bvnego_literal t h e = of_bits (λ v. IsLiteral (folded_bvnego v)) (λ n x. refl) t h e

pub zero_extend_literal : (k : ℕ) (t : PlainTerm) → IsLiteral t → is_bits (type_of t) ≡ true → IsLiteral (folded_zero_extend k t)
zero_extend_literal k t h e = of_bits (λ v. IsLiteral (folded_zero_extend k v)) (λ n x. refl) t h e

-- two literals of one width, where the operator takes the second's number
pub bits_computed : (o : BitsOperator) (n x y : ℕ) → takes_right o y ≡ true → IsLiteral (folded_bits o (bits_literal n x) (bits_literal n y))
bits_computed o n x y e = first (n == n && takes_right o y) _ _ (both_true (eq-eqb n n refl) e) refl

pub test_literal : (o : TestOperator) (t u : PlainTerm) → IsLiteral t → IsLiteral u → bits_and_bits (type_of t) (type_of u) ≡ true → IsLiteral (folded_test o t u)
test_literal o t u h k e = of_two_bits (λ v w. IsLiteral (folded_test o v w)) (λ n x y. first (n == n) _ _ (eq-eqb n n refl) refl) t u h k e

pub overflow_literal : (o : OverflowOperator) (t u : PlainTerm) → IsLiteral t → IsLiteral u → bits_and_bits (type_of t) (type_of u) ≡ true → IsLiteral (folded_overflow o t u)
overflow_literal o t u h k e = of_two_bits (λ v w. IsLiteral (folded_overflow o v w)) (λ n x y. first (n == n) _ _ (eq-eqb n n refl) refl) t u h k e

-- ---- strings and records

pub string_like_literal : (p : List PatternPart) (t : PlainTerm) → IsLiteral t → type_of t ≡ StringType → IsLiteral (folded_string_like t p)
string_like_literal p t h e = of_string (λ v. IsLiteral (folded_string_like v p)) (λ s. refl) t h e

field_literal : (x : List ℕ) (fs : PlainFields) → are_literal_fields fs ≡ true → IfSome (field_in x fs) IsLiteral
field_literal x no_fields h = tt
field_literal x (one_field a t fs) h = by (bytes_eq x a) (field_literal x fs (second_so (is_literal t) (are_literal_fields fs) h))
  where
    by : (b : Bool) → IfSome (field_in x fs) IsLiteral → IfSome (elim b [ true ↦ Some t | false ↦ field_in x fs ]) IsLiteral
    by true g = first_so (is_literal t) (are_literal_fields fs) h
    by false g = g

pub record_get_literal : (x : List ℕ) (ty : PlainType) (t : PlainTerm) → IsLiteral t → attribute_type x (type_of t) ≡ Some ty → IsLiteral (folded_record_get t x)
record_get_literal x ty t h e = of_record (λ v. IsLiteral (folded_record_get v x)) x ty (λ fs k. unwrapped (field_in x fs) (RecordTerm fs) (field_literal x fs k) k) t h e

-- ---- sets

all_literals : (ts : List PlainTerm) → AllByRecursion IsLiteral ts → are_literals (terms ts) ≡ true
all_literals [] h = refl
all_literals (t ∷ ts) h = both_true h.0 (all_literals ts h.1)

pub set_literal : (ty : PlainType) (ts : List PlainTerm) → AllByRecursion IsLiteral ts → IsLiteral (set_term ty ts)
set_literal ty ts h = all_literals (sorted_terms ts) (all-terms IsLiteral ts h)

pub set_member_literal : (t u : PlainTerm) → IsLiteral t → IsLiteral u → is_set (type_of u) ≡ true → IsLiteral (folded_set_member t u)
set_member_literal t u h k e = of_set (λ v. IsLiteral (folded_set_member t v)) (λ ty us g. either (is_empty_set (SetTerm ty us)) false_term _ refl (first (is_literal t && are_literals us) _ _ (both_true h g) refl)) u k e

pub set_subset_literal : (t u : PlainTerm) → IsLiteral t → IsLiteral u → is_set (type_of t) ≡ true → is_set (type_of u) ≡ true → IsLiteral (folded_set_subset t u)
set_subset_literal t u h k e f = of_set (λ v. IsLiteral (folded_set_subset v u)) (λ a ts g. of_set (λ w. IsLiteral (folded_set_subset (SetTerm a ts) w)) (λ b us l. either (term_eq (SetTerm a ts) (SetTerm b us) || is_empty_set (SetTerm a ts)) true_term _ refl (first (are_literals ts && are_literals us) _ _ (both_true g l) refl)) u k f) t h e

inter_literal : (a b : PlainType) (ts us : PlainTerms) → are_literals ts ≡ true → are_literals us ≡ true → IsLiteral (folded_set_inter (SetTerm a ts) (SetTerm b us))
inter_literal a b ts us g l =
    either (term_eq (SetTerm a ts) (SetTerm b us) || is_empty_set (SetTerm a ts)) (SetTerm a ts) _ g
    (either (is_empty_set (SetTerm b us)) (SetTerm b us) _ l
    (first (are_literals ts && are_literals us) (common_set (SetTerm a ts) (SetTerm b us)) _ (both_true g l)
    (set_literal a (filter (is_among (list_of_terms us)) (list_of_terms ts)) (filtered (is_among (list_of_terms us)) IsLiteral (list_of_terms ts) (literal_each ts g)))))

pub set_inter_literal : (t u : PlainTerm) → IsLiteral t → IsLiteral u → is_set (type_of t) ≡ true → is_set (type_of u) ≡ true → IsLiteral (folded_set_inter t u)
set_inter_literal t u h k e f = of_set (λ v. IsLiteral (folded_set_inter v u)) (λ a ts g. of_set (λ w. IsLiteral (folded_set_inter (SetTerm a ts) w)) (λ b us l. inter_literal a b ts us g l) u k f) t h e

-- ---- extension types

prefix_is_literal : (n : ℕ) (p : Option ℕ) → IsLiteral (prefix_literal n p)
prefix_is_literal n None = refl
prefix_is_literal n (Some k) = refl

-- an operator at an extension value of its kind, and at bits of its width
at_value : (o : ExtensionOp) (x : PlainExtension) → type_of (extension_literal x) ≡ (extension_signature o).0 → is_of_other_family o (extension_literal x) ≡ false → IsLiteral (folded_extension o (extension_literal x))
at_value DecimalValOp (DecimalOf z) e n = refl
at_value DatetimeValOp (DatetimeOf z) e n = refl
at_value DurationValOp (DurationOf z) e n = refl
at_value IpIsV4Op (Ipv4Of a p) e n = refl
at_value IpIsV4Op (Ipv6Of a p) e n = refl
at_value IpAddrV4Op (Ipv4Of a p) e n = refl
at_value IpAddrV6Op (Ipv6Of a p) e n = refl
at_value IpPrefixV4Op (Ipv4Of a p) e n = prefix_is_literal 5 p
at_value IpPrefixV6Op (Ipv6Of a p) e n = prefix_is_literal 7 p
at_value o x e n = cc

width_or : ℕ → PlainType → ℕ
width_or n (BitVecType m) = m
width_or n t = n

at_bits : (o : ExtensionOp) (n x : ℕ) → BitVecType n ≡ (extension_signature o).0 → IsLiteral (folded_extension o (bits_literal n x))
unfolding width_or
at_bits DatetimeOfBitVecOp n x e = first (n == 64) _ _ (eq-eqb n 64 (ap (width_or n) e)) refl
at_bits DurationOfBitVecOp n x e = first (n == 64) _ _ (eq-eqb n 64 (ap (width_or n) e)) refl
at_bits o n x e = cc

at_kind : (o : ExtensionOp) (k : ExtensionKind) → ExtensionType k ≡ (extension_signature o).0 → (t : PlainTerm) → IsLiteral t → type_of t ≡ (extension_signature o).0 → is_of_other_family o t ≡ false → IsLiteral (folded_extension o t)
at_kind o k s t h e = of_extension (λ v. is_of_other_family o v ≡ false → IsLiteral (folded_extension o v)) k (λ x p n. at_value o x (ap ExtensionType p ∙ s) n) t h (e ∙ sym s)

at_64 : (o : ExtensionOp) → is_bits (extension_signature o).0 ≡ true → (t : PlainTerm) → IsLiteral t → type_of t ≡ (extension_signature o).0 → IsLiteral (folded_extension o t)
at_64 o b t h e = of_bits (λ v. type_of v ≡ (extension_signature o).0 → IsLiteral (folded_extension o v)) (λ n x p. at_bits o n x p) t h (ap is_bits e ∙ b) e

pub extension_is_literal : (o : ExtensionOp) (t : PlainTerm) → IsLiteral t → type_of t ≡ (extension_signature o).0 → is_of_other_family o t ≡ false → IsLiteral (folded_extension o t)
extension_is_literal DatetimeOfBitVecOp t h e n = at_64 DatetimeOfBitVecOp refl t h e
extension_is_literal DurationOfBitVecOp t h e n = at_64 DurationOfBitVecOp refl t h e
extension_is_literal DatetimeValOp t h e n = at_kind DatetimeValOp DatetimeKind refl t h e n
extension_is_literal DecimalValOp t h e n = at_kind DecimalValOp DecimalKind refl t h e n
extension_is_literal DurationValOp t h e n = at_kind DurationValOp DurationKind refl t h e n
extension_is_literal IpAddrV4Op t h e n = at_kind IpAddrV4Op IpAddrKind refl t h e n
extension_is_literal IpAddrV6Op t h e n = at_kind IpAddrV6Op IpAddrKind refl t h e n
extension_is_literal IpIsV4Op t h e n = at_kind IpIsV4Op IpAddrKind refl t h e n
extension_is_literal IpPrefixV4Op t h e n = at_kind IpPrefixV4Op IpAddrKind refl t h e n
extension_is_literal IpPrefixV6Op t h e n = at_kind IpPrefixV6Op IpAddrKind refl t h e n
