-- Interpretations that agree on what is reached give the same values; a restriction agrees.
use Rattle.std.proofs.Common.{◌≡◌, ℕ, Bool, true, false, ◌&&◌, List, [], ◌∷◌, refl, ap, ◌∙◌, sym, subst}
use Rattle.std.specs.Prelude.{bytes_eq, Option, Some, None, IfSome, cond}
use Rattle.std.proofs.lemmas.Bool.{eq-eqb}
use Rattle.std.specs.Cmp.Derive.{both_true}
use Rattle.std.specs.List.{AllByRecursion, list_any, filter_map, cons_option}
use Rattle.std.specs.Ordering.{is_eq}
use Rattle.law_terms.specs.Interpretations.{GiveSameOp, GiveSame, Agree, IsGiven, IsGivenOp, IsGivenSelector, IsInterpretation, IsOfOtherFamily, IsSelectorTable, IsTable, restrict, function_eq, selector_eq, extension_op_place, empty_table, unused_value, variable_eq}
use Rattle.law_terms.specs.Meaning.{AreTrue, meaning, meanings, field_meanings, term_value}
use Rattle.law_terms.specs.Operators.{apply_extension, apply}
use Rattle.law_terms.specs.Reached.{subterms, subterms_of_all, subterms_of_fields, reached_terms, reached_variables, reached_functions, reached_options, reached_selectors, reached_variable, reached_function, function_of_op, opened_of, opened_of_op, selector_of, selector_of_op, selector_of_extension}
use Rattle.law_terms.specs.Tables.{Interpretation, Table, value_at}
use Rattle.law_terms.specs.Types.{extension_signature, type_eq}
use Rattle.law_terms.specs.TypeValues.{Enums, IsValue}
use Rattle.law_terms.specs.Typing.{typed}
use Rattle.law_terms.specs.ValueOrder.{set_of}
use Rattle.law_terms.proofs.Matching.{or_first, or_second}
use Rattle.law_terms.proofs.Soundness.{all-front, all-back, all-last}
use Rattle.law_terms.proofs.TypeOrder.{type_itself}
use Rattle.law_terms.proofs.ValueOrder.{bytes_itself}
use Rattle.law_terms.specs.Plain.{PlainType, ExtensionType, IpAddrKind, PlainTerm, Application, NoneTerm, LiteralTerm, RecordTerm, SetTerm, SomeTerm, VariableTerm, PlainTerms, no_terms, one_term, PlainFields, no_fields, one_field, PlainFunction, ExtensionOp, DatetimeValOp, DecimalValOp, DurationValOp, IpAddrV4Op, IpAddrV6Op, IpIsV4Op, IpPrefixV4Op, IpPrefixV6Op, PlainOp, AndOp, BvnegOp, BvnegoOp, EqOp, ExtOp, IteOp, NotOp, OptionGetOp, OrOp, RecordGetOp, SetInterOp, SetMemberOp, SetSubsetOp, StringLikeOp, UufOp, ZeroExtendOp, DecimalOf, Ipv4Of, Ipv6Of, DatetimeOf, DurationOf, BitsOp, TestOp, OverflowOp}
use Rattle.law_terms.specs.Values.{Value, BoolValue, ExtensionValue, SomeValue, RecordValue, one_field_value}

module _ (I J : Interpretation) where
  extension_same : (o : ExtensionOp) (v : Value) → IfSome (selector_of_extension o) (λ s. I.other_family s ≡ J.other_family s) → apply_extension I o v ≡ apply_extension J o v
  extension_same DecimalValOp (ExtensionValue (DecimalOf z)) h = refl
  extension_same DatetimeValOp (ExtensionValue (DatetimeOf z)) h = refl
  extension_same DurationValOp (ExtensionValue (DurationOf z)) h = refl
  extension_same IpIsV4Op (ExtensionValue (Ipv4Of a p)) h = refl
  extension_same IpAddrV4Op (ExtensionValue (Ipv4Of a p)) h = refl
  extension_same IpPrefixV4Op (ExtensionValue (Ipv4Of a p)) h = refl
  extension_same IpAddrV6Op (ExtensionValue (Ipv6Of a p)) h = refl
  extension_same IpPrefixV6Op (ExtensionValue (Ipv6Of a p)) h = refl
  extension_same IpAddrV4Op v h = ap (λ u. value_at u v) h
  extension_same IpPrefixV4Op v h = ap (λ u. value_at u v) h
  extension_same IpAddrV6Op v h = ap (λ u. value_at u v) h
  extension_same IpPrefixV6Op v h = ap (λ u. value_at u v) h
  extension_same o v h = refl

  apply_same : (o : PlainOp) (t : PlainType) (vs : List Value) → GiveSameOp I J o t → apply I o t vs ≡ apply J o t vs
  apply_same (UufOp f) t (a ∷ []) h = ap (λ u. value_at u a) h
  apply_same OptionGetOp t (a ∷ []) h = ap (λ d. apply (record I { inside_none = λ u. d }) OptionGetOp t (a ∷ [])) h
  apply_same (ExtOp o) t (a ∷ []) h = extension_same o a h
  apply_same NotOp t (a ∷ []) h = refl
  apply_same BvnegOp t (a ∷ []) h = refl
  apply_same (BitsOp o) t (a ∷ b ∷ []) h = refl
  apply_same (TestOp o) t (a ∷ b ∷ []) h = refl
  apply_same (OverflowOp o) t (a ∷ b ∷ []) h = refl
  apply_same BvnegoOp t (a ∷ []) h = refl
  apply_same AndOp t (a ∷ b ∷ []) h = refl
  apply_same OrOp t (a ∷ b ∷ []) h = refl
  apply_same EqOp t (a ∷ b ∷ []) h = refl
  apply_same SetMemberOp t (a ∷ b ∷ []) h = refl
  apply_same SetSubsetOp t (a ∷ b ∷ []) h = refl
  apply_same SetInterOp t (a ∷ b ∷ []) h = refl
  apply_same IteOp t (a ∷ b ∷ c ∷ []) h = refl
  apply_same (ZeroExtendOp k) t (a ∷ []) h = refl
  apply_same (RecordGetOp x) t (a ∷ []) h = refl
  apply_same (StringLikeOp p) t (a ∷ []) h = refl
  apply_same o t vs h = refl

  abbrev P : PlainTerm → Type 0
  P t = GiveSame I J t

  mutual
    same : (t : PlainTerm) → AllByRecursion P (subterms t) → meaning I t ≡ meaning J t
    same (Application o ts t) h =
        ap (apply I o t) (same_all ts (all-front P (subterms_of_all ts) (Application o ts t ∷ []) h)) ∙ apply_same o t (meanings J ts) (all-last P (subterms_of_all ts) (Application o ts t) h)
    same (NoneTerm t) h = refl
    same (LiteralTerm l) h = refl
    same (RecordTerm fs) h = ap RecordValue (same_fields fs (all-front P (subterms_of_fields fs) (RecordTerm fs ∷ []) h))
    same (SetTerm t ts) h = ap set_of (same_all ts (all-front P (subterms_of_all ts) (SetTerm t ts ∷ []) h))
    same (SomeTerm t) h = ap SomeValue (same t (all-front P (subterms t) (SomeTerm t ∷ []) h))
    same (VariableTerm id t) h = h.0

    same_all : (ts : PlainTerms) → AllByRecursion P (subterms_of_all ts) → meanings I ts ≡ meanings J ts
    same_all no_terms h = refl
    same_all (one_term t ts) h = let p : meaning I t ≡ meaning J t = same t (all-front P (subterms t) (subterms_of_all ts) h) in let q : meanings I ts ≡ meanings J ts = same_all ts (all-back P (subterms t) (subterms_of_all ts) h) in λ i. p i ∷ q i

    same_fields : (fs : PlainFields) → AllByRecursion P (subterms_of_fields fs) → field_meanings I fs ≡ field_meanings J fs
    same_fields no_fields h = refl
    same_fields (one_field a t fs) h = let p : meaning I t ≡ meaning J t = same t (all-front P (subterms t) (subterms_of_fields fs) h) in let q : field_meanings I fs ≡ field_meanings J fs = same_fields fs (all-back P (subterms t) (subterms_of_fields fs) h) in λ i. one_field_value a (p i) (q i)

  pub same_values : (ts : List PlainTerm) → Agree ts I J → AllByRecursion (λ t. term_value I t ≡ term_value J t) ts
  same_values [] h = tt
  same_values (t ∷ ts) h = (ap (λ v. cond (typed t) v (BoolValue false)) (same t (all-front P (subterms t) (reached_terms ts) h)), same_values ts (all-back P (subterms t) (reached_terms ts) h))

-- ---- restriction

module _ {X Y : Type 0} (f : X → Option Y) (test : Y → Y → Bool) (itself : (y : Y) → test y y ≡ true) where
  abbrev IsFound : List Y → X → Type 0
  IsFound ys u = IfSome (f u) (λ y. list_any (test y) ys ≡ true)

  later : (ys : List Y) (z : Y) (xs : List X) → AllByRecursion (IsFound ys) xs → AllByRecursion (IsFound (z ∷ ys)) xs
  later ys z [] h = tt
  later ys z (x ∷ xs) h = (from (f x) h.0, later ys z xs h.1)
    where
      from : (o : Option Y) → IfSome o (λ y. list_any (test y) ys ≡ true) → IfSome o (λ y. list_any (test y) (z ∷ ys) ≡ true)
      from None k = tt
      from (Some y) k = or_second (test y z) (list_any (test y) ys) k

  added : (o : Option Y) (ys : List Y) (xs : List X) → AllByRecursion (IsFound ys) xs → AllByRecursion (IsFound (cons_option o ys)) xs
  added None ys xs h = h
  added (Some z) ys xs h = later ys z xs h

  first : (o : Option Y) (ys : List Y) → IfSome o (λ y. list_any (test y) (cons_option o ys) ≡ true)
  first None ys = tt
  first (Some y) ys = or_first (test y y) (list_any (test y) ys) (itself y)

  pub found : (xs : List X) → AllByRecursion (IsFound (filter_map f xs)) xs
  found [] = tt
  found (x ∷ xs) = (first (f x) (filter_map f xs), added (f x) (filter_map f xs) xs (found xs))

eq_itself : (t : PlainType) → type_eq t t ≡ true
eq_itself t = ap is_eq (type_itself t)

variable_itself : (x : List ℕ × PlainType) → variable_eq x x ≡ true
variable_itself x = both_true (bytes_itself x.0) (eq_itself x.1)

function_itself : (f : PlainFunction) → function_eq f f ≡ true
function_itself f = both_true (bytes_itself f.id) (both_true (eq_itself f.argument) (eq_itself f.output))

selector_itself : (o : ExtensionOp) → selector_eq o o ≡ true
selector_itself o = eq-eqb (extension_op_place o) (extension_op_place o) refl

module _ (ts : List PlainTerm) (I : Interpretation) where
  selector_kept : (o : ExtensionOp) → IfSome (selector_of_extension o) (λ s. list_any (selector_eq s) (reached_selectors ts) ≡ true) → IfSome (selector_of_extension o) (λ s. I.other_family s ≡ (restrict I ts).other_family s)
  selector_kept IpAddrV4Op h = sym (ap (λ b. cond b (I.other_family IpAddrV4Op) empty_table) h)
  selector_kept IpAddrV6Op h = sym (ap (λ b. cond b (I.other_family IpAddrV6Op) empty_table) h)
  selector_kept IpPrefixV4Op h = sym (ap (λ b. cond b (I.other_family IpPrefixV4Op) empty_table) h)
  selector_kept IpPrefixV6Op h = sym (ap (λ b. cond b (I.other_family IpPrefixV6Op) empty_table) h)
  selector_kept o h = tt

  op_kept : (o : PlainOp) (t : PlainType) → IfSome (function_of_op o) (λ f. list_any (function_eq f) (reached_functions ts) ≡ true) → IfSome (opened_of_op o t) (λ u. list_any (type_eq u) (reached_options ts) ≡ true) → IfSome (selector_of_op o) (λ s. list_any (selector_eq s) (reached_selectors ts) ≡ true) → GiveSameOp I (restrict I ts) o t
  op_kept (UufOp f) t h g k = sym (ap (λ b. cond b (I.function f) empty_table) h)
  op_kept OptionGetOp t h g k = sym (ap (λ b. cond b (I.inside_none t) unused_value) g)
  op_kept (ExtOp o) t h g k = selector_kept o k
  op_kept o t h g k = tt

  kept : (u : PlainTerm) → IfSome (reached_variable u) (λ x. list_any (variable_eq x) (reached_variables ts) ≡ true) → IfSome (reached_function u) (λ f. list_any (function_eq f) (reached_functions ts) ≡ true) → IfSome (opened_of u) (λ t. list_any (type_eq t) (reached_options ts) ≡ true) → IfSome (selector_of u) (λ s. list_any (selector_eq s) (reached_selectors ts) ≡ true) → GiveSame I (restrict I ts) u
  kept (VariableTerm id t) e h g k = sym (ap (λ b. cond b (I.variable id t) unused_value) e)
  kept (Application o us t) e h g k = op_kept o t h g k
  kept u e h g k = tt

  all_kept : (us : List PlainTerm) → AllByRecursion (λ u. IfSome (reached_variable u) (λ x. list_any (variable_eq x) (reached_variables ts) ≡ true)) us → AllByRecursion (λ u. IfSome (reached_function u) (λ f. list_any (function_eq f) (reached_functions ts) ≡ true)) us → AllByRecursion (λ u. IfSome (opened_of u) (λ t. list_any (type_eq t) (reached_options ts) ≡ true)) us → AllByRecursion (λ u. IfSome (selector_of u) (λ s. list_any (selector_eq s) (reached_selectors ts) ≡ true)) us → AllByRecursion (GiveSame I (restrict I ts)) us
  all_kept [] e h g k = tt
  all_kept (u ∷ us) e h g k = (kept u e.0 h.0 g.0 k.0, all_kept us e.1 h.1 g.1 k.1)

  pub restricted : Agree ts I (restrict I ts)
  restricted =
      all_kept (reached_terms ts) (found reached_variable variable_eq variable_itself (reached_terms ts)) (found reached_function function_eq function_itself (reached_terms ts)) (found opened_of type_eq eq_itself (reached_terms ts)) (found selector_of selector_eq selector_itself (reached_terms ts))

-- ---- interpretations that give the same

module _ (enums : Enums) (I J : Interpretation) where
  selector_too : (o : ExtensionOp) → I.other_family o ≡ J.other_family o → IsSelectorTable enums I o → IsSelectorTable enums J o
  selector_too o same h = subst (λ (table : Table). IsTable (λ v. IsOfOtherFamily o v × IsValue enums (ExtensionType IpAddrKind) v) enums (extension_signature o).1 table) same h

  extension_too : (o : ExtensionOp) → IfSome (selector_of_extension o) (λ s. I.other_family s ≡ J.other_family s) → IsGivenSelector enums I o → IsGivenSelector enums J o
  extension_too IpAddrV4Op same h = selector_too IpAddrV4Op same h
  extension_too IpAddrV6Op same h = selector_too IpAddrV6Op same h
  extension_too IpPrefixV4Op same h = selector_too IpPrefixV4Op same h
  extension_too IpPrefixV6Op same h = selector_too IpPrefixV6Op same h
  extension_too o same h = tt

  op_too : (o : PlainOp) (t : PlainType) → GiveSameOp I J o t → IsGivenOp enums I o t → IsGivenOp enums J o t
  op_too (UufOp f) t same h = subst (λ (table : Table). IsTable (IsValue enums f.argument) enums f.output table) same h
  op_too OptionGetOp t same h = subst (λ (v : Value). IsValue enums t v) same h
  op_too (ExtOp o) t same h = extension_too o same h
  op_too o t same h = tt

  given_too : (t : PlainTerm) → GiveSame I J t → IsGiven enums I t → IsGiven enums J t
  given_too (VariableTerm id t) same h = subst (λ (v : Value). IsValue enums t v) same h
  given_too (Application o ts t) same h = op_too o t same h
  given_too t same h = tt

  all_too : (ts : List PlainTerm) → AllByRecursion (GiveSame I J) ts → AllByRecursion (IsGiven enums I) ts → AllByRecursion (IsGiven enums J) ts
  all_too [] same h = tt
  all_too (t ∷ ts) same h = (given_too t same.0 h.0, all_too ts same.1 h.1)

  -- what agrees with an interpretation is one
  pub agreeing : (ts : List PlainTerm) → Agree ts I J → IsInterpretation enums ts I → IsInterpretation enums ts J
  agreeing ts same h = all_too (reached_terms ts) same h

pub true_too : (I J : Interpretation) (ts : List PlainTerm) → AllByRecursion (λ t. term_value I t ≡ term_value J t) ts → AreTrue I ts → AreTrue J ts
true_too I J [] same h = tt
true_too I J (t ∷ ts) same h = (sym same.0 ∙ h.0, true_too I J ts same.1 h.1)

pub true_before : (I J : Interpretation) (ts : List PlainTerm) → AllByRecursion (λ t. term_value I t ≡ term_value J t) ts → AreTrue J ts → AreTrue I ts
true_before I J [] same h = tt
true_before I J (t ∷ ts) same h = (same.0 ∙ h.0, true_before I J ts same.1 h.1)
