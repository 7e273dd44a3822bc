-- The foldings of equality and of choice stand for them.
use Rattle.std.proofs.Common.{◌≡◌, Bool, true, false, not, ◌&&◌, ◌||◌, cond, [], ◌∷◌, ◌++◌, refl, ap, ◌∙◌, sym, subst, ⊎_elim}
use Rattle.std.specs.Bool.{then_some}
use Rattle.std.specs.Cmp.{first_so, second_so}
use Rattle.std.specs.Cmp.Derive.{both_true}
use Rattle.std.specs.List.{AllByRecursion}
use Rattle.std.proofs.lemmas.Bool.{or_cases}
use Rattle.law_folding.specs.Applications.{true_term, false_term, truth_literal, not_of, and_of, or_of, eq_of, ite_of}
use Rattle.law_folding.specs.FoldConnectives.{folded_not, folded_and, folded_or}
use Rattle.law_folding.specs.FoldEquality.{is_boolean, folded_eq_inside, folded_eq, folded_ite_inside, folded_ite}
use Rattle.law_folding.specs.Refinement.{Refines}
use Rattle.law_folding.proofs.ConnectivesStand.{is_both_boolean, chosen_type, same_term, boolean, first_argument, second_argument, stands_not, stands_and, stands_or}
use Rattle.law_folding.proofs.Standing.{itself, onward, one_of, standing, standing_within, some, last_of}
use Rattle.law_terms.specs.Formed.{IsFormedNode, IsFormedType, IsFormed}
use Rattle.law_terms.specs.Interpretations.{IsGiven}
use Rattle.law_terms.specs.Literals.{is_literal}
use Rattle.law_terms.specs.Meaning.{meaning}
use Rattle.law_terms.specs.Operators.{truth}
use Rattle.law_terms.specs.Reached.{subterms, subterms_of_all}
use Rattle.law_terms.specs.Tables.{Interpretation}
use Rattle.law_terms.specs.TermOrder.{term_eq}
use Rattle.law_terms.specs.Types.{type_eq, type_of, is_type}
use Rattle.law_terms.specs.Typing.{typed}
use Rattle.law_terms.specs.TypeValues.{Enums}
use Rattle.law_terms.specs.ValueOrder.{value_eq}
use Rattle.law_terms.proofs.Defaults.{all-join}
use Rattle.law_terms.proofs.LiteralValues.{same}
use Rattle.law_terms.proofs.Soundness.{all-front, all-back}
use Rattle.law_terms.proofs.TermTotal.{terms_decided, types_decided}
use Rattle.law_terms.proofs.TypeOrder.{eq_same}
use Rattle.law_terms.proofs.ValueOrder.{values_decided}
use Rattle.law_terms.specs.Plain.{PlainType, OptionType, BoolType, EqOp, IteOp, PlainTerm, Application, NoneTerm, SomeTerm, terms}
use Rattle.law_terms.specs.Values.{Value, BoolValue, SomeValue}

-- ---- values

pub equal_values : (v w : Value) → v ≡ w → value_eq v w ≡ true
equal_values v w = (values_decided v w).1

pub value_is : (v w : Value) → value_eq v w ≡ true → v ≡ w
value_is v w = (values_decided v w).0

true_is : (x : Bool) → BoolValue x ≡ BoolValue (value_eq (BoolValue true) (BoolValue x))
true_is true = refl
true_is false = refl

is_true : (x : Bool) → BoolValue x ≡ BoolValue (value_eq (BoolValue x) (BoolValue true))
is_true true = refl
is_true false = refl

false_is : (x : Bool) → BoolValue (not x) ≡ BoolValue (value_eq (BoolValue false) (BoolValue x))
false_is true = refl
false_is false = refl

is_false : (x : Bool) → BoolValue (not x) ≡ BoolValue (value_eq (BoolValue x) (BoolValue false))
is_false true = refl
is_false false = refl

-- ---- equality

pub record EqParts (t u : PlainTerm) : Type 0 where
  pub first : typed t ≡ true
  pub second : typed u ≡ true
  pub types : type_of t ≡ type_of u

pub eq_parts : (t u : PlainTerm) → typed (eq_of t u) ≡ true → EqParts t u
eq_parts t u h =
    let a : (typed t && (typed u && true)) ≡ true = first_so (typed t && (typed u && true)) (is_type (then_some (type_eq (type_of t) (type_of u)) BoolType) BoolType) h in
    let b : (type_eq (type_of t) (type_of u) ≡ true) × (BoolType ≡ BoolType) = chosen_type (type_eq (type_of t) (type_of u)) BoolType BoolType (second_so (typed t && (typed u && true)) (is_type (then_some (type_eq (type_of t) (type_of u)) BoolType) BoolType) h) in
    record { first = first_so (typed t) (typed u && true) a; second = first_so (typed u) true (second_so (typed t) (typed u && true) a); types = eq_same (type_of t) (type_of u) b.0 }

pub literal_for_eq : (b : Bool) (t u : PlainTerm) → ((enums : Enums) (I : Interpretation) → EqParts t u → IsFormed (eq_of t u) → b ≡ value_eq (meaning I t) (meaning I u)) → Refines (truth_literal b) (eq_of t u)
literal_for_eq b t u e = standing_within (truth_literal b) (eq_of t u) (λ P n h. (n (truth_literal b) tt, tt)) (λ h. (refl, refl)) (λ enums I h f g. ap BoolValue (e enums I (eq_parts t u h) f))

pub equal_for_eq : (t u : PlainTerm) → t ≡ u → Refines true_term (eq_of t u)
equal_for_eq t u e = literal_for_eq true t u (λ enums I p f. sym (equal_values (meaning I t) (meaning I u) (ap (meaning I) e)))

pub differing : (t u : PlainTerm) → (is_literal t && is_literal u) ≡ true → (t ≡ u → ⊥) → (I : Interpretation) → EqParts t u → IsFormed (eq_of t u) → false ≡ value_eq (meaning I t) (meaning I u)
differing t u h d I p f = by (value_eq (meaning I t) (meaning I u)) refl
  where
    by : (b : Bool) → value_eq (meaning I t) (meaning I u) ≡ b → false ≡ b
    by false e = refl
    by true e =
        absurd (d (same I t u (first_so (is_literal t) (is_literal u) h, p.first, first_argument IsFormedNode EqOp t u BoolType f.literals) (second_so (is_literal t) (is_literal u) h, p.second, second_argument IsFormedNode EqOp t u BoolType f.literals) p.types (value_is (meaning I t) (meaning I u) e)))

true_eq : (u : PlainTerm) → Refines u (eq_of true_term u)
true_eq u =
    standing_within u (eq_of true_term u) (λ P n h. second_argument P EqOp true_term u BoolType h) (λ h. ((eq_parts true_term u h).second, sym (eq_parts true_term u h).types))
    (λ enums I h f g. (
    let e : meaning I u ≡ BoolValue (truth (meaning I u)) = boolean enums I u (eq_parts true_term u h).second (sym (eq_parts true_term u h).types) (second_argument IsFormedNode EqOp true_term u BoolType f.literals) (second_argument (IsGiven enums I) EqOp true_term u BoolType g) in
    e ∙ (true_is (truth (meaning I u)) ∙ ap (λ v. BoolValue (value_eq (BoolValue true) v)) (sym e))))

eq_true : (t : PlainTerm) → Refines t (eq_of t true_term)
eq_true t =
    standing_within t (eq_of t true_term) (λ P n h. first_argument P EqOp t true_term BoolType h) (λ h. ((eq_parts t true_term h).first, (eq_parts t true_term h).types))
    (λ enums I h f g. (
    let e : meaning I t ≡ BoolValue (truth (meaning I t)) = boolean enums I t (eq_parts t true_term h).first (eq_parts t true_term h).types (first_argument IsFormedNode EqOp t true_term BoolType f.literals) (first_argument (IsGiven enums I) EqOp t true_term BoolType g) in
    e ∙ (is_true (truth (meaning I t)) ∙ ap (λ v. BoolValue (value_eq v (BoolValue true))) (sym e))))

pub not_typed : (t : PlainTerm) → typed t ≡ true → type_of t ≡ BoolType → typed (not_of t) ≡ true
not_typed t h e = both_true (both_true h refl) (ap (λ b. is_type (then_some b BoolType) BoolType) ((types_decided (type_of t) BoolType).1 e))

false_eq : (u : PlainTerm) → Refines (not_of u) (eq_of false_term u)
false_eq u =
    standing_within (not_of u) (eq_of false_term u) (λ P n h. all-join P (subterms_of_all (terms (u ∷ []))) (not_of u ∷ []) (all-join P (subterms u) [] (second_argument P EqOp false_term u BoolType h) tt) (n (not_of u) tt, tt)) (λ h. (not_typed u (eq_parts false_term u h).second (sym (eq_parts false_term u h).types), refl))
    (λ enums I h f g. (
    let e : meaning I u ≡ BoolValue (truth (meaning I u)) = boolean enums I u (eq_parts false_term u h).second (sym (eq_parts false_term u h).types) (second_argument IsFormedNode EqOp false_term u BoolType f.literals) (second_argument (IsGiven enums I) EqOp false_term u BoolType g) in
    false_is (truth (meaning I u)) ∙ ap (λ v. BoolValue (value_eq (BoolValue false) v)) (sym e)))

eq_false : (t : PlainTerm) → Refines (not_of t) (eq_of t false_term)
eq_false t =
    standing_within (not_of t) (eq_of t false_term) (λ P n h. all-join P (subterms_of_all (terms (t ∷ []))) (not_of t ∷ []) (all-join P (subterms t) [] (first_argument P EqOp t false_term BoolType h) tt) (n (not_of t) tt, tt)) (λ h. (not_typed t (eq_parts t false_term h).first (eq_parts t false_term h).types, refl))
    (λ enums I h f g. (
    let e : meaning I t ≡ BoolValue (truth (meaning I t)) = boolean enums I t (eq_parts t false_term h).first (eq_parts t false_term h).types (first_argument IsFormedNode EqOp t false_term BoolType f.literals) (first_argument (IsGiven enums I) EqOp t false_term BoolType g) in
    is_false (truth (meaning I t)) ∙ ap (λ v. BoolValue (value_eq v (BoolValue false))) (sym e)))

false_eq_folded : (u : PlainTerm) → Refines (folded_not u) (eq_of false_term u)
false_eq_folded u = onward (folded_not u) (not_of u) (eq_of false_term u) (stands_not u) (false_eq u)

eq_false_folded : (t : PlainTerm) → Refines (folded_not t) (eq_of t false_term)
eq_false_folded t = onward (folded_not t) (not_of t) (eq_of t false_term) (stands_not t) (eq_false t)

pub apart : (t u : PlainTerm) → term_eq t u ≡ false → t ≡ u → ⊥
apart t u h e = let p : true ≡ false = sym ((terms_decided t u).1 e) ∙ h in cc

stands_eq_inside : (t u : PlainTerm) → Refines (folded_eq_inside t u) (eq_of t u)
stands_eq_inside t u = by (term_eq t u) refl
  where
    negated_second : PlainTerm
    negated_second = cond (term_eq u false_term && is_boolean t) (folded_not t) (eq_of t u)

    negated_first : PlainTerm
    negated_first = cond (term_eq t false_term && is_boolean u) (folded_not u) negated_second

    second_true : PlainTerm
    second_true = cond (term_eq u true_term && is_boolean t) t negated_first

    first_true : PlainTerm
    first_true = cond (term_eq t true_term && is_boolean u) u second_true

    by : (b : Bool) → term_eq t u ≡ b → Refines (cond b true_term (cond (is_literal t && is_literal u) false_term first_true)) (eq_of t u)
    by true e = equal_for_eq t u (same_term t u e)
    by false e =
        one_of (is_literal t && is_literal u) false_term first_true (eq_of t u) (λ h. literal_for_eq false t u (λ enums I p f. differing t u h (apart t u e) I p f))
        (one_of (term_eq t true_term && is_boolean u) u second_true (eq_of t u) (λ h. subst (λ w. Refines u (eq_of w u)) (sym (same_term t true_term (first_so (term_eq t true_term) (is_boolean u) h))) (true_eq u))
        (one_of (term_eq u true_term && is_boolean t) t negated_first (eq_of t u) (λ h. subst (λ w. Refines t (eq_of t w)) (sym (same_term u true_term (first_so (term_eq u true_term) (is_boolean t) h))) (eq_true t))
        (one_of (term_eq t false_term && is_boolean u) (folded_not u) negated_second (eq_of t u) (λ h. subst (λ w. Refines (folded_not u) (eq_of w u)) (sym (same_term t false_term (first_so (term_eq t false_term) (is_boolean u) h))) (false_eq_folded u))
        (one_of (term_eq u false_term && is_boolean t) (folded_not t) (eq_of t u) (eq_of t u) (λ h. subst (λ w. Refines (folded_not t) (eq_of t w)) (sym (same_term u false_term (first_so (term_eq u false_term) (is_boolean t) h))) (eq_false_folded t))
        (itself (eq_of t u))))))

-- two `some` are equal where what they hold is
inside_for_eq : (t u : PlainTerm) → Refines (eq_of t u) (eq_of (SomeTerm t) (SomeTerm u))
inside_for_eq t u =
    standing_within (eq_of t u) (eq_of (SomeTerm t) (SomeTerm u))
    (λ P n h. all-join P (subterms_of_all (terms (t ∷ u ∷ []))) (eq_of t u ∷ [])
    (all-join P (subterms t) (subterms_of_all (terms (u ∷ []))) (all-front P (subterms t) (SomeTerm t ∷ []) (first_argument P EqOp (SomeTerm t) (SomeTerm u) BoolType h)) (all-join P (subterms u) [] (all-front P (subterms u) (SomeTerm u ∷ []) (second_argument P EqOp (SomeTerm t) (SomeTerm u) BoolType h)) tt))
    (n (eq_of t u) tt, tt))
    (λ h. (h, refl)) (λ enums I h f g. refl)

pub stands_eq : (t u : PlainTerm) → Refines (folded_eq t u) (eq_of t u)
stands_eq (SomeTerm t) (SomeTerm u) = onward (folded_eq_inside t u) (eq_of t u) (eq_of (SomeTerm t) (SomeTerm u)) (stands_eq_inside t u) (inside_for_eq t u)
stands_eq (SomeTerm t) (NoneTerm ty) = literal_for_eq false (SomeTerm t) (NoneTerm ty) (λ enums I p f. refl)
stands_eq (NoneTerm ty) (SomeTerm u) = literal_for_eq false (NoneTerm ty) (SomeTerm u) (λ enums I p f. refl)
stands_eq t u = stands_eq_inside t u

-- ---- choice

pub record IteParts (g t u : PlainTerm) : Type 0 where
  pub guard : typed g ≡ true
  pub first : typed t ≡ true
  pub second : typed u ≡ true
  pub guard_type : type_of g ≡ BoolType
  pub types : type_of t ≡ type_of u

pub ite_parts : (g t u : PlainTerm) (ty : PlainType) → typed (Application IteOp (terms (g ∷ t ∷ u ∷ [])) ty) ≡ true → IteParts g t u
ite_parts g t u ty h =
    let k : Bool = type_eq (type_of g) BoolType && type_eq (type_of t) (type_of u) in
    let a : (typed g && (typed t && (typed u && true))) ≡ true = first_so (typed g && (typed t && (typed u && true))) (is_type (then_some k (type_of t)) ty) h in
    let b : k ≡ true = (chosen_type k (type_of t) ty (second_so (typed g && (typed t && (typed u && true))) (is_type (then_some k (type_of t)) ty) h)).0 in
    let c : (typed t && (typed u && true)) ≡ true = second_so (typed g) (typed t && (typed u && true)) a in
    record { guard = first_so (typed g) (typed t && (typed u && true)) a; first = first_so (typed t) (typed u && true) c; second = first_so (typed u) true (second_so (typed t) (typed u && true) c); guard_type = eq_same (type_of g) BoolType (first_so (type_eq (type_of g) BoolType) (type_eq (type_of t) (type_of u)) b); types = eq_same (type_of t) (type_of u) (second_so (type_eq (type_of g) BoolType) (type_eq (type_of t) (type_of u)) b) }

-- the three arguments of a choice
module _ (P : PlainTerm → Type 0) (g t u : PlainTerm) (ty : PlainType) (h : AllByRecursion P (subterms (Application IteOp (terms (g ∷ t ∷ u ∷ [])) ty))) where
  of_all : AllByRecursion P (subterms_of_all (terms (g ∷ t ∷ u ∷ [])))
  of_all = all-front P (subterms_of_all (terms (g ∷ t ∷ u ∷ []))) (Application IteOp (terms (g ∷ t ∷ u ∷ [])) ty ∷ []) h

  pub of_guard : AllByRecursion P (subterms g)
  of_guard = all-front P (subterms g) (subterms_of_all (terms (t ∷ u ∷ []))) of_all

  of_first : AllByRecursion P (subterms t)
  of_first = all-front P (subterms t) (subterms_of_all (terms (u ∷ []))) (all-back P (subterms g) (subterms_of_all (terms (t ∷ u ∷ []))) of_all)

  of_second : AllByRecursion P (subterms u)
  of_second = all-front P (subterms u) [] (all-back P (subterms t) (subterms_of_all (terms (u ∷ []))) (all-back P (subterms g) (subterms_of_all (terms (t ∷ u ∷ []))) of_all))

parts_of : (g t u : PlainTerm) → typed (ite_of g t u) ≡ true → IteParts g t u
parts_of g t u h = ite_parts g t u (type_of t) h

pub true_guard : (t u : PlainTerm) → Refines t (ite_of true_term t u)
true_guard t u = standing_within t (ite_of true_term t u) (λ P n h. of_first P true_term t u (type_of t) h) (λ h. ((parts_of true_term t u h).first, refl)) (λ enums I h f i. refl)

pub false_guard : (t u : PlainTerm) → Refines u (ite_of false_term t u)
false_guard t u = standing_within u (ite_of false_term t u) (λ P n h. of_second P false_term t u (type_of t) h) (λ h. ((parts_of false_term t u h).second, sym (parts_of false_term t u h).types)) (λ enums I h f i. refl)

cond_same : (b : Bool) (v w : Value) → v ≡ w → v ≡ cond b v w
cond_same true v w e = refl
cond_same false v w e = e

equal_branches : (g t u : PlainTerm) → t ≡ u → Refines t (ite_of g t u)
equal_branches g t u e =
    standing_within t (ite_of g t u) (λ P n h. of_first P g t u (type_of t) h) (λ h. ((parts_of g t u h).first, refl)) (λ enums I h f i. cond_same (truth (meaning I g)) (meaning I t) (meaning I u) (ap (meaning I) e))

cond_itself : (b : Bool) → BoolValue b ≡ cond b (BoolValue true) (BoolValue false)
cond_itself true = refl
cond_itself false = refl

cond_not : (b : Bool) → BoolValue (not b) ≡ cond b (BoolValue false) (BoolValue true)
cond_not true = refl
cond_not false = refl

cond_and : (b x : Bool) → BoolValue (b && x) ≡ cond b (BoolValue x) (BoolValue false)
cond_and true x = refl
cond_and false x = refl

cond_or : (b x : Bool) → BoolValue (b || x) ≡ cond b (BoolValue true) (BoolValue x)
cond_or true x = refl
cond_or false x = refl

guard_itself : (g : PlainTerm) → Refines g (ite_of g true_term false_term)
guard_itself g =
    standing_within g (ite_of g true_term false_term) (λ P n h. of_guard P g true_term false_term BoolType h) (λ h. ((parts_of g true_term false_term h).guard, (parts_of g true_term false_term h).guard_type))
    (λ enums I h f i. boolean enums I g (parts_of g true_term false_term h).guard (parts_of g true_term false_term h).guard_type (of_guard IsFormedNode g true_term false_term BoolType f.literals) (of_guard (IsGiven enums I) g true_term false_term BoolType i) ∙ cond_itself (truth (meaning I g)))

guard_negated : (g : PlainTerm) → Refines (not_of g) (ite_of g false_term true_term)
guard_negated g =
    standing_within (not_of g) (ite_of g false_term true_term) (λ P n h. all-join P (subterms_of_all (terms (g ∷ []))) (not_of g ∷ []) (all-join P (subterms g) [] (of_guard P g false_term true_term BoolType h) tt) (n (not_of g) tt, tt))
    (λ h. (not_typed g (parts_of g false_term true_term h).guard (parts_of g false_term true_term h).guard_type, refl)) (λ enums I h f i. cond_not (truth (meaning I g)))

-- the subterms of a connective of two terms
of_two : (P : PlainTerm → Type 0) (x t u : PlainTerm) → AllByRecursion P (subterms t) → AllByRecursion P (subterms u) → P x → AllByRecursion P (subterms_of_all (terms (t ∷ u ∷ [])) ++ x ∷ [])
of_two P x t u h k p = all-join P (subterms_of_all (terms (t ∷ u ∷ []))) (x ∷ []) (all-join P (subterms t) (subterms_of_all (terms (u ∷ []))) h (all-join P (subterms u) [] k tt)) (p, tt)

and_for_ite : (g t : PlainTerm) → Refines (and_of g t) (ite_of g t false_term)
and_for_ite g t =
    standing_within (and_of g t) (ite_of g t false_term) (λ P n h. of_two P (and_of g t) g t (of_guard P g t false_term (type_of t) h) (of_first P g t false_term (type_of t) h) (n (and_of g t) tt))
    (λ h. (is_both_boolean g t (parts_of g t false_term h).guard (parts_of g t false_term h).guard_type (parts_of g t false_term h).first (parts_of g t false_term h).types, sym (parts_of g t false_term h).types))
    (λ enums I h f i. cond_and (truth (meaning I g)) (truth (meaning I t)) ∙ ap (λ v. cond (truth (meaning I g)) v (BoolValue false)) (sym (boolean enums I t (parts_of g t false_term h).first (parts_of g t false_term h).types (of_first IsFormedNode g t false_term (type_of t) f.literals) (of_first (IsGiven enums I) g t false_term (type_of t) i))))

or_for_ite : (g u : PlainTerm) → Refines (or_of g u) (ite_of g true_term u)
or_for_ite g u =
    standing_within (or_of g u) (ite_of g true_term u) (λ P n h. of_two P (or_of g u) g u (of_guard P g true_term u BoolType h) (of_second P g true_term u BoolType h) (n (or_of g u) tt))
    (λ h. (is_both_boolean g u (parts_of g true_term u h).guard (parts_of g true_term u h).guard_type (parts_of g true_term u h).second (sym (parts_of g true_term u h).types), refl))
    (λ enums I h f i. cond_or (truth (meaning I g)) (truth (meaning I u)) ∙ ap (λ v. cond (truth (meaning I g)) (BoolValue true) v) (sym (boolean enums I u (parts_of g true_term u h).second (sym (parts_of g true_term u h).types) (of_second IsFormedNode g true_term u BoolType f.literals) (of_second (IsGiven enums I) g true_term u BoolType i))))

-- a choice that stands for one with other branches, where these are literals
at_branches : (x g t u a b : PlainTerm) → t ≡ a → u ≡ b → Refines x (ite_of g a b) → Refines x (ite_of g t u)
at_branches x g t u a b e d s = subst (λ w. Refines x (ite_of g w u)) (sym e) (subst (λ w. Refines x (ite_of g a w)) (sym d) s)

stands_ite_inside : (g t u : PlainTerm) → Refines (folded_ite_inside g t u) (ite_of g t u)
stands_ite_inside g t u =
    one_of (term_eq g true_term || term_eq t u) t guard_false (ite_of g t u) (λ h. ⊎_elim (λ e. subst (λ w. Refines t (ite_of w t u)) (sym (same_term g true_term e)) (true_guard t u)) (λ e. equal_branches g t u (same_term t u e)) (or_cases (term_eq g true_term) (term_eq t u) h))
    (one_of (term_eq g false_term) u guard_alone (ite_of g t u) (λ e. subst (λ w. Refines u (ite_of w t u)) (sym (same_term g false_term e)) (false_guard t u))
    (one_of (term_eq t true_term && term_eq u false_term) g turned (ite_of g t u) (λ h. at_branches g g t u true_term false_term (same_term t true_term (first_so (term_eq t true_term) (term_eq u false_term) h)) (same_term u false_term (second_so (term_eq t true_term) (term_eq u false_term) h)) (guard_itself g))
    (one_of (term_eq t false_term && term_eq u true_term) (folded_not g) conjunction (ite_of g t u) (λ h. at_branches (folded_not g) g t u false_term true_term (same_term t false_term (first_so (term_eq t false_term) (term_eq u true_term) h)) (same_term u true_term (second_so (term_eq t false_term) (term_eq u true_term) h)) (onward (folded_not g) (not_of g) (ite_of g false_term true_term) (stands_not g) (guard_negated g)))
    (one_of (term_eq u false_term) (folded_and g t) disjunction (ite_of g t u) (λ e. at_branches (folded_and g t) g t u t false_term refl (same_term u false_term e) (onward (folded_and g t) (and_of g t) (ite_of g t false_term) (stands_and g t) (and_for_ite g t)))
    (one_of (term_eq t true_term) (folded_or g u) (ite_of g t u) (ite_of g t u) (λ e. at_branches (folded_or g u) g t u true_term u (same_term t true_term e) refl (onward (folded_or g u) (or_of g u) (ite_of g true_term u) (stands_or g u) (or_for_ite g u)))
    (itself (ite_of g t u)))))))
  where
    disjunction : PlainTerm
    disjunction = cond (term_eq t true_term) (folded_or g u) (ite_of g t u)

    conjunction : PlainTerm
    conjunction = cond (term_eq u false_term) (folded_and g t) disjunction

    turned : PlainTerm
    turned = cond (term_eq t false_term && term_eq u true_term) (folded_not g) conjunction

    guard_alone : PlainTerm
    guard_alone = cond (term_eq t true_term && term_eq u false_term) g turned

    guard_false : PlainTerm
    guard_false = cond (term_eq g false_term) u guard_alone

-- ---- choice between two `some`

pub ite_typed : (g t u : PlainTerm) → IteParts g t u → typed (ite_of g t u) ≡ true
ite_typed g t u p =
    let k : (type_eq (type_of g) BoolType && type_eq (type_of t) (type_of u)) ≡ true = both_true ((types_decided (type_of g) BoolType).1 p.guard_type) ((types_decided (type_of t) (type_of u)).1 p.types) in
    both_true (both_true p.guard (both_true p.first (both_true p.second refl))) (ap (λ b. is_type (then_some b (type_of t)) (type_of t)) k ∙ (types_decided (type_of t) (type_of t)).1 refl)

some_cond : (b : Bool) (v w : Value) → SomeValue (cond b v w) ≡ cond b (SomeValue v) (SomeValue w)
some_cond true v w = refl
some_cond false v w = refl

content : (t u : PlainType) → OptionType t ≡ OptionType u → t ≡ u
content t u e = eq_same t u ((types_decided (OptionType t) (OptionType u)).1 e)

module _ (g t u : PlainTerm) where
  abbrev Inner : PlainTerm
  Inner = ite_of g t u

  abbrev Outer : PlainTerm
  Outer = ite_of g (SomeTerm t) (SomeTerm u)

  inside_subterms : (P : PlainTerm → Type 0) → P Inner → P (SomeTerm Inner) → AllByRecursion P (subterms Outer) → AllByRecursion P (subterms (SomeTerm Inner))
  inside_subterms P i s h =
      all-join P (subterms Inner) (SomeTerm Inner ∷ [])
      (all-join P (subterms_of_all (terms (g ∷ t ∷ u ∷ []))) (Inner ∷ [])
      (all-join P (subterms g) (subterms_of_all (terms (t ∷ u ∷ []))) (of_guard P g (SomeTerm t) (SomeTerm u) (OptionType (type_of t)) h)
      (all-join P (subterms t) (subterms_of_all (terms (u ∷ []))) (all-front P (subterms t) (SomeTerm t ∷ []) (of_first P g (SomeTerm t) (SomeTerm u) (OptionType (type_of t)) h))
      (all-join P (subterms u) [] (all-front P (subterms u) (SomeTerm u ∷ []) (of_second P g (SomeTerm t) (SomeTerm u) (OptionType (type_of t)) h)) tt)))
      (i, tt))
      (s, tt)

  inside_parts : typed Outer ≡ true → IteParts g t u
  inside_parts h =
      let p : IteParts g (SomeTerm t) (SomeTerm u) = parts_of g (SomeTerm t) (SomeTerm u) h in
      record { guard = p.guard; first = p.first; second = p.second; guard_type = p.guard_type; types = content (type_of t) (type_of u) p.types }

  inside_for_ite : Refines (SomeTerm Inner) Outer
  inside_for_ite =
      standing (SomeTerm Inner) Outer (λ P q h. inside_subterms P (q Inner (refl, refl, refl, refl)) (q (SomeTerm Inner) (refl, refl, refl, refl)) h)
      (λ f. record {
        literals = inside_subterms IsFormedNode tt tt f.literals;
        types = inside_subterms (λ w. IsFormedType (type_of w)) (last_of (λ w. IsFormedType (type_of w)) t (all-front (λ w. IsFormedType (type_of w)) (subterms t) (SomeTerm t ∷ []) (of_first (λ w. IsFormedType (type_of w)) g (SomeTerm t) (SomeTerm u) (OptionType (type_of t)) f.types))) (last_of (λ w. IsFormedType (type_of w)) Outer f.types) f.types;
      })
      (λ h. (ite_typed g t u (inside_parts h), refl)) (λ enums I h f i. some_cond (truth (meaning I g)) (meaning I t) (meaning I u))

pub stands_ite : (g t u : PlainTerm) → Refines (folded_ite g t u) (ite_of g t u)
stands_ite g (SomeTerm t) (SomeTerm u) =
    onward (SomeTerm (folded_ite_inside g t u)) (SomeTerm (ite_of g t u)) (ite_of g (SomeTerm t) (SomeTerm u)) (some (folded_ite_inside g t u) (ite_of g t u) (stands_ite_inside g t u)) (inside_for_ite g t u)
stands_ite g (SomeTerm t) u = stands_ite_inside g (SomeTerm t) u
stands_ite g t u = stands_ite_inside g t u
