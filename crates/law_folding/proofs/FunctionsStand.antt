-- The folding of a function at a term stands for the application, and has the function's value.
use Rattle.std.proofs.Common.{◌≡◌, Bool, true, false, cond, List, [], ◌∷◌, map, refl, ap, ◌∙◌, sym}
use Rattle.std.specs.Prelude.{IsTrue, Some}
use Rattle.std.specs.Bool.{then_some}
use Rattle.std.specs.Cmp.Derive.{both_true}
use Rattle.std.specs.List.{AllByRecursion}
use Rattle.std.specs.Map.{lookup}
use Rattle.std.specs.Option.{unwrap_or}
use Rattle.law_folding.specs.AppOf.{IsAppOf}
use Rattle.law_folding.specs.Applications.{true_term, false_term, eq_of, ite_of}
use Rattle.law_folding.specs.Builder.{applied, folding}
use Rattle.law_folding.specs.FoldFunctions.{app_of, choice_among, choice_by, entry_at, folded_app, uuf_of}
use Rattle.law_folding.specs.Refinement.{Refines}
use Rattle.law_folding.proofs.ConnectivesStand.{same_term}
use Rattle.law_folding.proofs.EqualityStands.{apart, differing, equal_for_eq, equal_values, false_guard, ite_typed, literal_for_eq, true_guard, value_is}
use Rattle.law_folding.proofs.FoldingsKeep.{related}
use Rattle.law_folding.proofs.Standing.{application, itself, last_of, one_of, onward, valued}
use Rattle.law_terms.specs.Formed.{IsFormedNode, IsFormedType, IsFormed}
use Rattle.law_terms.specs.Functions.{PlainUnary, Uninterpreted, Defined, HasLiteralKeys, IsTypedFunction, argument_type, defining_terms, entry_terms, entry_value}
use Rattle.law_terms.specs.Interpretations.{IsGiven, IsInterpretation}
use Rattle.law_terms.specs.Literals.{is_literal}
use Rattle.law_terms.specs.Meaning.{meaning, term_value}
use Rattle.law_terms.specs.Reached.{subterms, subterms_of_all, reached_terms}
use Rattle.law_terms.specs.Tables.{Interpretation, value_among, value_at}
use Rattle.law_terms.specs.TermOrder.{term_eq}
use Rattle.law_terms.specs.Types.{type_of, is_type}
use Rattle.law_terms.specs.Typing.{typed, Typed}
use Rattle.law_terms.specs.TypeValues.{Enums}
use Rattle.law_terms.specs.ValueOrder.{value_eq}
use Rattle.law_terms.proofs.Defaults.{all-join}
use Rattle.law_terms.proofs.Shapes.{all-become}
use Rattle.law_terms.proofs.Soundness.{all-front, all-back}
use Rattle.law_terms.proofs.TermTotal.{types_decided}
use Rattle.law_terms.specs.Plain.{PlainType, BoolType, PlainFunction, PlainOp, EqOp, IteOp, PlainTerm, Application, PlainTerms, terms}
use Rattle.law_terms.specs.Values.{Value}

abbrev Entries : Type 0
Entries = List (PlainTerm × PlainTerm)

-- ---- the folding stands for the application

choices_stand : (es : Entries) (d t : PlainTerm) → Refines (choice_among folding es d t) (choice_among applied es d t)
choices_stand [] d t = itself d
choices_stand (e ∷ es) d t = related.ite (related.eq (itself t) (itself e.0)) (itself e.1) (choices_stand es d t)

-- two literals that are no one term are not equal
never_equal : (t u : PlainTerm) → is_literal t ≡ true → is_literal u ≡ true → term_eq t u ≡ false → Refines false_term (eq_of t u)
never_equal t u h k n = literal_for_eq false t u (λ enums I p f. differing t u (both_true h k) (apart t u n) I p f)

-- a choice whose guard is known
first_chosen : (g t u : PlainTerm) → Refines true_term g → Refines t (ite_of g t u)
first_chosen g t u s = onward t (ite_of true_term t u) (ite_of g t u) (true_guard t u) (application IteOp (true_term ∷ t ∷ u ∷ []) (g ∷ t ∷ u ∷ []) (type_of t) (s, (itself t, (itself u, tt))))

second_chosen : (g t u v : PlainTerm) → Refines false_term g → Refines v u → Refines v (ite_of g t u)
second_chosen g t u v s z = onward v (ite_of false_term t v) (ite_of g t u) (false_guard t v) (application IteOp (false_term ∷ t ∷ v ∷ []) (g ∷ t ∷ u ∷ []) (type_of t) (s, (itself t, (z, tt))))

-- by whether the first entry has the key
entry_or_rest : (e : PlainTerm × PlainTerm) (es : Entries) (d t : PlainTerm) → is_literal t ≡ true → is_literal e.0 ≡ true → Refines (unwrap_or (lookup (term_eq t) es) d) (choice_among applied es d t) → (b : Bool) → term_eq t e.0 ≡ b → Refines (unwrap_or (cond b (Some e.1) (lookup (term_eq t) es)) d) (choice_among applied (e ∷ es) d t)
entry_or_rest e es d t h k s true p = first_chosen (eq_of t e.0) e.1 (choice_among applied es d t) (equal_for_eq t e.0 (same_term t e.0 p))
entry_or_rest e es d t h k s false p = second_chosen (eq_of t e.0) e.1 (choice_among applied es d t) (unwrap_or (lookup (term_eq t) es) d) (never_equal t e.0 h k p) s

entry_stands : (es : Entries) (d t : PlainTerm) → is_literal t ≡ true → AllByRecursion (λ e. IsTrue (is_literal e.0)) es → Refines (unwrap_or (lookup (term_eq t) es) d) (choice_among applied es d t)
entry_stands [] d t h k = itself d
entry_stands (e ∷ es) d t h k = entry_or_rest e es d t h k.0 (entry_stands es d t h k.1) (term_eq t e.0) refl

pub stands_app : (f : PlainUnary) (t : PlainTerm) → HasLiteralKeys f → Refines (folded_app f t) (app_of f t)
stands_app (Uninterpreted f) t k = itself (uuf_of f t)
stands_app (Defined f) t k = one_of (is_literal t) (entry_at f t) (choice_by folding f t) (choice_by applied f t) (λ h. entry_stands f.entries f.elsewhere t h k) (choices_stand f.entries f.elsewhere t)

-- ---- the application has the function's value

eq_typed : (t u : PlainTerm) → typed t ≡ true → typed u ≡ true → type_of t ≡ type_of u → typed (eq_of t u) ≡ true
eq_typed t u h k e = both_true (both_true h (both_true k refl)) (ap (λ b. is_type (then_some b BoolType) BoolType) ((types_decided (type_of t) (type_of u)).1 e))

value_eq-turned : (v w : Value) → value_eq v w ≡ value_eq w v
value_eq-turned v w = by (value_eq v w) (value_eq w v) refl refl
  where
    by : (b c : Bool) → value_eq v w ≡ b → value_eq w v ≡ c → b ≡ c
    by true true p q = refl
    by false false p q = refl
    by true false p q = sym (equal_values w v (sym (value_is v w p))) ∙ q
    by false true p q = sym p ∙ equal_values v w (sym (value_is w v q))

chosen : (b c : Bool) (v w : Value) → b ≡ c → cond b v w ≡ elim c [ true ↦ v | false ↦ w ]
chosen true true v w e = refl
chosen false false v w e = refl
chosen b c v w e = cc

-- an argument and keys of one type, values and a term elsewhere of another
module _ (t d : PlainTerm) (a o : PlainType) (x : Typed t a) (y : Typed d o) where
  choices_typed : (es : Entries) → AllByRecursion (λ e. Typed e.0 a) es → AllByRecursion (λ e. Typed e.1 o) es → Typed (choice_among applied es d t) o
  choices_typed [] k v = y
  choices_typed (e ∷ es) k v =
      let r : Typed (choice_among applied es d t) o = choices_typed es k.1 v.1 in
      record {
        parts = ite_typed (eq_of t e.0) e.1 (choice_among applied es d t) (record { guard = eq_typed t e.0 x.parts k.0.parts (x.type ∙ sym k.0.type); first = v.0.parts; second = r.parts; guard_type = refl; types = v.0.type ∙ sym r.type });
        type = v.0.type;
      }

  choices_valued : (I : Interpretation) (es : Entries) → AllByRecursion (λ e. Typed e.0 a) es → AllByRecursion (λ e. Typed e.1 o) es → meaning I (choice_among applied es d t) ≡ value_among (map (entry_value I) es) (term_value I d) (term_value I t)
  choices_valued I [] k v = sym (valued I d y.parts)
  choices_valued I (e ∷ es) k v =
      let p : meaning I t ≡ term_value I t = sym (valued I t x.parts) in
      let q : meaning I e.0 ≡ term_value I e.0 = sym (valued I e.0 k.0.parts) in
      let r : meaning I e.1 ≡ term_value I e.1 = sym (valued I e.1 v.0.parts) in
      let s : meaning I (choice_among applied es d t) ≡ value_among (map (entry_value I) es) (term_value I d) (term_value I t) = choices_valued I es k.1 v.1 in
      let u : cond (value_eq (meaning I t) (meaning I e.0)) (meaning I e.1) (meaning I (choice_among applied es d t)) ≡ cond (value_eq (term_value I t) (term_value I e.0)) (term_value I e.1) (value_among (map (entry_value I) es) (term_value I d) (term_value I t)) = λ i. cond (value_eq (p i) (q i)) (r i) (s i) in
      u ∙ chosen (value_eq (term_value I t) (term_value I e.0)) (value_eq (term_value I e.0) (term_value I t)) (term_value I e.1) (value_among (map (entry_value I) es) (term_value I d) (term_value I t)) (value_eq-turned (term_value I t) (term_value I e.0))

-- ---- what the application reaches

-- what holds of each equality, of each choice whose first branch has it, and of each subterm of the argument and of a table,
-- holds of each subterm of the choices
module _ (P : PlainTerm → Type 0) (of_eq : (ts : PlainTerms) → P (Application EqOp ts BoolType)) (of_ite : (v : PlainTerm) (ts : PlainTerms) → P v → P (Application IteOp ts (type_of v))) where
  abbrev All : PlainTerm → Type 0
  All t = AllByRecursion P (subterms t)

  of_all : (ts : List PlainTerm) → AllByRecursion All ts → AllByRecursion P (subterms_of_all (terms ts))
  of_all [] h = tt
  of_all (t ∷ ts) h = all-join P (subterms t) (subterms_of_all (terms ts)) h.0 (of_all ts h.1)

  of_application : (o : PlainOp) (ts : List PlainTerm) (ty : PlainType) → AllByRecursion All ts → P (Application o (terms ts) ty) → All (Application o (terms ts) ty)
  of_application o ts ty h p = all-join P (subterms_of_all (terms ts)) (Application o (terms ts) ty ∷ []) (of_all ts h) (p, tt)

  of_choices : (es : Entries) (d t : PlainTerm) → All t → All d → AllByRecursion All (entry_terms es) → All (choice_among applied es d t)
  of_choices [] d t h k g = k
  of_choices (e ∷ es) d t h k g =
      let guard : All (eq_of t e.0) = of_application EqOp (t ∷ e.0 ∷ []) BoolType (h, (g.0, tt)) (of_eq (terms (t ∷ e.0 ∷ []))) in
      let rest : All (choice_among applied es d t) = of_choices es d t h k g.1.1 in
      of_application IteOp (eq_of t e.0 ∷ e.1 ∷ choice_among applied es d t ∷ []) (type_of e.1) (guard, (g.1.0, (rest, tt))) (of_ite e.1 (terms (eq_of t e.0 ∷ e.1 ∷ choice_among applied es d t ∷ [])) (last_of P e.1 g.1.0))

-- each of a list's terms by itself
each_reached : (P : PlainTerm → Type 0) (ts : List PlainTerm) → AllByRecursion P (reached_terms ts) → AllByRecursion (λ t. AllByRecursion P (subterms t)) ts
each_reached P [] h = tt
each_reached P (t ∷ ts) h = (all-front P (subterms t) (reached_terms ts) h, each_reached P ts (all-back P (subterms t) (reached_terms ts) h))

choices_given : (enums : Enums) (I : Interpretation) (es : Entries) (d t : PlainTerm) → IsInterpretation enums (t ∷ d ∷ entry_terms es) I → IsInterpretation enums (choice_among applied es d t ∷ []) I
choices_given enums I es d t i =
    let g : AllByRecursion (λ u. AllByRecursion (IsGiven enums I) (subterms u)) (t ∷ d ∷ entry_terms es) = each_reached (IsGiven enums I) (t ∷ d ∷ entry_terms es) i in
    all-join (IsGiven enums I) (subterms (choice_among applied es d t)) [] (of_choices (IsGiven enums I) (λ ts. tt) (λ v ts h. tt) es d t g.0 g.1.0 g.1.1) tt

choices_formed : (es : Entries) (d t : PlainTerm) → AllByRecursion IsFormed (t ∷ d ∷ entry_terms es) → IsFormed (choice_among applied es d t)
choices_formed es d t f = record {
  literals = of_choices IsFormedNode (λ ts. tt) (λ v ts h. tt) es d t f.0.literals f.1.0.literals (all-become IsFormed (λ u. AllByRecursion IsFormedNode (subterms u)) (λ u g. g.literals) (entry_terms es) f.1.1);
  types = of_choices (λ w. IsFormedType (type_of w)) (λ ts. (tt, tt)) (λ v ts h. h) es d t f.0.types f.1.0.types (all-become IsFormed (λ u. AllByRecursion (λ w. IsFormedType (type_of w)) (subterms u)) (λ u g. g.types) (entry_terms es) f.1.1);
}

-- ---- the folding has the function's value

uuf_typed : (f : PlainFunction) (t : PlainTerm) → Typed t f.argument → typed (uuf_of f t) ≡ true
uuf_typed f t x =
    both_true (both_true x.parts refl) (ap (λ b. is_type (then_some b f.output) f.output) ((types_decided (type_of t) f.argument).1 x.type) ∙ (types_decided f.output f.output).1 refl)

pub app_valued : (f : PlainUnary) (t : PlainTerm) → HasLiteralKeys f → IsTypedFunction f → Typed t (argument_type f) → AllByRecursion IsFormed (t ∷ defining_terms f) → IsAppOf f t (folded_app f t)
app_valued (Uninterpreted f) t k y x w = record {
  type = record { parts = uuf_typed f t x; type = refl };
  value = λ enums I i. valued I (uuf_of f t) (uuf_typed f t x) ∙ ap (value_at (I.function f)) (sym (valued I t x.parts));
}
app_valued (Defined f) t k y x w =
    let s : Refines (folded_app (Defined f) t) (choice_by applied f t) = stands_app (Defined f) t k in
    let c : Typed (choice_by applied f t) f.output = choices_typed t f.elsewhere f.argument f.output x y.elsewhere f.entries y.keys y.answers in
    record {
      type = s.type f.output c;
      value = λ enums I i. s.value f.output enums I (choices_formed f.entries f.elsewhere t w) c (choices_given enums I f.entries f.elsewhere t i) ∙ (valued I (choice_by applied f t) c.parts ∙ choices_valued t f.elsewhere f.argument f.output x y.elsewhere I f.entries y.keys y.answers);
    }
