-- What follows where no interpretation makes a difference true.
use Rattle.std.proofs.Common.{◌≡◌, Bool, true, false, [], ◌∷◌, ◌++◌, refl, ap, ◌∙◌, sym}
use Rattle.std.specs.List.{AllByRecursion}
use Rattle.law_terms.specs.Formed.{IsFormed, IsFormedNode, IsFormedType}
use Rattle.law_terms.specs.Interpretations.{IsGiven, IsInterpretation}
use Rattle.law_terms.specs.Meaning.{AreTrue, meaning, term_value}
use Rattle.law_terms.specs.Operators.{apply, truth}
use Rattle.law_terms.specs.Plain.{AndOp, BoolType, EqOp, NotOp, PlainTerm}
use Rattle.law_terms.specs.Reached.{subterms}
use Rattle.law_terms.specs.Tables.{Interpretation}
use Rattle.law_terms.specs.Typing.{Typed, typed}
use Rattle.law_terms.specs.TypeValues.{Enums}
use Rattle.law_terms.specs.Types.{type_of}
use Rattle.law_terms.specs.Values.{Value, BoolValue}
use Rattle.law_terms.proofs.Defaults.{all-join}
use Rattle.law_terms.proofs.Soundness.{all-front, all-back}
use Rattle.law_folding.specs.Applications.{and_of, eq_of, not_of}
use Rattle.law_folding.specs.Builder.{applied, folding}
use Rattle.law_folding.specs.Refinement.{Refines}
use Rattle.law_folding.proofs.ConnectivesStand.{boolean}
use Rattle.law_folding.proofs.FoldingsKeep.{related as foldings_keep}
use Rattle.law_folding.proofs.Reaching.{interpreted}
use Rattle.law_folding.proofs.Standing.{itself}
use Rattle.smt_review.specs.Differences.{AreRelated, DifferencesTell, difference_by, related, truth_in}
use Rattle.smt_review.specs.declared.relation.Relation.{Relation}
use Rattle.smt_review.specs.declared.relation.Relation.TheVariants.{Equivalent, Implies, Disjoint}

-- the folded difference stands for the one of applications
stands : (r : Relation) (t u : PlainTerm) → Refines (difference_by folding r t u) (difference_by applied r t u)
stands Equivalent t u = foldings_keep.not (foldings_keep.eq (itself t) (itself u))
stands Implies t u = foldings_keep.and (itself t) (foldings_keep.not (itself u))
stands Disjoint t u = foldings_keep.and (itself t) (itself u)

-- what holds of the nodes of two terms, and of each application of an operator, holds of those of their difference
module _ (P : PlainTerm → Type 0) (n : (t : PlainTerm) → P (not_of t)) (a e : (t u : PlainTerm) → P (and_of t u)) (q : (t u : PlainTerm) → P (eq_of t u)) where
  of_one : (t : PlainTerm) → AllByRecursion P (subterms t) → AllByRecursion P (subterms (not_of t))
  of_one t h = all-join P (subterms t ++ []) (not_of t ∷ []) (all-join P (subterms t) [] h tt) (n t, tt)

  of_and : (t u : PlainTerm) → AllByRecursion P (subterms t) → AllByRecursion P (subterms u) → AllByRecursion P (subterms (and_of t u))
  of_and t u h g = all-join P (subterms t ++ (subterms u ++ [])) (and_of t u ∷ []) (all-join P (subterms t) (subterms u ++ []) h (all-join P (subterms u) [] g tt)) (a t u, tt)

  of_eq : (t u : PlainTerm) → AllByRecursion P (subterms t) → AllByRecursion P (subterms u) → AllByRecursion P (subterms (eq_of t u))
  of_eq t u h g = all-join P (subterms t ++ (subterms u ++ [])) (eq_of t u ∷ []) (all-join P (subterms t) (subterms u ++ []) h (all-join P (subterms u) [] g tt)) (q t u, tt)

  of_difference : (r : Relation) (t u : PlainTerm) → AllByRecursion P (subterms t) → AllByRecursion P (subterms u) → AllByRecursion P (subterms (difference_by applied r t u))
  of_difference Equivalent t u h g = of_one (eq_of t u) (of_eq t u h g)
  of_difference Implies t u h g = of_and t (not_of u) h (of_one u g)
  of_difference Disjoint t u h g = of_and t u h g

-- ---- typing and form

typed_difference : (r : Relation) (t u : PlainTerm) → typed t ≡ true → typed u ≡ true → type_of t ≡ BoolType → type_of u ≡ BoolType → typed (difference_by applied r t u) ≡ true
typed_difference Equivalent t u h g a b = rw (h, g, a, b) refl
typed_difference Implies t u h g a b = rw (h, g, a, b) refl
typed_difference Disjoint t u h g a b = rw (h, g, a, b) refl

boolean_difference : (r : Relation) (t u : PlainTerm) → type_of (difference_by applied r t u) ≡ BoolType
boolean_difference Equivalent t u = refl
boolean_difference Implies t u = refl
boolean_difference Disjoint t u = refl

formed_difference : (r : Relation) (t u : PlainTerm) → IsFormed t → IsFormed u → IsFormed (difference_by applied r t u)
formed_difference r t u f g = record {
  literals = of_difference IsFormedNode (λ t. tt) (λ t u. tt) (λ t u. tt) (λ t u. tt) r t u f.literals g.literals;
  types = of_difference (λ w. IsFormedType (type_of w)) (λ t. (tt, tt)) (λ t u. (tt, tt)) (λ t u. (tt, tt)) (λ t u. (tt, tt)) r t u f.types g.types;
}

-- ---- values

abbrev difference_value : Interpretation → Relation → Value → Value → Value
difference_value I Equivalent v w = apply I NotOp BoolType (apply I EqOp BoolType (v ∷ w ∷ []) ∷ [])
difference_value I Implies v w = apply I AndOp BoolType (v ∷ apply I NotOp BoolType (w ∷ []) ∷ [])
difference_value I Disjoint v w = apply I AndOp BoolType (v ∷ w ∷ [])

meant : (I : Interpretation) (r : Relation) (t u : PlainTerm) → meaning I (difference_by applied r t u) ≡ difference_value I r (meaning I t) (meaning I u)
meant I Equivalent t u = refl
meant I Implies t u = refl
meant I Disjoint t u = refl

differs : (I : Interpretation) (r : Relation) (x y : Bool) → related r x y ≡ false → difference_value I r (BoolValue x) (BoolValue y) ≡ BoolValue true
differs I Equivalent true true e = cc
differs I Equivalent true false e = refl
differs I Equivalent false true e = refl
differs I Equivalent false false e = cc
differs I Implies true true e = cc
differs I Implies true false e = refl
differs I Implies false true e = cc
differs I Implies false false e = cc
differs I Disjoint true true e = refl
differs I Disjoint true false e = cc
differs I Disjoint false true e = cc
differs I Disjoint false false e = cc

-- a typed term has its meaning for its value
valued : (I : Interpretation) (t : PlainTerm) → typed t ≡ true → term_value I t ≡ meaning I t
valued I t h = rw h refl

not_false : (b : Bool) → (b ≡ false → ⊥) → b ≡ true
not_false true h = refl
not_false false h = absurd (h refl)

-- ---- what follows

module _ (enums : Enums) (I : Interpretation) (r : Relation) (t u : PlainTerm) (ht : Typed t BoolType) (hu : Typed u BoolType) (ft : IsFormed t) (fu : IsFormed u) (gt : AllByRecursion (IsGiven enums I) (subterms t)) (gu : AllByRecursion (IsGiven enums I) (subterms u)) where
  given : AllByRecursion (IsGiven enums I) (subterms (difference_by applied r t u))
  given = of_difference (IsGiven enums I) (λ t. tt) (λ t u. tt) (λ t u. tt) (λ t u. tt) r t u gt gu

  typed_so : Typed (difference_by applied r t u) BoolType
  typed_so = record { parts = typed_difference r t u ht.parts hu.parts ht.type hu.type; type = boolean_difference r t u }

  of_term : (w : PlainTerm) → Typed w BoolType → IsFormed w → AllByRecursion (IsGiven enums I) (subterms w) → meaning I w ≡ BoolValue (truth_in I w)
  of_term w h f g = boolean enums I w h.parts h.type f.literals g ∙ ap (λ v. BoolValue (truth v)) (sym (valued I w h.parts))

  true_difference : related r (truth_in I t) (truth_in I u) ≡ false → term_value I (difference_by applied r t u) ≡ BoolValue true
  true_difference e =
      valued I (difference_by applied r t u) typed_so.parts ∙ meant I r t u
      ∙ ap (λ v. difference_value I r v (meaning I u)) (of_term t ht ft gt) ∙ ap (λ v. difference_value I r (BoolValue (truth_in I t)) v) (of_term u hu fu gu) ∙ differs I r (truth_in I t) (truth_in I u) e

  in_folded : IsInterpretation enums (difference_by folding r t u ∷ []) I
  in_folded =
      let s = stands r t u in
      let folded = difference_by folding r t u in
      all-join (IsGiven enums I) (subterms folded) [] (interpreted enums I folded (difference_by applied r t u) s.variables s.functions s.options s.selectors given) tt

  true_folded : related r (truth_in I t) (truth_in I u) ≡ false → AreTrue I (difference_by folding r t u ∷ [])
  true_folded e =
      let s = stands r t u in
      (s.value BoolType enums I (formed_difference r t u ft fu) typed_so (all-join (IsGiven enums I) (subterms (difference_by applied r t u)) [] given tt) ∙ true_difference e, tt)

told : (enums : Enums) (r : Relation) (t u : PlainTerm) → Typed t BoolType → Typed u BoolType → IsFormed t → IsFormed u
    → ((I : Interpretation) → IsInterpretation enums (difference_by folding r t u ∷ []) I → AreTrue I (difference_by folding r t u ∷ []) → ⊥) → AreRelated enums r t u
told enums r t u ht hu ft fu never I given =
    let P = IsGiven enums I in
    let gt = all-front P (subterms t) (subterms u ++ []) given in
    let gu = all-front P (subterms u) [] (all-back P (subterms t) (subterms u ++ []) given) in
    not_false (related r (truth_in I t) (truth_in I u)) (λ e. never I (in_folded enums I r t u ht hu ft fu gt gu) (true_folded enums I r t u ht hu ft fu gt gu e))

boolean_folded : (r : Relation) (t u : PlainTerm) → Typed t BoolType → Typed u BoolType → Typed (difference_by folding r t u) BoolType
boolean_folded r t u ht hu = (stands r t u).type BoolType (record { parts = typed_difference r t u ht.parts hu.parts ht.type hu.type; type = boolean_difference r t u })

pub differences_tell : DifferencesTell
differences_tell = record { boolean = boolean_folded; told = told }
