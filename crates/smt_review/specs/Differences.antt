-- What two Boolean terms are compared by, and the term that is true exactly where the comparison fails.
use Rattle.std.specs.Prelude.{◌≡◌, Bool, true, false, not, ◌&&◌, ◌||◌, [], ◌∷◌}
use Rattle.law_terms.specs.Formed.{IsFormed}
use Rattle.law_terms.specs.Interpretations.{IsInterpretation}
use Rattle.law_terms.specs.Meaning.{AreTrue, term_value}
use Rattle.law_terms.specs.Operators.{truth}
use Rattle.law_terms.specs.Plain.{BoolType, PlainTerm}
use Rattle.law_terms.specs.Tables.{Interpretation}
use Rattle.law_terms.specs.Typing.{Typed}
use Rattle.law_terms.specs.TypeValues.{Enums}
use Rattle.law_folding.specs.Builder.{Builder, folding}
use Rattle.smt_review.specs.declared.relation.Relation.{Relation}
use Rattle.smt_review.specs.declared.relation.Relation.TheVariants.{Equivalent, Implies, Disjoint}

-- whether two truth values stand in a relation
abbrev pub related : Relation → Bool → Bool → Bool
related Equivalent true y = y
related Equivalent false y = not y
related Implies x y = not x || y
related Disjoint x y = not (x && y)

-- the difference of two terms, by a builder: it is true exactly where the relation does not hold
abbrev pub difference_by : Builder → Relation → PlainTerm → PlainTerm → PlainTerm
difference_by b Equivalent t u = b.not (b.eq t u)
difference_by b Implies t u = b.and t (b.not u)
difference_by b Disjoint t u = b.and t u

-- the truth of a term in an interpretation
abbrev pub truth_in : Interpretation → PlainTerm → Bool
truth_in I t = truth (term_value I t)

-- The relation holds of the values of the terms in every interpretation of both.
abbrev pub AreRelated : Enums → Relation → PlainTerm → PlainTerm → Type 0
AreRelated enums relation t u =
    (I : Interpretation) → IsInterpretation enums (t ∷ u ∷ []) I → related relation (truth_in I t) (truth_in I u) ≡ true

-- What the folded difference of Boolean terms tells. It is Boolean, and where no interpretation makes it true, the relation holds of
-- the terms.
pub record DifferencesTell : Type 0 where
  pub boolean : (relation : Relation) (t u : PlainTerm) → Typed t BoolType → Typed u BoolType →
      Typed (difference_by folding relation t u) BoolType
  pub told : (enums : Enums) (relation : Relation) (t u : PlainTerm) → Typed t BoolType → Typed u BoolType → IsFormed t → IsFormed u
      →
      ((I : Interpretation) → IsInterpretation enums (difference_by folding relation t u ∷ []) I →
      AreTrue I (difference_by folding relation t u ∷ []) → ⊥)
      → AreRelated enums relation t u
