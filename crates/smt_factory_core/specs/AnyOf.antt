-- The disjunction of what a call answers at each of several terms.
use Rattle.std.specs.Prelude.{◌≡◌, List, [], ◌∷◌, Result, Ok}
use Rattle.std.specs.List.{AllZip, list_any}
use Rattle.law_folding.specs.Builder.{folding}
use Rattle.law_folding.specs.Composites.{any_of}
use Rattle.law_folding.specs.Refinement.{ReachNoMore, Refines}
use Rattle.law_terms.specs.Interpretations.{IsInterpretation}
use Rattle.law_terms.specs.Meaning.{term_value}
use Rattle.law_terms.specs.Operators.{truth}
use Rattle.law_terms.specs.Plain.{BoolType, PlainTerm}
use Rattle.law_terms.specs.Tables.{Interpretation}
use Rattle.law_terms.specs.Typing.{Typed}
use Rattle.law_terms.specs.TypeValues.{Enums}
use Rattle.law_terms.specs.Values.{BoolValue}
use Rattle.smt_term.specs.View.{plain_term}
use Rattle.smt_term.specs.declared.error.TermError.{TermError}
use Rattle.smt_term.specs.declared.term.Term.{Term}

-- the call may answer at a term that says t one that says u
pub record IsAnswer (answers : Term → Result Term TermError → Type 0) (t u : PlainTerm) : Type 0 where
  pub argument : Term
  pub answer : Term
  pub asked : plain_term argument ≡ t
  pub gives : answers argument (Ok answer)
  pub said : plain_term answer ≡ u

-- r is the folded disjunction of what the call may answer at each of the terms
pub record IsAnyOf (answers : Term → Result Term TermError → Type 0) (ts : List PlainTerm) (r : PlainTerm) : Type 0 where
  pub given : List PlainTerm
  pub each : AllZip (IsAnswer answers) ts given
  pub folded : r ≡ any_of folding given

-- what the call answers at a term stands for the original of that term
abbrev pub GivesRefinements : (Term → Result Term TermError → Type 0) → (PlainTerm → PlainTerm) → Type 0
GivesRefinements answers original = (t u : Term) → answers t (Ok u) → Refines (plain_term u) (original (plain_term t))

-- what the call may answer at a term that says t is a typed Boolean term
abbrev pub GivesBooleans : (Term → Result Term TermError → Type 0) → PlainTerm → Type 0
GivesBooleans answers t = (x u : Term) → plain_term x ≡ t → answers x (Ok u) → Typed (plain_term u) BoolType

-- r is a typed Boolean term. In each interpretation of what the call answers at the terms it is true exactly where one of these
-- answers is. It reaches no more than they do.
pub record IsTrueWhereOneIs (answers : Term → Result Term TermError → Type 0) (ts : List PlainTerm) (r : PlainTerm) : Type 0 where
  pub given : List PlainTerm
  pub each : AllZip (IsAnswer answers) ts given
  pub type : Typed r BoolType
  pub value : (enums : Enums) (I : Interpretation) → IsInterpretation enums given I →
      term_value I r ≡ BoolValue (list_any (λ u. truth (term_value I u)) given)
  pub reached : ReachNoMore (r ∷ []) given
