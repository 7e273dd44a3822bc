-- What the two calls of a rule on ranges answer, by functions of plain terms: as the function gives it, or standing for that.
use Rattle.std.specs.Prelude.{◌≡◌, Result, Ok}
use Rattle.law_extensions.specs.Laws.{BothRefine}
use Rattle.law_extensions.specs.Rules.{IsRangeRule}
use Rattle.smt_factory.specs.Pairs.{plain_pair}
use Rattle.smt_term.specs.declared.error.TermError.{TermError}
use Rattle.law_terms.specs.Plain.{PlainTerm}
use Rattle.smt_term.specs.View.{plain_term}
use Rattle.smt_term.specs.declared.term.Term.{Term}
use Rattle.smt_factory_core.specs.AnyOf.{GivesRefinements}

-- wherever the call answers a term, that says what the function gives
abbrev pub GivesTerms : (Term → Result Term TermError → Type 0) → (PlainTerm → PlainTerm) → Type 0
GivesTerms answers given = (t u : Term) → answers t (Ok u) → plain_term u ≡ given (plain_term t)

-- wherever the call answers a pair of terms, that says what the function gives
abbrev pub GivesPairs : (Term → Result (Term × Term) TermError → Type 0) → (PlainTerm → (PlainTerm × PlainTerm)) → Type 0
GivesPairs answers given = (t : Term) (p : Term × Term) → answers t (Ok p) → plain_pair p ≡ given (plain_term t)

-- wherever the call answers a pair of terms, these stand for what the function gives
abbrev pub StandsForPairs : (Term → Result (Term × Term) TermError → Type 0) → (PlainTerm → (PlainTerm × PlainTerm)) → Type 0
StandsForPairs answers original = (t : Term) (p : Term × Term) → answers t (Ok p) → BothRefine (plain_pair p) (original (plain_term t))

-- the two calls that are handed in answer for a test and for bounds that are a rule on ranges
pub record AreByRule (tests : Term → Result Term TermError → Type 0) (ranges : Term → Result (Term × Term) TermError → Type 0) :
    Type 0 where
  pub test : PlainTerm → PlainTerm
  pub bounds : PlainTerm → (PlainTerm × PlainTerm)
  pub stands_test : GivesRefinements tests test
  pub stands_bounds : StandsForPairs ranges bounds
  pub rule : IsRangeRule test bounds
