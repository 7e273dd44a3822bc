-- What a call that folds answers.
use Rattle.std.specs.Prelude.{IfOk, Result}
use Rattle.law_folding.specs.Refinement.{Refines}
use Rattle.law_terms.specs.Plain.{PlainTerm}
use Rattle.smt_term.specs.View.{plain_term}
use Rattle.smt_term.specs.declared.term.Term.{Term}

-- On Ok a term was built that may be put in the place of this one.
abbrev pub ResultRefines : {E : Type 0} → Result Term E → PlainTerm → Type 0
ResultRefines result u = IfOk result (λ t. Refines (plain_term t) u)
