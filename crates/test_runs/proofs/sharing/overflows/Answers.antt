use Rattle.std.proofs.Common.{[], ◌∷◌, rules}
use Rattle.law_terms.specs.Plain.{Application, BoolType, BvnegoOp, terms}
use Rattle.test_runs.proofs.sharing.overflows.Goals as goal

pub returns : goal.returns
returns g c = (Application BvnegoOp (terms (c.requires.term ∷ [])) BoolType ∷ [], search rules, search rules)
