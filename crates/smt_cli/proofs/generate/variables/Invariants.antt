use Rattle.std.proofs.Common.{◌≡◌}
use Rattle.smt_job_terms.specs.DeclarationView.{declarations}
use Rattle.smt_cli.specs.Generated.{variables_below}
use Rattle.smt_cli.proofs.generate.variables.Given as goal

abbrev pub invariant-loop-number : goal.invariant-loop-number
invariant-loop-number l = declarations l.variables ≡ variables_below l.number
