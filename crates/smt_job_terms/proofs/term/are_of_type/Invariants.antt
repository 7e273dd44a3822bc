use Rattle.std.proofs.Common.{◌≡◌, drop, map}
use Rattle.law_jobs.specs.Terms.{are_of_type}
use Rattle.smt_term.specs.View.{plain_term, plain_type}
use Rattle.smt_job_terms.proofs.term.are_of_type.Given as goal

abbrev pub invariant-loop-operand : goal.invariant-loop-operand
invariant-loop-operand l = are_of_type (plain_type l.ty) (map plain_term l.operands) ≡ are_of_type (plain_type l.ty) (map plain_term (drop l.operand-index l.operands))
