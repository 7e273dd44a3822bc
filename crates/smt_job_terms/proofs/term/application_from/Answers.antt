use Rattle.std.proofs.Common.{sym, ◌∙◌}
use Rattle.smt_term.specs.View.{plain_op}
use Rattle.smt_job_terms.proofs.TermsRead.{built_applied, given_or}
use Rattle.smt_job_terms.proofs.term.application_from.Goals as goal

pub returns : goal.returns
returns c written are =
    given_or c.in_ok-built_from.field-0 _ _ c.ok_or.ensures.value (built_applied (plain_op c.args.op.now) written c.args.operands.now are ∙ sym c.in_ok-built_from.ensures)
