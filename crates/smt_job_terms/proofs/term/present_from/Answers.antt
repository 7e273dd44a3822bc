use Rattle.std.proofs.Common.{Ok, ap, sym, ◌∙◌}
use Rattle.smt_term.specs.View.{plain_term, plain_term-Some}
use Rattle.law_terms.specs.Plain.{SomeTerm}
use Rattle.smt_job_terms.proofs.TermsRead.{present_made}
use Rattle.smt_job_terms.proofs.term.present_from.Goals as goal

pub returns-in_ok-new-in-len1-up : goal.returns-in_ok-new-in-len1-up
returns-in_ok-new-in-len1-up c written are =
    present_made written c.args.operands.now c.operand-item.result are c.in-len1-up.len_at_least c.operand-item.is ∙ ap Ok (ap SomeTerm (sym (ap plain_term c.in_ok-new-in-len1-up.ensures.ok ∙ c.in_ok-share-in-len1-up.ensures)) ∙ sym (plain_term-Some c.in_ok-new-in-len1-up.field-0))
