use Rattle.std.proofs.Common.{Ok, ap, sym, ◌∙◌}
use Rattle.smt_term.specs.View.{plain_type}
use Rattle.smt_job_terms.proofs.TermsRead.{no_set, set_made}
use Rattle.smt_job_terms.proofs.term.set_from.Goals as goal

pub returns-in_ok-set_of : goal.returns-in_ok-set_of
returns-in_ok-set_of c written are =
    set_made (plain_type c.args.ty) written c.args.operands.now are (sym c.in_ok-are_of_type.ensures.same ∙ c.if-branch.true) ∙ ap Ok (sym c.in_ok-set_of.ensures.folded)

pub returns-else-branch : goal.returns-else-branch
returns-else-branch c written are = no_set (plain_type c.args.ty) written c.args.operands.now are (sym c.in_ok-are_of_type.ensures.same ∙ c.if-branch.false)
