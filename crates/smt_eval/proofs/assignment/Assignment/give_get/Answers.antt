use Rattle.std.proofs.Common.{ap, ◌∙◌}
use Rattle.law_terms.specs.Types.{type_cmp}
use Rattle.law_terms.proofs.TypeOrder.{type_itself}
use Rattle.smt_term.proofs.DerivedTypeOrder.{type_cmp-is}
use Rattle.smt_term.specs.View.{plain_type}
use Rattle.smt_eval.proofs.assignment.Assignment.give_get.Goals as goal

pub give-requires : goal.give-requires
give-requires c =
    type_cmp-is c.in-Ok.shared c.args.inside ∙ ap (λ ty. type_cmp ty (plain_type c.args.inside)) c.in-Ok.ensures ∙ type_itself (plain_type c.args.inside)
