use Rattle.std.proofs.Common.{ap}
use Rattle.std.specs.Ordering.{is_eq}
use Rattle.law_terms.specs.Types.{type_eq}
use Rattle.smt_term.proofs.DerivedTypeOrder.{type_cmp-is}
use Rattle.smt_term.specs.View.{plain_term, plain_type}
use Rattle.smt_eval.proofs.Entries.{finds_said}
use Rattle.smt_eval.proofs.assignment.Assignment.get.Goals as goal

pub returns : goal.returns
returns c =
    finds_said plain_type plain_term _ (type_eq (plain_type c.args.inside.now)) (λ ty. ap is_eq (type_cmp-is c.args.inside.now ty)) c.args.self.now.gets.items.items c.find.result c.find.ensures
