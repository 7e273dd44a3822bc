use Rattle.std.proofs.Common.{ap, ◌∙◌}
use Rattle.std.specs.Ordering.{is_lt}
use Rattle.smt_term.proofs.DerivedOrder.{term_cmp-is}
use Rattle.smt_term.proofs.TypedArguments.{below_first}
use Rattle.smt_term.proofs.typing.is_below.Goals as goal

pub returns-in-len1-up : goal.returns-in-len1-up
returns-in-len1-up c =
    c.is_lt.ensures ∙ ap is_lt (c.cmp.ensures ∙ term_cmp-is c.args.term.now c.next-item.result) ∙ below_first c.args.term.now c.args.others.now c.next-item.result c.in-len1-up.len_at_least c.next-item.is
