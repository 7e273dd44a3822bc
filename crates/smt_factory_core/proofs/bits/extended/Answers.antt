use Rattle.std.proofs.Common.{◌+◌, ap, ◌∙◌}
use Rattle.smt_factory_core.proofs.Folding.{same_extended}
use Rattle.smt_factory_core.proofs.bits.extended.Goals as goal

pub returns-clause-value : goal.returns-clause-value
returns-clause-value c = c.zero_extend.ensures.value ∙ same_extended c.args.bits.now.width.bits c.args.more _ c.args.bits.now.number c.args.bits.now.below_width (c.wider.ensures ∙ ap (λ w. w + c.args.more) c.width.ensures)
