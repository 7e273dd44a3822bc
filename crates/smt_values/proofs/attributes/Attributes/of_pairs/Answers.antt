use Rattle.std.proofs.Common.{map, ap, ◌∙◌}
use Rattle.smt_values.specs.AttributeMaps.{pairs_of}
use Rattle.smt_values.proofs.TypePairs.{attributes_sorted}
use Rattle.smt_values.specs.TypeView.{named_attribute}
use Rattle.smt_values.specs.declared.attributes.Attributes.{out-roll-Attributes}
use Rattle.smt_values.proofs.attributes.Attributes.of_pairs.Goals as goal

pub returns : goal.returns
returns c =
    ap (λ a. map named_attribute (pairs_of a.pairs)) (out-roll-Attributes record { pairs = c.in_ok-of_pairs.field-0 })
    ∙ attributes_sorted c.in_ok-of_pairs.field-0.items.items c.args.items.items c.in_ok-of_pairs.ensures
