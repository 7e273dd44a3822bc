use Rattle.std.proofs.Common.{map, ap}
use Rattle.smt_values.specs.AttributeMaps.{pairs_of}
use Rattle.smt_values.proofs.TypePairs.{attributes_put_by}
use Rattle.smt_values.specs.TypeView.{named_attribute, named_attributes, pairs_held}
use Rattle.smt_values.specs.declared.attributes.Attributes.{out-roll-Attributes, roll-Attributes}
use Rattle.smt_values.proofs.attributes.Attributes.push.Goals as goal

pub returns-clause-put : goal.returns-clause-put
returns-clause-put c =
    attributes_put_by c.push.result (pairs_held c.args.self.now) c.push.new.self.items.items c.args.item.0 c.args.item.1 (named_attributes (roll-Attributes record { pairs = c.push.new.self }))
    (ap (λ a. map named_attribute (pairs_of a.pairs)) (out-roll-Attributes record { pairs = c.push.new.self }))
    c.push.ensures.put
