use Rattle.std.proofs.Common.{Ok, map, sym, ap, ◌∙◌}
use Rattle.smt_values.specs.ValueView.{named_field}
use Rattle.smt_symbolizer.proofs.KnownPairs.{known_in_order}
use Rattle.smt_symbolizer.proofs.values.known_values.Goals as goal

pub returns : goal.returns
returns c =
    c.in_ok-pairs.ensures
    ∙ ap Ok (sym (c.in_ok-of_pairs.ensures ∙ known_in_order c.args.fields.now (map named_field c.in_ok-pairs.pairs.items) c.in_ok-pairs.ensures))
