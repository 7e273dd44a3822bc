use Rattle.smt_values.proofs.Shared.{entries_ascend}
use Rattle.smt_values.specs.View.{entries_held}
use Rattle.smt_values.proofs.entry_map.EntryMap.share.Goals as goal

pub invariant_of-result : goal.invariant_of-result
invariant_of-result c = record {
  ascending = entries_ascend c.loop-name.items.items c.as_slice-name-items.result.now (entries_held c.args.self.now) c.loop-name.name-index c.loop-name-test.false c.loop-name.invariant c.as_slice-name-items.ensures.value c.args.self.now.ascending;
}
