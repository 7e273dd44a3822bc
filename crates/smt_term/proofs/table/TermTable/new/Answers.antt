use Rattle.std.proofs.Common.{map, ap, ◌∙◌}
use Rattle.smt_term.proofs.TermTables.{entries_ascend}
use Rattle.smt_term.specs.Tables.{plain_entry}
use Rattle.smt_term.proofs.table.TermTable.new.Goals as goal

pub invariant_of-result : goal.invariant_of-result
invariant_of-result c = record {
  ascending = entries_ascend c.in_ok-new.field-0.value.items (map plain_entry c.args.items.now) (ap (λ v. map plain_entry v.items) c.in_ok-new.ensures.ok ∙ c.in_ok-pairs.ensures);
}
