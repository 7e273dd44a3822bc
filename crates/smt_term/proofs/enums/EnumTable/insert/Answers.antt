use Rattle.std.proofs.Common.{Some, map, not, sym, ap, ◌∙◌}
use Rattle.std.specs.BTreeMap.{insert_entry}
use Rattle.std.specs.Map.{lookup, update}
use Rattle.std.specs.Prelude.{bytes_eq}
use Rattle.law_terms.specs.ValueOrder.{text_cmp}
use Rattle.smt_term.specs.Entities.{bytes_of_type}
use Rattle.smt_term.proofs.EnumEntries.{is_some-said, lookup-entered, said-entered, said_entry}
use Rattle.smt_term.proofs.enums.EnumTable.insert.Goals as goal

pub returns-then-contains_key-clause-added : goal.returns-then-contains_key-clause-added
returns-then-contains_key-clause-added c = ap not (sym c.if-contains_key.true ∙ (c.contains_key.ensures ∙ sym (is_some-said c.args.ety c.args.self.now.types.entries)))

pub returns-clause-added : goal.returns-clause-added
returns-clause-added c = ap not (sym c.if-contains_key.false ∙ (c.contains_key.ensures ∙ sym (is_some-said c.args.ety c.args.self.now.types.entries)))

pub returns-clause-entered : goal.returns-clause-entered
returns-clause-entered c e =
    lookup-entered c.args.ety c.in_ok-members.members c.args.self.now.types.entries c.insert.new.self.entries e c.in_ok-insert.ensures.entries
    ∙ ap (λ ts. update bytes_eq (λ q. lookup (bytes_eq q) (map said_entry c.args.self.now.types.entries)) (bytes_of_type c.args.ety) (Some ts) e) c.in_ok-members.ensures

pub returns-clause-placed : goal.returns-clause-placed
returns-clause-placed c =
    said-entered c.args.ety c.in_ok-members.members c.args.self.now.types.entries c.insert.new.self.entries c.in_ok-insert.ensures.entries
    ∙ ap (insert_entry text_cmp (map said_entry c.args.self.now.types.entries) (bytes_of_type c.args.ety)) c.in_ok-members.ensures
