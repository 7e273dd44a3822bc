use Rattle.std.proofs.Common.{sym, ◌∙◌}
use Rattle.smt_nodes.proofs.Tables.{finds_first, finds_none, finds_some}
use Rattle.smt_nodes.specs.declared.table.Key.{Key}
use Rattle.smt_nodes.proofs.table.Table.find.Goals as goal

pub returns-then-has_parts-clause-found : goal.returns-then-has_parts-clause-found
returns-then-has_parts-clause-found c label h = finds_first c.args.self.now c.requires.index label c.args.first c.args.parts.now h (sym c.has_parts.ensures ∙ c.if-has_parts.true)

pub returns-clause-found : goal.returns-clause-found
returns-clause-found c label h =
    let key : Key = record { first = c.args.first; parts = c.in_ok-new.field-0 } in
    finds_some c.args.self.now c.requires.index label key c.args.parts.now c.copied.result h c.in_ok-new.ensures (c.copied.ensures ∙ c.get.ensures.value)

pub returns-clause-missing : goal.returns-clause-missing
returns-clause-missing c label h =
    let key : Key = record { first = c.args.first; parts = c.in_ok-new.field-0 } in
    finds_none c.args.self.now c.requires.index label key c.args.parts.now c.copied.result h c.in_ok-new.ensures (sym c.has_parts.ensures ∙ c.if-has_parts.false) (c.copied.ensures ∙ c.get.ensures.value)
