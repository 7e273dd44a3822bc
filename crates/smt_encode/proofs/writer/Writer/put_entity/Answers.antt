use Rattle.std.proofs.Common.{ℕ, List, Option, ap, subst, ◌∙◌}
use Rattle.std.specs.Prelude.{IfOk}
use Rattle.smt_term.specs.Entities.{bytes_of_id, bytes_of_type}
use Rattle.law_lines.specs.Lines.{members_of}
use Rattle.smt_spelling.specs.Entries.{entity_entry, entry_bytes, SaysEntry}
use Rattle.smt_encode.specs.Alone.{name_of_entity, PutUnder}
use Rattle.smt_spelling.specs.NodeEntries.{entry_name}
use Rattle.smt_spelling.specs.Names.{enums_under}
use Rattle.smt_encode.proofs.Bodies.{entity_named, entity_spelled}
use Rattle.smt_encode.proofs.writer.Writer.put_entity.Goals as goal

pub returns-clause-lines : goal.returns-clause-lines
returns-clause-lines g c s has =
    let type = bytes_of_type c.args.entity.now.ety in
    let id = bytes_of_id c.args.entity.now.id in
    let sort = c.args.ty_enc.now in
    let members = members_of (enums_under c.args.self.now.names) type in
    let same = c.members_of-members.ensures ∙ ap (λ x. members_of x type) c.enums.ensures in
    let says = subst (λ (ms : Option (List (List ℕ))). SaysEntry (entity_entry ms id sort) c.in_ok-entry.entry) same c.in_ok-entry.ensures.text in
    let p = entity_entry members id sort in
    let Put : List ℕ → List ℕ → Type 0 = λ n b. IfOk c.put_entry.result (PutUnder g.S.Sink.contents c.args.self.now.script c.put_entry.new.self.script n b) in
    subst (λ (b : List ℕ). Put (name_of_entity members id sort s) b) (entity_spelled members id sort s c.in_ok-entry.entry says)
    (subst (λ (n : List ℕ). Put n (entry_bytes c.in_ok-entry.entry (entry_name p s) sort)) (entity_named members id sort s) (c.put_entry.ensures.lines s p has says))
