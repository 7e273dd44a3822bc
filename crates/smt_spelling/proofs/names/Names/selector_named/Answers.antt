use Rattle.std.proofs.Common.{◌≡◌, ap, ◌∙◌}
use Rattle.law_lines.specs.EntryNames.{attribute_name}
use Rattle.law_lines.specs.NameTables.{name_of_type}
use Rattle.smt_spelling.specs.NodeTexts.{text_at}
use Rattle.smt_spelling.specs.Names.{texts_under}
use Rattle.smt_spelling.proofs.Selecting.{name_missing, name_there, named_type}
use Rattle.smt_spelling.proofs.names.Names.selector_named.Goals as goal
use Rattle.smt_spelling.proofs.names.Names.selector_named.Goals.{in-Some, in-None}

pub returns-clause-text : goal.returns-clause-text
returns-clause-text g c t s meant has are =
    let named : text_at (texts_under c.args.self.now) c.args.ty ≡ name_of_type s t = named_type c.args.self.now s c.args.ty t are meant has in
    c.in_ok-attribute_name.ensures ∙ ap (λ n. attribute_name n c.args.place) (elim c.match-text.branch [
      | in-Some w ↦ ap (λ b. b.now) w.name-is ∙ (w.as_str-name.ensures.value ∙ name_there _ c.text.result w.in-Some.name _ (c.text.ensures.text ∙ named) w.in-Some.is)
      | in-None w ↦ ap (λ b. b.now) w.name-is ∙ name_missing _ c.text.result _ (c.text.ensures.text ∙ named) w.in-None.is
    ])
