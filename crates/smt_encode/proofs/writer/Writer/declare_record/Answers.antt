use Rattle.std.proofs.Common.{ℕ, List, ap, refl, subst, sym, ◌∙◌}
use Rattle.std.specs.Io.KnownBytes.{append_known}
use Rattle.law_texts.specs.SharedTexts.{texts}
use Rattle.law_terms.specs.Nodes.{RecordLabel, TypeMeaning}
use Rattle.smt_nodes.specs.Attributes.{attributes_of}
use Rattle.law_lines.specs.Line.{spelled_lines}
use Rattle.law_lines.specs.LineForms.{record_lines}
use Rattle.law_lines.specs.Lines.{next_record}
use Rattle.law_terms.specs.Plain.{RecordType}
use Rattle.smt_nodes.specs.Interned.{meaning_in}
use Rattle.smt_spelling.specs.Names.{enums_under, nodes_under, KeepTables}
use Rattle.smt_spelling.specs.NodeEntries.{declare_by}
use Rattle.smt_spelling.specs.Spelled.{IsSpelled}
use Rattle.smt_spelling.specs.NodeLines.{with_name}
use Rattle.smt_spelling.specs.declared.names.Names.{Names}
use Rattle.smt_spelling.proofs.Named.{names_alone}
use Rattle.smt_encode.proofs.Stopping.{all_of_it, own_part, own_stops, part_along}
use Rattle.smt_encode.proofs.writer.Writer.declare_record.Goals as goal

pub enter_type-requires-clause-meant : goal.enter_type-requires-clause-meant
enter_type-requires-clause-meant g c =
    let (m, meant) = c.requires.meant in
    (m, ap (λ n. meaning_in (nodes_under n) c.args.id) c.in_ok-name.ensures.alone.names ∙ meant)

pub returns-clause-lines : goal.returns-clause-lines
returns-clause-lines g c x es s meant shown has =
    let same = c.in_ok-name.ensures.alone.names in
    let put = c.in_ok-name.ensures.lines s es (names_alone c.args.self.now.names s has) shown in
    let keeps = subst (λ (n : Names). KeepTables n s) (sym same) has in
    let there = ap (λ n. meaning_in (nodes_under n) c.args.id) same ∙ meant in
    let names = subst (λ (n : List ℕ). KeepTables c.enter_type.new.self (with_name s (TypeMeaning (RecordType x)) n)) (c.in_ok-clone.ensures.cases ∙ put.named) (c.enter_type.ensures.tables s (RecordType x) keeps there refl) in
    (record { names = names; contents_are = put.got ∙ ap (λ l. append_known (g.S.Sink.contents c.args.self.now.script) (spelled_lines (record_lines (texts l) (next_record s) es))) c.items.ensures }, put.named)

pub returns-in_err-name-clause-lines : goal.returns-in_err-name-clause-lines
returns-in_err-name-clause-lines g c x es s meant shown has =
    own_stops (declare_by (enums_under c.args.self.now.names) (RecordLabel (texts (attributes_of c.args.names.now))) (RecordType x) es s) IsSpelled _ c.from_residual.result c.from_residual.ensures.1
    (own_part c.args.self.now c.put_record_type.new.self _ s
    (part_along _ _ _ _ (ap (λ l. spelled_lines (record_lines (texts l) (next_record s) es)) c.items.ensures) (c.in_err-name.ensures.part s es (names_alone c.args.self.now.names s has) shown))
    (subst (λ (n : Names). KeepTables n s) (sym c.in_err-name.ensures.alone.names) has))

pub returns-in_err-clone-clause-lines : goal.returns-in_err-clone-clause-lines
returns-in_err-clone-clause-lines g c x es s meant shown has =
    let put = c.in_ok-name.ensures.lines s es (names_alone c.args.self.now.names s has) shown in
    own_stops (declare_by (enums_under c.args.self.now.names) (RecordLabel (texts (attributes_of c.args.names.now))) (RecordType x) es s) IsSpelled _ c.from_residual-in_err-clone.result c.from_residual-in_err-clone.ensures.1
    (own_part c.args.self.now c.put_record_type.new.self _ s
    (all_of_it _ _ _ (put.got ∙ ap (λ l. append_known (g.S.Sink.contents c.args.self.now.script) (spelled_lines (record_lines (texts l) (next_record s) es))) c.items.ensures))
    (subst (λ (n : Names). KeepTables n s) (sym c.in_ok-name.ensures.alone.names) has))
