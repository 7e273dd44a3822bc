use Rattle.std.proofs.Common.{◌≡◌, ℕ, List, ap, subst, ◌∙◌}
use Rattle.std.specs.Prelude.{IfOk}
use Rattle.law_texts.specs.SharedTexts.{texts}
use Rattle.smt_term.specs.Pairs.{attributes_in}
use Rattle.law_lines.specs.Line.{spelled_lines}
use Rattle.law_lines.specs.LineForms.{record_lines}
use Rattle.law_lines.specs.Lines.{next_record}
use Rattle.smt_spelling.specs.Spelled.{AreSpelled}
use Rattle.smt_encode.specs.Alone.{sorts_given, PutUnder}
use Rattle.smt_encode.proofs.writer.Writer.put_record_type_of_pairs.Goals as goal

pub returns-clause-lines : goal.returns-clause-lines
returns-clause-lines g c s has =
    let pairs = c.args.rty.now in
    let attributes : texts c.as_slice.result.now ≡ attributes_in pairs = ap texts c.as_slice.ensures.value ∙ c.in_ok-attributes.ensures.attributes in
    let sorts : AreSpelled (sorts_given pairs) c.as_slice-2.result.now = ap texts c.as_slice-2.ensures.value ∙ c.in_ok-attributes.ensures.sorts in
    subst (λ (names : List (List ℕ)). IfOk c.put_record_type.result (PutUnder g.S.Sink.contents c.args.self.now.script c.put_record_type.new.self.script (next_record s) (spelled_lines (record_lines names (next_record s) (sorts_given pairs)))))
    attributes (c.put_record_type.ensures.lines s (sorts_given pairs) has sorts)
