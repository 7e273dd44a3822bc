use Rattle.law_texts.specs.SharedTexts.{texts}
use Rattle.law_lines.specs.Lines.{encode_function}
use Rattle.law_terms.specs.Plain.{UufOp}
use Rattle.law_scripts.specs.Script.{name}
use Rattle.smt_term.specs.View.{plain_function}
use Rattle.std.proofs.Common.{map, ◌∙◌}
use Rattle.smt_spelling.specs.Names.{enums_under}
use Rattle.smt_encode.proofs.Applying.{applied}
use Rattle.smt_encode.proofs.Bodies.{as_they_stand}
use Rattle.smt_spelling.proofs.Named.{names_alone}
use Rattle.smt_encode.proofs.writer.Writer.put_call.Goals as goal

pub returns-clause-lines : goal.returns-clause-lines
returns-clause-lines g c s has =
    let f = plain_function c.args.function.now in
    let w = encode_function (enums_under c.args.self.now.names) f s in
    let es = texts c.args.t_encs.now in
    let wrote = c.in_ok-name.ensures.lines s has in
    let body = c.as_str-2.ensures.value ∙ c.in_ok-body.ensures w.made (map name es) (c.as_str.ensures.value ∙ wrote.1) (as_they_stand es) in
    applied g.S.Sink.contents c.args.self.now c.put_subject.new.self c.put_term.new.self w (UufOp f) c.args.ty_enc.now es c.as_str-2.result.now c.put_term.result wrote.0 c.put_term.ensures.alone.names body
    (c.put_term.ensures.lines w.tables (names_alone c.put_subject.new.self.names w.tables wrote.0.names))
