use Rattle.std.proofs.Common.{[], ◌++◌, ap, ◌∙◌}
use Rattle.std.specs.String.{string_bytes}
use Rattle.law_texts.specs.LineTexts.{comment_text, declare_datatype_text}
use Rattle.law_texts.specs.SharedTexts.{texts}
use Rattle.smt_script.proofs.PutsLemmas.{along, exits, stops, then}
use Rattle.smt_spelling.proofs.datatype.Datatype.put.Goals as goal

pub returns-in_err-comment : goal.returns-in_err-comment
returns-in_err-comment g c =
    let line = declare_datatype_text c.args.name.now [] (texts c.args.self.now.constructors.items) in
    exits c.from_residual.ensures.1 (along (ap (λ b. comment_text b ++ line) c.as_str.ensures.value) (stops line c.in_err-comment.ensures))

pub returns : goal.returns
returns g c =
    let line = declare_datatype_text c.args.name.now [] (texts c.as_slice.result.now) in
    along (ap (λ b. comment_text b ++ line) c.as_str.ensures.value ∙ ap (λ l. comment_text (string_bytes c.args.self.now.comment) ++ declare_datatype_text c.args.name.now [] (texts l)) c.as_slice.ensures.value) (then line c.in_ok-comment.ensures c.declare_datatype.ensures)
