use Rattle.std.proofs.Common.{ap, map, ◌∙◌}
use Rattle.std.specs.Rc.{rc_str_bytes}
use Rattle.smt_term.specs.View.{plain_op}
use Rattle.law_lines.specs.LineForms.{operands}
use Rattle.law_texts.specs.SharedTexts.{texts}
use Rattle.smt_spelling.proofs.Bracketed.{bracketed}
use Rattle.smt_spelling.proofs.body.headed_body.Goals as goal

pub returns-clause-text : goal.returns-clause-text
returns-clause-text c h es head shown =
    let all = ap (map rc_str_bytes) c.as_slice.ensures.value ∙ c.in_ok-push_pattern.ensures.operands es shown in
    c.in_ok-application_text.ensures ∙ bracketed _ h (texts c.as_slice.result.now) (operands (plain_op c.args.op.now) es) head all
