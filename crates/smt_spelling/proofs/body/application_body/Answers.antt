use Rattle.std.proofs.Common.{◌∙◌}
use Rattle.smt_term.specs.View.{plain_op}
use Rattle.law_lines.specs.LineForms.{operator_head}
use Rattle.smt_spelling.proofs.body.application_body.Goals as goal

pub returns-clause-text : goal.returns-clause-text
returns-clause-text c es shown = c.headed_body.ensures.text (operator_head (plain_op c.args.op.now)) es (c.as_str.ensures.value ∙ c.in_ok-head.ensures) shown
