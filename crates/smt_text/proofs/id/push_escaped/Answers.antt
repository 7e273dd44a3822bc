use Rattle.std.proofs.Common.{arith, ◌≢◌}
use Rattle.std.proofs.lemmas.Grind.{common_steps}
use Rattle.law_texts.proofs.Ids.{plain_character}
use Rattle.smt_text.proofs.id.push_escaped.Goals as goal

pub returns-else-is_ascii_control : goal.returns-else-is_ascii_control
returns-else-is_ascii_control c =
    let quote : c.args.c ≢ 34 = omega arith in
    let backslash : c.args.c ≢ 92 = omega arith in
    rw (plain_character c.args.c c.if-is_ascii_control.ensures.cases quote backslash) (grind (arith, common_steps))
