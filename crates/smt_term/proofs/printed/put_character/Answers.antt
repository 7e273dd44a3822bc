use Rattle.std.proofs.Common.{arith, ◌≢◌, sym}
use Rattle.std.proofs.Output.{has_written_of_eq}
use Rattle.smt_term.proofs.PrintedTexts.{raw_character}
use Rattle.smt_term.proofs.printed.put_character.Goals as goal

pub returns-else-is_ascii_control : goal.returns-else-is_ascii_control
returns-else-is_ascii_control g c plain ok =
    let quote : c.args.c ≢ 34 = omega arith in
    let apostrophe : c.args.c ≢ 39 = omega arith in
    let backslash : c.args.c ≢ 92 = omega arith in
    has_written_of_eq _ _ _ _ _ (sym (raw_character c.args.c c.if-is_ascii_control.ensures.cases quote apostrophe backslash)) (c.write_char.ensures.writes plain ok)
