use Rattle.std.proofs.Common.{[], arith, map, refl, rules}
use Rattle.std.proofs.Output.{has_written_append, has_written_of_eq, writes_in_calls_nil}
use Rattle.std.specs.List.{flat_map}
use Rattle.smt_term.specs.PatternView.{plain_part}
use Rattle.smt_term.specs.Printed.{part_text}
use Rattle.smt_term.proofs.PrintedTexts.{next_item, no_item}
use Rattle.smt_term.proofs.printed.put_parts.Goals as goal

pub loop-part-init : goal.loop-part-init
loop-part-init g c = λ plain. ([], record { wrote = writes_in_calls_nil _ _; plain = plain }, refl)

pub loop-part-preserved : goal.loop-part-preserved
loop-part-preserved g c = λ plain.
    let now = c.loop-part.invariant plain in
    let one = c.put_part.ensures now.1.plain (search rules) in
    (_, has_written_append _ _ _ _ _ _ now.1 one, next_item (λ ps. flat_map part_text (map plain_part ps)) (λ p. part_text (plain_part p)) (λ x xs. refl) now.0 _ c.args.parts.now c.loop-part.part-index _ c.loop-part-test.true now.2)

pub returns : goal.returns
returns g c plain ok =
    let now = c.loop-part.invariant plain in
    has_written_of_eq _ _ _ _ _ (no_item (λ ps. flat_map part_text (map plain_part ps)) refl now.0 _ c.args.parts.now c.loop-part.part-index (omega (arith, c.loop-part-test.false)) now.2) now.1
