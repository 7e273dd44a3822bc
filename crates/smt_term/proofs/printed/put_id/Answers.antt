use Rattle.std.proofs.Common.{[], ◌++◌, ◌+◌, ◌≡◌, drop, length, arith, refl, rules, subst, sym}
use Rattle.std.proofs.Output.{has_written_append, has_written_of_eq, writes_in_calls_nil}
use Rattle.std.proofs.lemmas.Iterator.{YieldsList-from_chars}
use Rattle.std.proofs.lemmas.Iterator.Consumers.{YieldsList-turn, YieldsList-end}
use Rattle.std.proofs.lemmas.List.{length_push}
use Rattle.std.specs.List.{flat_map}
use Rattle.std.specs.Str.{chars}
use Rattle.smt_term.specs.Printed.{character_text}
use Rattle.smt_term.proofs.PrintedTexts.{next_item, no_item}
use Rattle.smt_term.proofs.printed.put_id.Goals as goal

pub loop-c-init : goal.loop-c-init
loop-c-init g c = λ plain. ([], record { wrote = writes_in_calls_nil _ _; plain = plain }, refl)

pub loop-c-preserved : goal.loop-c-preserved
loop-c-preserved g c = λ plain.
    let now = c.loop-c.invariant plain in
    let one = c.put_character.ensures now.1.plain (search rules) in
    let t = YieldsList-turn (YieldsList-from_chars c.args.id.now c.utf8.id cc) c.loop-c.yielded _ c.loop-c.yielded_by _ _ c.in-Some.c c.in-Some.is c.next.ensures.steps in (
      now.0 ++ character_text c.in-Some.c,
      has_written_append _ _ _ _ _ _ now.1 one,
      rw (length_push c.loop-c.yielded c.in-Some.c) (subst (λ x. (now.0 ++ character_text x) ++ flat_map character_text (drop (length c.loop-c.yielded + 1) (chars c.args.id.now)) ≡ flat_map character_text (chars c.args.id.now)) (sym t.1) (next_item (flat_map character_text) character_text (λ x xs. refl) now.0 _ (chars c.args.id.now) (length c.loop-c.yielded) c.in-Some.c t.0 now.2)),
    )

pub returns : goal.returns
returns g c plain ok =
    let now = c.loop-c.invariant plain in
    let t = YieldsList-end (YieldsList-from_chars c.args.id.now c.utf8.id cc) c.loop-c.yielded _ c.loop-c.yielded_by _ _ c.in-None.is c.next.ensures.steps in
    has_written_of_eq _ _ _ _ _ (no_item (flat_map character_text) refl now.0 _ (chars c.args.id.now) (length c.loop-c.yielded) (omega (arith, t.1)) now.2) now.1
