use Rattle.std.proofs.Common.{◌∷◌, ◌++◌, []}
use Rattle.std.specs.String.{string_bytes}
use Rattle.smt_sexpr.proofs.Decoding.{all_decoded, no_character, one_decoded}
use Rattle.smt_sexpr.proofs.escape.decode.Goals as goal

pub returns-in_default-clause-found : goal.returns-in_default-clause-found
returns-in_default-clause-found c =
    let i = c.loop-point.invariant in
    (all_decoded i.0 c.args.text.now c.loop-point.rest.now (string_bytes c.loop-point.characters) i.1 i.2 i.3 c.in_default.ensures.none).0

pub returns-in_default-clause-held : goal.returns-in_default-clause-held
returns-in_default-clause-held c =
    let i = c.loop-point.invariant in
    (all_decoded i.0 c.args.text.now c.loop-point.rest.now (string_bytes c.loop-point.characters) i.1 i.2 i.3 c.in_default.ensures.none).1

pub returns-in_default-from_u32-clause-held : goal.returns-in_default-from_u32-clause-held
returns-in_default-from_u32-clause-held c =
    let i = c.loop-point.invariant in
    no_character i.0 c.args.text.now c.loop-point.rest.now c.in-Some.behind.now c.in-Some.point i.2 i.3 c.in-Some.ensures.found c.in_default-from_u32.ensures.value

pub loop-point-preserved : goal.loop-point-preserved
loop-point-preserved c =
    let i = c.loop-point.invariant in
    let v = c.in-Some-from_u32.ensures.value in
    let o = one_decoded i.0 c.args.text.now c.loop-point.rest.now c.in-Some.behind.now (string_bytes c.loop-point.characters) _ c.in-Some.point c.in-Some-from_u32.c i.1 i.2 i.3 c.in-Some.ensures.found v.0 v.1 c.in_ok-push.ensures.bytes in
    (i.0 ++ c.in-Some.point ∷ [], o.0, o.1, o.2)
