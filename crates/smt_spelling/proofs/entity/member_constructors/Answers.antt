use Rattle.std.proofs.Common.{◌+◌, ◌<◌, ◌∷◌, ◌++◌, [], drop, length, map, sym, ap, ◌∙◌, append_assoc, append-nil, arith}
use Rattle.std.specs.Rc.{rc_str_bytes}
use Rattle.std.proofs.lemmas.List.{map-append}
use Rattle.law_texts.specs.SharedTexts.{texts}
use Rattle.smt_term.specs.TextSets.{texts_of}
use Rattle.law_lines.specs.Line.{spelled_constructor}
use Rattle.law_lines.specs.LineForms.{member_constructors}
use Rattle.smt_spelling.proofs.Members.{constructors_from, none_from}
use Rattle.smt_spelling.proofs.entity.member_constructors.Goals as goal

pub loop-place-init : goal.loop-place-init
loop-place-init c = ap (λ l. texts l ++ map spelled_constructor (member_constructors c.args.name.now 0 (texts_of c.args.members.now))) c.in_ok-constructors.ensures.items

pub loop-place-preserved : goal.loop-place-preserved
loop-place-preserved c =
    let ms = texts_of c.args.members.now in
    let name = c.args.name.now in
    let i = c.loop-place.place in
    let within : i < length ms = omega (arith, c.loop-place-test.true, c.len-count.ensures) in
    let rest = map spelled_constructor (member_constructors name (i + 1) (drop (i + 1) ms)) in
    ap (λ l. texts l ++ rest) c.in_ok-push.ensures.items
    ∙ ap (λ l. l ++ rest) (map-append rc_str_bytes c.loop-place.constructors.items (c.in_ok-member_constructor.field-0 ∷ []))
    ∙ append_assoc (texts c.loop-place.constructors.items) (rc_str_bytes c.in_ok-member_constructor.field-0 ∷ []) rest
    ∙ ap (λ t. texts c.loop-place.constructors.items ++ t ∷ rest) c.in_ok-member_constructor.ensures
    ∙ ap (λ cs. texts c.loop-place.constructors.items ++ map spelled_constructor cs) (sym (constructors_from name i ms within))
    ∙ c.loop-place.invariant

pub returns : goal.returns
returns c =
    let ms = texts_of c.args.members.now in
    let none = none_from c.args.name.now c.loop-place.place ms (omega (arith, c.loop-place-test.false, c.len-count.ensures)) in
    sym (append-nil (texts c.loop-place.constructors.items))
    ∙ ap (λ cs. texts c.loop-place.constructors.items ++ map spelled_constructor cs) (sym none)
    ∙ c.loop-place.invariant
