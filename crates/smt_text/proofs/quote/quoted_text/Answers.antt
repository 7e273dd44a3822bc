use Rattle.std.proofs.Common.{◌++◌, length, ap, ◌∙◌, arith, lit<, refl}
use Rattle.std.specs.List.{flat_map}
use Rattle.std.specs.Str.{chars}
use Rattle.std.specs.String.{string_bytes}
use Rattle.std.proofs.lemmas.Iterator.{YieldsList-from_chars}
use Rattle.std.proofs.lemmas.Iterator.Consumers.{YieldsList-turn, YieldsList-end}
use Rattle.std.proofs.lemmas.List.{length_push}
use Rattle.law_texts.specs.Quoting.{quoted_character}
use Rattle.law_texts.proofs.Quotes.{next_character, closed}
use Rattle.smt_text.proofs.quote.quoted_text.Goals as goal

pub loop-c-preserved : goal.loop-c-preserved
loop-c-preserved c =
    let t = YieldsList-turn (YieldsList-from_chars c.args.s.now c.utf8.s cc) c.loop-c.yielded _ c.loop-c.yielded_by _ _ c.in-Some.c c.in-Some.is c.next.ensures.steps in
    rw (length_push c.loop-c.yielded c.in-Some.c) (next_character (flat_map quoted_character) quoted_character (λ d ds. refl) _ _ _ (chars c.args.s.now) (length c.loop-c.yielded) c.in-Some.c t.0 t.1 c.in_ok-push_quoted.ensures c.loop-c.invariant)

pub returns : goal.returns
returns c =
    let t = YieldsList-end (YieldsList-from_chars c.args.s.now c.utf8.s cc) c.loop-c.yielded _ c.loop-c.yielded_by _ _ c.in-None.is c.next.ensures.steps in
    closed (flat_map quoted_character) refl _ _ (chars c.args.s.now) (length c.loop-c.yielded) (omega (arith, t.1)) (c.in_ok-push.ensures.bytes ∙ ap (λ x. string_bytes c.loop-c.text ++ x) (c.in_ok-push.ensures.ascii (lit< tt))) c.loop-c.invariant
