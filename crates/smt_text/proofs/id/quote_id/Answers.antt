use Rattle.std.proofs.Common.{ℕ, List, ◌++◌, length, refl, ap, ◌∙◌, arith, lit<}
use Rattle.std.specs.String.{string_bytes}
use Rattle.std.proofs.lemmas.Iterator.{YieldsList-from_chars}
use Rattle.std.proofs.lemmas.List.{length_push}
use Rattle.std.proofs.lemmas.Iterator.Consumers.{YieldsList-turn, YieldsList-end}
use Rattle.std.proofs.Math.Utf8.{encode}
use Rattle.std.proofs.lemmas.Str.{encodes-chars}
use Rattle.std.specs.Prelude.{codes, encode_utf8_all}
use Rattle.std.specs.Str.{chars}
use Rattle.std.specs.List.{flat_map}
use Rattle.law_texts.specs.Quoting.{quoted_id_byte}
use Rattle.law_texts.proofs.Ids.{one_more}
use Rattle.law_texts.proofs.Quotes.{next_character, closed}
use Rattle.smt_text.proofs.id.quote_id.Goals as goal

-- what is written of the characters of an id
abbrev written_of : List ℕ → List ℕ
written_of cs = flat_map quoted_id_byte (encode_utf8_all cs)

pub loop-c-preserved : goal.loop-c-preserved
loop-c-preserved c =
    let t = YieldsList-turn (YieldsList-from_chars c.args.id.now c.utf8.id cc) c.loop-c.yielded _ c.loop-c.yielded_by _ _ c.in-Some.c c.in-Some.is c.next.ensures.steps in
    rw (length_push c.loop-c.yielded c.in-Some.c) (next_character written_of (λ d. flat_map quoted_id_byte (encode d)) one_more _ _ _ (chars c.args.id.now) (length c.loop-c.yielded) c.in-Some.c t.0 t.1 c.in_ok-push_escaped.ensures c.loop-c.invariant)

pub returns : goal.returns
returns c =
    let t = YieldsList-end (YieldsList-from_chars c.args.id.now c.utf8.id cc) c.loop-c.yielded _ c.loop-c.yielded_by _ _ c.in-None.is c.next.ensures.steps in
    closed written_of refl _ _ (chars c.args.id.now) (length c.loop-c.yielded) (omega (arith, t.1)) (c.in_ok-push.ensures.bytes ∙ ap (λ x. string_bytes c.loop-c.quoted ++ x) (c.in_ok-push.ensures.ascii (lit< tt))) c.loop-c.invariant
    ∙ ap (λ x. codes "\"" ++ (flat_map quoted_id_byte x ++ codes "\"")) (encodes-chars c.args.id.now c.utf8.id)
