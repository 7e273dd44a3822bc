use Rattle.std.proofs.Common.{◌++◌, [], ◌∷◌, sym, ap, ◌∙◌}
use Rattle.std.specs.Prelude.{encode_utf8, is_some}
use Rattle.law_texts.specs.Lexicon.{Text}
use Rattle.law_texts.specs.Reading.{Leaf}
use Rattle.law_texts.specs.QuotedTexts.{quoted}
use Rattle.smt_spelling.proofs.Patterned.{allowed_alone, chars_alone}
use Rattle.smt_spelling.proofs.pattern.character_text.Goals as goal

pub returns-in-Some-clause-text : goal.returns-in-Some-clause-text
returns-in-Some-clause-text c =
    let bytes = c.as_str.ensures.value ∙ c.in_ok-push.ensures.bytes ∙ ap (λ l. l ++ encode_utf8 c.args.c) c.new-alone.ensures.bytes in
    let only = chars_alone _ c.args.c c.as_str.utf8 bytes in
    let found = rw c.in-Some.is at c.in_ok-quoted.ensures.found in
    c.in_ok-to_re_text-in-Some.ensures (Leaf (Text (c.args.c ∷ []))) (found ∙ ap quoted only)

pub returns-in-Some-clause-some : goal.returns-in-Some-clause-some
returns-in-Some-clause-some c =
    let bytes = c.as_str.ensures.value ∙ c.in_ok-push.ensures.bytes ∙ ap (λ l. l ++ encode_utf8 c.args.c) c.new-alone.ensures.bytes in
    sym (ap is_some c.in-Some.is) ∙ c.in_ok-quoted.ensures.some ∙ allowed_alone _ c.args.c (chars_alone _ c.args.c c.as_str.utf8 bytes)

pub returns-clause-some : goal.returns-clause-some
returns-clause-some c =
    let bytes = c.as_str.ensures.value ∙ c.in_ok-push.ensures.bytes ∙ ap (λ l. l ++ encode_utf8 c.args.c) c.new-alone.ensures.bytes in
    sym (ap is_some c.in-None.is) ∙ c.in_ok-quoted.ensures.some ∙ allowed_alone _ c.args.c (chars_alone _ c.args.c c.as_str.utf8 bytes)
