use Rattle.std.proofs.Common.{◌≡◌, ◌++◌, length, ap, ◌∙◌, sym}
use Rattle.std.proofs.lemmas.Str.{chars_past_char}
use Rattle.std.specs.Char.{encode_utf8}
use Rattle.smt_term.proofs.PatternSearch.{no_chars}
use Rattle.smt_term.proofs.pattern.split_char.Goals as goal

pub returns-in-Some : goal.returns-in-Some
returns-in-Some c =
    let e : c.args.text.now ≡ encode_utf8 c.in-Some.first ++ c.as_str.result.now = sym c.chars-left.ensures.rest ∙ (c.in-Some.ensures.steps.0 ∙ ap (λ r. encode_utf8 c.in-Some.first ++ r) (sym c.as_str.ensures)) in
    (chars_past_char c.args.text.now c.as_str.result.now c.in-Some.first c.utf8.text e, c.as_str.utf8)

pub returns-in-None : goal.returns-in-None
returns-in-None c = no_chars c.args.text.now (ap length (sym c.chars-left.ensures.rest) ∙ c.in-None.ensures.steps.0.0)
