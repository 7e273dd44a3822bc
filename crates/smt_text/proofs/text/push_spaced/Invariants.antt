use denote.Text.{Utf8}
use denote.Shadow.{shadow}
use Rattle.std.proofs.Common.{◌≡◌, ◌++◌, drop, []}
use Rattle.std.specs.Prelude.{codes}
use Rattle.std.specs.String.{string_bytes}
use Rattle.law_texts.specs.SharedTexts.{texts}
use Rattle.law_texts.proofs.Joined.{joined_from}
use Rattle.smt_text.proofs.text.push_spaced.Given as goal

-- what is written so far and what is left are all
abbrev pub invariant-loop-piece : goal.invariant-loop-piece
invariant-loop-piece l = record {
  is_text : shadow (Utf8 l.gap);
  going : string_bytes l.text ++ joined_from (λ x. x) l.gap (codes " ") (texts (drop l.piece-index l.pieces)) ≡ string_bytes l.fn.text ++ joined_from (λ x. x) [] (codes " ") (texts l.pieces);
}
