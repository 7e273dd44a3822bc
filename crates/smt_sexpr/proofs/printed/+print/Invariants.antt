use denote.Text.{Utf8}
use denote.Shadow.{shadow}
use Rattle.std.proofs.Common.{ℕ, ◌≡◌, ◌++◌, List, map, drop}
use Rattle.std.specs.Prelude.{codes}
use Rattle.std.specs.Fmt.{HasWritten, IsPlainFormatter}
use Rattle.law_texts.proofs.Joined.{joined_from}
use Rattle.law_texts.specs.LineTexts.{spaced}
use Rattle.smt_sexpr.proofs.PrintedTexts.{printed_expression}
use Rattle.smt_sexpr.proofs.printed.+print.Given as goal

-- what is written so far and what is left are all expressions
abbrev pub invariant-put_items-loop-item : goal.invariant-put_items-loop-item
invariant-put_items-loop-item g l = record {
  is_text : shadow (Utf8 l.gap);
  going : IsPlainFormatter l.initial.f → (done : List ℕ) × HasWritten g.W.Write.write_str_gives l.initial.f done l.f
      × (done ++ joined_from (λ x. x) l.gap (codes " ") (map printed_expression (drop l.item-index l.items)) ≡ spaced (map printed_expression l.items));
}
