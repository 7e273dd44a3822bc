use denote.Text.{Utf8}
use denote.Shadow.{shadow}
use Rattle.std.proofs.Common.{ℕ, ◌≡◌, ◌++◌, List, map, drop}
use Rattle.std.specs.Prelude.{codes}
use Rattle.std.specs.Fmt.{HasWritten, IsPlainFormatter}
use Rattle.law_texts.proofs.Joined.{joined_from}
use Rattle.law_texts.specs.LineTexts.{comma_separated}
use Rattle.smt_term.proofs.PrintedTexts.{printed_field, printed_term}
use Rattle.smt_term.proofs.printed.+print.Given as goal

-- what is written so far and what is left are all fields
abbrev pub invariant-put_fields-loop-name : goal.invariant-put_fields-loop-name
invariant-put_fields-loop-name g l = record {
  is_text : shadow (Utf8 l.before);
  going : IsPlainFormatter l.initial.f → (done : List ℕ) × HasWritten g.W.Write.write_str_gives l.initial.f done l.f
      × (done ++ joined_from (λ x. x) l.before (codes ", ") (map printed_field (drop l.name-index l.pairs)) ≡ comma_separated (map printed_field l.pairs));
}

-- the same of terms
abbrev pub invariant-put_terms-loop-item : goal.invariant-put_terms-loop-item
invariant-put_terms-loop-item g l = record {
  is_text : shadow (Utf8 l.gap);
  going : IsPlainFormatter l.initial.f → (done : List ℕ) × HasWritten g.W.Write.write_str_gives l.initial.f done l.f
      × (done ++ joined_from (λ x. x) l.gap (codes ", ") (map printed_term (drop l.item-index l.items)) ≡ comma_separated (map printed_term l.items));
}
