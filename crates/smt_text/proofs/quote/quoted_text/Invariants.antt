use Rattle.std.proofs.Common.{◌≡◌, ◌++◌, length, drop}
use Rattle.std.specs.Prelude.{codes}
use Rattle.std.specs.Str.{chars}
use Rattle.std.specs.List.{flat_map}
use Rattle.std.specs.String.{string_bytes}
use Rattle.law_texts.specs.Quoting.{quoted_character}
use Rattle.smt_text.proofs.quote.quoted_text.Given as goal

-- what is written so far and what is left are the characters that quoting gives
abbrev pub invariant-loop-c : goal.invariant-loop-c
invariant-loop-c l = string_bytes l.text ++ flat_map quoted_character (drop (length l.yielded) (chars l.s)) ≡ codes "\"" ++ flat_map quoted_character (chars l.s)
