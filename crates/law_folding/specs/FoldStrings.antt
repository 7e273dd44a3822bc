-- The folding of the match of a string with a pattern.
use Rattle.std.specs.Prelude.{List}
use Rattle.std.specs.Str.{chars}
use Rattle.law_folding.specs.Applications.{truth_literal, string_like_of}
use Rattle.law_terms.specs.Patterns.{matches}
use Rattle.law_terms.specs.Plain.{PatternPart, StringLiteral, PlainTerm, LiteralTerm}

-- a literal: whether its text matches
abbrev pub folded_string_like : PlainTerm → List PatternPart → PlainTerm
folded_string_like (LiteralTerm (StringLiteral s)) p = truth_literal (matches p (chars s))
folded_string_like t p = string_like_of t p
