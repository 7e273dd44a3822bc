-- The folding of the match of a string with a pattern stands for it.
use Rattle.std.proofs.Common.{List, refl}
use Rattle.std.specs.Str.{chars}
use Rattle.law_folding.specs.Applications.{string_like_of}
use Rattle.law_folding.specs.FoldStrings.{folded_string_like}
use Rattle.law_folding.specs.Refinement.{Refines}
use Rattle.law_folding.proofs.Standing.{itself, truth_standing}
use Rattle.law_terms.specs.Patterns.{matches}
use Rattle.law_terms.specs.Plain.{PatternPart, StringLiteral, PlainTerm, LiteralTerm}

pub stands_string_like : (t : PlainTerm) (p : List PatternPart) → Refines (folded_string_like t p) (string_like_of t p)
stands_string_like (LiteralTerm (StringLiteral s)) p = truth_standing (matches p (chars s)) (string_like_of (LiteralTerm (StringLiteral s)) p) refl (λ enums I h f g. refl)
stands_string_like t p = itself (string_like_of t p)
