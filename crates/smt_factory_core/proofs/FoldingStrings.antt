-- What the code's test of a string decides, in the words of its folding.
use Rattle.std.proofs.Common.{◌≡◌, ℕ, List, refl, ap, sym, subst}
use Rattle.std.specs.Prelude.{None}
use Rattle.std.specs.Str.{chars}
use Rattle.law_folding.specs.Applications.{truth_literal, string_like_of}
use Rattle.law_folding.specs.FoldStrings.{folded_string_like}
use Rattle.law_folding.specs.Parts.{text_inside}
use Rattle.law_folding.specs.Refinement.{Refines}
use Rattle.law_folding.proofs.StringsStand.{stands_string_like}
use Rattle.law_terms.specs.Patterns.{matches}
use Rattle.law_terms.specs.Plain.{PatternPart, StringLiteral, PlainTerm, LiteralTerm}

pub folded_string_like-text : (t : PlainTerm) (p : List PatternPart) (s : List ℕ) → t ≡ LiteralTerm (StringLiteral s) → folded_string_like t p ≡ truth_literal (matches p (chars s))
folded_string_like-text t p s e = ap (λ u. folded_string_like u p) e

pub folded_string_like-other : (t : PlainTerm) (p : List PatternPart) → text_inside t ≡ None → folded_string_like t p ≡ string_like_of t p
folded_string_like-other (LiteralTerm (StringLiteral s)) p e = cc
folded_string_like-other t p e = refl

pub stands_for_string_like : (r t : PlainTerm) (p : List PatternPart) → r ≡ folded_string_like t p → Refines r (string_like_of t p)
stands_for_string_like r t p e = subst (λ (x : PlainTerm). Refines x (string_like_of t p)) (sym e) (stands_string_like t p)

pub ruleset string_folding = (folded_string_like-text, folded_string_like-other, stands_for_string_like)
