-- What the search of a pattern in a text finds: how the text compares with the characters before a wildcard.
use Rattle.std.specs.Prelude.{◌≡◌, ℕ, ◌+◌, Bool, true, false, List, ◌∷◌, ◌++◌, length, map}
use Rattle.std.specs.Str.{IsUtf8, chars}
use Rattle.law_terms.specs.Patterns.{matches}
use Rattle.smt_term.specs.PatternView.{plain_part}
use Rattle.law_terms.specs.Plain.{PatternPart, Character, Wildcard}
use Rattle.smt_term.specs.declared.pattern.Front.{Front}
use Rattle.smt_term.specs.declared.pattern.Front.TheVariants.{Continues, Differs, Ends}

-- p and s begin with the same characters, and behind them q and r are left
pub record Passes (p : List PatternPart) (s : List ℕ) (q : List PatternPart) (r : List ℕ) : Type 0 where
  pub taken : List ℕ
  pub elements : p ≡ map Character taken ++ q
  pub characters : s ≡ taken ++ r

-- how s compares with the characters before the first wildcard of p
abbrev pub IsFront : List PatternPart → List ℕ → Front → Type 0
IsFront p s (Continues elems text) = Passes p s (Wildcard ∷ map plain_part elems.now) (chars text.now) × IsUtf8 text.now
IsFront p s Differs = matches p s ≡ false
IsFront p s Ends = matches p s ≡ true

-- whether what is left is matched
abbrev pub front_matches : Front → Bool
front_matches (Continues elems text) = matches (Wildcard ∷ map plain_part elems.now) (chars text.now)
front_matches Differs = false
front_matches Ends = true

-- how many elements of the pattern are left
abbrev pub front_size : Front → ℕ
front_size (Continues elems text) = length elems.now + 1
front_size Differs = 0
front_size Ends = 0

-- what is left of the text is a text
abbrev pub LeavesText : Front → Type 0
LeavesText (Continues elems text) = IsUtf8 text.now
LeavesText Differs = Unit {0}
LeavesText Ends = Unit {0}
