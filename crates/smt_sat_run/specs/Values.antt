-- The lines that spell truths of variables, as solvers print them.
use Rattle.std.specs.Prelude.{ℕ, ◌≡◌, ◌≤◌, ◌+◌, Bool, not, codes, decimal, length, map, List, [], ◌∷◌, ◌++◌}
use Rattle.std.specs.List.{AllByRecursion, flat_map, range_with_len}
use Rattle.law_clauses.specs.Clauses.{Truths}
use Rattle.law_texts.specs.Digits.{minus_if}

-- the literal of a variable that is true: variables are numbered from 1 in texts
abbrev pub value_word : Truths → ℕ → List ℕ
value_word v n = minus_if (not (v n)) ++ decimal (n + 1)

-- the true literals of so many variables, in order, and a 0 behind them
abbrev pub value_words : Truths → ℕ → List (List ℕ)
value_words v variables = map (value_word v) (range_with_len 0 variables) ++ codes "0" ∷ []

-- a line begins with v, and before each word stands a space
abbrev pub begun_line : List (List ℕ) → List ℕ
begun_line words = codes "v" ++ flat_map (λ word. codes " " ++ word) words

abbrev pub value_line : List (List ℕ) → List ℕ
value_line words = begun_line words ++ codes "\n"

-- a line has at most 78 characters
abbrev pub IsShort : List (List ℕ) → Type 0
IsShort words = length (begun_line words) ≤ 78

-- The text spells the truths of so many variables, in some lines.
pub record SpellsTruths (v : Truths) (variables : ℕ) (text : List ℕ) : Type 0 where
  pub lines : List (List (List ℕ))
  pub text_is : text ≡ flat_map value_line lines
  pub short : AllByRecursion IsShort lines
  pub words : flat_map (λ line. line) lines ≡ value_words v variables
