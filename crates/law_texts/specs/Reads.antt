-- What stands at the front of a text.
use Rattle.std.specs.Prelude.{◌≡◌, ℕ, Bool, false, IsTrue, IfOk, IfSome, IfNone, Option, Result, if◌then◌else◌, List, [], ◌∷◌, ◌++◌}
use Rattle.std.specs.List.{flat_map}
use Rattle.law_texts.specs.Lexicon.{Quoted, stops, is_space, is_digit, quote_twice}

-- What a reader gave, unless memory ran out: a value of which P holds ..
abbrev pub IfRead : {X E : Type 0} → Result (Option X) E → (X → Type 0) → Type 0
IfRead result P = IfOk result (λ found. IfSome found P)

-- .. or nothing, and then P holds
abbrev pub IfUnread : {X E : Type 0} → Result (Option X) E → Type 0 → Type 0
IfUnread result P = IfOk result (λ found. IfNone found P)

-- the bytes from the first on that isn't white space
abbrev pub skip_space : List ℕ → List ℕ
skip_space [] = []
skip_space (b ∷ bs) = if is_space b then skip_space bs else (b ∷ bs)

-- a numeral begins
abbrev pub begins_number : List ℕ → Bool
begins_number [] = false
begins_number (b ∷ bs) = is_digit b

-- Behind an opening quote: this text, a quote inside it doubled, and the closing quote, after which no other follows.
pub record IsQuoted (bytes text rest : List ℕ) : Type 0 where
  pub spelled : bytes ≡ flat_map quote_twice text ++ 34 ∷ rest
  pub closed : IsTrue (stops (Quoted text) rest)
