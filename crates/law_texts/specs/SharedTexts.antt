-- The bytes of texts that their holders share, and of several things one behind the other.
use Rattle.std.specs.Prelude.{ℕ, map, List, [], ◌∷◌, ◌++◌, IfOk, Result, ◌≡◌}
use Rattle.std.specs.Rc.{rc_str_bytes}
use Rattle.std.specs.declared.rc.RcStr.{RcStr}
use Rattle.std.specs.declared.alloc.Global.{Global}

-- the bytes of texts
abbrev pub texts : List (RcStr Global) → List (List ℕ)
texts ts = map rc_str_bytes ts

-- the bytes of two texts
abbrev pub text_pair : (RcStr Global × RcStr Global) → (List ℕ × List ℕ)
text_pair p = (rc_str_bytes p.0, rc_str_bytes p.1)

-- the bytes of pairs of texts
abbrev pub text_pairs : List (RcStr Global × RcStr Global) → List (List ℕ × List ℕ)
text_pairs ps = map text_pair ps

-- these bytes, and behind them the bytes of all others
abbrev pub joined_behind : {X : Type 0} → (X → List ℕ) → List ℕ → List X → List ℕ
joined_behind bytes first [] = first
joined_behind bytes first (x ∷ xs) = first ++ joined_behind bytes (bytes x) xs

-- the bytes of each, one behind the other
abbrev pub joined : {X : Type 0} → (X → List ℕ) → List X → List ℕ
joined bytes [] = []
joined bytes (x ∷ xs) = joined_behind bytes (bytes x) xs

-- On Ok a text was given that has these bytes.
abbrev pub GivesText : {E : Type 0} → Result (RcStr Global) E → List ℕ → Type 0
GivesText result bytes = IfOk result (λ text. rc_str_bytes text ≡ bytes)
