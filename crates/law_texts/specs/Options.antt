-- What may be there, asked for one after the other.
use Rattle.std.specs.Prelude.{Option}
use Rattle.std.specs.Option.{option_and_then}

infixl 10 ◌>>=◌
-- `option_and_then` of std, written between what is asked for first and what is asked for then
abbrev pub ◌>>=◌ : {A B : Type 0} → Option A → (A → Option B) → Option B
o >>= f = option_and_then f o
