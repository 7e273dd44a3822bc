-- What a part of a text states: itself, or the first fault in it.
use Rattle.std.specs.Prelude.{Option, Some, None, Ok, Err, Result}

infixl 10 ◌>>=◌
-- the fault of the one, or else what the other makes of the thing that the one states: so what stands first has its fault told first
abbrev pub ◌>>=◌ : {A B E : Type 0} → Result A E → (A → Result B E) → Result B E
Ok a >>= f = f a
Err fault >>= f = Err fault

-- what there is, or else this fault
abbrev pub demanded : {A E : Type 0} → E → Option A → Result A E
demanded fault (Some a) = Ok a
demanded fault None = Err fault
