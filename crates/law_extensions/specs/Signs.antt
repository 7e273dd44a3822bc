-- What numbers with a sign have in common, in texts: the minus in front, and the bounds of 64 bits.
use Rattle.std.specs.Prelude.{ℕ, ◌^◌, Bool, ◌&&◌, ◌==◌, if◌then◌else◌, ℤ, pos, neg_ℤ, int_le, int_lt, Option, Some, None, List, drop}
use Rattle.std.specs.Prelude.{slice_index}

-- a minus stands first
abbrev pub has_minus : List ℕ → Bool
has_minus text = slice_index text 0 == 45

-- the text behind the minus, or the whole text where there is none
abbrev pub without_minus : List ℕ → List ℕ
without_minus text = if has_minus text then drop 1 text else text

-- from -2 to the 63 up to 2 to the 63, less one
abbrev pub is_long : ℤ → Bool
is_long value = int_le (neg_ℤ (pos (2 ^ 63))) value && int_lt value (pos (2 ^ 63))

-- the value, where the condition holds and it is in 64 bits
abbrev pub long_where : Bool → ℤ → Option ℤ
long_where condition value = if condition && is_long value then Some value else None
