-- What the private functions of the reader of IP ranges say.
use Rattle.std.specs.Prelude.{◌≢◌, ℕ, Bool, ◌||◌, ◌&&◌, ◌==◌, nat_lt, Option, List, [], ◌∷◌, length, slice_index}
use Rattle.smt_ext.specs.IpRanges.{Range, address_bits}
use Rattle.smt_ext.specs.IpText.{WritesAddress, WritesPrefix}

-- none of the bytes is this one
abbrev pub HasNo : ℕ → List ℕ → Type 0
HasNo byte [] = Unit {0}
HasNo byte (b ∷ bs) = (b ≢ byte) × HasNo byte bs

-- an address's text and the digits of a prefix write the range
abbrev pub WritesParts : List ℕ → Option (List ℕ) → Range → Type 0
WritesParts text digits r = WritesAddress r.family text r.address × WritesPrefix (address_bits r.family) digits r.prefix

-- a sign stands in front, or a zero that is not the only digit
abbrev pub is_padded : List ℕ → Bool
is_padded digits = (slice_index digits 0 == 43) || (nat_lt 1 (length digits) && (slice_index digits 0 == 48))
