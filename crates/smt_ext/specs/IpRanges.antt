-- IP ranges as sets of addresses. Addresses are whole numbers.
use Rattle.std.specs.Prelude.{◌≡◌, ℕ, ◌-◌, ◌*◌, ◌/◌, ◌^◌, ◌<◌, ◌⊎◌, Option, Some, None, unwrap_or, ◌==◌, if◌then◌else◌}

-- the two versions of the Internet Protocol
pub data Family : Type 0 where
  Version4 : Family
  Version6 : Family

-- how many bits an address has
abbrev pub address_bits : Family → ℕ
address_bits Version4 = 32
address_bits Version6 = 128

-- A range: an address, and how many of its first bits all addresses of the range have. No prefix stands for all bits: a range of one
-- address.
pub record Range : Type 0 where
  pub family : Family
  pub address : ℕ
  pub prefix : Option ℕ

-- the number of first bits that all addresses have
abbrev pub prefix_bits : Range → ℕ
prefix_bits r = unwrap_or r.prefix (address_bits r.family)

-- the number of last bits that are free
abbrev pub free_bits : Range → ℕ
free_bits r = address_bits r.family - prefix_bits r

-- the prefix of so many bits, of `most`; all bits are no prefix
abbrev pub prefix_of : ℕ → ℕ → Option ℕ
prefix_of most bits = if bits == most then None else Some bits

-- The address lies in the range: it has the first bits of the range's own address, so both have one quotient by 2 to the free bits.
pub record IsIn (address : ℕ) (r : Range) : Type 0 where
  pub is_address : address < 2 ^ address_bits r.family
  pub has_prefix : address / 2 ^ free_bits r ≡ r.address / 2 ^ free_bits r

-- Both are of one family, and every address of the inner range lies in the outer one.
pub record LiesIn (inner outer : Range) : Type 0 where
  pub one_family : inner.family ≡ outer.family
  pub every : (address : ℕ) → IsIn address inner → IsIn address outer

-- 127.0.0.0/8
abbrev pub loopback_v4 : Range
loopback_v4 = record { family = Version4; address = 127 * 2 ^ 24; prefix = Some 8 }

-- ::1
abbrev pub loopback_v6 : Range
loopback_v6 = record { family = Version6; address = 1; prefix = None }

-- 224.0.0.0/4
abbrev pub multicast_v4 : Range
multicast_v4 = record { family = Version4; address = 224 * 2 ^ 24; prefix = Some 4 }

-- ff00::/8
abbrev pub multicast_v6 : Range
multicast_v6 = record { family = Version6; address = 0xff * 2 ^ 120; prefix = Some 8 }

-- the address 0.0.0.0
abbrev pub zero_v4 : Range
zero_v4 = record { family = Version4; address = 0; prefix = None }

-- every address of the range is a loopback address: it lies in 127.0.0.0/8 or is ::1
abbrev pub IsLoopback : Range → Type 0
IsLoopback r = LiesIn r loopback_v4 ⊎ LiesIn r loopback_v6

-- every address of the range is a multicast address: it lies in 224.0.0.0/4 or in ff00::/8
abbrev pub IsMulticast : Range → Type 0
IsMulticast r = LiesIn r multicast_v4 ⊎ LiesIn r multicast_v6
