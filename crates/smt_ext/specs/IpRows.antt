-- Worked examples of IP ranges and their printed texts.
use Rattle.std.specs.Prelude.{◌≡◌, ◌*◌, ◌+◌, ◌^◌, Some, None, codes}
use Rattle.smt_ext.specs.IpRanges.{Version4, Version6, Range, free_bits, IsIn, LiesIn, prefix_of}
use Rattle.smt_ext.specs.IpPrinted.{range_text}
use Rattle.smt_ext.specs.IpText.{WritesRange}

-- 10.0.0.1/24: an address with free bits that are not zero
abbrev pub ten_24 : Range
ten_24 = record { family = Version4; address = 10 * 2 ^ 24 + 1; prefix = Some 24 }

-- 10.0.0.0/29, which lies in the first
abbrev pub ten_29 : Range
ten_29 = record { family = Version4; address = 10 * 2 ^ 24; prefix = Some 29 }

-- the address 1.2.3.4
abbrev pub counted : Range
counted = record { family = Version4; address = 0x01020304; prefix = None }

-- 0.0.0.0/0: all addresses of version 4
abbrev pub every_v4 : Range
every_v4 = record { family = Version4; address = 0; prefix = Some 0 }

-- 7:70:700:7000::a00: groups of one to four digits, and zeros that are left out
abbrev pub sevens : Range
sevens = record { family = Version6; address = 7 * 2 ^ 112 + 0x70 * 2 ^ 96 + 0x700 * 2 ^ 80 + 0x7000 * 2 ^ 64 + 0xa00; prefix = None }

-- Which addresses lie in which ranges, and which texts write which ranges.
pub record IpRows : Type 0 where
  pub free : free_bits ten_24 ≡ 8
  -- the last address of the range, and the first behind it
  pub last : IsIn (10 * 2 ^ 24 + 255) ten_24
  pub next : IsIn (10 * 2 ^ 24 + 256) ten_24 → ⊥
  pub inner : LiesIn ten_29 ten_24
  pub outer : LiesIn ten_24 ten_29 → ⊥
  pub one_of_all : LiesIn counted every_v4
  pub all_of_one : LiesIn every_v4 counted → ⊥
  -- all bits are no prefix, and no bits are one
  pub all_bits : prefix_of 32 32 ≡ None
  pub no_bits : prefix_of 32 0 ≡ Some 0
  pub printed_v4 : range_text ten_24 ≡ codes "10.0.0.1/24"
  pub printed_v6 : range_text sevens ≡ codes "0007:0070:0700:7000:0000:0000:0000:0a00/128"
  pub written_v4 : WritesRange (codes "1.2.3.4") counted
  pub written_whole : WritesRange (codes "1.2.3.4/32") counted
  pub written_v6 : WritesRange (codes "7:70:700:7000::a00/128") sevens
