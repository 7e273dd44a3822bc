-- The printed text of an IP range.
use Rattle.std.specs.Prelude.{ℕ, ◌/◌, ◌%◌, ◌^◌, List, [], ◌∷◌, ◌++◌, codes, decimal}
use Rattle.std.specs.Char.{digit_char}
use Rattle.smt_ext.specs.IpRanges.{Family, Version4, Version6, Range, prefix_bits}

-- the byte of a number of 32 bits above its `low` lowest bits, in decimal
abbrev pub byte_text : ℕ → ℕ → List ℕ
byte_text address low = decimal (address / 2 ^ low % 256)

-- four bytes joined by dots
abbrev pub dotted_text : ℕ → List ℕ
dotted_text address =
    byte_text address 24 ++ codes "." ++ byte_text address 16 ++ codes "." ++ byte_text address 8 ++ codes "." ++ byte_text address 0

-- four lower-case hexadecimal digits
abbrev pub group_text : ℕ → List ℕ
group_text n = digit_char (n / 4096) ∷ digit_char (n / 256 % 16) ∷ digit_char (n / 16 % 16) ∷ digit_char (n % 16) ∷ []

-- the group of an address above its `low` lowest bits
abbrev pub group_at : ℕ → ℕ → ℕ
group_at address low = address / 2 ^ low % 65536

-- eight groups joined by colons
abbrev pub colon_text : ℕ → List ℕ
colon_text address =
    group_text (group_at address 112) ++ codes ":" ++ group_text (group_at address 96) ++ codes ":"
    ++ group_text (group_at address 80) ++ codes ":" ++ group_text (group_at address 64) ++ codes ":"
    ++ group_text (group_at address 48) ++ codes ":" ++ group_text (group_at address 32) ++ codes ":"
    ++ group_text (group_at address 16) ++ codes ":" ++ group_text (group_at address 0)

-- the address as its family writes it
abbrev pub address_text : Family → ℕ → List ℕ
address_text Version4 address = dotted_text address
address_text Version6 address = colon_text address

-- the address and always the number of prefix bits
abbrev pub range_text : Range → List ℕ
range_text r = address_text r.family r.address ++ (codes "/" ++ decimal (prefix_bits r))
