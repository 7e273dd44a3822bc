-- IP ranges, read from their texts.
use Rattle.std.specs.Prelude.{ℕ, ◌+◌, ◌*◌, not, ◌&&◌, ◌==◌, nat_le, if◌then◌else◌, bytes_eq, decimal, Option, Some, None, option_map, List}
use Rattle.std.specs.Prelude.{[], ◌∷◌, drop, length}
use Rattle.std.specs.List.{fold, list_any, take_while}
use Rattle.std.specs.Net.Reader.{read_ipv4, read_ipv6, whole_value}
use Rattle.std.specs.Option.{option_or}
use Rattle.law_texts.specs.Digits.{decimal_number}
use Rattle.law_texts.specs.Options.{◌>>=◌}
use Rattle.smt_ext.specs.IpRanges.{Family, Version4, Version6, Range, address_bits, prefix_of}
use Rattle.smt_ext.specs.IpText.{joined_groups}

-- the text before its first slash, or the whole text where there is none
abbrev pub before_slash : List ℕ → List ℕ
before_slash text = take_while (λ b. not (b == 47)) text

-- what stands behind the first byte, where there is one
abbrev pub behind_first : List ℕ → Option (List ℕ)
behind_first [] = None
behind_first (b ∷ rest) = Some rest

-- what stands behind the first slash, where there is one
abbrev pub digits_behind_slash : List ℕ → Option (List ℕ)
digits_behind_slash text = behind_first (drop (length (before_slash text)) text)

-- No digits write no prefix. Else they are those of a number as `decimal` writes it, which is `most` at most.
abbrev pub prefix_in : ℕ → Option (List ℕ) → Option (Option ℕ)
prefix_in most None = Some None
prefix_in most (Some digits) =
    if bytes_eq digits (decimal (decimal_number digits)) && nat_le (decimal_number digits) most
    then Some (prefix_of most (decimal_number digits))
    else None

-- The four bytes that std's reader of IPv4 addresses reads of the whole text, as one number.
abbrev pub dotted_in : List ℕ → Option ℕ
dotted_in text = option_map (λ bytes. fold (λ above byte. above * 256 + byte) 0 bytes) (whole_value (read_ipv4 text))

-- The groups that std's reader of IPv6 addresses reads of the whole text, as one number. That reader takes an IPv4 address in
-- place of the last two groups, so a text with a dot is refused here.
abbrev pub colon_text_in : List ℕ → Option ℕ
colon_text_in text = if list_any (λ b. b == 46) text then None else option_map joined_groups (whole_value (read_ipv6 text))

-- the address of this family that the text writes
abbrev pub address_in : Family → List ℕ → Option ℕ
address_in Version4 text = dotted_in text
address_in Version6 text = colon_text_in text

-- the range of this family whose address and prefix these texts write
abbrev pub range_of_parts : Family → List ℕ → Option (List ℕ) → Option Range
range_of_parts family text digits = do
  address ← address_in family text
  prefix ← prefix_in (address_bits family) digits
  Some (record { family = family; address = address; prefix = prefix })

-- the range of IPv4 that a text writes, or else that of IPv6, or none where the text writes no range
abbrev pub range_in : List ℕ → Option Range
range_in text =
    option_or
    (range_of_parts Version4 (before_slash text) (digits_behind_slash text))
    (range_of_parts Version6 (before_slash text) (digits_behind_slash text))
