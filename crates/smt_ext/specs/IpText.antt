-- The texts of IP ranges: which bytes write which range.
use Rattle.std.specs.Prelude.{◌≡◌, ℕ, ◌+◌, ◌-◌, ◌*◌, ◌<◌, ◌≤◌, ◌⊎◌, Option, Some, None, List, [], ◌∷◌, ◌++◌, length, replicate, codes}
use Rattle.std.specs.Prelude.{decimal}
use Rattle.std.specs.List.{fold}
use Rattle.std.specs.Str.Parse.{IsNumeral, digits_value}
use Rattle.smt_ext.specs.IpRanges.{Family, Version4, Version6, Range, address_bits, prefix_of}

-- Four numbers below 256 in decimal, joined by dots. `decimal` writes no leading zero but in "0".
pub record IsDotted (text : List ℕ) (address : ℕ) : Type 0 where
  pub a : ℕ
  pub b : ℕ
  pub c : ℕ
  pub d : ℕ
  pub small : (a < 256) × (b < 256) × (c < 256) × (d < 256)
  pub text_is : text ≡ decimal a ++ codes "." ++ decimal b ++ codes "." ++ decimal c ++ codes "." ++ decimal d
  pub address_is : address ≡ ((a * 256 + b) * 256 + c) * 256 + d

-- one to four hexadecimal digits, which write the number
abbrev pub IsGroup : List ℕ → ℕ → Type 0
IsGroup text number = (IsNumeral 16 text × (digits_value 16 text ≡ number)) × (length text ≤ 4)

-- Groups, the first behind `lead` and each other behind a colon.
abbrev pub AreGroupsBehind : List ℕ → List ℕ → List ℕ → Type 0
AreGroupsBehind lead text [] = text ≡ []
AreGroupsBehind lead text (number ∷ numbers) =
    (group rest : List ℕ) × (text ≡ lead ++ group ++ rest) × IsGroup group number × AreGroupsBehind (codes ":") rest numbers

-- groups joined by colons, or nothing
abbrev pub AreGroups : List ℕ → List ℕ → Type 0
AreGroups text numbers = AreGroupsBehind [] text numbers

-- Two lists of together at most seven groups with "::" between, which stands for the zeros that are missing.
pub record IsShortened (text numbers : List ℕ) : Type 0 where
  pub front_text : List ℕ
  pub back_text : List ℕ
  pub front : List ℕ
  pub back : List ℕ
  pub text_is : text ≡ front_text ++ codes "::" ++ back_text
  pub front_groups : AreGroups front_text front
  pub back_groups : AreGroups back_text back
  pub at_most_seven : length front + length back ≤ 7
  pub numbers_are : numbers ≡ front ++ replicate (8 - length front - length back) 0 ++ back

-- numbers of 16 bits as one number, the first in the highest bits
abbrev pub joined_groups : List ℕ → ℕ
joined_groups numbers = fold (λ above number. above * 65536 + number) 0 numbers

-- Eight groups, written out or shortened by "::".
pub record IsColonText (text : List ℕ) (address : ℕ) : Type 0 where
  pub numbers : List ℕ
  pub eight : length numbers ≡ 8
  pub groups : AreGroups text numbers ⊎ IsShortened text numbers
  pub address_is : address ≡ joined_groups numbers

-- the text writes the address of this family: with dots for version 4, and with colons for version 6
abbrev pub WritesAddress : Family → List ℕ → ℕ → Type 0
WritesAddress Version4 text address = IsDotted text address
WritesAddress Version6 text address = IsColonText text address

-- a slash and the digits of a prefix, where there are any
abbrev pub behind_slash : Option (List ℕ) → List ℕ
behind_slash None = []
behind_slash (Some digits) = codes "/" ++ digits

-- No digits write no prefix, and else a number in decimal up to `most`, which itself writes no prefix.
abbrev pub WritesPrefix : ℕ → Option (List ℕ) → Option ℕ → Type 0
WritesPrefix most None prefix = prefix ≡ None
WritesPrefix most (Some digits) prefix = (n : ℕ) × (n ≤ most) × (digits ≡ decimal n) × (prefix ≡ prefix_of most n)

-- The text writes the range: an address, and where there is a slash a prefix. `7:70:700:7000::a00/128` writes an address without
-- prefix.
pub record WritesRange (text : List ℕ) (r : Range) : Type 0 where
  pub address_text : List ℕ
  pub digits : Option (List ℕ)
  pub text_is : text ≡ address_text ++ behind_slash digits
  pub address : WritesAddress r.family address_text r.address
  pub prefix : WritesPrefix (address_bits r.family) digits r.prefix
