-- IP ranges as literals, and their lowest and highest addresses as numbers.
use Rattle.std.specs.Prelude.{ℕ, ◌+◌, ◌-◌, ◌*◌, ◌/◌, ◌^◌, ◌<◌, ◌⊎◌, List, [], ◌∷◌}
use Rattle.smt_ext.specs.IpRanges.{Family, LiesIn, Range, Version4, Version6, address_bits, free_bits}
use Rattle.law_folding.specs.FoldExtensions.{extension_literal}
use Rattle.law_terms.specs.Plain.{PlainTerm}
use Rattle.law_terms.specs.TypeValues.{IsPrefix}
use Rattle.smt_ext.specs.IpOrder.{plain_range}

-- a range as a literal
abbrev pub range_literal : Range → PlainTerm
range_literal r = extension_literal (plain_range r)

-- how many bits the number of a prefix has
abbrev pub prefix_width : Family → ℕ
prefix_width Version4 = 5
prefix_width Version6 = 7

-- the address and the prefix are numbers of their bits
pub record IsRange (r : Range) : Type 0 where
  pub address : r.address < 2 ^ address_bits r.family
  pub prefix : IsPrefix (prefix_width r.family) r.prefix

-- the lowest address of a range: its own address with the free bits cleared
abbrev pub lowest : Range → ℕ
lowest r = r.address / 2 ^ free_bits r * 2 ^ free_bits r

-- the highest address of a range: its own address with the free bits set
abbrev pub highest : Range → ℕ
highest r = lowest r + (2 ^ free_bits r - 1)

-- the range lies in one of a list
abbrev pub LiesInOne : Range → List Range → Type 0
LiesInOne r [] = ⊥
LiesInOne r (t ∷ ts) = LiesIn r t ⊎ LiesInOne r ts
