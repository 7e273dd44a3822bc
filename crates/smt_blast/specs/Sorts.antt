-- The types that are blasted.
use Rattle.law_terms.specs.Plain.{PlainType, BitVecType, BoolType}
use Rattle.smt_bits.specs.Width.{bits_in}
use Rattle.smt_blast.specs.declared.sort.Sort.{Sort}
use Rattle.smt_blast.specs.declared.sort.Sort.TheVariants.{Truth, Bits}

-- what a type that is blasted says
abbrev pub plain_sort : Sort → PlainType
plain_sort Truth = BoolType
plain_sort (Bits w) = BitVecType (bits_in w)
