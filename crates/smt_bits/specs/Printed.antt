-- The printed form of a bitvector.
use Rattle.std.specs.Prelude.{ℕ, List, ◌++◌, codes}
use Rattle.std.specs.Fmt.{decimal}
use Rattle.smt_bits.specs.declared.bitvec.BitVec.{BitVec}
use Rattle.smt_bits.specs.BitVec.{width_of, number_of}

-- "(bv64 12)": the width, then the number, both in decimal
abbrev pub bit_vector_text : BitVec → List ℕ
bit_vector_text b = codes "(bv" ++ (decimal (width_of b) ++ (codes " " ++ (decimal (number_of b) ++ codes ")")))
