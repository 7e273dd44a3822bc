-- Worked examples of the operators on bitvectors, with values from the standard's own text.
use Rattle.std.specs.Prelude.{◌≡◌, ℕ, ◌^◌, ◌-◌, true, false, pos, negsuc, List, [], ◌∷◌, map}
use Rattle.law_numbers.specs.BitVectors.{signed, bits_of, least_signed, greatest_signed, overflows, bvnot, bvneg, concat, extract, resize}
use Rattle.law_numbers.specs.BitVectors.{bvadd, bvsub, bvmul, bvudiv, bvurem, bvsdiv, bvsrem, bvsmod, bvshl, bvlshr, bvult, bvule, bvslt}
use Rattle.law_numbers.specs.BitVectors.{bvsle, bvnego, bvsaddo, bvssubo, bvsmulo}
use Rattle.law_numbers.specs.Widths.{is_width, are_bits}

-- what an operator gives at 8 bits for each of some pairs of numbers
abbrev pub at_8 : {X : Type 0} → (ℕ → ℕ → ℕ → X) → List (ℕ × ℕ) → List X
at_8 f rows = map (λ r. f 8 r.0 r.1) rows

-- all pairs of signs, and division by 0: 7 and 2, -7 and 2, 7 and -2, -7 and -2, -6 and 2, 7 and 0, -7 and 0, -128 and -1
abbrev pub signs : List (ℕ × ℕ)
signs = (7, 2) ∷ (249, 2) ∷ (7, 254) ∷ (249, 254) ∷ (250, 2) ∷ (7, 0) ∷ (249, 0) ∷ (128, 255) ∷ []

-- the operators at chosen numbers, most of them of 8 bits
pub record BitVectorRows : Type 0 where
  pub quotients : at_8 bvsdiv signs ≡ 3 ∷ 253 ∷ 253 ∷ 3 ∷ 253 ∷ 255 ∷ 1 ∷ 128 ∷ []
  pub remainders : at_8 bvsrem signs ≡ 1 ∷ 255 ∷ 1 ∷ 255 ∷ 0 ∷ 7 ∷ 249 ∷ 0 ∷ []
  pub moduli : at_8 bvsmod signs ≡ 1 ∷ 1 ∷ 255 ∷ 255 ∷ 0 ∷ 7 ∷ 249 ∷ 0 ∷ []
  pub unsigned_quotients : at_8 bvudiv signs ≡ 3 ∷ 124 ∷ 0 ∷ 0 ∷ 125 ∷ 255 ∷ 255 ∷ 0 ∷ []
  pub unsigned_remainders : at_8 bvurem signs ≡ 1 ∷ 1 ∷ 7 ∷ 249 ∷ 0 ∷ 7 ∷ 249 ∷ 128 ∷ []
  -- each of these wraps once
  pub sums : at_8 bvadd ((255, 1) ∷ (127, 1) ∷ []) ≡ 0 ∷ 128 ∷ []
  pub differences : at_8 bvsub ((0, 1) ∷ (5, 5) ∷ []) ≡ 255 ∷ 0 ∷ []
  pub products : at_8 bvmul ((16, 16) ∷ (255, 255) ∷ []) ≡ 0 ∷ 1 ∷ []
  pub complements : map (bvnot 4) (10 ∷ 0 ∷ 15 ∷ []) ≡ 5 ∷ 15 ∷ 0 ∷ []
  pub negations : map (bvneg 8) (0 ∷ 1 ∷ 128 ∷ []) ≡ 0 ∷ 255 ∷ 128 ∷ []
  -- by one place less than the width, by the width, and by more
  pub left : at_8 bvshl ((3, 7) ∷ (3, 8) ∷ (255, 255) ∷ []) ≡ 128 ∷ 0 ∷ 0 ∷ []
  pub right : at_8 bvlshr ((255, 7) ∷ (255, 8) ∷ (255, 255) ∷ []) ≡ 1 ∷ 0 ∷ 0 ∷ []
  -- by 2 to the 32 places, which are more than a machine's shift has
  pub far : bvshl 64 1 4294967296 ≡ 0
  pub joined : concat 4 10 3 ≡ 163
  pub high_half : extract 4 7 163 ≡ 10
  pub low_half : extract 0 3 163 ≡ 3
  pub one_bit : extract 5 5 163 ≡ 1
  pub extended : resize 16 163 ≡ 163
  pub truncated : resize 4 163 ≡ 3
  pub values : map (signed 8) (0 ∷ 127 ∷ 128 ∷ 255 ∷ []) ≡ pos 0 ∷ pos 127 ∷ negsuc 127 ∷ negsuc 0 ∷ []
  pub bits : map (bits_of 8) (pos 300 ∷ negsuc 0 ∷ negsuc 127 ∷ negsuc 299 ∷ []) ≡ 44 ∷ 255 ∷ 128 ∷ 212 ∷ []
  pub least : map least_signed (1 ∷ 8 ∷ []) ≡ negsuc 0 ∷ negsuc 127 ∷ []
  pub greatest : map greatest_signed (1 ∷ 8 ∷ []) ≡ pos 0 ∷ pos 127 ∷ []
  -- the last numbers inside and the first outside
  pub outside : map (overflows 8) (pos 127 ∷ pos 128 ∷ negsuc 127 ∷ negsuc 128 ∷ []) ≡ false ∷ true ∷ false ∷ true ∷ []
  pub less : at_8 bvult ((255, 0) ∷ (0, 255) ∷ (5, 5) ∷ []) ≡ false ∷ true ∷ false ∷ []
  pub at_most : at_8 bvule ((255, 255) ∷ (255, 0) ∷ (0, 255) ∷ []) ≡ true ∷ false ∷ true ∷ []
  pub less_signed : at_8 bvslt ((255, 0) ∷ (0, 255) ∷ (128, 127) ∷ (255, 255) ∷ []) ≡ true ∷ false ∷ true ∷ false ∷ []
  pub at_most_signed : at_8 bvsle ((128, 127) ∷ (127, 128) ∷ (255, 255) ∷ []) ≡ true ∷ false ∷ true ∷ []
  pub negations_overflow : map (bvnego 8) (0 ∷ 127 ∷ 128 ∷ 129 ∷ []) ≡ false ∷ false ∷ true ∷ false ∷ []
  pub sums_overflow : at_8 bvsaddo ((127, 1) ∷ (128, 255) ∷ (127, 255) ∷ []) ≡ true ∷ true ∷ false ∷ []
  pub differences_overflow : at_8 bvssubo ((128, 1) ∷ (127, 255) ∷ (0, 128) ∷ (255, 128) ∷ []) ≡ true ∷ true ∷ true ∷ false ∷ []
  pub products_overflow : at_8 bvsmulo ((16, 8) ∷ (240, 8) ∷ (128, 255) ∷ []) ≡ true ∷ false ∷ true ∷ []
  pub widths : map is_width (0 ∷ 1 ∷ 128 ∷ 129 ∷ []) ≡ false ∷ true ∷ true ∷ false ∷ []
  pub numbers :
      map (λ (r : ℕ × ℕ). are_bits r.0 r.1) ((8, 255) ∷ (8, 256) ∷ (0, 0) ∷ (128, 2 ^ 128 - 1) ∷ (129, 0) ∷ [])
      ≡ true ∷ false ∷ false ∷ true ∷ false ∷ []
