-- The lowest and the highest addresses of literals of IP ranges.
use Rattle.std.proofs.Common.{◌≡◌, ℕ, ◌+◌, ◌-◌, ◌*◌, ◌/◌, ◌^◌, ◌<◌, ◌≤◌, Option, refl, ap, ◌∙◌, arith}
use Rattle.std.specs.Prelude.{unwrap_or}
use Rattle.std.proofs.lemmas.Bool.{le-leb}
use Rattle.law_numbers.specs.BitOperators.{BvaddOp, BvlshrOp, BvshlOp, BvsubOp}
use Rattle.law_numbers.specs.BitVectors.{bvadd, bvlshr, bvshl, bvsub}
use Rattle.law_numbers.specs.Shifts.{greatest_shift}
use Rattle.smt_ext.specs.IpRanges.{Family, Range, Version4, Version6}
use Rattle.law_extensions.specs.Bounds.{IsRange, highest, lowest, range_literal}
use Rattle.law_extensions.specs.ExtensionFunctions.{highest_address, lowest_address, range_by, range_v4, range_v6}
use Rattle.law_extensions.specs.Laws.{FamiliesAreTold, RangesAreBounded}
use Rattle.law_extensions.proofs.FreeBits.{at_width, free_bits_are_counted}
use Rattle.law_extensions.proofs.Shifts.{highest_by_shifts, lowest_by_shifts}
use Rattle.law_folding.specs.Applications.{bits_literal}
use Rattle.law_folding.specs.Builder.{folding}
use Rattle.law_terms.specs.Plain.{PlainTerm}

pub families_are_told : FamiliesAreTold
families_are_told = record { ipv4_of_v4 = λ a p. refl; ipv4_of_v6 = λ a p. refl; ipv6_of_v4 = λ a p. refl; ipv6_of_v6 = λ a p. refl }

-- of literals of n bits, by the operators on bits
low_term : (n a f : ℕ) → f ≤ greatest_shift → lowest_address folding (bits_literal n a) (bits_literal n f) ≡ bits_literal n (bvshl n (bvlshr n a f) f)
low_term n a f h = ap (λ t. folding.bits BvshlOp t (bits_literal n f)) (at_width BvlshrOp n a f (le-leb f greatest_shift h)) ∙ at_width BvshlOp n (bvlshr n a f) f (le-leb f greatest_shift h)

high_term : (n a f : ℕ) → f ≤ greatest_shift → highest_address folding n (bits_literal n a) (bits_literal n f) ≡ bits_literal n (bvsub n (bvadd n (bvshl n (bvlshr n a f) f) (bvshl n 1 f)) 1)
high_term n a f h =
    let one = bits_literal n 1 in
    let low = bvshl n (bvlshr n a f) f in
    ap (λ t. folding.bits BvsubOp (folding.bits BvaddOp t (folding.bits BvshlOp one (bits_literal n f))) one) (low_term n a f h)
    ∙ ap (λ t. folding.bits BvsubOp (folding.bits BvaddOp (bits_literal n low) t) one) (at_width BvshlOp n 1 f (le-leb f greatest_shift h))
    ∙ ap (λ t. folding.bits BvsubOp t one) (at_width BvaddOp n low (bvshl n 1 f) refl)
    ∙ at_width BvsubOp n (bvadd n low (bvshl n 1 f)) 1 refl

abbrev pub couple : PlainTerm → PlainTerm → (PlainTerm × PlainTerm)
couple x y = (x, y)

pair : {x y u v : PlainTerm} → x ≡ u → y ≡ v → couple x y ≡ couple u v
pair {x = x} {v = v} e f = ap (couple x) f ∙ ap (λ t. couple t v) e

bounds : (n a f : ℕ) → a < 2 ^ n → f ≤ n → n ≤ 128 → range_by folding n (bits_literal n a) (bits_literal n f) ≡ (bits_literal n (a / 2 ^ f * 2 ^ f), bits_literal n (a / 2 ^ f * 2 ^ f + (2 ^ f - 1)))
bounds n a f small le most =
    pair (low_term n a f (omega arith) ∙ ap (bits_literal n) (lowest_by_shifts n a f small le)) (high_term n a f (omega arith) ∙ ap (bits_literal n) (highest_by_shifts n a f small le))

bounded_v4 : (f : Family) (a : ℕ) (p : Option ℕ) → let r : Range = record { family = f; address = a; prefix = p } in IsRange r → f ≡ Version4 → range_v4 folding (range_literal r) ≡ (bits_literal 32 (lowest r), bits_literal 32 (highest r))
bounded_v4 Version4 a p h e = ap (range_by folding 32 (bits_literal 32 a)) (free_bits_are_counted 5 p h.prefix) ∙ bounds 32 a (32 - unwrap_or p 32) h.address (omega arith) (omega arith)
bounded_v4 Version6 a p h e = absurd cc

bounded_v6 : (f : Family) (a : ℕ) (p : Option ℕ) → let r : Range = record { family = f; address = a; prefix = p } in IsRange r → f ≡ Version6 → range_v6 folding (range_literal r) ≡ (bits_literal 128 (lowest r), bits_literal 128 (highest r))
bounded_v6 Version6 a p h e = ap (range_by folding 128 (bits_literal 128 a)) (free_bits_are_counted 7 p h.prefix) ∙ bounds 128 a (128 - unwrap_or p 128) h.address (omega arith) (omega arith)
bounded_v6 Version4 a p h e = absurd cc

pub ranges_are_bounded : RangesAreBounded
ranges_are_bounded = record { v4 = λ r. bounded_v4 r.family r.address r.prefix; v6 = λ r. bounded_v6 r.family r.address r.prefix }
