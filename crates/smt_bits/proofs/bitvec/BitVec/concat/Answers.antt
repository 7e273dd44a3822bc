use Rattle.std.proofs.Common.{◌≡◌, ◌+◌, ◌<◌, ◌≤◌, ◌^◌, sym, arith, subst, ℕ}
use Rattle.law_numbers.proofs.Moved.{joined, joined_below}
use Rattle.smt_bits.proofs.bitvec.BitVec.concat.Goals as goal

pub invariant_of-result : goal.invariant_of-result
invariant_of-result c =
    let a = c.args.lhs.now in
    let b = c.args.rhs.now in
    let sum : c.in-Some.width.bits ≡ a.width.bits + b.width.bits = omega (arith, c.in-Some.ensures.value) in
    let fits : a.width.bits + b.width.bits ≤ 128 = omega arith in
    let is = joined a.number b.number a.width.bits b.width.bits c.get-3.result c.get-3.ensures.value a.below_width b.below_width fits in
    let below : ℕ → Type 0 = λ x. x < 2 ^ c.in-Some.width.bits in
    record { below_width = subst below (sym is) (joined_below a.number b.number a.width.bits b.width.bits c.in-Some.width.bits sum a.below_width b.below_width) }

pub returns-clause-value : goal.returns-clause-value
returns-clause-value c =
    let a = c.args.lhs.now in
    let b = c.args.rhs.now in
    let fits : a.width.bits + b.width.bits ≤ 128 = omega (arith, c.in-Some.ensures.value) in
    joined a.number b.number a.width.bits b.width.bits c.get-3.result c.get-3.ensures.value a.below_width b.below_width fits
