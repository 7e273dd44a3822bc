use Rattle.std.proofs.Common.{ℕ, ◌<◌, ◌^◌, sym, subst, ◌∙◌}
use Rattle.law_numbers.proofs.Masks.{cut_difference}
use Rattle.smt_bits.proofs.bitvec.BitVec.difference.Goals as goal

pub returns-clause-value : goal.returns-clause-value
returns-clause-value c =
    let below : ℕ → Type 0 = λ n. c.args.rhs.now.number < 2 ^ n in
    c.of_nat.ensures.value ∙ cut_difference c.args.self.now.number c.args.rhs.now.number c.args.self.now.width.bits c.args.self.now.width.at_most_128 (subst below (sym c.requires) c.args.rhs.now.below_width)
