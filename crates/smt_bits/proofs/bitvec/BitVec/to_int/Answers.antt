use Rattle.std.proofs.Common.{sym, ◌∙◌}
use Rattle.law_numbers.proofs.SignedRange.{small, not_negative}
use Rattle.smt_bits.proofs.bitvec.BitVec.to_int.Goals as goal

pub overflow_cast-result-else-is_negative : goal.overflow_cast-result-else-is_negative
overflow_cast-result-else-is_negative c =
    record { sfits = small c.args.self.now.width.bits c.args.self.now.number (sym c.is_negative.ensures ∙ c.if-is_negative.false) c.args.self.now.width.at_most_128 }

pub returns-else-is_negative : goal.returns-else-is_negative
returns-else-is_negative c =
    not_negative c.args.self.now.width.bits c.args.self.now.number (sym c.is_negative.ensures ∙ c.if-is_negative.false) c.args.self.now.width.at_most_128
