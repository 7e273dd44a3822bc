use Rattle.smt_bits.specs.contracts.bitvec.BitVecOrd.TheImpl as bits_order
use Rattle.smt_bits.specs.contracts.bitvec.BitVecOrd.TheImpl.Laws as bits_laws
use Rattle.smt_bits.specs.contracts.fin.FinOrd.TheImpl as bounded_order
use Rattle.smt_bits.specs.contracts.fin.FinOrd.TheImpl.Laws as bounded_laws
use Rattle.smt_bits.specs.contracts.width.WidthOrd.TheImpl as width_order
use Rattle.smt_bits.specs.contracts.width.WidthOrd.TheImpl.Laws as width_laws
use Rattle.smt_bits.proofs.Levels.{level_where_equal, level_bits, level_bounded, level_widths}
use Rattle.smt_bits.proofs.laws.orders_agree_with_equality.Goals as goal

pub returns : goal.returns
returns c = record {
  bitvectors = level_where_equal bits_order.ghosts.cmp bits_laws.total-law level_bits;
  widths = level_where_equal width_order.ghosts.cmp width_laws.total-law level_widths;
  bounded_numbers = level_where_equal bounded_order.ghosts.cmp bounded_laws.total-law level_bounded;
}
