use Rattle.smt_term.proofs.PatternOrder.{element_cmp-is, element_eq-is, ord_pattern_eq-is, pattern_cmp-is, pattern_eq-is}
use Rattle.smt_term.proofs.type_laws.program_patterns.Goals as goal

pub returns : goal.returns
returns c = record {
  element_order = element_cmp-is;
  order = pattern_cmp-is;
  element_equality = element_eq-is;
  equality = pattern_eq-is;
  ordered_equality = ord_pattern_eq-is;
}
