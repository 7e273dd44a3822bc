use Rattle.smt_term.proofs.PatternOrder.{level_elements, level_patterns}
use Rattle.smt_term.specs.contracts.pattern.OrdPatternOrd.TheImpl.Laws as pattern_laws
use Rattle.smt_term.specs.contracts.pattern.PatternElemOrd.TheImpl.Laws as element_laws
use Rattle.smt_term.proofs.type_laws.patterns_are_ordered.Goals as goal

pub returns : goal.returns
returns c = record {
  elements = element_laws.total-law;
  level_elements = level_elements;
  patterns = pattern_laws.total-law;
  level_patterns = level_patterns;
}
