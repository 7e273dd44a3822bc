use Rattle.std.proofs.Common.{map, take}
use Rattle.smt_nodes.specs.Interned.{KeepsMeanings, StandFor}
use Rattle.smt_term.specs.View.{plain_term}
use Rattle.smt_nodes.proofs.interner.Interner.intern_terms.Given as goal

abbrev pub invariant-loop-term : goal.invariant-loop-term
invariant-loop-term l = StandFor l.self l.ids.items (map plain_term (take l.term-index l.terms)) × KeepsMeanings l.fn.self l.self
