use Rattle.std.proofs.Common.{List, map, take}
use Rattle.law_blasting.specs.OperatorCircuits.{term_gates, the_bit}
use Rattle.law_blasting.specs.Passing.{Related}
use Rattle.law_terms.specs.Plain.{PlainTerm}
use Rattle.smt_blast.specs.Standing.{AreBits}
use Rattle.smt_blast.specs.Tables.{HasBits}
use Rattle.smt_blast.proofs.gates.Gates.first_bits.Given as goal

abbrev pub invariant-loop-id : goal.invariant-loop-id
invariant-loop-id l = (uss : List (List PlainTerm)) → Related (HasBits l.self.nodes l.table) l.ids uss → AreBits l.self.nodes l.bits.items (map (the_bit term_gates) (take l.id-index uss))
