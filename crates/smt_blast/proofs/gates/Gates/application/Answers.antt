use Rattle.std.proofs.Common.{List, subst, arith}
use Rattle.std.specs.Prelude.{IfOk, OnOk}
use Rattle.law_blasting.specs.OperatorCircuits.{operator_circuit, term_gates}
use Rattle.law_blasting.specs.Passing.{Related}
use Rattle.law_blasting.proofs.Passing.{same_length}
use Rattle.law_terms.specs.Plain.{PlainTerm}
use Rattle.smt_nodes.specs.declared.id.NodeId.{NodeId}
use Rattle.smt_blast.specs.CircuitView.{operator_of}
use Rattle.smt_blast.specs.Standing.{AreBits, Grows}
use Rattle.smt_blast.specs.Tables.{HasBits}
use Rattle.smt_blast.proofs.Operating.{nothing_stands}
use Rattle.smt_blast.proofs.Tabling.{binary, no_circuit, no_circuit_alone, pairs, read, read_few, singles, ternary, triples, unary}
use Rattle.smt_blast.proofs.gates.Gates.application.Goals as goal

pub returns-in-len1-clause-bits : goal.returns-in-len1-clause-bits
returns-in-len1-clause-bits c uss h =
    let i = c.args.self.now.nodes in
    unary (λ (l : List (List PlainTerm)). IfOk c.of_one.result (λ bits. AreBits c.of_one.new.self.nodes bits.items (operator_circuit term_gates (operator_of c.args.circuit) l))) (λ us0 h0. c.of_one.ensures.bits us0 (read c.bits_at.ensures h0))
    (subst (λ (l : List NodeId). Related (HasBits i c.args.table.now) l uss) (singles c.args.arguments.now (record { place = 0 }) c.in-len1.len_at_least c.in-len1.len_below) h)

pub returns-in-len1-clause-grows : goal.returns-in-len1-clause-grows
returns-in-len1-clause-grows c uss h =
    let i = c.args.self.now.nodes in
    unary (λ (l : List (List PlainTerm)). OnOk c.of_one.result (Grows i c.of_one.new.self.nodes 2048)) (λ us0 h0. c.of_one.ensures.grows (read_few c.bits_at.ensures h0))
    (subst (λ (l : List NodeId). Related (HasBits i c.args.table.now) l uss) (singles c.args.arguments.now (record { place = 0 }) c.in-len1.len_at_least c.in-len1.len_below) h)

pub returns-in-len2-clause-bits : goal.returns-in-len2-clause-bits
returns-in-len2-clause-bits c uss h =
    let i = c.args.self.now.nodes in
    binary (λ (l : List (List PlainTerm)). IfOk c.of_two.result (λ bits. AreBits c.of_two.new.self.nodes bits.items (operator_circuit term_gates (operator_of c.args.circuit) l))) (λ us0 us1 h0 h1. c.of_two.ensures.bits us0 us1 (read_few c.bits_at-in-len2.ensures h0) (read c.bits_at-in-len2.ensures h0) (read c.bits_at-in-len2-2.ensures h1))
    (subst (λ (l : List NodeId). Related (HasBits i c.args.table.now) l uss) (pairs c.args.arguments.now (record { place = 0 }) c.in-len2.len_at_least c.in-len2.len_below) h)

pub returns-in-len2-clause-grows : goal.returns-in-len2-clause-grows
returns-in-len2-clause-grows c uss h =
    let i = c.args.self.now.nodes in
    binary (λ (l : List (List PlainTerm)). OnOk c.of_two.result (Grows i c.of_two.new.self.nodes 2048)) (λ us0 us1 h0 h1. c.of_two.ensures.grows (read_few c.bits_at-in-len2.ensures h0) (read_few c.bits_at-in-len2-2.ensures h1))
    (subst (λ (l : List NodeId). Related (HasBits i c.args.table.now) l uss) (pairs c.args.arguments.now (record { place = 0 }) c.in-len2.len_at_least c.in-len2.len_below) h)

pub returns-in-len3-clause-bits : goal.returns-in-len3-clause-bits
returns-in-len3-clause-bits c uss h =
    let i = c.args.self.now.nodes in
    ternary (λ (l : List (List PlainTerm)). IfOk c.of_three.result (λ bits. AreBits c.of_three.new.self.nodes bits.items (operator_circuit term_gates (operator_of c.args.circuit) l))) (λ us0 us1 us2 h0 h1 h2. c.of_three.ensures.bits us0 us1 us2 (read c.bits_at-in-len3.ensures h0) (read c.bits_at-in-len3-2.ensures h1) (read c.bits_at-in-len3-3.ensures h2))
    (subst (λ (l : List NodeId). Related (HasBits i c.args.table.now) l uss) (triples c.args.arguments.now (record { place = 0 }) c.in-len3.len_at_least c.in-len3.len_below) h)

pub returns-in-len3-clause-grows : goal.returns-in-len3-clause-grows
returns-in-len3-clause-grows c uss h =
    let i = c.args.self.now.nodes in
    ternary (λ (l : List (List PlainTerm)). OnOk c.of_three.result (Grows i c.of_three.new.self.nodes 2048)) (λ us0 us1 us2 h0 h1 h2. c.of_three.ensures.grows (read_few c.bits_at-in-len3-2.ensures h1))
    (subst (λ (l : List NodeId). Related (HasBits i c.args.table.now) l uss) (triples c.args.arguments.now (record { place = 0 }) c.in-len3.len_at_least c.in-len3.len_below) h)

pub returns-in-empty-clause-bits : goal.returns-in-empty-clause-bits
returns-in-empty-clause-bits c uss h =
    let n = same_length h in
    nothing_stands c.args.self.now.nodes c.new.result.items (operator_circuit term_gates (operator_of c.args.circuit) uss) c.new.ensures.items (no_circuit_alone c.args.circuit uss (omega (arith, n, c.in-empty.len_below)))

pub returns-in-len4-up-clause-bits : goal.returns-in-len4-up-clause-bits
returns-in-len4-up-clause-bits c uss h =
    let n = same_length h in
    nothing_stands c.args.self.now.nodes c.new-in-len4-up.result.items (operator_circuit term_gates (operator_of c.args.circuit) uss) c.new-in-len4-up.ensures.items (no_circuit c.args.circuit uss (omega (arith, n, c.in-len4-up.len_at_least)))
