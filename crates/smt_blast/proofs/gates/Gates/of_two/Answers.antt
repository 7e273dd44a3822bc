use Rattle.std.proofs.Common.{ap, arith, length, List, ◌∙◌, sym, subst, ℕ}
use Rattle.std.specs.Prelude.{IfOk}
use Rattle.law_blasting.specs.Circuits.{shift}
use Rattle.law_blasting.specs.OperatorCircuits.{term_gates}
use Rattle.law_blasting.specs.Sizes.{shift_size}
use Rattle.law_blasting.proofs.Passing.{same_length}
use Rattle.law_blasting.proofs.Sizes.{shifts_are_small}
use Rattle.law_terms.specs.Plain.{PlainTerm}
use Rattle.smt_blast.specs.Chains.{moved}
use Rattle.smt_blast.specs.Standing.{AreBits}
use Rattle.smt_blast.proofs.Operating.{given_two, nothing_of_two, nothing_stands, overflow_of_two, shift_of_two, sum_of_two}
use Rattle.smt_blast.proofs.Standing.{not_grown, then_grown}
use Rattle.smt_blast.proofs.gates.Gates.of_two.Goals as goal

pub returns-in-Sum-clause-bits : goal.returns-in-Sum-clause-bits
returns-in-Sum-clause-bits c us vs n p q =
    subst (λ (l : List PlainTerm). IfOk c.sum.result (λ bits. AreBits c.sum.new.self.nodes bits.items l)) (sum_of_two c.in-Sum.chain us vs ∙ sym (ap (given_two us vs) c.in-Sum.is)) (c.sum.ensures.bits us vs p q)

pub returns-in-Overflow-clause-bits : goal.returns-in-Overflow-clause-bits
returns-in-Overflow-clause-bits c us vs n p q =
    subst (λ (l : List PlainTerm). IfOk c.overflow_alone.result (λ bits. AreBits c.overflow_alone.new.self.nodes bits.items l)) (overflow_of_two c.in-Overflow.chain us vs ∙ sym (ap (given_two us vs) c.in-Overflow.is)) (c.overflow_alone.ensures.bits us vs p q)

pub returns-in-Shift-clause-bits : goal.returns-in-Shift-clause-bits
returns-in-Shift-clause-bits c us vs n p q =
    let d = c.in-Shift.direction in
    subst (λ (l : List PlainTerm). IfOk c.shift.result (λ bits. AreBits c.shift.new.self.nodes bits.items l))
    (ap (λ (m : ℕ). shift term_gates (moved term_gates d) m 1 vs us) (same_length p) ∙ shift_of_two d us vs ∙ sym (ap (given_two us vs) c.in-Shift.is)) (c.shift.ensures.bits us vs n q p)

pub returns-in-Shift-clause-grows : goal.returns-in-Shift-clause-grows
returns-in-Shift-clause-grows c n m =
    let k = length c.args.xs.now in
    let l = length c.args.ys.now in
    then_grown c.shift.new.self.nodes (shift_size k 1 l) 2048 c.shift.result (omega (arith, shifts_are_small k l n m)) (not_grown c.args.self.now.nodes 0) (c.shift.ensures.grows n)

pub returns-in-Choice-clause-bits : goal.returns-in-Choice-clause-bits
returns-in-Choice-clause-bits c us vs n p q = nothing_stands c.args.self.now.nodes c.new.result.items (given_two us vs c.args.circuit) c.new.ensures.items (nothing_of_two c.args.circuit us vs c.in-Choice.is)
