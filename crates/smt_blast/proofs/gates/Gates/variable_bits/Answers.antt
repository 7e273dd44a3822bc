use Rattle.std.proofs.Common.{◌∷◌, [], ◌++◌, ◌∙◌, ap, List, map, sym, subst, ℕ}
use Rattle.law_blasting.specs.Blasted.{bit_names, new_names, new_variable}
use Rattle.law_blasting.specs.Passing.{none, one}
use Rattle.law_terms.specs.Plain.{BoolType, PlainTerm}
use Rattle.smt_blast.specs.Sorts.{plain_sort}
use Rattle.smt_blast.specs.Standing.{AreBits, Stands}
use Rattle.smt_nodes.specs.declared.id.NodeId.{NodeId}
use Rattle.smt_blast.proofs.gates.Gates.variable_bits.Goals as goal

pub returns-in_ok-push-in-Truth-clause-bits : goal.returns-in_ok-push-in-Truth-clause-bits
returns-in_ok-push-in-Truth-clause-bits c =
    let k = c.args.number in
    let i = c.variable.new.self.nodes in
    let bit = subst (λ (name : List ℕ). Stands i c.in_ok-bit-in-Truth.bit (new_variable name)) c.in_ok-name-in-Truth.ensures c.in_ok-bit-in-Truth.ensures.bit in
    subst (λ (l : List PlainTerm). AreBits i c.push.new.self.items l) (sym (ap (λ s. map new_variable (new_names k (plain_sort s))) c.in-Truth.is))
    (subst (λ (l : List NodeId). AreBits i l (map new_variable (new_names k BoolType))) (sym (c.in_ok-push-in-Truth.ensures.items ∙ ap (λ (l : List NodeId). l ++ c.in_ok-bit-in-Truth.bit ∷ []) c.new-bits.ensures.items)) (one bit none))

pub returns-in_ok-push_variables-in-Bits-clause-bits : goal.returns-in_ok-push_variables-in-Bits-clause-bits
returns-in_ok-push_variables-in-Bits-clause-bits c =
    let k = c.args.number in
    let start = subst (λ (l : List NodeId). AreBits c.args.self.now.nodes l []) (sym c.new-bits.ensures.items) none in
    subst (λ (l : List PlainTerm). AreBits c.push_variables.new.self.nodes c.push_variables.new.bits.items l)
    (ap (λ n. map new_variable (bit_names k 0 n)) c.get.ensures.value ∙ sym (ap (λ s. map new_variable (new_names k (plain_sort s))) c.in-Bits.is)) (c.in_ok-push_variables-in-Bits.ensures.bits [] start)
