use Rattle.std.proofs.Math.Seq.{take-length}
use Rattle.std.proofs.lemmas.List.{length-drop}
use Rattle.std.proofs.Common.{List, ◌≡◌, ◌≤◌, ◌-◌, ◌++◌, ap, ◌∙◌, arith, drop, length, replicate, sym, subst, take, ℕ}
use Rattle.law_blasting.specs.OperatorCircuits.{term_gates}
use Rattle.law_blasting.proofs.Passing.{same_length}
use Rattle.law_terms.specs.Plain.{PlainTerm}
use Rattle.smt_nodes.specs.declared.id.NodeId.{NodeId}
use Rattle.smt_blast.specs.Chains.{moved}
use Rattle.smt_blast.specs.Standing.{AreBits}
use Rattle.smt_blast.proofs.Choosing.{copies, down_is, dropped, taken, up_is}
use Rattle.smt_blast.proofs.Standing.{joined}
use Rattle.smt_blast.proofs.gates.Gates.moved.Goals as goal

pub returns-in_ok-extend_from_slice-in-Up-clause-bits : goal.returns-in_ok-extend_from_slice-in-Up-clause-bits
returns-in_ok-extend_from_slice-in-Up-clause-bits c us p =
    let i = c.args.self.now.nodes in
    let k = c.args.places in
    let xs = c.args.xs.now in
    let n : length xs ≡ length us = same_length p in
    let fits : k ≤ length us = omega (arith, c.requires) in
    let first = c.in_ok-push_copies-in-Up.ensures ∙ ap (λ (l : List NodeId). l ++ replicate k c.no.result) c.in_ok-bits.ensures.items in
    let whole = c.in_ok-extend_from_slice-in-Up.ensures.items ∙ ap (λ (l : List NodeId). l ++ take (length xs - k) xs) first in
    let bits = joined (copies k c.no.result term_gates.no c.no.ensures) (taken (length xs - k) p) in
    subst (λ (l : List PlainTerm). AreBits i c.extend_from_slice.new.self.items l)
    (ap (λ (m : ℕ). replicate k term_gates.no ++ take (m - k) us) n ∙ up_is k us fits ∙ sym (ap (λ d. moved term_gates d k us) c.in-Up.is))
    (subst (λ (l : List NodeId). AreBits i l (replicate k term_gates.no ++ take (length xs - k) us)) (sym whole) bits)

pub returns-in_ok-push_copies-in-Down-clause-bits : goal.returns-in_ok-push_copies-in-Down-clause-bits
returns-in_ok-push_copies-in-Down-clause-bits c us p =
    let i = c.args.self.now.nodes in
    let k = c.args.places in
    let xs = c.args.xs.now in
    let n : length xs ≡ length us = same_length p in
    let fits : k ≤ length us = omega (arith, c.requires) in
    let rest : take (length xs - k) (drop k xs) ≡ drop k xs = ap (λ m. take m (drop k xs)) (sym (length-drop k xs)) ∙ take-length (drop k xs) in
    let first = c.in_ok-extend_from_slice-in-Down.ensures.items ∙ ap (λ (l : List NodeId). l ++ take (length xs - k) (drop k xs)) c.in_ok-bits.ensures.items ∙ rest in
    let whole = c.in_ok-push_copies-in-Down.ensures ∙ ap (λ (l : List NodeId). l ++ replicate k c.no-in-Down.result) first in
    let bits = joined (dropped k p) (copies k c.no-in-Down.result term_gates.no c.no-in-Down.ensures) in
    subst (λ (l : List PlainTerm). AreBits i c.push_copies-in-Down.new.bits.items l) (down_is k us fits ∙ sym (ap (λ d. moved term_gates d k us) c.in-Down.is))
    (subst (λ (l : List NodeId). AreBits i l (drop k us ++ replicate k term_gates.no)) (sym whole) bits)
