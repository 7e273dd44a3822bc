use Rattle.std.proofs.Common.{List, ◌+◌, ◌*◌, ◌≡◌, ◌++◌, ap, ◌∙◌, arith, length, suc, sym, subst, ℕ}
use Rattle.std.specs.Prelude.{IfOk, OnOk}
use Rattle.law_blasting.specs.Circuits.{choose, shift, zeros}
use Rattle.law_blasting.specs.OperatorCircuits.{term_gates}
use Rattle.law_blasting.specs.Sizes.{shift_size}
use Rattle.smt_nodes.specs.declared.id.NodeId.{NodeId}
use Rattle.smt_blast.specs.Chains.{moved}
use Rattle.smt_blast.specs.Standing.{AreBits, Grows}
use Rattle.smt_blast.proofs.Choosing.{is_less, is_not_less, shifted_off, shifted_on, size_off, size_on}
use Rattle.smt_blast.proofs.Standing.{grown_by, grown_twice, then_grown}
use Rattle.smt_blast.proofs.gates.Gates.+shift.Goals as goal

pub returns-in_ok-choose-clause-bits : goal.returns-in_ok-choose-clause-bits
returns-in_ok-choose-clause-bits t c us vs few p q =
    let f = c.args.self.now.nodes in
    let g = c.choose.new.self.nodes in
    let xs = c.args.xs.now in
    let n = length xs in
    let a = c.args.places in
    let b = c.saturating_mul.result in
    let d = c.args.direction in
    let chosen = c.as_slice-then-places-xs.result.now in
    let none_yet : length c.in_ok-bits.bits.items ≡ 0 = ap length c.in_ok-bits.ensures.items in
    let as_many : length c.as_slice.result.now ≡ n = ap length c.as_slice.ensures.value ∙ c.in_ok-moved.ensures.count in
    let count : length c.choose.new.chosen.items ≡ length c.in_ok-bits.bits.items + length c.as_slice.result.now = c.in_ok-choose.ensures.count as_many in
    let same : length chosen ≡ n = ap length c.as_slice-then-places-xs.ensures.value ∙ omega arith in
    let twice : b ≡ 2 * a = omega (arith, c.saturating_mul.ensures, c.if-places-xs.true) in
    shifted_on (λ v. v.items) c.shift.new.self.nodes {places = c.as_slice.result.now} {chosen = chosen} n a b d c.shift.result c.in-Some.ensures.cases.0 (is_less a n c.if-places-xs.true) twice c.in_ok-choose.ensures.grows
    (λ ws h. subst (λ (l : List NodeId). AreBits f l (moved term_gates d a ws)) (sym c.as_slice.ensures.value) (c.in_ok-moved.ensures.bits ws h))
    (λ ws zs ts v s h k w. subst (λ (l : List NodeId). AreBits g l (ts ++ choose term_gates v ws zs)) (sym c.as_slice-then-places-xs.ensures.value) (c.in_ok-choose.ensures.bits ws zs ts v s h k (subst (λ (l : List NodeId). AreBits f l ts) (sym c.in_ok-bits.ensures.items) w)))
    (λ ws zs h k. subst (λ (m : ℕ). IfOk c.shift.result (λ bits. AreBits c.shift.new.self.nodes bits.items (shift term_gates (moved term_gates d) m b zs ws))) same (c.shift.ensures.bits ws zs (omega arith) h k))
    us vs p q

pub returns-in_ok-choose-clause-grows : goal.returns-in_ok-choose-clause-grows
returns-in_ok-choose-clause-grows t c few =
    let n = length c.args.xs.now in
    let a = c.args.places in
    let b = c.saturating_mul.result in
    let k = length c.in-Some.higher.now in
    let none_yet : length c.in_ok-bits.bits.items ≡ 0 = ap length c.in_ok-bits.ensures.items in
    let as_many : length c.as_slice.result.now ≡ n = ap length c.as_slice.ensures.value ∙ c.in_ok-moved.ensures.count in
    let count : length c.choose.new.chosen.items ≡ length c.in_ok-bits.bits.items + length c.as_slice.result.now = c.in_ok-choose.ensures.count as_many in
    let same : length c.as_slice-then-places-xs.result.now ≡ n = ap length c.as_slice-then-places-xs.ensures.value ∙ omega arith in
    let twice : b ≡ 2 * a = omega (arith, c.saturating_mul.ensures, c.if-places-xs.true) in
    let all : shift_size n a (length c.args.amount.now) ≡ shift_size n a (suc k) = ap (λ (l : List NodeId). shift_size n a (length l)) c.in-Some.ensures.cases.0 in
    let rest : shift_size n b k ≡ shift_size n (2 * a) k = ap (λ (x : ℕ). shift_size n x k) twice in
    let step = size_on n a k (is_less a n c.if-places-xs.true) in
    then_grown c.shift.new.self.nodes (shift_size n b k) (shift_size n a (length c.args.amount.now)) c.shift.result (omega arith) c.in_ok-choose.ensures.grows
    (subst (λ (m : ℕ). OnOk c.shift.result (Grows c.choose.new.self.nodes c.shift.new.self.nodes (shift_size m b k))) same (c.shift.ensures.grows (omega arith)))

pub returns-in_ok-choose-2-clause-bits : goal.returns-in_ok-choose-2-clause-bits
returns-in_ok-choose-2-clause-bits t c us vs few p q =
    let g = c.any_of.new.self.nodes in
    let n = length c.args.xs.now in
    shifted_off {places = c.as_slice-else-places-xs.result.now} n c.args.places c.args.direction c.in-Some.ensures.cases.0 (is_not_less c.args.places n c.if-places-xs.false) c.in_ok-any.ensures.grows c.in_ok-any.ensures.bit
    (λ ws h. subst (λ (l : List NodeId). AreBits g l (zeros term_gates ws)) (sym c.as_slice-else-places-xs.ensures.value) (c.in_ok-zeros.ensures.bits ws h))
    (λ ws zs ts v s h k w. c.in_ok-choose-2.ensures.bits ws zs ts v s h k (subst (λ (l : List NodeId). AreBits g l ts) (sym c.in_ok-bits.ensures.items) w))
    us vs p q

pub returns-in_ok-choose-2-clause-grows : goal.returns-in_ok-choose-2-clause-grows
returns-in_ok-choose-2-clause-grows t c few =
    let n = length c.args.xs.now in
    let a = c.args.places in
    let k = length c.in-Some.higher.now in
    let as_many : length c.as_slice-else-places-xs.result.now ≡ n = ap length c.as_slice-else-places-xs.ensures.value ∙ c.in_ok-zeros.ensures.count in
    let amount : length c.args.amount.now ≡ suc k = ap length c.in-Some.ensures.cases.0 in
    let all : shift_size n a (length c.args.amount.now) ≡ shift_size n a (suc k) = ap (λ (x : ℕ). shift_size n a x) amount in
    let step = size_off n a k (is_not_less a n c.if-places-xs.false) in
    grown_by (omega arith) (grown_twice c.in_ok-any.ensures.grows c.in_ok-choose-2.ensures.grows)
