use Rattle.std.proofs.Common.{◌≡◌, ◌∷◌, [], ◌++◌, ◌+◌, ◌-◌, arith, List, map, suc, subst, ℕ}
use Rattle.law_blasting.specs.Blasted.{bit_name, bit_names, new_variable}
use Rattle.smt_blast.specs.Standing.{Stands}
use Rattle.smt_blast.proofs.Standing.{bits_stay, pushed, then_grown}
use Rattle.smt_blast.proofs.Tabling.{name_step, pushed_first}
use Rattle.smt_blast.proofs.gates.Gates.+push_variables.Goals as goal

pub returns-clause-bits : goal.returns-clause-bits
returns-clause-bits t c ts h =
    let n = c.args.count in
    let k = c.args.number in
    let place = c.args.place in
    let less : n ≡ suc (n - 1) = omega (arith, c.if-count-eq0.false) in
    let next : place + 1 ≡ suc place = omega arith in
    let bit = subst (λ (name : List ℕ). Stands c.variable.new.self.nodes c.in_ok-bit.bit (new_variable name)) c.in_ok-name.ensures c.in_ok-bit.ensures.bit in
    pushed_first c.push_variables.new.self.nodes c.push_variables.new.bits.items (map new_variable (bit_names k (place + 1) (n - 1))) (map new_variable (bit_names k place n)) ts c.push_variables.result (name_step k place (place + 1) n (n - 1) less next)
    (c.push_variables.ensures.bits (ts ++ new_variable (bit_name k place) ∷ []) (pushed c.in_ok-push.ensures.items (bits_stay c.in_ok-bit.ensures.grows h) bit))

pub returns-clause-grows : goal.returns-clause-grows
returns-clause-grows t c = then_grown c.push_variables.new.self.nodes (c.args.count - 1) c.args.count c.push_variables.result (omega (arith, c.if-count-eq0.false)) c.in_ok-bit.ensures.grows c.push_variables.ensures.grows
