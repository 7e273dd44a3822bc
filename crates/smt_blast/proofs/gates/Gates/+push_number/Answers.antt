use Rattle.std.proofs.Common.{◌≡◌, ◌∷◌, [], ◌++◌, ◌-◌, ◌/◌, ◌%◌, ◌==◌, arith, suc}
use Rattle.law_blasting.specs.Circuits.{number_bits}
use Rattle.law_terms.specs.Plain.{BoolLiteral, LiteralTerm}
use Rattle.smt_blast.specs.Tables.{literals}
use Rattle.smt_blast.proofs.Standing.{pushed}
use Rattle.smt_blast.proofs.Tabling.{literal_step, pushed_first}
use Rattle.smt_blast.proofs.gates.Gates.+push_number.Goals as goal

pub returns : goal.returns
returns t c ts h =
    let n = c.args.count in
    let a = c.args.number in
    let less : n ≡ suc (n - 1) = omega (arith, c.if-count-eq0.false) in
    pushed_first c.args.self.now.nodes c.push_number.new.bits.items (literals (number_bits (n - 1) (a / 2))) (literals (number_bits n a)) ts c.push_number.result (literal_step n (n - 1) a less)
    (c.push_number.ensures (ts ++ LiteralTerm (BoolLiteral (a % 2 == 1)) ∷ []) (pushed c.in_ok-push.ensures.items h c.literal.ensures))
