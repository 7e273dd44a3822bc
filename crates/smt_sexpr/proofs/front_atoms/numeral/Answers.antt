use Rattle.std.proofs.Common.{sym}
use Rattle.smt_sexpr.proofs.Atoms.{numeral_fault, numeral_stands}
use Rattle.smt_sexpr.proofs.front_atoms.numeral.Goals as goal

pub returns-in-Some-clause-found : goal.returns-in-Some-clause-found
returns-in-Some-clause-found c =
    numeral_stands c.args.src.now c.split_digits.result.0.now c.split_digits.result.1.now c.in-Some.value c.split_digits.ensures c.requires c.in-Some.ensures.0 (sym c.in-Some.ensures.1)

pub returns-in-None-clause-none : goal.returns-in-None-clause-none
returns-in-None-clause-none c =
    numeral_fault c.args.src.now c.split_digits.result.0.now c.split_digits.result.1.now c.split_digits.ensures c.requires c.in-None.ensures
