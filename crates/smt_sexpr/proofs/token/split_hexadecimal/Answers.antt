use Rattle.law_texts.proofs.Runs.{run_at}
use Rattle.law_texts.specs.Lexicon.{is_hexadecimal}
use Rattle.smt_sexpr.specs.View.{plain-BitVec}
use Rattle.smt_sexpr.proofs.Atoms.{hexadecimal_fault, hexadecimal_stands}
use Rattle.smt_sexpr.proofs.Digits.{hexadecimal_digits}
use Rattle.smt_sexpr.proofs.token.split_hexadecimal.Goals as goal

pub literal-requires-clause-below : goal.literal-requires-clause-below
literal-requires-clause-below c =
    let r = run_at is_hexadecimal c.args.src.now c.split_at.result.0.now c.split_at.result.1.now c.hexadecimal_len.result c.hexadecimal_len.ensures c.split_at.ensures.front c.split_at.ensures.back in
    hexadecimal_digits c.split_at.result.0.now r.each

pub returns-in-Ok-clause-found : goal.returns-in-Ok-clause-found
returns-in-Ok-clause-found c =
    let r = run_at is_hexadecimal c.args.src.now c.split_at.result.0.now c.split_at.result.1.now c.hexadecimal_len.result c.hexadecimal_len.ensures c.split_at.ensures.front c.split_at.ensures.back in
    rw plain-BitVec (hexadecimal_stands c.args.src.now c.split_at.result.0.now c.split_at.result.1.now c.in-Ok.bits r c.in-Ok.ensures.found)

pub returns-in-Err-clause-fault : goal.returns-in-Err-clause-fault
returns-in-Err-clause-fault c =
    let r = run_at is_hexadecimal c.args.src.now c.split_at.result.0.now c.split_at.result.1.now c.hexadecimal_len.result c.hexadecimal_len.ensures c.split_at.ensures.front c.split_at.ensures.back in
    hexadecimal_fault c.args.src.now c.split_at.result.0.now c.split_at.result.1.now c.in-Err.fault r c.in-Err.ensures.fault
