use Rattle.law_texts.proofs.Runs.{run_at}
use Rattle.law_texts.specs.Lexicon.{is_binary}
use Rattle.smt_sexpr.specs.View.{plain-BitVec}
use Rattle.smt_sexpr.proofs.Atoms.{binary_fault, binary_stands}
use Rattle.smt_sexpr.proofs.Digits.{binary_digits}
use Rattle.smt_sexpr.proofs.token.split_binary.Goals as goal

pub literal-requires-clause-below : goal.literal-requires-clause-below
literal-requires-clause-below c =
    let r = run_at is_binary c.args.src.now c.split_at.result.0.now c.split_at.result.1.now c.binary_len.result c.binary_len.ensures c.split_at.ensures.front c.split_at.ensures.back in
    binary_digits c.split_at.result.0.now r.each

pub returns-in-Ok-clause-found : goal.returns-in-Ok-clause-found
returns-in-Ok-clause-found c =
    let r = run_at is_binary c.args.src.now c.split_at.result.0.now c.split_at.result.1.now c.binary_len.result c.binary_len.ensures c.split_at.ensures.front c.split_at.ensures.back in
    rw plain-BitVec (binary_stands c.args.src.now c.split_at.result.0.now c.split_at.result.1.now c.in-Ok.bits r c.in-Ok.ensures.found)

pub returns-in-Err-clause-fault : goal.returns-in-Err-clause-fault
returns-in-Err-clause-fault c =
    let r = run_at is_binary c.args.src.now c.split_at.result.0.now c.split_at.result.1.now c.binary_len.result c.binary_len.ensures c.split_at.ensures.front c.split_at.ensures.back in
    binary_fault c.args.src.now c.split_at.result.0.now c.split_at.result.1.now c.in-Err.fault r c.in-Err.ensures.fault
