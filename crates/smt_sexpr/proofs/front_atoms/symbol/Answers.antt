use Rattle.law_texts.proofs.Runs.{run_at}
use Rattle.law_texts.specs.Lexicon.{is_symbol_byte}
use Rattle.smt_sexpr.proofs.Atoms.{name_fault, name_stands}
use Rattle.smt_sexpr.proofs.front_atoms.symbol.Goals as goal

pub returns-in-Ok-clause-found : goal.returns-in-Ok-clause-found
returns-in-Ok-clause-found c =
    let r = run_at is_symbol_byte c.args.src.now c.split_at.result.0.now c.split_at.result.1.now c.symbol_len.result c.symbol_len.ensures c.split_at.ensures.front c.split_at.ensures.back in
    name_stands c.args.src.now c.split_at.result.0.now c.split_at.result.1.now c.in-Ok.name.now r c.requires c.in-Ok.ensures.cases.1 c.in-Ok.ensures.cases.0

pub returns-in-Err-clause-none : goal.returns-in-Err-clause-none
returns-in-Err-clause-none c =
    let r = run_at is_symbol_byte c.args.src.now c.split_at.result.0.now c.split_at.result.1.now c.symbol_len.result c.symbol_len.ensures c.split_at.ensures.front c.split_at.ensures.back in
    name_fault c.args.src.now c.split_at.result.0.now c.split_at.result.1.now r c.requires c.in-Err.ensures.cases.0
