use Rattle.std.proofs.Common.{subst, sym}
use Rattle.std.specs.Str.{IsAscii}
use Rattle.std.proofs.lemmas.Str.{IsUtf8-from_ascii}
use Rattle.law_texts.proofs.Runs.{run_at}
use Rattle.smt_sexpr.specs.Pieces.{stands_as_itself}
use Rattle.smt_sexpr.proofs.Fronts.{where_any}
use Rattle.smt_sexpr.proofs.Missing.{closed_once, plain_run}
use Rattle.smt_sexpr.proofs.PlainTexts.{plain_ascii, plain_stands}
use Rattle.smt_sexpr.proofs.front_atoms.plain_text.Goals as goal

pub returns-in-Ok-clause-found : goal.returns-in-Ok-clause-found
returns-in-Ok-clause-found c =
    let r = run_at stands_as_itself c.args.src.now c.split_at.result.0.now c.split_at.result.1.now c.plain_len.result c.plain_len.ensures c.split_at.ensures.front c.split_at.ensures.back in
    plain_stands c.args.src.now c.split_at.result.0.now c.split_at.result.1.now c.in-Ok.text.now c.in_ok-rest.rest.now r c.in_ok-rest.ensures.found c.in-None.ensures.none c.in-Ok.ensures.cases.0

pub returns-in-Ok-clause-ascii : goal.returns-in-Ok-clause-ascii
returns-in-Ok-clause-ascii c =
    let r = run_at stands_as_itself c.args.src.now c.split_at.result.0.now c.split_at.result.1.now c.plain_len.result c.plain_len.ensures c.split_at.ensures.front c.split_at.ensures.back in
    subst IsAscii (sym c.in-Ok.ensures.cases.0) (plain_ascii c.split_at.result.0.now r.each)

pub returns-in_err-rest-clause-none : goal.returns-in_err-rest-clause-none
returns-in_err-rest-clause-none c =
    let r = run_at stands_as_itself c.args.src.now c.split_at.result.0.now c.split_at.result.1.now c.plain_len.result c.plain_len.ensures c.split_at.ensures.front c.split_at.ensures.back in
    where_any c.from_residual.result (λ text rest f p. c.in_err-rest.ensures.none rest (plain_run c.args.src.now c.split_at.result.0.now c.split_at.result.1.now text rest r f p).1)

pub returns-in_default-clause-none : goal.returns-in_default-clause-none
returns-in_default-clause-none c =
    let r = run_at stands_as_itself c.args.src.now c.split_at.result.0.now c.split_at.result.1.now c.plain_len.result c.plain_len.ensures c.split_at.ensures.front c.split_at.ensures.back in
    λ text rest f p. closed_once c.args.src.now c.split_at.result.0.now c.split_at.result.1.now text rest r f p c.in_ok-rest.rest.now c.in_default.field-0.now c.in_ok-rest.ensures.found c.in_default.ensures.found

pub returns-in-Err-clause-none : goal.returns-in-Err-clause-none
returns-in-Err-clause-none c =
    let r = run_at stands_as_itself c.args.src.now c.split_at.result.0.now c.split_at.result.1.now c.plain_len.result c.plain_len.ensures c.split_at.ensures.front c.split_at.ensures.back in
    λ text rest f p. c.in-Err.ensures.cases.0 (IsUtf8-from_ascii c.split_at.result.0.now (plain_ascii c.split_at.result.0.now r.each))
