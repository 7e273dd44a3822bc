use Rattle.law_texts.proofs.Runs.{run_at}
use Rattle.law_texts.proofs.Strings.{is_no_quote, quoted_none, quoted_ends, quoted_more}
use Rattle.smt_sexpr.proofs.token.split_quoted.Goals as goal

pub returns-in_default-clause-none : goal.returns-in_default-clause-none
returns-in_default-clause-none c =
    let r = run_at is_no_quote c.loop-text.rest.now c.split_at.result.0.now c.split_at.result.1.now c.run_len.result c.run_len.ensures c.split_at.ensures.front c.split_at.ensures.back in
    quoted_none _ c.loop-text.text.items _ _ _ c.loop-text.invariant r c.in_default.ensures.none

pub returns-in_default-behind-clause-found : goal.returns-in_default-behind-clause-found
returns-in_default-behind-clause-found c =
    let r = run_at is_no_quote c.loop-text.rest.now c.split_at.result.0.now c.split_at.result.1.now c.run_len.result c.run_len.ensures c.split_at.ensures.front c.split_at.ensures.back in
    quoted_ends _ c.loop-text.text.items _ _ _ _ _ c.loop-text.invariant r c.in-Some.ensures.found c.in_default-behind.ensures.none c.in_ok-extend_from_slice.ensures.items

pub loop-text-preserved : goal.loop-text-preserved
loop-text-preserved c =
    let r = run_at is_no_quote c.loop-text.rest.now c.split_at.result.0.now c.split_at.result.1.now c.run_len.result c.run_len.ensures c.split_at.ensures.front c.split_at.ensures.back in
    quoted_more _ c.loop-text.text.items _ _ _ _ _ _ _ c.loop-text.invariant r c.in-Some.ensures.found c.in-Some-behind.ensures.found c.in_ok-extend_from_slice.ensures.items c.in_ok-push.ensures.items
