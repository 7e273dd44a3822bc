use Rattle.std.proofs.Common.{Bor, List, ℕ, ◌≡◌, ◌-◌, [], ◌∷◌, sym, subst}
use Rattle.std.specs.Rc.{rc_str_bytes}
use Rattle.std.specs.declared.alloc.Global.{Global}
use Rattle.std.specs.declared.rc.RcStr.{RcStr}
use Rattle.law_texts.specs.Lexicon.{Begin, Name, Word}
use Rattle.law_texts.specs.Reading.{Expressions}
use Rattle.law_texts.specs.Tokens.{Spans}
use Rattle.law_texts.proofs.Spans.{joined}
use Rattle.smt_sexpr.specs.View.{plain}
use Rattle.law_jobs.specs.Steps.{headed}
use Rattle.smt_jobs.specs.Walk.{BeginsInside, first_and_others}
use Rattle.smt_jobs.proofs.Walking.{gives_passes, head_is, head_token, no_head, no_name, opened, unopened}
use Rattle.smt_jobs.proofs.walk.read_head.Goals as goal

pub returns-in_default-clause-stated : goal.returns-in_default-clause-stated
returns-in_default-clause-stated c e end begins = unopened c.args.depth e c.args.src.now end begins c.in_default.ensures.none

pub returns-in_err-first-clause-stated : goal.returns-in_err-first-clause-stated
returns-in_err-first-clause-stated c e end begins =
    let inside = opened c.args.depth e c.args.src.now c.in-Some.inside.now end begins c.in-Some.ensures.found in
    gives_passes (λ (x : RcStr Global × Bor (List ℕ)) (p : List ℕ × Expressions). (rc_str_bytes x.0 ≡ p.0) × BeginsInside (c.args.depth - 1) p.1 x.1.now end)
    c.from_residual.result c.in_err-first.field-0.0 (headed e) (first_and_others inside.es) c.from_residual.ensures.1 (c.in_err-first.ensures.stated inside.es end inside.begins)
    (λ f h. no_head e inside.es f inside.whole h)

pub returns-in_default-name_in-clause-stated : goal.returns-in_default-name_in-clause-stated
returns-in_default-name_in-clause-stated c e end begins =
    let inside = opened c.args.depth e c.args.src.now c.in-Some.inside.now end begins c.in-Some.ensures.found in
    let first = c.in_ok-first.ensures.stated inside.es end inside.begins in
    no_name e inside.es first.0 (plain c.in_ok-first.first) inside.whole first.1 first.2.0 (sym c.in_default-name_in.ensures)

pub returns-clause-read : goal.returns-clause-read
returns-clause-read c =
    let token = head_token (plain c.in_ok-first.first) (rc_str_bytes c.in-Some-name_in.name.now) (sym c.in-Some-name_in.ensures) in
    let span = joined c.args.src.now c.in-Some.inside.now c.in_ok-first.rest.now (Begin ∷ []) _ c.in-Some.ensures.found (subst (λ ts. Spans c.in-Some.inside.now ts c.in_ok-first.rest.now) token c.in_ok-first.ensures.read) in
    subst (λ (n : List ℕ). Spans c.args.src.now (Begin ∷ Word (Name n) ∷ []) c.in_ok-first.rest.now) (sym c.in_ok-share_text.ensures) span

pub returns-clause-stated : goal.returns-clause-stated
returns-clause-stated c e end begins =
    let inside = opened c.args.depth e c.args.src.now c.in-Some.inside.now end begins c.in-Some.ensures.found in
    let first = c.in_ok-first.ensures.stated inside.es end inside.begins in (
      (rc_str_bytes c.in-Some-name_in.name.now, first.0.1),
      head_is e inside.es first.0 (plain c.in_ok-first.first) inside.whole first.1 first.2.0 (rc_str_bytes c.in-Some-name_in.name.now) (sym c.in-Some-name_in.ensures),
      (c.in_ok-share_text.ensures, first.2.1),
    )
