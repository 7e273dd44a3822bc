use Rattle.std.proofs.Common.{Bor, List, ℕ, Option, ◌≡◌, ◌++◌, ◌∷◌, [], ap, ◌∙◌, subst}
use Rattle.std.specs.Prelude.{IfNone, IfSome}
use Rattle.law_folding.specs.Built.{built}
use Rattle.law_jobs.specs.Terms.{condition_of}
use Rattle.smt_sexpr.specs.View.{plain}
use Rattle.smt_jobs.specs.Direct.{IsTakenCondition, ReadsOf}
use Rattle.smt_job_terms.proofs.Reading.{mapped_of}
use Rattle.smt_jobs.proofs.Walking.{cons_from, first_read, found_first}
use Rattle.smt_jobs.proofs.walk.take_term.Goals as goal

pub returns-in-Some-clause-stated : goal.returns-in-Some-clause-stated
returns-in-Some-clause-stated g c ds has es end i =
    let old = g.T.StepSink.begun c.args.out.now in
    let r = subst (λ (o : Option (Bor (List ℕ))). IfSome o (λ rest. ReadsOf (IsTakenCondition c.args.declared.now old (g.T.StepSink.begun c.take_next.new.self)) c.args.src.now c.args.depth rest.now)) c.in-Some.is c.in_ok-rest.ensures.read in
    let first = first_read c.args.depth es r.read c.args.src.now c.in-Some.rest.now end i r.span in
    let w = r.is_so.2 ds has in
    ((w.0, first.others), found_first (condition_of ds) es first.others r.read w.0 first.whole w.1, (r.is_so.1 ∙ ap (λ t. old ++ t ∷ []) w.2, first.begins))

pub returns-clause-stated : goal.returns-clause-stated
returns-clause-stated g c ds has es end i =
    let old = g.T.StepSink.begun c.args.out.now in
    let first = c.in_ok-expression.ensures.stated es end i in
    let same = subst (λ (o : Option (Bor (List ℕ))). IfNone o (g.T.StepSink.begun c.take_next.new.self ≡ old)) c.in_default.is c.in_ok-rest.ensures.unread in
    let o = mapped_of built (condition_of ds (plain c.in_ok-expression.expression)) _ (c.in_ok-condition_from.ensures ds has) in
    ((o.stated, first.0.1), found_first (condition_of ds) es first.0.1 first.0.0 o.stated (cons_from es first.0 first.1) (ap (condition_of ds) first.2.0 ∙ o.is_stated), (c.in_ok-take.ensures.begun ∙ (λ k. same k ++ o.is_mapped k ∷ []), first.2.1))
