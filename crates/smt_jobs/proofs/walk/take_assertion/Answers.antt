use Rattle.std.proofs.Common.{Bor, List, ℕ, ◌≡◌, [], ◌∷◌, ◌++◌, map, ap, ◌∙◌}
use Rattle.law_folding.specs.Built.{built}
use Rattle.law_terms.specs.Plain.{PlainTerm}
use Rattle.law_texts.specs.Tokens.{HasTokens}
use Rattle.law_jobs.specs.Steps.{AssertStep}
use Rattle.law_jobs.specs.Terms.{conditions_of}
use Rattle.smt_jobs.proofs.Walking.{gives_passes}
use Rattle.smt_jobs.proofs.walk.take_assertion.Goals as goal

pub returns-in_err-rest-clause-stated : goal.returns-in_err-rest-clause-stated
returns-in_err-rest-clause-stated g c ds has es end i =
    gives_passes (λ (rest : Bor (List ℕ)) (written : List PlainTerm). HasTokens rest.now end × (g.T.StepSink.taken c.take_terms.new.out ≡ g.T.StepSink.taken c.args.out.now ++ AssertStep (map built written) ∷ []))
    c.from_residual.result c.in_err-rest.field-0.0 (conditions_of ds es) (conditions_of ds es) c.from_residual.ensures.1 (c.in_err-rest.ensures.stated ds has es end i) (λ f h. h)

pub returns-clause-stated : goal.returns-clause-stated
returns-clause-stated g c ds has es end i =
    let t = c.in_ok-rest.ensures.stated ds has es end i in
    let begun = t.2.1 ∙ ap (λ l. l ++ map built t.0) c.requires.idle in
    (t.0, t.1, (t.2.0, c.in_ok-end_assertion.ensures.taken ∙ (λ k. c.in_ok-rest.ensures.taken k ++ AssertStep (begun k) ∷ [])))
