use Rattle.std.proofs.Common.{[], ◌∷◌, ◌++◌, bytes_eq, codes, refl, sym, ap, ◌∙◌, arith}
use Rattle.std.specs.Rc.{rc_str_bytes}
use Rattle.law_texts.specs.Lexicon.{End, Name, Word}
use Rattle.law_texts.specs.Reading.{inside}
use Rattle.law_jobs.specs.Steps.{AssertStep}
use Rattle.law_jobs.specs.Terms.{conditions_of}
use Rattle.smt_jobs.specs.Walk.{first_by, named_in, step_in}
use Rattle.smt_jobs.proofs.Walking.{assertion, first_faulty, first_stated, gives_passes, is_there, no_assertion, not_there, one_read, others_behind, step_by_name, step_unheaded}
use Rattle.smt_jobs.proofs.walk.take_step.Goals as goal

pub returns-in_err-name-clause-stated : goal.returns-in_err-name-clause-stated
returns-in_err-name-clause-stated g c ds has es end i =
    gives_passes _ c.from_residual.result c.in_err-name.field-0.0 (first_by (step_in ds c.args.levels) es) (first_by (step_in ds c.args.levels) es) c.from_residual.ensures.1
    (not_there (step_in ds c.args.levels) 510 es c.args.src.now end c.in_err-name.field-0.0 i c.in_err-name.ensures.form c.in_err-name.ensures.stated (step_unheaded ds c.args.levels)) (λ f h. h)

pub returns-in_err-rest-clause-stated : goal.returns-in_err-rest-clause-stated
returns-in_err-rest-clause-stated g c ds has es end i =
    let n = rc_str_bytes c.in_ok-name.name in
    let same = sym (c.if-eq.ensures ∙ ap (λ x. bytes_eq x (codes "assert")) c.as_str.ensures.value) in
    let t = is_there 510 es c.args.src.now c.in_ok-name.inside.now end (Word (Name n) ∷ []) i c.in_ok-name.ensures.read in
    let h = c.in_ok-name.ensures.stated t.first (inside t.more ++ (End ∷ end)) t.begins in
    gives_passes _ c.from_residual-in_err-rest.result c.in_err-rest.field-0.0 (first_by (step_in ds c.args.levels) es) (conditions_of ds h.0.1) c.from_residual-in_err-rest.ensures.1
    (c.in_err-rest.ensures.stated ds has h.0.1 (inside t.more ++ (End ∷ end)) h.2.1)
    (λ f none. first_faulty (step_in ds c.args.levels) 510 es c.args.src.now end t f (step_by_name ds c.args.levels t.first h.0 n h.1 h.2.0 ∙ no_assertion ds c.args.levels n h.0.1 same f none))

pub returns-then-eq-clause-read : goal.returns-then-eq-clause-read
returns-then-eq-clause-read g c = one_read (rc_str_bytes c.in_ok-name.name) 510 c.args.src.now c.in_ok-name.inside.now c.in_ok-rest.rest.now (omega arith) c.in_ok-name.ensures.read c.in_ok-rest.ensures.read

pub returns-then-eq-clause-stated : goal.returns-then-eq-clause-stated
returns-then-eq-clause-stated g c ds has es end i =
    let n = rc_str_bytes c.in_ok-name.name in
    let same = sym (c.if-eq.ensures ∙ ap (λ x. bytes_eq x (codes "assert")) c.as_str.ensures.value) in
    let t = is_there 510 es c.args.src.now c.in_ok-name.inside.now end (Word (Name n) ∷ []) i c.in_ok-name.ensures.read in
    let h = c.in_ok-name.ensures.stated t.first (inside t.more ++ (End ∷ end)) t.begins in
    let ts = c.in_ok-rest.ensures.stated ds has h.0.1 (inside t.more ++ (End ∷ end)) h.2.1 in (
      ((AssertStep ts.0, c.args.levels), t.more),
      first_stated (step_in ds c.args.levels) 510 es c.args.src.now end t (AssertStep ts.0, c.args.levels) (step_by_name ds c.args.levels t.first h.0 n h.1 h.2.0 ∙ assertion ds c.args.levels n h.0.1 same ts.0 ts.1),
      (refl, ts.2.1, others_behind 510 es c.args.src.now c.in_ok-rest.rest.now end t ts.2.0),
    )

pub returns-in_err-rest-2-clause-stated : goal.returns-in_err-rest-2-clause-stated
returns-in_err-rest-2-clause-stated g c ds has es end i =
    let n = rc_str_bytes c.in_ok-name.name in
    let t = is_there 510 es c.args.src.now c.in_ok-name.inside.now end (Word (Name n) ∷ []) i c.in_ok-name.ensures.read in
    let h = c.in_ok-name.ensures.stated t.first (inside t.more ++ (End ∷ end)) t.begins in
    gives_passes _ c.from_residual-in_err-rest-2.result c.in_err-rest-2.field-0.0 (first_by (step_in ds c.args.levels) es) (named_in ds c.args.levels c.as_str-else-eq.result.now h.0.1) c.from_residual-in_err-rest-2.ensures.1
    (c.in_err-rest-2.ensures.stated ds h.0.1 (inside t.more ++ (End ∷ end)) h.2.1)
    (λ f none. first_faulty (step_in ds c.args.levels) 510 es c.args.src.now end t f (step_by_name ds c.args.levels t.first h.0 c.as_str-else-eq.result.now h.1 (c.as_str-else-eq.ensures.value ∙ h.2.0) ∙ none))

pub returns-clause-read : goal.returns-clause-read
returns-clause-read g c = one_read (rc_str_bytes c.in_ok-name.name) 510 c.args.src.now c.in_ok-name.inside.now c.in_ok-rest-2.rest.now (omega arith) c.in_ok-name.ensures.read c.in_ok-rest-2.ensures.read

pub returns-clause-stated : goal.returns-clause-stated
returns-clause-stated g c ds has es end i =
    let n = rc_str_bytes c.in_ok-name.name in
    let t = is_there 510 es c.args.src.now c.in_ok-name.inside.now end (Word (Name n) ∷ []) i c.in_ok-name.ensures.read in
    let h = c.in_ok-name.ensures.stated t.first (inside t.more ++ (End ∷ end)) t.begins in
    let s = c.in_ok-rest-2.ensures.stated ds h.0.1 (inside t.more ++ (End ∷ end)) h.2.1 in (
      (s.0, t.more),
      first_stated (step_in ds c.args.levels) 510 es c.args.src.now end t s.0 (step_by_name ds c.args.levels t.first h.0 c.as_str-else-eq.result.now h.1 (c.as_str-else-eq.ensures.value ∙ h.2.0) ∙ s.1),
      (s.2.0, s.2.1, others_behind 510 es c.args.src.now c.in_ok-rest-2.rest.now end t s.2.2),
    )
