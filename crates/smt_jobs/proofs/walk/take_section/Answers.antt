use Rattle.std.proofs.Common.{[], ◌∷◌, ◌++◌, refl, ◌∙◌, arith}
use Rattle.std.specs.Rc.{rc_str_bytes}
use Rattle.law_texts.specs.Lexicon.{End, Name, Word}
use Rattle.law_texts.specs.Reading.{inside}
use Rattle.law_jobs.specs.Steps.{AssertStep, StepsSection, TermsSection, steps_of}
use Rattle.law_jobs.specs.Terms.{conditions_of}
use Rattle.smt_jobs.specs.Walk.{first_by, section_in}
use Rattle.smt_jobs.proofs.Walking.{first_faulty, first_stated, gives_passes, is_there, neither_there, no_steps_there, no_terms_there, not_there, one_read, others_behind, section_unheaded, steps_there, terms_there}
use Rattle.smt_jobs.proofs.walk.take_section.Goals as goal

pub returns-in_err-name-clause-stated : goal.returns-in_err-name-clause-stated
returns-in_err-name-clause-stated g c ds has es end i =
    gives_passes _ c.from_residual.result c.in_err-name.field-0.0 (first_by (section_in ds) es) (first_by (section_in ds) es) c.from_residual.ensures.1
    (not_there (section_in ds) 511 es c.args.src.now end c.in_err-name.field-0.0 i c.in_err-name.ensures.form c.in_err-name.ensures.stated (section_unheaded ds)) (λ f h. h)

pub returns-in-terms-clause-read : goal.returns-in-terms-clause-read
returns-in-terms-clause-read g c = one_read (rc_str_bytes c.in_ok-name.name) 511 c.args.src.now c.in_ok-name.inside.now c.in_ok-rest-in-terms.rest.now (omega arith) c.in_ok-name.ensures.read c.in_ok-rest-in-terms.ensures.read

pub returns-in-steps-clause-read : goal.returns-in-steps-clause-read
returns-in-steps-clause-read g c = one_read (rc_str_bytes c.in_ok-name.name) 511 c.args.src.now c.in_ok-name.inside.now c.in_ok-rest-in-steps.rest.now (omega arith) c.in_ok-name.ensures.read c.in_ok-rest-in-steps.ensures.read

pub returns-in_err-rest-in-terms-clause-stated : goal.returns-in_err-rest-in-terms-clause-stated
returns-in_err-rest-in-terms-clause-stated g c ds has es end i =
    let t = is_there 511 es c.args.src.now c.in_ok-name.inside.now end (Word (Name (rc_str_bytes c.in_ok-name.name)) ∷ []) i c.in_ok-name.ensures.read in
    let h = c.in_ok-name.ensures.stated t.first (inside t.more ++ (End ∷ end)) t.begins in
    gives_passes _ c.from_residual-in_err-rest-in-terms.result c.in_err-rest-in-terms.field-0.0 (first_by (section_in ds) es) (conditions_of ds h.0.1) c.from_residual-in_err-rest-in-terms.ensures.1
    (c.in_err-rest-in-terms.ensures.stated ds has h.0.1 (inside t.more ++ (End ∷ end)) h.2.1)
    (λ f none. first_faulty (section_in ds) 511 es c.args.src.now end t f (no_terms_there ds t.first h.0 c.as_str.result.now h.1 (c.as_str.ensures.value ∙ h.2.0) c.in-terms.is f none))

pub returns-in-terms-clause-stated : goal.returns-in-terms-clause-stated
returns-in-terms-clause-stated g c ds has es end i =
    let t = is_there 511 es c.args.src.now c.in_ok-name.inside.now end (Word (Name (rc_str_bytes c.in_ok-name.name)) ∷ []) i c.in_ok-name.ensures.read in
    let h = c.in_ok-name.ensures.stated t.first (inside t.more ++ (End ∷ end)) t.begins in
    let ts = c.in_ok-rest-in-terms.ensures.stated ds has h.0.1 (inside t.more ++ (End ∷ end)) h.2.1 in (
      ((TermsSection, AssertStep ts.0 ∷ []), t.more),
      first_stated (section_in ds) 511 es c.args.src.now end t (TermsSection, AssertStep ts.0 ∷ []) (terms_there ds t.first h.0 c.as_str.result.now h.1 (c.as_str.ensures.value ∙ h.2.0) c.in-terms.is ts.0 ts.1),
      (refl, ts.2.1, others_behind 511 es c.args.src.now c.in_ok-rest-in-terms.rest.now end t ts.2.0),
    )

pub returns-in_err-rest-in-steps-clause-stated : goal.returns-in_err-rest-in-steps-clause-stated
returns-in_err-rest-in-steps-clause-stated g c ds has es end i =
    let t = is_there 511 es c.args.src.now c.in_ok-name.inside.now end (Word (Name (rc_str_bytes c.in_ok-name.name)) ∷ []) i c.in_ok-name.ensures.read in
    let h = c.in_ok-name.ensures.stated t.first (inside t.more ++ (End ∷ end)) t.begins in
    gives_passes _ c.from_residual-in_err-rest-in-steps.result c.in_err-rest-in-steps.field-0.0 (first_by (section_in ds) es) (steps_of ds 0 h.0.1) c.from_residual-in_err-rest-in-steps.ensures.1
    (c.in_err-rest-in-steps.ensures.stated ds has h.0.1 (inside t.more ++ (End ∷ end)) h.2.1)
    (λ f none. first_faulty (section_in ds) 511 es c.args.src.now end t f (no_steps_there ds t.first h.0 c.as_str.result.now h.1 (c.as_str.ensures.value ∙ h.2.0) c.in-steps.is f none))

pub returns-in-steps-clause-stated : goal.returns-in-steps-clause-stated
returns-in-steps-clause-stated g c ds has es end i =
    let t = is_there 511 es c.args.src.now c.in_ok-name.inside.now end (Word (Name (rc_str_bytes c.in_ok-name.name)) ∷ []) i c.in_ok-name.ensures.read in
    let h = c.in_ok-name.ensures.stated t.first (inside t.more ++ (End ∷ end)) t.begins in
    let steps = c.in_ok-rest-in-steps.ensures.stated ds has h.0.1 (inside t.more ++ (End ∷ end)) h.2.1 in (
      ((StepsSection, steps.0), t.more),
      first_stated (section_in ds) 511 es c.args.src.now end t (StepsSection, steps.0) (steps_there ds t.first h.0 c.as_str.result.now h.1 (c.as_str.ensures.value ∙ h.2.0) c.in-steps.is steps.0 steps.1),
      (refl, steps.2.1, others_behind 511 es c.args.src.now c.in_ok-rest-in-steps.rest.now end t steps.2.0),
    )

pub returns-clause-stated : goal.returns-clause-stated
returns-clause-stated g c ds has es end i =
    let t = is_there 511 es c.args.src.now c.in_ok-name.inside.now end (Word (Name (rc_str_bytes c.in_ok-name.name)) ∷ []) i c.in_ok-name.ensures.read in
    let h = c.in_ok-name.ensures.stated t.first (inside t.more ++ (End ∷ end)) t.begins in
    first_faulty (section_in ds) 511 es c.args.src.now end t _ (neither_there ds t.first h.0 c.as_str.result.now h.1 (c.as_str.ensures.value ∙ h.2.0) c.in_default.not-terms c.in_default.not-steps)
