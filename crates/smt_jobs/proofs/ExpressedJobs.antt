-- A job of an expression that is read already: what its parts give, and what they give together.
use Rattle.std.proofs.Common.{◌≡◌, ℕ, zero, suc, ◌+◌, ◌<◌, ◌≤◌, List, [], ◌∷◌, ◌++◌, Ok, Err, drop, get_or, length, map, refl, sym, ap, ◌∙◌, append-nil, arith, codes, bytes_eq, true}
use Rattle.std.proofs.lemmas.Slice.Eq.{bytes_eq-Decides}
use Rattle.std.proofs.lemmas.List.{at_drop_more, at_drop_all, map-append}
use Rattle.law_folding.specs.Built.{built}
use Rattle.law_terms.specs.Plain.{PlainTerm}
use Rattle.law_texts.specs.Reading.{Expression, Expressions, Nil, Cons}
use Rattle.law_texts.specs.Outcomes.{◌>>=◌}
use Rattle.law_jobs.specs.Declarations.{Declared}
use Rattle.law_jobs.specs.Jobs.{PlainJob, built_job, declared_first, job_of, section_first, section_of, steps_last}
use Rattle.law_jobs.specs.Outcomes.{JobFault, Outcome, FormFault, followed, mapped}
use Rattle.law_jobs.specs.Steps.{PlainStep, AssertStep, PushStep, PopStep, CheckStep, Section, built_step, built_steps, headed, levels_behind, nothing_more, step_named, step_of, steps_of}
use Rattle.law_jobs.specs.Terms.{condition_of, conditions_of}
use Rattle.smt_sexpr.specs.View.{plain, plain_list}
use Rattle.smt_sexpr.specs.declared.expression.SExpr.{SExpr}
use Rattle.smt_term.specs.View.{plain_term}
use Rattle.smt_term.specs.declared.term.Term.{Term}
use Rattle.smt_job_terms.proofs.Reading.{IsMappedOf, behind, mapped_fault, mapped_of, nothing_behind, one_behind}
use Rattle.smt_jobs.specs.StepView.{plain_bare_step}
use Rattle.smt_jobs.specs.Walk.{first_and_others, first_by, section_in}
use Rattle.smt_jobs.specs.declared.steps.BareStep.{BareStep}
use Rattle.smt_job_terms.proofs.TermsRead.{built_followed}
use Rattle.smt_jobs.proofs.Walking.{IsSectioned, bare_built, cons_from, ended, neither_there, nil_from, no_job, no_steps, no_steps_there, no_terms_there, not_declared, not_ended, steps_there, terms_there, with_steps, without_steps}

-- ---- the Boolean terms, one after the other

module _ (ds : Declared) where
  abbrev pub built_conditions : Expressions → Outcome (List PlainTerm)
  built_conditions es = mapped (map built) (conditions_of ds es)

  -- what is read and what is left are all
  abbrev pub ReadingConditions : (done : List Term) (remaining all : List SExpr) → Type 0
  ReadingConditions done remaining all = built_conditions (plain_list all) ≡ behind (map plain_term done) (built_conditions (plain_list remaining))

  pub no_conditions_read : (all : List SExpr) → ReadingConditions [] all all
  no_conditions_read all = nothing_behind (built_conditions (plain_list all))

  pub all_conditions : (done : List Term) (all : List SExpr) (i : ℕ) → length all ≤ i → ReadingConditions done (drop i all) all → built_conditions (plain_list all) ≡ Ok (map plain_term done)
  all_conditions done all i l g = g ∙ ap (behind (map plain_term done)) (at_drop_all (λ xs. built_conditions (plain_list xs)) all i l) ∙ ap Ok (append-nil (map plain_term done))

  module _ (done : List Term) (all : List SExpr) (i : ℕ) (item : SExpr) (g : ReadingConditions done (drop i all) all) (l : i < length all) (at : item ≡ get_or all i item) where
    abbrev others : Outcome (List PlainTerm)
    others = built_conditions (plain_list (drop (i + 1) all))

    this_condition : built_conditions (plain_list all) ≡ behind (map plain_term done) (mapped built (condition_of ds (plain item)) >>= λ b. followed b others)
    this_condition =
        g
        ∙ ap (behind (map plain_term done)) (at_drop_more (λ xs. built_conditions (plain_list xs)) all i item l
        ∙ ap (λ x. built_conditions (Cons (plain x) (plain_list (drop (i + 1) all)))) (sym at) ∙ built_followed (condition_of ds (plain item)) (conditions_of ds (plain_list (drop (i + 1) all))))

    pub condition_fault : (f : JobFault) → mapped built (condition_of ds (plain item)) ≡ Err f → built_conditions (plain_list all) ≡ Err f
    condition_fault f h = this_condition ∙ ap (λ o. behind (map plain_term done) (o >>= λ b. followed b others)) h

    pub one_condition_more : (t : Term) (more : List Term) → mapped built (condition_of ds (plain item)) ≡ Ok (plain_term t) → more ≡ done ++ t ∷ [] → ReadingConditions more (drop (i + 1) all) all
    one_condition_more t more h is =
        this_condition
        ∙ ap (λ o. behind (map plain_term done) (o >>= λ b. followed b others)) h
        ∙ one_behind (map plain_term done) (plain_term t) others
        ∙ ap (λ ts. behind ts others) (sym (map-append plain_term done (t ∷ [])) ∙ ap (map plain_term) (sym is))

-- ---- the steps, one after the other

steps_followed : (s : PlainStep) (rest : Outcome (List PlainStep)) → mapped built_steps (followed s rest) ≡ followed (built_step s) (mapped built_steps rest)
steps_followed s (Ok ss) = refl
steps_followed s (Err f) = refl

-- what is built of a step opens and closes the levels that the step does
levels_built : (k : ℕ) (s : PlainStep) → levels_behind k (built_step s) ≡ levels_behind k s
levels_built zero (AssertStep ts) = refl
levels_built (suc k) (AssertStep ts) = refl
levels_built k PushStep = refl
levels_built zero PopStep = refl
levels_built (suc k) PopStep = refl
levels_built zero CheckStep = refl
levels_built (suc k) CheckStep = refl

module _ (ds : Declared) where
  abbrev pub steps_built : (levels : ℕ) → Expressions → Outcome (List PlainStep)
  steps_built k es = mapped built_steps (steps_of ds k es)

  -- what is read and what is left, with so many levels open before it, are all
  abbrev pub ReadingSteps : (done : List PlainStep) (levels : ℕ) (remaining all : List SExpr) → Type 0
  ReadingSteps done k remaining all = steps_built 0 (plain_list all) ≡ behind done (steps_built k (plain_list remaining))

  pub no_steps_read : (all : List SExpr) → ReadingSteps [] 0 all all
  no_steps_read all = nothing_behind (steps_built 0 (plain_list all))

  pub all_steps : (done : List PlainStep) (k : ℕ) (all : List SExpr) (i : ℕ) → length all ≤ i → ReadingSteps done k (drop i all) all → steps_built 0 (plain_list all) ≡ Ok done
  all_steps done k all i l g = g ∙ ap (behind done) (at_drop_all (λ xs. steps_built k (plain_list xs)) all i l) ∙ ap Ok (append-nil done)

  module _ (done : List PlainStep) (k : ℕ) (all : List SExpr) (i : ℕ) (item : SExpr) (g : ReadingSteps done k (drop i all) all) (l : i < length all) (at : item ≡ get_or all i item) where
    abbrev left : Expressions
    left = plain_list (drop (i + 1) all)

    abbrev by_step : Outcome PlainStep → Outcome (List PlainStep)
    by_step o = behind done (mapped built_steps (o >>= λ s. levels_behind k s >>= λ m. followed s (steps_of ds m left)))

    abbrev by_level : PlainStep → Outcome ℕ → Outcome (List PlainStep)
    by_level s o = behind done (mapped built_steps (o >>= λ m. followed s (steps_of ds m left)))

    this_step : steps_built 0 (plain_list all) ≡ by_step (step_of ds (plain item))
    this_step = g ∙ ap (behind done) (at_drop_more (λ xs. steps_built k (plain_list xs)) all i item l ∙ ap (λ x. steps_built k (Cons (plain x) left)) (sym at))

    pub step_fault : (f : JobFault) → mapped built_step (step_of ds (plain item)) ≡ Err f → steps_built 0 (plain_list all) ≡ Err f
    step_fault f h = this_step ∙ ap by_step (mapped_fault built_step (step_of ds (plain item)) f h)

    module _ (now : PlainStep) (h : mapped built_step (step_of ds (plain item)) ≡ Ok now) where
      pub level_fault : (f : JobFault) → levels_behind k now ≡ Err f → steps_built 0 (plain_list all) ≡ Err f
      level_fault f h2 =
          let o = mapped_of built_step (step_of ds (plain item)) now h in
          this_step ∙ ap by_step o.is_stated ∙ ap (by_level o.stated) (sym (levels_built k o.stated) ∙ ap (levels_behind k) (sym o.is_mapped) ∙ h2)

      pub one_step_more : (m : ℕ) (more : List PlainStep) → levels_behind k now ≡ Ok m → more ≡ done ++ now ∷ [] → ReadingSteps more m (drop (i + 1) all) all
      one_step_more m more h2 is =
          let o = mapped_of built_step (step_of ds (plain item)) now h in
          this_step
          ∙ ap by_step o.is_stated
          ∙ ap (by_level o.stated) (sym (levels_built k o.stated) ∙ ap (levels_behind k) (sym o.is_mapped) ∙ h2)
          ∙ ap (behind done) (steps_followed o.stated (steps_of ds m left))
          ∙ one_behind done (built_step o.stated) (steps_built m left)
          ∙ ap (λ ts. behind ts (steps_built m left)) (ap (λ s. done ++ s ∷ []) (sym o.is_mapped) ∙ sym is)

-- ---- one step, and the last section

-- where something stands there, more stands there
pub more_listed : (xs : List SExpr) → 1 ≤ length xs → nothing_more (plain_list xs) ≡ Err FormFault
more_listed (x ∷ xs) l = refl
more_listed [] l = absurd (omega (arith, l))

module _ (ds : Declared) (e : Expression) (n : List ℕ) (es : Expressions) (head : headed e ≡ Ok (n, es)) where
  step_at : mapped built_step (step_of ds e) ≡ mapped built_step (step_named ds n es)
  step_at = ap (λ o. mapped built_step (o >>= λ p. step_named ds p.0 p.1)) head

  pub bare_fault : (f : JobFault) → step_named ds n es ≡ Err f → mapped built_step (step_of ds e) ≡ Err f
  bare_fault f h = step_at ∙ ap (mapped built_step) h

  pub bare_stated : (s : BareStep) → step_named ds n es ≡ Ok (plain_bare_step s) → mapped built_step (step_of ds e) ≡ Ok (plain_bare_step s)
  bare_stated s h = step_at ∙ ap (mapped built_step) h ∙ ap Ok (bare_built s)

  module _ (same : bytes_eq n (codes "assert") ≡ true) where
    asserting : mapped built_step (step_of ds e) ≡ mapped built_step (conditions_of ds es >>= λ ts. Ok (AssertStep ts))
    asserting = step_at ∙ ap (λ (x : List ℕ). mapped built_step (step_named ds x es)) ((bytes_eq-Decides n (codes "assert")).0 same)

    pub assert_fault : (f : JobFault) → mapped (map built) (conditions_of ds es) ≡ Err f → mapped built_step (step_of ds e) ≡ Err f
    assert_fault f h = asserting ∙ ap (λ o. mapped built_step (o >>= λ ts. Ok (AssertStep ts))) (mapped_fault (map built) (conditions_of ds es) f h)

    pub assert_stated : (ts : List PlainTerm) → mapped (map built) (conditions_of ds es) ≡ Ok ts → mapped built_step (step_of ds e) ≡ Ok (AssertStep ts)
    assert_stated ts h =
        let o = mapped_of (map built) (conditions_of ds es) ts h in
        asserting ∙ ap (λ r. mapped built_step (r >>= λ us. Ok (AssertStep us))) o.is_stated ∙ ap (λ us. Ok (AssertStep us)) (sym o.is_mapped)

module _ (ds : Declared) where
  abbrev pub built_section : Outcome (Section × List PlainStep) → Outcome (List PlainStep)
  built_section o = mapped (λ x. built_steps x.1) o

  pub terms_fault : (e : Expression) (n : List ℕ) (es : Expressions) → headed e ≡ Ok (n, es) → n ≡ codes "terms" → (f : JobFault) → mapped (map built) (conditions_of ds es) ≡ Err f → built_section (section_in ds e) ≡ Err f
  terms_fault e n es head is f h = ap built_section (no_terms_there ds e (n, es) n head refl is f (mapped_fault (map built) (conditions_of ds es) f h))

  pub terms_stated : (e : Expression) (n : List ℕ) (es : Expressions) → headed e ≡ Ok (n, es) → n ≡ codes "terms" → (ts : List PlainTerm) (steps : List PlainStep) → mapped (map built) (conditions_of ds es) ≡ Ok ts → steps ≡ AssertStep ts ∷ [] → built_section (section_in ds e) ≡ Ok steps
  terms_stated e n es head is ts steps h made =
      let o = mapped_of (map built) (conditions_of ds es) ts h in
      ap built_section (terms_there ds e (n, es) n head refl is o.stated o.is_stated) ∙ ap (λ us. Ok (AssertStep us ∷ [])) (sym o.is_mapped) ∙ ap Ok (sym made)

  by_steps : (e : Expression) (n : List ℕ) (es : Expressions) → headed e ≡ Ok (n, es) → n ≡ codes "steps" → (o : Outcome (List PlainStep)) → steps_of ds 0 es ≡ o → built_section (section_in ds e) ≡ mapped built_steps o
  by_steps e n es head is (Ok ss) h = ap built_section (steps_there ds e (n, es) n head refl is ss h)
  by_steps e n es head is (Err f) h = ap built_section (no_steps_there ds e (n, es) n head refl is f h)

  pub steps_stated : (e : Expression) (n : List ℕ) (es : Expressions) → headed e ≡ Ok (n, es) → n ≡ codes "steps" → built_section (section_in ds e) ≡ mapped built_steps (steps_of ds 0 es)
  steps_stated e n es head is = by_steps e n es head is (steps_of ds 0 es) refl

  pub neither_stated : (e : Expression) (n : List ℕ) (es : Expressions) → headed e ≡ Ok (n, es) → (n ≡ codes "terms" → ⊥) → (n ≡ codes "steps" → ⊥) → built_section (section_in ds e) ≡ Err FormFault
  neither_stated e n es head a b = ap built_section (neither_there ds e (n, es) n head refl a b)

  module _ (es : Expressions) where
    pub none_last : (f : JobFault) → first_and_others es ≡ Err f → built_section (steps_last ds es) ≡ Err f
    none_last f h = (let none = nil_from es f h in ap (λ x. built_section (steps_last ds x)) none.0 ∙ ap Err none.1)

    module _ (e : Expression) (others : Expressions) (first : first_and_others es ≡ Ok (e, others)) where
      first_section : first_by (section_in ds) es ≡ (section_in ds e >>= λ a. Ok (a, others))
      first_section = ap (first_by (section_in ds)) (cons_from es (e, others) first)

      pub last_fault : (f : JobFault) → built_section (section_in ds e) ≡ Err f → built_section (steps_last ds es) ≡ Err f
      last_fault f h = ap built_section (no_steps ds es f (first_section ∙ ap (λ o. o >>= λ a. Ok (a, others)) (mapped_fault (λ x. built_steps x.1) (section_in ds e) f h)))

      module _ (steps : List PlainStep) (h : built_section (section_in ds e) ≡ Ok steps) where
        found : IsMappedOf (λ x. built_steps x.1) (section_in ds e) steps
        found = mapped_of (λ x. built_steps x.1) (section_in ds e) steps h

        first_found : first_by (section_in ds) es ≡ Ok (found.stated, others)
        first_found = first_section ∙ ap (λ o. o >>= λ a. Ok (a, others)) found.is_stated

        pub more_fault : (f : JobFault) → nothing_more others ≡ Err f → built_section (steps_last ds es) ≡ Err f
        more_fault f more = ap built_section (not_ended ds es (found.stated, others) first_found f more)

        pub last_stated : nothing_more others ≡ Ok tt → built_section (steps_last ds es) ≡ Ok steps
        last_stated none = ap built_section (ended ds es (found.stated, others) first_found none) ∙ ap Ok (sym found.is_mapped)

-- ---- the whole job

abbrev pub built_whole : Outcome (Section × PlainJob) → Outcome PlainJob
built_whole o = mapped (λ x. built_job x.1) o

module _ (e : Expression) where
  pub job_fault : (f : JobFault) → section_of (codes "job") e ≡ Err f → built_whole (job_of e) ≡ Err f
  job_fault f h = ap built_whole (no_job e f h)

  module _ (es : Expressions) (inside : section_of (codes "job") e ≡ Ok es) where
    pub declared_fault : (f : JobFault) → declared_first es ≡ Err f → built_whole (job_of e) ≡ Err f
    declared_fault f h = ap built_whole (not_declared e es f inside h)

    module _ (ds : Declared) (others : Expressions) (declares : declared_first es ≡ Ok (ds, others)) where
      sectioned : IsSectioned e ds others
      sectioned = record { inside = es; is_job = inside; p = (ds, others); declares = declares; declared = refl; others_are = refl }

      pub steps_fault : (f : JobFault) → built_section ds (steps_last ds others) ≡ Err f → built_whole (job_of e) ≡ Err f
      steps_fault f h = ap built_whole (without_steps e ds others sectioned f (mapped_fault (λ x. built_steps x.1) (steps_last ds others) f h))

      pub job_stated : (steps : List PlainStep) → built_section ds (steps_last ds others) ≡ Ok steps → built_whole (job_of e) ≡ Ok (record { enums = ds.enums; variables = ds.variables; functions = ds.functions; steps = steps })
      job_stated steps h =
          let o = mapped_of (λ x. built_steps x.1) (steps_last ds others) steps h in
          ap built_whole (with_steps e ds others sectioned o.stated o.is_stated) ∙ ap (λ ss. Ok (record { enums = ds.enums; variables = ds.variables; functions = ds.functions; steps = ss })) (sym o.is_mapped)

-- ---- the first section

-- what a section states is what its inside states
abbrev beside : {B : Type 0} → Expressions → Outcome B → Outcome (B × Expressions)
beside es o = o >>= λ b. Ok (b, es)

abbrev read_inside : {B : Type 0} → (Expressions → Outcome B) → Outcome (Expressions × Expressions) → Outcome (B × Expressions)
read_inside reads o = o >>= λ p. beside p.1 (reads p.0)

pub inside_first : {B : Type 0} (head : List ℕ) (reads : Expressions → Outcome B) (es : Expressions) → section_first head reads es ≡ read_inside reads (section_first head (λ x. Ok x) es)
inside_first head reads Nil = refl
inside_first {B = B} head reads (Cons e es) = go (section_of head e)
  where
    go : (o : Outcome Expressions) → beside {B = B} es (o >>= reads) ≡ read_inside reads (beside {B = Expressions} es (o >>= λ x. Ok x))
    go (Ok x) = refl
    go (Err f) = refl

module _ {B : Type 0} (head : List ℕ) (reads : Expressions → Outcome B) (es : Expressions) where
  pub section_missing : (f : JobFault) → section_first head (λ x. Ok x) es ≡ Err f → section_first head reads es ≡ Err f
  section_missing f h = inside_first head reads es ∙ ap (read_inside reads) h

  module _ (inside others : Expressions) (first : section_first head (λ x. Ok x) es ≡ Ok (inside, others)) where
    section_found : section_first head reads es ≡ beside others (reads inside)
    section_found = inside_first head reads es ∙ ap (read_inside reads) first

    pub section_fault : (f : JobFault) → reads inside ≡ Err f → section_first head reads es ≡ Err f
    section_fault f h = section_found ∙ ap (beside others) h

    pub section_stated : (b : B) → reads inside ≡ Ok b → section_first head reads es ≡ Ok (b, others)
    section_stated b h = section_found ∙ ap (beside others) h
