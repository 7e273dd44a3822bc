-- An input whose parts are read: what they give together.
use Rattle.std.proofs.Common.{◌≡◌, ℕ, List, [], Ok, Err, map, refl, sym, ap, ◌∙◌, subst}
use Rattle.law_assignments.specs.Assignments.{PlainAssignment}
use Rattle.law_assignments.specs.Covered.{first_missing}
use Rattle.law_assignments.specs.Entries.{assignment_of, assigned_function, get_of, given_by, selector_of, assigned_variable}
use Rattle.law_assignments.specs.Inputs.{input_inside, input_of, unless_missing}
use Rattle.law_assignments.specs.Outcomes.{InputFault, InputOutcome, FormlessInput, RefusedJob, of_job}
use Rattle.law_assignments.specs.Written.{WrittenInput, input_written}
use Rattle.law_folding.specs.Built.{built}
use Rattle.law_jobs.specs.Declarations.{Declared}
use Rattle.law_jobs.specs.Jobs.{PlainJob, built_job, job_of, declarations_of}
use Rattle.law_jobs.specs.Outcomes.{Outcome, mapped}
use Rattle.law_jobs.specs.Steps.{Section, current}
use Rattle.law_jobs.proofs.Steps.{current_built}
use Rattle.law_terms.specs.Functions.{PlainDefinition}
use Rattle.law_terms.specs.Plain.{ExtensionOp, PlainTerm, PlainType}
use Rattle.law_texts.specs.Outcomes.{◌>>=◌, demanded}
use Rattle.law_texts.specs.Reading.{Expression}
use Rattle.smt_eval.specs.AssignmentView.{no_entries}
use Rattle.smt_eval.specs.ReaderView.{built_input}

-- ---- the assignment, section by section

module _ (ds : Declared) (w : WrittenInput) where
  abbrev variables : InputOutcome (List (List ℕ × PlainTerm))
  variables = given_by (assigned_variable ds) [] w.variables

  abbrev functions : InputOutcome (List (List ℕ × PlainDefinition))
  functions = given_by (assigned_function ds) [] w.functions

  abbrev gets : InputOutcome (List (PlainType × PlainTerm))
  gets = given_by (get_of ds) [] w.gets

  abbrev selectors : InputOutcome (List (ExtensionOp × PlainDefinition))
  selectors = given_by (selector_of ds) [] w.selectors

  abbrev together : InputOutcome (List (List ℕ × PlainTerm)) → InputOutcome (List (List ℕ × PlainDefinition)) → InputOutcome (List (PlainType × PlainTerm)) → InputOutcome (List (ExtensionOp × PlainDefinition)) → InputOutcome PlainAssignment
  together o p q r = o >>= λ vs. p >>= λ fs. q >>= λ gs. r >>= λ ss. Ok (record { variables = vs; functions = fs; gets = gs; selectors = ss })

  -- the variables are given, and nothing behind them
  pub record HasVariables (a : PlainAssignment) : Type 0 where
    pub done : variables ≡ Ok a.variables
    pub no_functions : a.functions ≡ []
    pub no_gets : a.gets ≡ []
    pub no_selectors : a.selectors ≡ []

  -- the functions are given too
  pub record HasFunctions (a : PlainAssignment) : Type 0 where
    pub before : variables ≡ Ok a.variables
    pub done : functions ≡ Ok a.functions
    pub no_gets : a.gets ≡ []
    pub no_selectors : a.selectors ≡ []

  -- what `option.get` of none gives is given too
  pub record HasGets (a : PlainAssignment) : Type 0 where
    pub first : variables ≡ Ok a.variables
    pub before : functions ≡ Ok a.functions
    pub done : gets ≡ Ok a.gets
    pub no_selectors : a.selectors ≡ []

  module _ (a : PlainAssignment) where
    pub variables_fault : a ≡ no_entries → (f : InputFault) → given_by (assigned_variable ds) a.variables w.variables ≡ Err f → assignment_of ds w ≡ Err f
    variables_fault e f h = ap (λ o. together o functions gets selectors) (ap (λ (x : PlainAssignment). given_by (assigned_variable ds) x.variables w.variables) (sym e) ∙ h)

    pub with_variables : a ≡ no_entries → (b : PlainAssignment) (vs : List (List ℕ × PlainTerm)) → given_by (assigned_variable ds) a.variables w.variables ≡ Ok vs → b ≡ record a { variables = vs } → HasVariables b
    with_variables e b vs h is = subst HasVariables (sym is) (record {
      done = ap (λ (x : PlainAssignment). given_by (assigned_variable ds) x.variables w.variables) (sym e) ∙ h;
      no_functions = ap (λ (x : PlainAssignment). x.functions) e;
      no_gets = ap (λ (x : PlainAssignment). x.gets) e;
      no_selectors = ap (λ (x : PlainAssignment). x.selectors) e;
    })

    pub functions_fault : HasVariables a → (f : InputFault) → given_by (assigned_function ds) a.functions w.functions ≡ Err f → assignment_of ds w ≡ Err f
    functions_fault g f h =
        ap (λ o. together o functions gets selectors) g.done ∙ ap (λ o. together (Ok a.variables) o gets selectors) (ap (λ fs. given_by (assigned_function ds) fs w.functions) (sym g.no_functions) ∙ h)

    pub with_functions : HasVariables a → (b : PlainAssignment) (fs : List (List ℕ × PlainDefinition)) → given_by (assigned_function ds) a.functions w.functions ≡ Ok fs → b ≡ record a { functions = fs } → HasFunctions b
    with_functions g b fs h is = subst HasFunctions (sym is) (record {
      before = g.done;
      done = ap (λ fs. given_by (assigned_function ds) fs w.functions) (sym g.no_functions) ∙ h;
      no_gets = g.no_gets;
      no_selectors = g.no_selectors;
    })

    pub gets_fault : HasFunctions a → (f : InputFault) → given_by (get_of ds) a.gets w.gets ≡ Err f → assignment_of ds w ≡ Err f
    gets_fault g f h =
        ap (λ o. together o functions gets selectors) g.before ∙ ap (λ o. together (Ok a.variables) o gets selectors) g.done
        ∙ ap (λ o. together (Ok a.variables) (Ok a.functions) o selectors) (ap (λ gs. given_by (get_of ds) gs w.gets) (sym g.no_gets) ∙ h)

    pub with_gets : HasFunctions a → (b : PlainAssignment) (gs : List (PlainType × PlainTerm)) → given_by (get_of ds) a.gets w.gets ≡ Ok gs → b ≡ record a { gets = gs } → HasGets b
    with_gets g b gs h is = subst HasGets (sym is) (record {
      first = g.before;
      before = g.done;
      done = ap (λ gs. given_by (get_of ds) gs w.gets) (sym g.no_gets) ∙ h;
      no_selectors = g.no_selectors;
    })

    module _ (g : HasGets a) where
      last_section : assignment_of ds w ≡ together (Ok a.variables) (Ok a.functions) (Ok a.gets) (given_by (selector_of ds) a.selectors w.selectors)
      last_section =
          ap (λ o. together o functions gets selectors) g.first ∙ ap (λ o. together (Ok a.variables) o gets selectors) g.before
          ∙ ap (λ o. together (Ok a.variables) (Ok a.functions) o selectors) g.done
          ∙ ap (λ ss. together (Ok a.variables) (Ok a.functions) (Ok a.gets) (given_by (selector_of ds) ss w.selectors)) (sym g.no_selectors)

      pub selectors_fault : (f : InputFault) → given_by (selector_of ds) a.selectors w.selectors ≡ Err f → assignment_of ds w ≡ Err f
      selectors_fault f h = last_section ∙ ap (together (Ok a.variables) (Ok a.functions) (Ok a.gets)) h

      pub whole_assignment : (b : PlainAssignment) (ss : List (ExtensionOp × PlainDefinition)) → given_by (selector_of ds) a.selectors w.selectors ≡ Ok ss → b ≡ record a { selectors = ss } → assignment_of ds w ≡ Ok b
      whole_assignment b ss h is = last_section ∙ ap (together (Ok a.variables) (Ok a.functions) (Ok a.gets)) h ∙ ap Ok (sym is)

-- ---- the input

-- the job, the assignment and what is missing, of what is written
abbrev of_parts : InputOutcome (Section × PlainJob) → (PlainJob → InputOutcome PlainAssignment) → InputOutcome (PlainJob × PlainAssignment)
of_parts o given = built_input (o >>= λ x. given x.1 >>= λ a. unless_missing (first_missing a (map built (current x.1.steps))) >>= λ u. Ok (x.1, a))

module _ (e : Expression) where
  pub form_fault : (f : InputFault) → demanded FormlessInput (input_written e) ≡ Err f → built_input (input_of e) ≡ Err f
  form_fault f h = ap (λ o. built_input (o >>= input_inside)) h

  module _ (w : WrittenInput) (form : demanded FormlessInput (input_written e) ≡ Ok w) where
    inside : built_input (input_of e) ≡ of_parts (of_job (job_of w.job)) (λ j. assignment_of (declarations_of j) w)
    inside = ap (λ o. built_input (o >>= input_inside)) form

    refused_so : (o : Outcome (Section × PlainJob)) (f : InputFault) → of_job (mapped (λ x. built_job x.1) o) ≡ Err f → of_parts (of_job o) (λ j. assignment_of (declarations_of j) w) ≡ Err f
    refused_so (Ok x) f h = absurd (cc)
    refused_so (Err g) f h = (let d : RefusedJob g ≡ f = cc in ap Err d)

    pub job_fault : (f : InputFault) → of_job (mapped (λ x. built_job x.1) (job_of w.job)) ≡ Err f → built_input (input_of e) ≡ Err f
    job_fault f h = inside ∙ refused_so (job_of w.job) f h

    record IsBuiltOf (j : PlainJob) : Type 0 where
      stated : Section × PlainJob
      is_stated : job_of w.job ≡ Ok stated
      is_built : j ≡ built_job stated.1

    module _ (j : PlainJob) (job : of_job (mapped (λ x. built_job x.1) (job_of w.job)) ≡ Ok j) where
      built_so : (o : Outcome (Section × PlainJob)) → job_of w.job ≡ o → of_job (mapped (λ x. built_job x.1) o) ≡ Ok j → IsBuiltOf j
      built_so (Ok x) s h = record { stated = x; is_stated = s; is_built = cc }
      built_so (Err g) s h = absurd (cc)

      b : IsBuiltOf j
      b = built_so (job_of w.job) refl job

      with_job : built_input (input_of e) ≡ of_parts (Ok b.stated) (λ x. assignment_of (declarations_of j) w)
      with_job =
          inside ∙ ap (λ o. of_parts (of_job o) (λ x. assignment_of (declarations_of x) w)) b.is_stated
          ∙ ap (λ (d : Declared). of_parts (Ok b.stated) (λ x. assignment_of d w)) (sym (ap declarations_of b.is_built))

      pub assignment_fault : (f : InputFault) → assignment_of (declarations_of j) w ≡ Err f → built_input (input_of e) ≡ Err f
      assignment_fault f h = with_job ∙ ap (λ o. of_parts (Ok b.stated) (λ x. o)) h

      module _ (a : PlainAssignment) (given : assignment_of (declarations_of j) w ≡ Ok a) where
        currents : map built (current b.stated.1.steps) ≡ current j.steps
        currents = sym (current_built b.stated.1.steps) ∙ ap (λ (x : PlainJob). current x.steps) (sym b.is_built)

        with_assignment : built_input (input_of e) ≡ built_input (unless_missing (first_missing a (current j.steps)) >>= λ u. Ok (b.stated.1, a))
        with_assignment =
            with_job ∙ ap (λ o. of_parts (Ok b.stated) (λ x. o)) given ∙ ap (λ ts. built_input (unless_missing (first_missing a ts) >>= λ u. Ok (b.stated.1, a))) currents

        pub missing_fault : (f : InputFault) → unless_missing (first_missing a (current j.steps)) ≡ Err f → built_input (input_of e) ≡ Err f
        missing_fault f h = with_assignment ∙ ap (λ o. built_input (o >>= λ u. Ok (b.stated.1, a))) h

        pub whole_input : unless_missing (first_missing a (current j.steps)) ≡ Ok tt → built_input (input_of e) ≡ Ok (j, a)
        whole_input h = with_assignment ∙ ap (λ o. built_input (o >>= λ u. Ok (b.stated.1, a))) h ∙ ap (λ x. Ok (x, a)) (sym b.is_built)
