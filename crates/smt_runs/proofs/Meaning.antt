-- What the text of a job's steps means.
use Rattle.std.proofs.Common.{◌≡◌, ◌⊎◌, ℕ, ◌+◌, ◌≤◌, zero, suc, Bool, true, List, [], ◌∷◌, ◌++◌, map, length, None, Ok, refl, sym, ap, ◌∙◌, subst, inl, inr, append_assoc, append-nil, arith}
use Rattle.std.specs.List.{AllByRecursion}
use Rattle.law_terms.specs.Faults.{first_fault}
use Rattle.law_terms.specs.Plain.{PlainTerm}
use Rattle.law_terms.specs.TypeValues.{Enums, AreEnums}
use Rattle.law_folding.specs.Built.{built}
use Rattle.law_scripts.specs.Script.{CheckSat}
use Rattle.law_scripts.proofs.Commands.{one_list_of_commands}
use Rattle.law_scripts.proofs.Laid.{plain_lines}
use Rattle.law_lines.specs.Line.{spelled_lines}
use Rattle.law_lines.specs.Lines.{EncodeCall, PopCall, PushCall, beginning, lines_of_call}
use Rattle.law_lines.specs.NameTables.{Tables, no_names}
use Rattle.law_lines.specs.Calls.{HasBelow}
use Rattle.law_lines.proofs.Spelled.{lines_hold}
use Rattle.law_theorem.specs.Fits.{Stage, Stages, Fits, encoding_of, new_stages, popped_stages, stages_after}
use Rattle.law_theorem.specs.Headline.{Headline}
use Rattle.law_theorem.specs.Sessions.{AreStepsOfConditions, LineStep}
use Rattle.law_theorem.specs.WellWritten.{IsWellWritten, most_for_call}
use Rattle.law_theorem.proofs.FitKept.{calls_keep_fit, empty_text_fits, these_are_idle}
use Rattle.law_theorem.proofs.Sessions.{fitting_texts_are_scripts, sessions_keep_fit}
use Rattle.law_theorem.proofs.Calls.{calls_are_well_written, calls_keep_well_written, idle_lines_keep_well_written}
use Rattle.law_texts.specs.Reading.{Expression}
use Rattle.law_jobs.specs.Jobs.{PlainJob, fault_of, job_of}
use Rattle.law_jobs.specs.Laws.{IsCondition}
use Rattle.law_jobs.specs.Steps.{PlainStep, AreBalanced, AssertStep, CheckStep, PopStep, PushStep, Section, StepsSection, TermsSection, asserted, built_steps, checked_steps, current}
use Rattle.law_jobs.proofs.Jobs.{stated_enums_in_order, stated_steps_sound}
use Rattle.law_jobs.proofs.Steps.{current_before}
use Rattle.smt_script.specs.CommandTexts.{check_sat_text}
use Rattle.smt_runs.specs.JobTexts.{most_for_steps, names_of_job, session_steps, stages_behind, text_behind, text_of_job}
use Rattle.smt_runs.specs.Meaning.{AreWritable, JobsAreWritable, WritableStepsMean}
use Rattle.smt_runs.proofs.AsWritten.{as_written}
use Rattle.smt_runs.proofs.Writing.{check_changes_nothing, steps_of_conditions, terms_of_stages}

module _ (enums : Enums) where
  -- ---- the text fits

  pub job_fits : (steps : List PlainStep) → AreWritable enums steps → Fits enums (text_of_job enums (built_steps steps)) (stages_behind enums (built_steps steps) new_stages)
  job_fits steps w = sessions_keep_fit enums [] new_stages (session_steps (built_steps steps)) (empty_text_fits enums w.enum_types) (steps_of_conditions enums steps w.conditions w.faultless w.balanced)

  pub job_means : (steps : List PlainStep) → AreWritable enums steps → Headline enums (names_of_job enums (built_steps steps)) (map built (current steps)) (text_of_job enums (built_steps steps))
  job_means steps w =
      subst (λ (ts : List PlainTerm). Headline enums (names_of_job enums (built_steps steps)) ts (text_of_job enums (built_steps steps))) (terms_of_stages enums steps)
      (fitting_texts_are_scripts enums (text_of_job enums (built_steps steps)) (stages_behind enums (built_steps steps) new_stages) (job_fits steps w))

  -- ---- the text is well written

  more_allowed : (bytes : List ℕ) (ts : List PlainTerm) (s : Tables) (m n : ℕ) → IsWellWritten enums bytes ts s m → m ≤ n → IsWellWritten enums bytes ts s n
  more_allowed bytes ts s m n w le = record { state = w.state; sorted = w.sorted; flat = w.flat; short = let short = w.short in omega (arith, short, le) }

  nothing_is_well_written : AreEnums enums → IsWellWritten enums [] [] no_names 0
  nothing_is_well_written good =
      let w = calls_are_well_written enums [] good tt in
      record { state = w.state; sorted = w.sorted; flat = w.flat; short = (let none : length w.sorted.script.commands ≡ 0 = ap length (one_list_of_commands [] w.sorted.script.commands [] w.sorted.script.holds (lines_hold [] refl).0) in omega (arith, none)) }

  bound : (m o k p r : ℕ) → p ≡ 0 → (m + (o + k)) + (p + r) ≤ m + (o + (k + r))
  bound m o k p r e = omega (arith, e)

  asked : (m o r : ℕ) → (m + 1) + (o + r) ≤ m + (o + (1 + r))
  asked m o r = omega arith

  -- levels are open only where something is written
  abbrev IsBegun : Stages → Type 0
  IsBegun x = (x.begun ≡ true) ⊎ (x.below ≡ [])

  -- how many commands the next call may begin with
  abbrev opening : Stages → ℕ
  opening x = length (beginning x.begun)

  behind : (one more bytes : List ℕ) (x : Stages) (m : ℕ) → IsWellWritten enums ((bytes ++ one) ++ more) x.now.terms x.now.tables m → IsWellWritten enums (bytes ++ (one ++ more)) x.now.terms x.now.tables m
  behind one more bytes x m w = subst (λ (t : List ℕ). IsWellWritten enums t x.now.terms x.now.tables m) (append_assoc bytes one more) w

  steps_well_written : (bytes : List ℕ) (x : Stages) (steps : List PlainStep) (m : ℕ) → IsBegun x → Fits enums bytes x → AreStepsOfConditions enums (session_steps steps) x → IsWellWritten enums bytes x.now.terms x.now.tables m
      → IsWellWritten enums (bytes ++ text_behind enums steps x) (stages_behind enums steps x).now.terms (stages_behind enums steps x).now.tables (m + (opening x + most_for_steps steps))
  steps_well_written bytes x [] m g f c w =
      subst (λ (t : List ℕ). IsWellWritten enums t x.now.terms x.now.tables (m + (opening x + 0))) (sym (append-nil bytes)) (more_allowed bytes x.now.terms x.now.tables m (m + (opening x + 0)) w (omega arith))
  steps_well_written bytes x (AssertStep ts ∷ steps) m g f c w =
      let one = spelled_lines (lines_of_call enums (EncodeCall ts) (encoding_of x)) in
      let y = stages_after enums (EncodeCall ts) x in
      let z = stages_behind enums steps y in
      behind one (text_behind enums steps y) bytes z (m + (opening x + most_for_steps (AssertStep ts ∷ steps)))
      (more_allowed ((bytes ++ one) ++ text_behind enums steps y) z.now.terms z.now.tables ((m + (opening x + most_for_call (EncodeCall ts))) + (opening y + most_for_steps steps)) (m + (opening x + most_for_steps (AssertStep ts ∷ steps)))
      (steps_well_written (bytes ++ one) y steps (m + (opening x + most_for_call (EncodeCall ts))) (inl refl) (calls_keep_fit enums bytes x (EncodeCall ts) f c.0) c.1 (calls_keep_well_written enums bytes x (EncodeCall ts) m f c.0 w))
      (bound m (opening x) (most_for_call (EncodeCall ts)) 0 (most_for_steps steps) refl))
  steps_well_written bytes x (PushStep ∷ steps) m g f c w =
      let one = spelled_lines (lines_of_call enums PushCall (encoding_of x)) in
      let y = stages_after enums PushCall x in
      let z = stages_behind enums steps y in
      behind one (text_behind enums steps y) bytes z (m + (opening x + most_for_steps (PushStep ∷ steps)))
      (more_allowed ((bytes ++ one) ++ text_behind enums steps y) z.now.terms z.now.tables ((m + (opening x + 1)) + (opening y + most_for_steps steps)) (m + (opening x + most_for_steps (PushStep ∷ steps)))
      (steps_well_written (bytes ++ one) y steps (m + (opening x + 1)) (inl refl) (calls_keep_fit enums bytes x PushCall f tt) c.1 (calls_keep_well_written enums bytes x PushCall m f tt w))
      (bound m (opening x) 1 0 (most_for_steps steps) refl))
  steps_well_written bytes x (PopStep ∷ steps) m g f c w =
      let one = spelled_lines (lines_of_call enums PopCall (encoding_of x)) in
      let y = stages_after enums PopCall x in
      let z = stages_behind enums steps y in
      let none : opening x ≡ 0 = ap (λ (b : Bool). length (beginning b)) (is_begun x.below g c.0) in
      let begun : y.begun ≡ x.begun = begun_still x.below in
      let same : opening y ≡ opening x = ap (λ (b : Bool). length (beginning b)) begun in
      behind one (text_behind enums steps y) bytes z (m + (opening x + most_for_steps (PopStep ∷ steps)))
      (more_allowed ((bytes ++ one) ++ text_behind enums steps y) z.now.terms z.now.tables ((m + (opening x + 1)) + (opening y + most_for_steps steps)) (m + (opening x + most_for_steps (PopStep ∷ steps)))
      (steps_well_written (bytes ++ one) y steps (m + (opening x + 1)) (inl (begun ∙ is_begun x.below g c.0)) (calls_keep_fit enums bytes x PopCall f c.0) c.1 (calls_keep_well_written enums bytes x PopCall m f c.0 w))
      (bound m (opening x) 1 (opening y) (most_for_steps steps) (same ∙ none)))
    where
      is_begun : (below : List Stage) → (x.begun ≡ true) ⊎ (below ≡ []) → HasBelow (map (λ (l : Stage). l.tables) below) → x.begun ≡ true
      is_begun below (inl e) h = e
      is_begun [] (inr e) h = absurd h
      is_begun (l ∷ ls) (inr e) h = absurd (cc)

      begun_still : (below : List Stage) → (popped_stages below x).begun ≡ x.begun
      begun_still [] = refl
      begun_still (l ∷ ls) = refl
  steps_well_written bytes x (CheckStep ∷ steps) m g f c w =
      let z = stages_behind enums steps x in
      behind check_sat_text (text_behind enums steps x) bytes z (m + (opening x + most_for_steps (CheckStep ∷ steps)))
      (more_allowed ((bytes ++ check_sat_text) ++ text_behind enums steps x) z.now.terms z.now.tables ((m + 1) + (opening x + most_for_steps steps)) (m + (opening x + most_for_steps (CheckStep ∷ steps)))
      (steps_well_written (bytes ++ check_sat_text) x steps (m + 1) g (idle_line bytes x f) c.1 (idle_lines_keep_well_written enums bytes check_sat_text x.now.terms x.now.tables CheckSat m f.script.whole w these_are_idle.0 (λ u. tt) plain_lines.0))
      (asked m (opening x) (most_for_steps steps)))
    where
      idle_line : (before : List ℕ) (y : Stages) → Fits enums before y → Fits enums (before ++ check_sat_text) y
      idle_line before y fits =
          subst (λ (t : List ℕ). Fits enums (before ++ t) y) (append-nil check_sat_text) (sessions_keep_fit enums before y (LineStep check_sat_text ∷ []) fits (check_changes_nothing, tt))

  from_nothing : (bytes : List ℕ) (ts : List PlainTerm) (s : Tables) (n : ℕ) → IsWellWritten enums bytes ts s (0 + (1 + n)) → IsWellWritten enums bytes ts s (1 + n)
  from_nothing bytes ts s n w = more_allowed bytes ts s (0 + (1 + n)) (1 + n) w (omega arith)

pub writable_steps_mean : WritableStepsMean
writable_steps_mean enums steps w =
    let headline = job_means enums steps w in
    record {
      means = headline;
      true_as_written = λ I given. as_written enums I (names_of_job enums (built_steps steps)) (text_of_job enums (built_steps steps)) (current steps) headline (current_before IsCondition steps [] (subst (λ (ss : List PlainStep). AllByRecursion IsCondition (asserted ss)) (sym (append-nil steps)) w.conditions)) given;
      well_written =
          subst (λ (ts : List PlainTerm). IsWellWritten enums (text_of_job enums (built_steps steps)) ts (names_of_job enums (built_steps steps)) (1 + most_for_steps (built_steps steps))) (terms_of_stages enums steps)
          (from_nothing enums (text_of_job enums (built_steps steps)) (stages_behind enums (built_steps steps) new_stages).now.terms (names_of_job enums (built_steps steps)) (most_for_steps (built_steps steps))
          (steps_well_written enums [] new_stages (built_steps steps) 0 (inr refl) (empty_text_fits enums w.enum_types) (steps_of_conditions enums steps w.conditions w.faultless w.balanced) (nothing_is_well_written enums w.enum_types)));
    }

-- ---- jobs

-- a check behind steps asserts nothing more
pub with_check : (steps : List PlainStep) → asserted (steps ++ CheckStep ∷ []) ≡ asserted steps
with_check [] = refl
with_check (AssertStep ts ∷ steps) = ap (λ (us : List PlainTerm). ts ++ us) (with_check steps)
with_check (PushStep ∷ steps) = with_check steps
with_check (PopStep ∷ steps) = with_check steps
with_check (CheckStep ∷ steps) = with_check steps

pub balanced_with_check : (k : ℕ) (steps : List PlainStep) → AreBalanced k steps → AreBalanced k (steps ++ CheckStep ∷ [])
balanced_with_check zero [] b = tt
balanced_with_check (suc k) [] b = tt
balanced_with_check zero (AssertStep ts ∷ steps) b = balanced_with_check zero steps b
balanced_with_check (suc k) (AssertStep ts ∷ steps) b = balanced_with_check (suc k) steps b
balanced_with_check zero (PushStep ∷ steps) b = balanced_with_check 1 steps b
balanced_with_check (suc k) (PushStep ∷ steps) b = balanced_with_check (suc (suc k)) steps b
balanced_with_check zero (PopStep ∷ steps) b = b
balanced_with_check (suc k) (PopStep ∷ steps) b = balanced_with_check k steps b
balanced_with_check zero (CheckStep ∷ steps) b = balanced_with_check zero steps b
balanced_with_check (suc k) (CheckStep ∷ steps) b = balanced_with_check (suc k) steps b

writable_checked : (enums : Enums) (section : Section) (steps : List PlainStep) → AreWritable enums steps → AreWritable enums (checked_steps section steps)
writable_checked enums TermsSection steps w = record {
  enum_types = w.enum_types;
  conditions = subst (AllByRecursion IsCondition) (sym (with_check steps)) w.conditions;
  faultless = subst (λ (ts : List PlainTerm). first_fault enums (map built ts) ≡ None) (sym (with_check steps)) w.faultless;
  balanced = balanced_with_check 0 steps w.balanced;
}
writable_checked enums StepsSection steps w = w

stated_is_writable : (e : Expression) (x : Section × PlainJob) → job_of e ≡ Ok x → fault_of x.1 ≡ None → AreWritable x.1.enums x.1.steps
stated_is_writable e x is none = record {
  enum_types = (stated_enums_in_order e x is).members;
  conditions = (stated_steps_sound e x is).0;
  faultless = none;
  balanced = (stated_steps_sound e x is).1;
}

pub jobs_are_writable : JobsAreWritable
jobs_are_writable = record {
  stated = λ e section job. stated_is_writable e (section, job);
  of_job = λ bytes job is. stated_is_writable is.expression (is.section, job) is.stated;
  checked = λ bytes job section is none. writable_checked job.enums section job.steps (stated_is_writable is.expression (is.section, job) is.stated none);
}
