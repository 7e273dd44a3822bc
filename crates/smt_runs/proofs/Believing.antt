-- What the answers of an honest solver say of the terms of a job.
use Rattle.std.proofs.Common.{◌≡◌, ℕ, suc, List, [], ◌∷◌, ◌++◌, map, length, None, refl, sym, ap, ◌∙◌, subst, inl, inr, append_assoc, append-nil}
use Rattle.std.proofs.lemmas.List.{map-append}
use Rattle.std.specs.List.{AllByRecursion, concat}
use Rattle.law_terms.specs.Faults.{first_fault}
use Rattle.law_terms.specs.Plain.{PlainTerm}
use Rattle.law_terms.specs.TypeValues.{Enums}
use Rattle.law_terms.proofs.Soundness.{all-front}
use Rattle.law_folding.specs.Built.{built}
use Rattle.law_theorem.specs.Fits.{Stages, new_stages}
use Rattle.law_jobs.specs.Laws.{IsCondition}
use Rattle.law_jobs.specs.Steps.{PlainStep, AssertStep, CheckStep, PopStep, PushStep, asserted, built_steps, current}
use Rattle.law_jobs.proofs.Steps.{current_before}
use Rattle.smt_script.specs.CommandTexts.{check_sat_text}
use Rattle.smt_solve.specs.Answers.{StripsTo, decision_word}
use Rattle.smt_solve.specs.Link.{IsLine, LinkState}
use Rattle.smt_solve.specs.declared.answer.Decision.{Decision}
use Rattle.law_verdicts.specs.Dialogues.{AnsweredCheck, AreAllowed, AreLinesButLast, AreLinesUntilOver, EndsItsLine, HasOnlyChecks, IsDialogue, SaysDecision, asked_behind, lines_beside, read_for, sent_for}
use Rattle.law_verdicts.specs.InHand.{AreNeverTrue}
use Rattle.law_verdicts.specs.Verdicts.{logic_text}
use Rattle.law_verdicts.proofs.Dialogues.{dialogues_are_believed}
use Rattle.smt_runs.specs.Asked.{AnswersAreBelieved, AreAsked}
use Rattle.smt_runs.specs.JobTexts.{checks_in, session_steps, stages_of_step, text_behind, text_of_job, text_of_step}
use Rattle.smt_runs.specs.Meaning.{AreWritable}
use Rattle.smt_runs.proofs.AsWritten.{true_as_built}
use Rattle.smt_runs.proofs.Behind.{asserted_before, balanced_before}
use Rattle.smt_runs.proofs.Writing.{first_none, steps_of_conditions, terms_of_stages}

-- ---- the steps before a check

pub writable_before : (enums : Enums) (before behind : List PlainStep) → AreWritable enums (before ++ behind) → AreWritable enums before
writable_before enums before behind w = record {
  enum_types = w.enum_types;
  conditions = all-front IsCondition (asserted before) (asserted behind) (subst (AllByRecursion IsCondition) (asserted_before before behind) w.conditions);
  faultless =
      first_none enums (map built (asserted before)) (map built (asserted behind))
      (subst (λ (ts : List PlainTerm). first_fault enums ts ≡ None) (ap (map built) (asserted_before before behind) ∙ map-append built (asserted before) (asserted behind)) w.faultless);
  balanced = balanced_before 0 before behind w.balanced;
}

only_checks : (steps : List PlainStep) → HasOnlyChecks (session_steps steps)
only_checks [] = tt
only_checks (AssertStep ts ∷ steps) = only_checks steps
only_checks (PushStep ∷ steps) = only_checks steps
only_checks (PopStep ∷ steps) = only_checks steps
only_checks (CheckStep ∷ steps) = (refl, only_checks steps)

checks_beside : (steps : List PlainStep) → lines_beside (session_steps (built_steps steps)) ≡ checks_in steps
checks_beside [] = refl
checks_beside (AssertStep ts ∷ steps) = checks_beside steps
checks_beside (PushStep ∷ steps) = checks_beside steps
checks_beside (PopStep ∷ steps) = checks_beside steps
checks_beside (CheckStep ∷ steps) = ap suc (checks_beside steps)

-- ---- what was sent and read before a check

-- what was sent before a check is the text of the steps before it
sent_before : (enums : Enums) (before behind : List PlainStep) (x : Stages) (lines : List ℕ) (earlier later : List AnsweredCheck) (c : AnsweredCheck) (rest : List ℕ)
    → AreAsked enums (built_steps (before ++ CheckStep ∷ behind)) x lines (earlier ++ c ∷ later) rest → length earlier ≡ checks_in before → sent_for earlier ++ c.lines ≡ lines ++ text_behind enums (built_steps before) x
sent_before enums [] behind x lines [] later c rest a n = a.0 ∙ sym (append-nil lines)
sent_before enums [] behind x lines (e ∷ earlier) later c rest a n = absurd (cc)
sent_before enums (AssertStep ts ∷ before) behind x lines earlier later c rest a n = sent_before enums before behind (stages_of_step enums (AssertStep (map built ts)) x) (lines ++ text_of_step enums (AssertStep (map built ts)) x) earlier later c rest a n ∙ append_assoc lines (text_of_step enums (AssertStep (map built ts)) x) (text_behind enums (built_steps before) (stages_of_step enums (AssertStep (map built ts)) x))
sent_before enums (PushStep ∷ before) behind x lines earlier later c rest a n = sent_before enums before behind (stages_of_step enums PushStep x) (lines ++ text_of_step enums PushStep x) earlier later c rest a n ∙ append_assoc lines (text_of_step enums PushStep x) (text_behind enums (built_steps before) (stages_of_step enums PushStep x))
sent_before enums (PopStep ∷ before) behind x lines earlier later c rest a n = sent_before enums before behind (stages_of_step enums PopStep x) (lines ++ text_of_step enums PopStep x) earlier later c rest a n ∙ append_assoc lines (text_of_step enums PopStep x) (text_behind enums (built_steps before) (stages_of_step enums PopStep x))
sent_before enums (CheckStep ∷ before) behind x lines [] later c rest a n = absurd (cc)
sent_before enums (CheckStep ∷ before) behind x lines (e ∷ earlier) later c rest a n =
    let fewer : length earlier ≡ checks_in before = cc in
    ap (λ (l : List ℕ). (l ++ (check_sat_text ++ sent_for earlier)) ++ c.lines) a.0
    ∙ append_assoc lines (check_sat_text ++ sent_for earlier) c.lines
    ∙ ap (λ (l : List ℕ). lines ++ l) (append_assoc check_sat_text (sent_for earlier) c.lines ∙ ap (λ (l : List ℕ). check_sat_text ++ l) (sent_before enums before behind x [] earlier later c rest a.1 fewer))

-- each answer was allowed where it came
allowed_behind : (allows : List ℕ → List ℕ → List ℕ → Type 0) (sent was_read : List ℕ) (earlier later : List AnsweredCheck) (c : AnsweredCheck) → AreAllowed allows sent was_read (earlier ++ c ∷ later)
    → allows (sent ++ ((sent_for earlier ++ c.lines) ++ check_sat_text)) (was_read ++ read_for earlier) c.answer
allowed_behind allows sent was_read [] later c a = subst (λ (r : List ℕ). allows (sent ++ (c.lines ++ check_sat_text)) r c.answer) (sym (append-nil was_read)) a.0
allowed_behind allows sent was_read (e ∷ earlier) later c a =
    let further = allowed_behind allows (sent ++ (e.lines ++ check_sat_text)) (was_read ++ e.answer) earlier later c a.1 in
    subst (λ (r : List ℕ). allows (sent ++ ((sent_for (e ∷ earlier) ++ c.lines) ++ check_sat_text)) r c.answer) (append_assoc was_read e.answer (read_for earlier))
    (subst (λ (t : List ℕ). allows t ((was_read ++ e.answer) ++ read_for earlier) c.answer) (joined sent e.lines (sent_for earlier) c.lines) further)
  where
    joined : (s l b m : List ℕ) → (s ++ (l ++ check_sat_text)) ++ ((b ++ m) ++ check_sat_text) ≡ s ++ (((l ++ (check_sat_text ++ b)) ++ m) ++ check_sat_text)
    joined s l b m = simp append_assoc

lines_before_last : (earlier later : List AnsweredCheck) (c : AnsweredCheck) → AreLinesButLast (earlier ++ c ∷ later) → AllByRecursion EndsItsLine earlier
lines_before_last [] later c h = tt
lines_before_last (e ∷ []) later c h = (h.0, tt)
lines_before_last (e ∷ f ∷ earlier) later c h = (h.0, lines_before_last (f ∷ earlier) later c h.1)

lines_before : (s : LinkState) (earlier later : List AnsweredCheck) (c : AnsweredCheck) → AreLinesUntilOver s (earlier ++ c ∷ later) → AllByRecursion EndsItsLine earlier
lines_before s earlier later c (inl all) = all-front EndsItsLine earlier (c ∷ later) all
lines_before s earlier later c (inr over) = lines_before_last earlier later c over.0

-- the lines that were read
abbrev answers_of : List AnsweredCheck → List (List ℕ)
answers_of checks = map (λ (c : AnsweredCheck). c.answer) checks

read_is : (checks : List AnsweredCheck) → concat (answers_of checks) ≡ read_for checks
read_is [] = refl
read_is (c ∷ checks) = ap (λ (l : List ℕ). c.answer ++ l) (read_is checks)

as_many : (checks : List AnsweredCheck) → length (answers_of checks) ≡ length checks
as_many [] = refl
as_many (c ∷ checks) = ap suc (as_many checks)

are_lines : (checks : List AnsweredCheck) → AllByRecursion EndsItsLine checks → AllByRecursion IsLine (answers_of checks)
are_lines [] h = tt
are_lines (c ∷ checks) h = (h.0, are_lines checks h.1)

says_here : (earlier later : List AnsweredCheck) (c : AnsweredCheck) → AllByRecursion SaysDecision (earlier ++ c ∷ later) → StripsTo c.answer (decision_word c.decision)
says_here [] later c h = h.0.1
says_here (e ∷ earlier) later c h = says_here earlier later c h.1

-- ---- what is believed

module _ (enums : Enums) (before : List PlainStep) (w : AreWritable enums before) where
  -- what no interpretation makes true as it is built, none makes true as it is written
  never_as_written : AreNeverTrue enums (map built (current before)) → AreNeverTrue enums (current before)
  never_as_written never I given hold =
      let conditions = current_before IsCondition before [] (subst (λ (ss : List PlainStep). AllByRecursion IsCondition (asserted ss)) (sym (append-nil before)) w.conditions) in
      let too = true_as_built enums I (current before) conditions given hold in
      never I too.0 too.1

  dialogue_before : (earlier : List AnsweredCheck) → AllByRecursion EndsItsLine earlier → length earlier ≡ checks_in before → IsDialogue enums (session_steps (built_steps before)) (answers_of earlier)
  dialogue_before earlier lines n = record {
    enum_types = w.enum_types;
    conditions = steps_of_conditions enums before w.conditions w.faultless w.balanced;
    checks = only_checks (built_steps before);
    each_answered = as_many earlier ∙ n ∙ sym (checks_beside before);
    lines = are_lines earlier lines;
  }

pub answers_are_believed : (allows : List ℕ → List ℕ → List ℕ → Type 0) → AnswersAreBelieved allows
answers_are_believed allows enums steps s checks rest w asked answered gave told honest before behind earlier later c cut at n unsat =
    let here = writable_before enums before (CheckStep ∷ behind) (subst (AreWritable enums) cut w) in
    let of_checks : AreAsked enums (built_steps (before ++ CheckStep ∷ behind)) new_stages [] (earlier ++ c ∷ later) rest =
    subst (λ (cs : List AnsweredCheck). AreAsked enums (built_steps (before ++ CheckStep ∷ behind)) new_stages [] cs rest) at (subst (λ (ss : List PlainStep). AreAsked enums (built_steps ss) new_stages [] checks rest) cut asked) in
    let sent : sent_for earlier ++ c.lines ≡ text_of_job enums (built_steps before) = sent_before enums before behind new_stages [] earlier later c rest of_checks n in
    let lines = lines_before s earlier later c (subst (AreLinesUntilOver s) at (answered.lines told.was_read told.to_come)) in
    let allowed = allowed_behind allows logic_text [] earlier later c (subst (AreAllowed allows logic_text []) at (gave told.sent told.was_read)) in
    let there : allows (asked_behind enums (session_steps (built_steps before))) (concat (answers_of earlier)) c.answer =
    subst (λ (r : List ℕ). allows (asked_behind enums (session_steps (built_steps before))) r c.answer) (sym (read_is earlier))
    (subst (λ (t : List ℕ). allows (logic_text ++ (t ++ check_sat_text)) (read_for earlier) c.answer) sent allowed) in
    let says = subst (λ (d : Decision). StripsTo c.answer (decision_word d)) unsat (says_here earlier later c (subst (AllByRecursion SaysDecision) at answered.says)) in
    never_as_written enums before here
    (subst (AreNeverTrue enums) (terms_of_stages enums before)
    (dialogues_are_believed enums (session_steps (built_steps before)) (answers_of earlier) c.answer (dialogue_before enums before here earlier lines n) (honest (asked_behind enums (session_steps (built_steps before))) (concat (answers_of earlier)) c.answer there) says))
