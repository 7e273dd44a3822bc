-- What the answer to a session in hand says of conditions, and why there is none.
use Rattle.std.proofs.Common.{◌≡◌, ◌⊎◌, ℕ, Bool, true, false, List, [], Result, Ok, Err, refl, subst, sym, ◌∙◌, inl, inr}
use Rattle.std.specs.Prelude.{IfErr, IfOk, IsTrue}
use Rattle.law_terms.specs.Plain.{PlainTerm}
use Rattle.law_terms.specs.TypeValues.{Enums, AreEnums}
use Rattle.law_lines.specs.Text.{text}
use Rattle.law_theorem.specs.Conditions.{AreConditions}
use Rattle.smt_script.proofs.PutsLemmas.{appends_nothing}
use Rattle.smt_solve.proofs.QuestionLemmas.{exchanges_then, spares_then}
use Rattle.smt_solve.specs.Link.{AllowsTheSame, LinkState}
use Rattle.smt_solve.specs.Question.{AsksDecision, SendsCommand}
use Rattle.smt_solve.specs.Session.{Guards, session_failed}
use Rattle.smt_solve.specs.declared.answer.Decision.{Decision}
use Rattle.smt_solve.specs.declared.answer.Decision.TheVariants.{Unsat}
use Rattle.smt_solve.specs.declared.error.SolverError.{SolverError}
use Rattle.smt_solve.specs.declared.error.SolverError.TheVariants.{Io, Solver, UnrecognizedSolverOutput, SolverMarkedFailed, AnswerTooLong, Memory}
use Rattle.smt_solve.specs.declared.session.LocalSolver.{LocalSolver}
use Rattle.law_verdicts.specs.Honesty.{IsHonest}
use Rattle.law_verdicts.specs.InHand.{AreNeverTrue, IsBlankLink, Takes}
use Rattle.law_verdicts.specs.Verdicts.{logic_text}
use Rattle.law_verdicts.proofs.InHand.{honesty_is_handed_on, preambles_keep_blank, sessions_are_believed, these_are_preambles}
use Rattle.smt_pool.specs.Asked.{FailsAtCheck, WhyUnanswered}

unmarked : (b : Bool) → (IsTrue b → ⊥) → b ≡ false
unmarked true h = absurd (h refl)
unmarked false h = refl

-- A session that did what it was asked had not failed.
pub had_not_failed : {L T : Type 0} (allows : L → List ℕ → List ℕ → List ℕ → Type 0) (old new : LocalSolver L) (x : T) → Guards allows old new (Ok x) → session_failed old ≡ false
had_not_failed allows old new x h = unmarked (session_failed old) (λ f. (let e : Ok x ≡ Err SolverMarkedFailed = (h.marked f).0 in cc))

neither : ⊥ ⊎ ⊥ → ⊥
neither (inl h) = h
neither (inr h) = h

-- What a session sent is what its link took.
took : (old new : LinkState) (lines : List ℕ) → SendsCommand {T = Unit {0}} old new lines (Ok tt) → Takes old new lines
took old new lines s = record { sent = s.ok.sent; same_read = s.ok.was_read ∙ sym (appends_nothing old.was_read) }

-- The logic was sent, and then a script, and the check failed.
pub fails_at_check : (allows : List ℕ → List ℕ → List ℕ → Type 0) (a b c d : LinkState) (script : List ℕ) (e : SolverError) → SendsCommand {T = Unit {0}} a b logic_text (Ok tt) → SendsCommand {T = Unit {0}} b c script (Ok tt) → AsksDecision allows c d (Err e) → FailsAtCheck a d script e
fails_at_check allows a b c d script e p q h = record { asked = c; sent = exchanges_then script [] p.ok q.ok; spared = spares_then p.spared q.spared; why = h.err; kills = h.kills }

module _ (first second third : List ℕ → List ℕ → List ℕ → Type 0) (before between asked after : LinkState) where
  -- The logic was sent, then the text of conditions, and then the session was asked.
  pub believed : (enums : Enums) (ts : List PlainTerm) → AreEnums enums → AreConditions enums ts → AllowsTheSame first second → AllowsTheSame second third → (result : Result Decision SolverError) → IsHonest first → IsBlankLink before
      → SendsCommand {T = Unit {0}} before between logic_text (Ok tt) → SendsCommand {T = Unit {0}} between asked (text enums ts) (Ok tt) → AsksDecision third asked after result → IfOk result (λ d. d ≡ Unsat → AreNeverTrue enums ts)
  believed enums ts good c one two (Err e) honest blank logic script asks = tt
  believed enums ts good c one two (Ok d) honest blank logic script asks = λ is.
      sessions_are_believed third enums ts between asked after good c
      (honesty_is_handed_on third second two.back (honesty_is_handed_on second first one.back honest))
      (preambles_keep_blank before between logic_text blank these_are_preambles.logic (took before between logic_text logic))
      (took between asked (text enums ts) script) (subst (λ (r : Decision). AsksDecision third asked after (Ok r)) is asks)

  module _ (script : List ℕ) where
    why : (had_failed : Bool) (e : SolverError) → had_failed ≡ false → SendsCommand {T = Unit {0}} before between logic_text (Ok tt) → SendsCommand {T = Unit {0}} between asked script (Ok tt) → AsksDecision third asked after (Err e) → WhyUnanswered had_failed before after script e
    why had_failed Io is p q h = (is, inr (fails_at_check third before between asked after script Io p q h))
    why had_failed (Solver message) is p q h = (is, inr (fails_at_check third before between asked after script (Solver message) p q h))
    why had_failed (UnrecognizedSolverOutput line) is p q h = (is, inr (fails_at_check third before between asked after script (UnrecognizedSolverOutput line) p q h))
    why had_failed SolverMarkedFailed is p q h = absurd (neither h.err)
    why had_failed AnswerTooLong is p q h = (is, inr (fails_at_check third before between asked after script AnswerTooLong p q h))
    why had_failed Memory is p q h = tt

    -- The logic and a script were sent, and the check was not answered.
    pub unanswered : (had_failed : Bool) (result : Result Decision SolverError) → had_failed ≡ false → SendsCommand {T = Unit {0}} before between logic_text (Ok tt) → SendsCommand {T = Unit {0}} between asked script (Ok tt) → AsksDecision third asked after result
        → IfErr result (WhyUnanswered had_failed before after script)
    unanswered had_failed (Ok d) is p q h = tt
    unanswered had_failed (Err e) is p q h = why had_failed e is p q h
