-- A solver that is asked by the steps of a job: what comes of it, and why it stops.
use Rattle.std.specs.Prelude.{ℕ, ◌<◌, ◌≤◌, ◌≡◌, ◌⊎◌, codes, length, List, [], ◌∷◌, ◌++◌, IfSome, Option, None}
use Rattle.std.specs.Io.KnownBytes.{append_known}
use Rattle.std.specs.List.{AllByRecursion}
use Rattle.law_terms.specs.Faults.{first_fault}
use Rattle.law_terms.specs.TypeValues.{Enums}
use Rattle.law_theorem.specs.Fits.{new_stages}
use Rattle.law_jobs.specs.Steps.{PlainStep, asserted}
use Rattle.smt_script.specs.Sink.{AppendsPart, Rose}
use Rattle.smt_solve.specs.Answers.{decision_word}
use Rattle.smt_solve.specs.Link.{LinkState}
use Rattle.smt_solve.specs.Starter.{Command as SolverCall, StarterState, add_told}
use Rattle.smt_solve.specs.declared.answer.Decision.{Decision}
use Rattle.law_verdicts.specs.Dialogues.{AnsweredCheck, GaveAllowed, HasAnswered, SaysDecision, read_for, sent_for}
use Rattle.law_verdicts.specs.Verdicts.{logic_text}
use Rattle.smt_runs.specs.Asked.{AreAsked}
use Rattle.smt_pool.specs.Checks.{FailsToSendLines, Returns}
use Rattle.smt_pool.specs.Dialogue.{FailsBehind}
use Rattle.smt_pool.specs.declared.check_error.SessionFault.{SessionFault}
use Rattle.smt_runs.specs.Jobs.{IsFaultOf}
use Rattle.smt_runs.specs.Pieces.{StopsAt}
use Rattle.smt_runs.specs.declared.refusal.Refusal.{Refusal}
use Rattle.smt_runs.specs.declared.refusal.Refusal.TheVariants.{Encode, Sink, Start, Session, Memory}

-- ---- words

-- the word of a decision, with its line feed
abbrev pub verdict_line : Decision → List ℕ
verdict_line d = decision_word d ++ codes "\n"

-- the words of answered checks, in order
abbrev pub words_of : List AnsweredCheck → List ℕ
words_of [] = []
words_of (c ∷ cs) = verdict_line c.decision ++ words_of cs

-- The words of these checks were put, of the last perhaps only a first part.
pub record PutsWords (held now : Option (List ℕ)) (checks : List AnsweredCheck) : Type 0 where
  pub earlier : List AnsweredCheck
  pub later : List AnsweredCheck
  pub cut : checks ≡ earlier ++ later
  pub one : length later ≤ 1
  pub part : AppendsPart (append_known held (words_of earlier)) now (words_of later)

-- A link has answered these checks, each by a line that it may give there, and the word of each was put.
pub record Spoke (allows : List ℕ → List ℕ → List ℕ → Type 0) (s : LinkState) (held now : Option (List ℕ)) : Type 0 where
  pub checks : List AnsweredCheck
  pub rest : List ℕ
  pub answered : HasAnswered s checks rest
  pub gave : GaveAllowed allows s checks
  pub put : now ≡ append_known held (words_of checks)

-- A link has answered these checks, each by a line that it may give there, and their words were put, of the last perhaps only a first part.
pub record SpokeInPart (allows : List ℕ → List ℕ → List ℕ → Type 0) (s : LinkState) (held now : Option (List ℕ)) : Type 0 where
  pub checks : List AnsweredCheck
  pub rest : List ℕ
  pub answered : HasAnswered s checks rest
  pub gave : GaveAllowed allows s checks
  pub put : PutsWords held now checks

-- ---- a link that failed behind some checks

-- The text begins with this part.
abbrev pub IsFirstPart : (part text : List ℕ) → Type 0
IsFirstPart part text = (rest : List ℕ) × (text ≡ part ++ rest)

-- what is sent up to the last of these checks, and nothing where there is none
abbrev pub sent_until : List AnsweredCheck → List ℕ
sent_until [] = []
sent_until (c ∷ cs) = logic_text ++ sent_for (c ∷ cs)

-- By what a link tells, what it was sent begins with `(set-logic ALL)` and these checks, and what was read with their answers, each of
-- which it may give there. More may have followed, as where the session failed in the midst of the next check.
pub record HasAtLeastAnswered (allows : List ℕ → List ℕ → List ℕ → Type 0) (s : LinkState) (checks : List AnsweredCheck) : Type 0 where
  pub sent : IfSome s.sent (IsFirstPart (sent_until checks))
  pub was_read : IfSome s.was_read (IsFirstPart (read_for checks))
  pub says : AllByRecursion SaysDecision checks
  pub gave : GaveAllowed allows s checks

-- A link has at least answered these checks, and their words were put, of the last perhaps only a first part.
pub record SpokeAtLeast (allows : List ℕ → List ℕ → List ℕ → Type 0) (s : LinkState) (held now : Option (List ℕ)) : Type 0 where
  pub checks : List AnsweredCheck
  pub answered : HasAtLeastAnswered allows s checks
  pub put : PutsWords held now checks

-- ---- how far steps were asked

-- So far steps were asked: those up to a check or the end, which have no fault. These are their checks, and these lines stand behind
-- the last of them.
pub record AskedSoFar (enums : Enums) (steps : List PlainStep) (checks : List AnsweredCheck) (lines : List ℕ) : Type 0 where
  pub done : List PlainStep
  pub left : List PlainStep
  pub cut : steps ≡ done ++ left
  pub stops : StopsAt left
  pub faultless : first_fault enums (asserted done) ≡ None
  pub asked : AreAsked enums done new_stages [] checks lines

-- The session failed by an error of this kind at the check behind these, or where lines were to be sent, on a link that tells this now. It
-- has at least answered the checks before, and their words were put.
pub record StopsSession (enums : Enums) (steps : List PlainStep) (held now : Option (List ℕ)) (kind : SessionFault)
    (allows : List ℕ → List ℕ → List ℕ → Type 0) (s : LinkState) : Type 0 where
  pub checks : List AnsweredCheck
  pub lines : List ℕ
  pub so_far : AskedSoFar enums steps checks lines
  pub answered : HasAtLeastAnswered allows s checks
  pub why : FailsBehind s checks lines kind ⊎ FailsToSendLines s kind
  pub put : now ≡ append_known held (words_of checks)

-- Why a solver was not asked by all steps, on a link that tells this now: a term has no script, the sink failed, the session failed, or
-- there was no memory.
abbrev pub StopsAsking : Enums → List PlainStep → (held now : Option (List ℕ)) → (failed : Type 0) →
    (allows : List ℕ → List ℕ → List ℕ → Type 0) → LinkState → Refusal → Type 0
StopsAsking enums steps held now failed allows s (Encode kind) =
    IsFaultOf kind (first_fault enums (asserted steps)) × Spoke allows s held now
StopsAsking enums steps held now failed allows s Sink = failed × SpokeInPart allows s held now
StopsAsking enums steps held now failed allows s (Session kind) = StopsSession enums steps held now kind allows s
StopsAsking enums steps held now failed allows s Memory = SpokeAtLeast allows s held now
StopsAsking enums steps held now failed allows s refusal = ⊥

-- A link was asked by all steps, which have no fault, and the words of its answers were put.
pub record AsksAll (enums : Enums) (steps : List PlainStep) (held now : Option (List ℕ)) (allows : List ℕ → List ℕ → List ℕ → Type 0)
    (s : LinkState) (checks : List AnsweredCheck) (rest : List ℕ) : Type 0 where
  pub faultless : first_fault enums (asserted steps) ≡ None
  pub asked : AreAsked enums steps new_stages [] checks rest
  pub answered : HasAnswered s checks rest
  pub gave : GaveAllowed allows s checks
  pub put : now ≡ append_known held (words_of checks)

-- ---- with a starter

-- It stopped before a solver was asked: nothing was put, a start by the command was tried at most, and no link came back.
pub record StopsBefore {L : Type 0} (old new : StarterState L) (command : SolverCall) (held now : Option (List ℕ)) : Type 0 where
  pub commands : (new.commands ≡ old.commands) ⊎ (new.commands ≡ add_told old.commands command)
  pub same_returned : new.returned ≡ old.returned
  pub same_link_faults : new.link_faults ≡ old.link_faults
  pub later : old.failed_starts ≤ new.failed_starts
  pub unput : now ≡ held

-- A solver was started by this command, and its link, of which this holds, was lost where it was to come back.
pub record Loses {L : Type 0} (holds : L → Type 0) (old new : StarterState L) (command : SolverCall) : Type 0 where
  pub link : L
  pub started : new.commands ≡ add_told old.commands command
  pub same_returned : new.returned ≡ old.returned
  pub of_link : holds link

-- The question broke off for want of memory: before a solver was asked, or on a link that has at least answered some checks, whose words
-- were put, of the last perhaps only a first part. That link came back, or it was lost, since there was no memory to take it back.
abbrev pub BreaksOff : {L : Type 0} → (state : L → LinkState) → (allows : List ℕ → List ℕ → List ℕ → Type 0) → (old new : StarterState L) →
    SolverCall → (held now : Option (List ℕ)) → Type 0
BreaksOff state allows old new command held now =
    StopsBefore old new command held now
    ⊎ (Returns (λ link. SpokeAtLeast allows (state link) held now) old new command
    ⊎ Loses (λ link. SpokeAtLeast allows (state link) held now) old new command)

module _ {L : Type 0} (state : L → LinkState) (allows : List ℕ → List ℕ → List ℕ → Type 0) (old new : StarterState L) (command : SolverCall)
    (enums : Enums) (steps : List PlainStep) (held now : Option (List ℕ)) where
  -- A solver was started by the command and asked by all steps, and its link came back.
  pub record AsksSolver : Type 0 where
    pub checks : List AnsweredCheck
    pub rest : List ℕ
    pub returns : Returns (λ link. AsksAll enums steps held now allows (state link) checks rest) old new command

  -- Why a solver was not asked by all steps. Where one was started its link came back, unless there was no memory to take it back; where
  -- the session failed since its link had, the starter's count of link faults shows it.
  abbrev pub WhyNotAsked : (failed : Type 0) → Refusal → Type 0
  WhyNotAsked failed (Encode kind) =
      IsFaultOf kind (first_fault enums (asserted steps))
      × (((new ≡ old) × (now ≡ held)) ⊎ Returns (λ link. Spoke allows (state link) held now) old new command)
  WhyNotAsked failed Sink = failed × Returns (λ link. SpokeInPart allows (state link) held now) old new command
  WhyNotAsked failed Start = Rose old.failed_starts new.failed_starts × ((lines : List ℕ) × AskedSoFar enums steps [] lines) × (now ≡ held)
  WhyNotAsked failed (Session kind) =
      Returns (λ link.
      StopsSession enums steps held now kind allows (state link) × (0 < (state link).faults → Rose old.link_faults new.link_faults))
      old new command
  WhyNotAsked failed Memory = BreaksOff state allows old new command held now
  WhyNotAsked failed refusal = ⊥
