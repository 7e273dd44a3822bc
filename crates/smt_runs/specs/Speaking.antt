-- One check of a dialogue, and the word of its answer.
use Rattle.std.specs.Prelude.{ℕ, ◌≡◌, ◌⊎◌, List, [], ◌++◌, Option}
use Rattle.std.specs.Io.KnownBytes.{append_known}
use Rattle.smt_script.specs.CommandTexts.{check_sat_text}
use Rattle.smt_script.specs.Sink.{AppendsPart}
use Rattle.smt_solve.specs.Link.{LinkState}
use Rattle.smt_solve.specs.Question.{BeginsExchange}
use Rattle.smt_solve.specs.declared.answer.Decision.{Decision}
use Rattle.law_verdicts.specs.Dialogues.{AnsweredCheck, GaveAllowed, HasAnswered}
use Rattle.smt_pool.specs.Dialogue.{WhyUnanswered, with_check}
use Rattle.smt_pool.specs.declared.check_error.CheckError.TheVariants.{Session as NoSession}
use Rattle.smt_runs.specs.Asking.{verdict_line}
use Rattle.smt_runs.specs.declared.refusal.Refusal.{Refusal}
use Rattle.smt_runs.specs.declared.refusal.Refusal.TheVariants.{Sink, Start, Session, Memory}

-- One check more was answered, of these lines behind what was sent since the last, and its word was put.
abbrev pub SpeaksNext : (allows : List ℕ → List ℕ → List ℕ → Type 0) → (old new : LinkState) → (held now : Option (List ℕ)) →
    (lines : List ℕ) → Type 0
SpeaksNext allows old new held now lines =
    (checks : List AnsweredCheck) (rest : List ℕ) → HasAnswered old checks rest → GaveAllowed allows old checks
    → (answer : List ℕ) × (d : Decision) × HasAnswered new (with_check checks (rest ++ lines) answer d) []
    × GaveAllowed allows new (with_check checks (rest ++ lines) answer d) × (now ≡ append_known held (verdict_line d))

-- One check more was answered, of these lines behind what was sent since the last, and a first part of its word was put, perhaps all of it.
abbrev pub SpeaksInPart : (allows : List ℕ → List ℕ → List ℕ → Type 0) → (old new : LinkState) → (held now : Option (List ℕ)) →
    (lines : List ℕ) → Type 0
SpeaksInPart allows old new held now lines =
    (checks : List AnsweredCheck) (rest : List ℕ) → HasAnswered old checks rest → GaveAllowed allows old checks
    → (answer : List ℕ) × (d : Decision) × HasAnswered new (with_check checks (rest ++ lines) answer d) []
    × GaveAllowed allows new (with_check checks (rest ++ lines) answer d) × AppendsPart held now (verdict_line d)

-- Why a check's word was not put. It has no answer: a first part of its lines and of `(check-sat)` was sent, and nothing was put. Or it was
-- answered, and a first part of its word was put.
abbrev pub StopsSpeaking : (allows : List ℕ → List ℕ → List ℕ → Type 0) → (old new : LinkState) → (held now : Option (List ℕ)) →
    (failed : Type 0) → (lines : List ℕ) → Refusal → Type 0
StopsSpeaking allows old new held now failed lines Sink = failed × SpeaksInPart allows old new held now lines
StopsSpeaking allows old new held now failed lines Start = (checks : List AnsweredCheck) (rest : List ℕ) → HasAnswered old checks rest → ⊥
StopsSpeaking allows old new held now failed lines (Session kind) =
    ((checks : List AnsweredCheck) (rest : List ℕ) → HasAnswered old checks rest →
    WhyUnanswered new checks (rest ++ lines) (NoSession kind)) × BeginsExchange old new (lines ++ check_sat_text) × (now ≡ held)
StopsSpeaking allows old new held now failed lines Memory =
    (BeginsExchange old new (lines ++ check_sat_text) × (now ≡ held)) ⊎ SpeaksInPart allows old new held now lines
StopsSpeaking allows old new held now failed lines refusal = ⊥
