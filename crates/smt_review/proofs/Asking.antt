-- What a session tells on the way to an answer about two conditions, and why it gives none.
use Rattle.std.proofs.Common.{◌≡◌, ℕ, List, [], ◌++◌, Option, Some, None, Ok, Err, Result, IsErrAnd, sym, ◌∙◌, subst, inr}
use Rattle.std.specs.Prelude.{IfErr}
use Rattle.law_terms.specs.Plain.{PlainTerm}
use Rattle.law_terms.specs.TypeValues.{Enums}
use Rattle.smt_script.proofs.PutsLemmas.{appends_nothing}
use Rattle.smt_script.specs.CommandTexts.{check_sat_text}
use Rattle.smt_solve.proofs.QuestionLemmas.{exchanges_then, spares_then, told_then}
use Rattle.smt_solve.specs.Link.{AllowsOnly, AllowsTheSame, IsAllowed, LinkState}
use Rattle.smt_solve.specs.Question.{AsksDecision, Exchanges, SendsCommand}
use Rattle.smt_solve.specs.declared.answer.Decision.{Decision}
use Rattle.smt_solve.specs.declared.error.SolverError.{SolverError}
use Rattle.smt_solve.specs.declared.error.SolverError.TheVariants.{Io as IoError, Solver as SolverSays, UnrecognizedSolverOutput as OtherOutput, SolverMarkedFailed, AnswerTooLong as TooLongAnswer, Memory as SolverWant}
use Rattle.law_verdicts.specs.Idle.{AnswersQuestion}
use Rattle.law_verdicts.specs.Verdicts.{logic_text}
use Rattle.smt_review.specs.Errors.{solver_refusal}
use Rattle.smt_pool.proofs.InHand.{fails_at_check}
use Rattle.smt_review.specs.Reviews.{WhyNothingFound, text_for}
use Rattle.smt_review.specs.declared.error.ReviewError.{ReviewError}
use Rattle.smt_review.specs.declared.relation.Relation.{Relation}

-- ---- the answer

-- what one relation allows another allows too
allowed_by : (first second : List ℕ → List ℕ → List ℕ → Type 0) (sent was_read : Option (List ℕ)) (line : List ℕ) → AllowsOnly first second → IsAllowed first sent was_read line → IsAllowed second sent was_read line
allowed_by first second None was_read line only h = tt
allowed_by first second (Some s) None line only h = tt
allowed_by first second (Some s) (Some r) line only h = only s r line h

-- nothing was read
read_alike : (a b : LinkState) (lines : List ℕ) → Exchanges a b lines [] → b.was_read ≡ a.was_read
read_alike a b lines x = x.was_read ∙ sym (appends_nothing a.was_read)

pub same_then : (first second third : List ℕ → List ℕ → List ℕ → Type 0) → AllowsTheSame first second → AllowsTheSame second third → AllowsTheSame first third
same_then first second third p q = record { there = λ text earlier line h. q.there text earlier line (p.there text earlier line h); back = λ text earlier line h. p.back text earlier line (q.back text earlier line h) }

-- The logic was sent, and then the script, and the check was answered.
answered : (first last : List ℕ → List ℕ → List ℕ → Type 0) (a b c d : LinkState) (script : List ℕ) (z : Decision) → AllowsOnly last first → SendsCommand {T = Unit {0}} a b logic_text (Ok tt) → SendsCommand {T = Unit {0}} b c script (Ok tt)
    → AsksDecision last c d (Ok z) → AnswersQuestion first a d script z
answered first last a b c d script z only p q asks =
    let s = asks.ok in
    let same : c.was_read ≡ a.was_read = read_alike b c script q.ok ∙ read_alike a b logic_text p.ok in
    let moved : IsAllowed last d.sent c.was_read s.line → IsAllowed first d.sent a.was_read s.line =
    λ h. allowed_by last first d.sent a.was_read s.line only (subst (λ (o : Option (List ℕ)). IsAllowed last d.sent o s.line) same h) in
    record {
      answer = record {
        line = s.line;
        reply = record {
          exchanged = exchanges_then (script ++ check_sat_text) s.line p.ok (exchanges_then check_sat_text s.line q.ok s.reply.exchanged);
          short = s.reply.short;
          piece = s.reply.piece;
          allowed = λ some. moved (s.reply.allowed some);
        };
        allowed = moved s.allowed;
        says = s.says;
        spared = spares_then (spares_then p.spared q.spared) s.spared;
      };
      told = told_then a c d (told_then a b c p.told q.told) asks.told;
      went_on = λ over. absurd (let e = (asks.over (q.over (p.over over))).0 in cc);
    }

-- The bytes that were sent are the script, and the decision is the one that was read.
pub answered_as : (first last : List ℕ → List ℕ → List ℕ → Type 0) (a b c d : LinkState) (bytes held script : List ℕ) (z x : Decision) → AllowsOnly last first → bytes ≡ held → held ≡ script → x ≡ z
    → SendsCommand {T = Unit {0}} a b logic_text (Ok tt) → SendsCommand {T = Unit {0}} b c bytes (Ok tt) → AsksDecision last c d (Ok z) → AnswersQuestion first a d script x
answered_as first last a b c d bytes held script z x only same text is p q asks =
    subst (λ (y : Decision). AnswersQuestion first a d script y) (sym is) (answered first last a b c d script z only p (subst (λ (y : List ℕ). SendsCommand {T = Unit {0}} b c y (Ok tt)) (same ∙ text) q) asks)

-- ---- no answer

module _ (enums : Enums) (r : Relation) (t u : PlainTerm) where
  -- the check failed
  unanswered : (allows : List ℕ → List ℕ → List ℕ → Type 0) (a b c d : LinkState) (e : SolverError) → SendsCommand {T = Unit {0}} a b logic_text (Ok tt) → SendsCommand {T = Unit {0}} b c (text_for enums r t u) (Ok tt)
      → AsksDecision allows c d (Err e) → WhyNothingFound enums r t u (solver_refusal e) a d
  unanswered allows a b c d IoError p q h = inr (fails_at_check allows a b c d (text_for enums r t u) IoError p q h)
  unanswered allows a b c d (SolverSays message) p q h = inr (fails_at_check allows a b c d (text_for enums r t u) (SolverSays message) p q h)
  unanswered allows a b c d (OtherOutput text) p q h = inr (fails_at_check allows a b c d (text_for enums r t u) (OtherOutput text) p q h)
  unanswered allows a b c d SolverMarkedFailed p q h = inr (fails_at_check allows a b c d (text_for enums r t u) SolverMarkedFailed p q h)
  unanswered allows a b c d TooLongAnswer p q h = inr (fails_at_check allows a b c d (text_for enums r t u) TooLongAnswer p q h)
  unanswered allows a b c d SolverWant p q h = tt

  -- where this text was sent as the script
  pub unanswered_as : (allows : List ℕ → List ℕ → List ℕ → Type 0) (a b c d : LinkState) (bytes held : List ℕ) (e : SolverError) → bytes ≡ held → held ≡ text_for enums r t u → SendsCommand {T = Unit {0}} a b logic_text (Ok tt) → SendsCommand {T = Unit {0}} b c bytes (Ok tt)
      → AsksDecision allows c d (Err e) → WhyNothingFound enums r t u (solver_refusal e) a d
  unanswered_as allows a b c d bytes held e same text p q h = unanswered allows a b c d e p (subst (λ (y : List ℕ). SendsCommand {T = Unit {0}} b c y (Ok tt)) (same ∙ text) q) h

  -- the exit of a `?`, which hands the reason on
  pub exits : {T : Type 0} (a b : LinkState) (result : Result T ReviewError) (e : ReviewError) → IsErrAnd result (λ y. y ≡ e) → WhyNothingFound enums r t u e a b → IfErr result (λ y. WhyNothingFound enums r t u y a b)
  exits a b (Ok x) e h why = absurd h
  exits a b (Err y) e h why = subst (λ (x : ReviewError). WhyNothingFound enums r t u x a b) (sym h) why
