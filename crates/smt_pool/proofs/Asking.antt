-- What a session tells on the way to a verdict.
use Rattle.std.proofs.Common.{◌≡◌, ◌⊎◌, ℕ, ◌<◌, Bool, false, List, [], ◌++◌, Option, Some, None, Ok, Err, Result, IsErrAnd, refl, sym, ap, ◌∙◌, subst, inl, inr, append_assoc, arith}
use Rattle.std.specs.Io.KnownBytes.{append_known}
use Rattle.std.specs.Prelude.{IfErr, IfSome}
use Rattle.smt_script.specs.CommandTexts.{check_sat_text}
use Rattle.smt_script.specs.Memory.{counted}
use Rattle.smt_script.specs.Sink.{Rose}
use Rattle.smt_solve.specs.Answers.{IsNoDecision, decision_word}
use Rattle.smt_solve.specs.Link.{AllowsOnly, IsAllowed, IsUnused, LinkState}
use Rattle.smt_solve.specs.Question.{Answers, AsksDecision, Exchanges, FailsToSend, Refuses, RefusesEnded}
use Rattle.smt_solve.specs.declared.answer.Decision.{Decision}
use Rattle.smt_solve.specs.declared.error.SolverError.{SolverError}
use Rattle.smt_solve.specs.declared.error.SolverError.TheVariants.{Io as IoError, Solver as SolverSays, UnrecognizedSolverOutput as OtherOutput, SolverMarkedFailed, AnswerTooLong as TooLongAnswer, Memory as SolverWant}
use Rattle.law_verdicts.specs.Verdicts.{logic_text, question_of}
use Rattle.smt_solve.specs.Session.{StartsSession}
use Rattle.smt_solve.specs.Starter.{Command, Finishes, StarterState, add_told}
use Rattle.smt_pool.specs.Checks.{CannotSend, IsAnswered, IsReady, IsUnkilled, Lengthens, WhyUnchecked, WhyUndecided, session_error}
use Rattle.smt_pool.specs.declared.check_error.CheckError.{CheckError}
use Rattle.smt_pool.specs.declared.check_error.CheckError.TheVariants.{Start, Session, Memory}
use Rattle.smt_pool.specs.declared.check_error.SessionFault.TheVariants.{Io, Solver, UnrecognizedSolverOutput, AnswerTooLong}

-- ---- what is told

-- bytes behind what is told
pub behind : (old new : Option (List ℕ)) (bytes told : List ℕ) → new ≡ append_known old bytes → IfSome old (λ x. x ≡ told) → IfSome new (λ x. x ≡ told ++ bytes)
behind None new bytes told e h = subst (λ (o : Option (List ℕ)). IfSome o (λ x. x ≡ told ++ bytes)) (sym e) tt
behind (Some x) new bytes told e h = subst (λ (o : Option (List ℕ)). IfSome o (λ y. y ≡ told ++ bytes)) (sym e) (ap (λ (y : List ℕ). y ++ bytes) h)

pub told_as : (o : Option (List ℕ)) (x y : List ℕ) → x ≡ y → IfSome o (λ t. t ≡ x) → IfSome o (λ t. t ≡ y)
told_as None x y e h = tt
told_as (Some t) x y e h = h ∙ e

-- ---- sending

pub still_unkilled : (old new : LinkState) → new.killed ≡ old.killed → IsUnkilled old → IsUnkilled new
still_unkilled old new same h = subst (λ (k : Option Bool). IfSome k (λ killed. killed ≡ false)) (sym same) h

pub lengthened : (old new : LinkState) (lines : List ℕ) → Exchanges old new lines [] → new.killed ≡ old.killed → Lengthens old new lines
lengthened old new lines x same text r = record {
  sent = behind old.sent new.sent lines text x.sent r.sent;
  was_read = behind old.was_read new.was_read [] [] x.was_read r.was_read;
  spared = still_unkilled old new same r.spared;
}

-- a session that had not failed is not marked
pub send_unmarked : (old new : LinkState) (e : SolverError) → FailsToSend old new e → e ≡ SolverMarkedFailed → ⊥
send_unmarked old new e h p = subst (λ (x : SolverError). FailsToSend old new x) p h

pub send_refused : (old new : LinkState) (e : SolverError) → new.killed ≡ old.killed → FailsToSend old new e → CannotSend old new (session_error e)
send_refused old new IoError same h = (h, same)
send_refused old new (SolverSays message) same h = absurd h
send_refused old new (OtherOutput text) same h = absurd h
send_refused old new SolverMarkedFailed same h = absurd h
send_refused old new TooLongAnswer same h = absurd h
send_refused old new SolverWant same h = tt

-- ---- asking

pub fresh_ready : (s : LinkState) → IsUnused s → IsReady s []
fresh_ready s u = record { sent = u.sent; was_read = u.was_read; spared = u.killed }

pub ask_unmarked : (old new : LinkState) (e : SolverError) → RefusesEnded old new e ⊎ Refuses (Exchanges old new check_sat_text) (Exchanges old new check_sat_text) IsNoDecision old new e → e ≡ SolverMarkedFailed → ⊥
ask_unmarked old new e (inl h) p = subst (λ (x : SolverError). RefusesEnded old new x) p h
ask_unmarked old new e (inr h) p = subst (λ (x : SolverError). Refuses (Exchanges old new check_sat_text) (Exchanges old new check_sat_text) IsNoDecision old new x) p h

-- the line that was read is one that the link may give behind the question
allowed_there : (allows : List ℕ → List ℕ → List ℕ → Type 0) (sent read now : Option (List ℕ)) (question line : List ℕ) → IfSome sent (λ t. t ≡ question) → IfSome read (λ t. t ≡ []) → now ≡ append_known read line → IsAllowed allows sent read line
    → IfSome sent (λ text. IfSome now (λ bytes. allows question [] line))
allowed_there allows None read now question line h k e a = tt
allowed_there allows (Some s) None now question line h k e a = subst (λ (o : Option (List ℕ)). IfSome o (λ bytes. allows question [] line)) (sym e) tt
allowed_there allows (Some s) (Some r) now question line h k e a =
    subst (λ (o : Option (List ℕ)). IfSome o (λ bytes. allows question [] line)) (sym e) (subst (λ (q : List ℕ). allows q [] line) h (subst (λ (p : List ℕ). allows s p line) k a))

pub answered : (allows : List ℕ → List ℕ → List ℕ → Type 0) (old new : LinkState) (script : List ℕ) (d : Decision) → IsReady old (logic_text ++ script) → Answers allows old new check_sat_text (decision_word d) → IsAnswered allows new (question_of script) d
answered allows old new script d r a =
    let x = a.reply.exchanged in
    let sent = told_as new.sent ((logic_text ++ script) ++ check_sat_text) (question_of script) (append_assoc logic_text script check_sat_text) (behind old.sent new.sent check_sat_text (logic_text ++ script) x.sent r.sent) in
    record {
      sent = sent;
      line = a.line;
      was_read = behind old.was_read new.was_read a.line [] x.was_read r.was_read;
      is_line = a.reply.piece;
      short = a.reply.short;
      says = a.says;
      allowed = allowed_there allows new.sent old.was_read new.was_read (question_of script) a.line sent r.was_read x.was_read a.allowed;
      spared = still_unkilled old new a.spared.same_killed r.spared;
    }

-- what one relation allows another allows too
more_allowed : (first second : List ℕ → List ℕ → List ℕ → Type 0) (sent now : Option (List ℕ)) (question line : List ℕ) → AllowsOnly first second → IfSome sent (λ text. IfSome now (λ bytes. first question [] line)) → IfSome sent (λ text. IfSome now (λ bytes. second question [] line))
more_allowed first second None now question line only h = tt
more_allowed first second (Some s) None question line only h = tt
more_allowed first second (Some s) (Some r) question line only h = only question [] line h

pub answered_by : (first second : List ℕ → List ℕ → List ℕ → Type 0) (s : LinkState) (question : List ℕ) (d : Decision) → AllowsOnly first second → IsAnswered first s question d → IsAnswered second s question d
answered_by first second s question d only a = record {
  sent = a.sent;
  line = a.line;
  was_read = a.was_read;
  is_line = a.is_line;
  short = a.short;
  says = a.says;
  allowed = more_allowed first second s.sent s.was_read question a.line only a.allowed;
  spared = a.spared;
}

pub only_then : (first second third : List ℕ → List ℕ → List ℕ → Type 0) → AllowsOnly first second → AllowsOnly second third → AllowsOnly first third
only_then first second third a b text earlier line h = b text earlier line (a text earlier line h)

-- ---- why nothing is decided

pub cannot_ask : (old new : LinkState) (script : List ℕ) (r : CheckError) → IsUnkilled old → CannotSend old new r → WhyUndecided new script r
cannot_ask old new script Start u h = absurd h
cannot_ask old new script (Session Io) u h = inr (record { is_kind = refl; failed = let rose = h.0 in omega (arith, rose); spared = still_unkilled old new h.1 u })
cannot_ask old new script (Session Solver) u h = absurd h
cannot_ask old new script (Session UnrecognizedSolverOutput) u h = absurd h
cannot_ask old new script (Session AnswerTooLong) u h = absurd h
cannot_ask old new script Memory u h = tt

pub not_answered : (allows : List ℕ → List ℕ → List ℕ → Type 0) (old new : LinkState) (script : List ℕ) (e : SolverError) → IsReady old (logic_text ++ script)
    → AsksDecision allows old new (Err e) → WhyUndecided new script (session_error e)
not_answered allows old new script IoError r h = inl (record { before = old; ready = r; error = IoError; is_kind = refl; why = h.err; kills = h.kills })
not_answered allows old new script (SolverSays message) r h = inl (record { before = old; ready = r; error = SolverSays message; is_kind = refl; why = h.err; kills = h.kills })
not_answered allows old new script (OtherOutput text) r h = inl (record { before = old; ready = r; error = OtherOutput text; is_kind = refl; why = h.err; kills = h.kills })
not_answered allows old new script SolverMarkedFailed r h = tt
not_answered allows old new script TooLongAnswer r h = inl (record { before = old; ready = r; error = TooLongAnswer; is_kind = refl; why = h.err; kills = h.kills })
not_answered allows old new script SolverWant r h = tt

-- a link that has failed is counted when it comes back
pub counted_back : (faults before between after : ℕ) → between ≡ before → (0 < faults → after ≡ counted between) → 0 < faults → Rose before after
counted_back faults before between after same h f = let e = h f in omega (arith, e, same)

-- the exit of a `?`, which hands the reason on
pub exits : {T : Type 0} (now : LinkState) (script : List ℕ) (r : Result T CheckError) (e : CheckError) → IsErrAnd r (λ y. y ≡ e) → WhyUndecided now script e → IfErr r (WhyUndecided now script)
exits now script (Ok x) e h why = absurd h
exits now script (Err y) e h why = subst (λ (t : CheckError). WhyUndecided now script t) (sym h) why

-- a link on which nothing was decided came back
came_back : {L T : Type 0} (state : L → LinkState) (before between after : StarterState L) (command : Command) (script : List ℕ) (link : L) (x : T) (e : CheckError) → StartsSession {T = T} before between command (Ok x)
    → Finishes {T = Unit {0}} between after link (state link).faults (Ok tt) → WhyUndecided (state link) script e → WhyUnchecked state before after command script e
came_back state before between after command script link x Start starts finishes why = absurd why
came_back {L = L} state before between after command script link x (Session kind) starts finishes why = record {
  link = link;
  started = finishes.same_commands ∙ starts.ok;
  returned = finishes.ok ∙ ap (λ (t : Option (List L)). add_told t link) starts.same_returned;
  of_link = (why, counted_back (state link).faults before.link_faults between.link_faults after.link_faults starts.same_link_faults finishes.faulty);
}
came_back state before between after command script link x Memory starts finishes why = tt

pub unchecked : {L T : Type 0} (state : L → LinkState) (before between after : StarterState L) (command : Command) (script : List ℕ) (link came : L) (x : T) (r : Result Decision CheckError) → came ≡ link → StartsSession {T = T} before between command (Ok x)
    → Finishes {T = Unit {0}} between after came (state came).faults (Ok tt) → IfErr r (WhyUndecided (state link) script) → IfErr r (WhyUnchecked state before after command script)
unchecked state before between after command script link came x (Ok d) same starts finishes why = tt
unchecked {L = L} state before between after command script link came x (Err e) same starts finishes why =
    came_back state before between after command script link x e starts (subst (λ (l : L). Finishes {T = Unit {0}} between after l (state l).faults (Ok tt)) same finishes) why
