-- What the calls of a dialogue leave of what a link tells.
use Rattle.std.proofs.Common.{◌≡◌, ◌⊎◌, ℕ, Bool, IsTrue, List, [], ◌∷◌, ◌++◌, Option, Some, None, Ok, Err, Result, IsErrAnd, refl, sym, ap, ◌∙◌, subst, inl, inr, append_assoc, arith}
use Rattle.std.proofs.lemmas.Bool.{false≢true}
use Rattle.std.proofs.lemmas.List.{append-nil}
use Rattle.std.specs.Io.KnownBytes.{append_known}
use Rattle.std.specs.List.{AllByRecursion}
use Rattle.std.specs.Prelude.{IfErr, IfSome, is_some}
use Rattle.smt_script.specs.CommandTexts.{check_sat_text}
use Rattle.smt_solve.specs.Link.{AllowsOnly, IsAllowed, IsOver, IsUnused, LinkState}
use Rattle.smt_solve.specs.Question.{AsksDecision, BeginsExchange, Exchanges, SendsCommand}
use Rattle.smt_solve.specs.declared.answer.Decision.{Decision}
use Rattle.smt_solve.specs.declared.error.SolverError.{SolverError}
use Rattle.smt_solve.specs.declared.error.SolverError.TheVariants.{Io as IoError, Solver as SolverSays, UnrecognizedSolverOutput as OtherOutput, SolverMarkedFailed, AnswerTooLong as TooLongAnswer, Memory as SolverWant}
use Rattle.law_verdicts.specs.Dialogues.{AnsweredCheck, AreAllowed, AreLinesButLast, AreLinesUntilOver, EndsItsLine, GaveAllowed, HasAnswered, SaysDecision, read_for, sent_for}
use Rattle.law_verdicts.specs.Verdicts.{logic_text}
use Rattle.law_verdicts.proofs.Broken.{broken_answers_are_last}
use Rattle.smt_pool.specs.Checks.{CannotSend, IsUnkilled, session_error}
use Rattle.smt_pool.specs.Dialogue.{AnswersNext, RefusesNext, StaysAllowed, TakesMore, WhyUnanswered, WhyUnsent, with_check}
use Rattle.smt_pool.specs.declared.check_error.CheckError.{CheckError}
use Rattle.smt_pool.specs.declared.check_error.CheckError.TheVariants.{Start, Session, Memory}
use Rattle.smt_pool.specs.declared.check_error.SessionFault.TheVariants.{Io, Solver, UnrecognizedSolverOutput, AnswerTooLong}
use Rattle.smt_pool.proofs.Asking.{behind, still_unkilled, told_as}

-- ---- one check more

sent_last : (cs : List AnsweredCheck) (c : AnsweredCheck) → sent_for (cs ++ c ∷ []) ≡ sent_for cs ++ (c.lines ++ check_sat_text)
sent_last [] c = ap (λ (t : List ℕ). c.lines ++ t) (append-nil check_sat_text)
sent_last (d ∷ cs) c =
    ap (λ (t : List ℕ). d.lines ++ (check_sat_text ++ t)) (sent_last cs c)
    ∙ (ap (λ (t : List ℕ). d.lines ++ t) (sym (append_assoc check_sat_text (sent_for cs) (c.lines ++ check_sat_text))) ∙ sym (append_assoc d.lines (check_sat_text ++ sent_for cs) (c.lines ++ check_sat_text)))

read_last : (cs : List AnsweredCheck) (c : AnsweredCheck) → read_for (cs ++ c ∷ []) ≡ read_for cs ++ c.answer
read_last [] c = append-nil c.answer
read_last (d ∷ cs) c = ap (λ (t : List ℕ). d.answer ++ t) (read_last cs c) ∙ sym (append_assoc d.answer (read_for cs) c.answer)

all_last : (P : AnsweredCheck → Type 0) (cs : List AnsweredCheck) (c : AnsweredCheck) → AllByRecursion P cs → P c → AllByRecursion P (cs ++ c ∷ [])
all_last P [] c h p = (p, tt)
all_last P (d ∷ cs) c h p = (h.0, all_last P cs c h.1 p)

lines_but_last : (cs : List AnsweredCheck) (c : AnsweredCheck) → AllByRecursion EndsItsLine cs → AreLinesButLast (cs ++ c ∷ [])
lines_but_last [] c h = tt
lines_but_last (d ∷ []) c h = (h.0, tt)
lines_but_last (d ∷ (e ∷ cs)) c h = (h.0, lines_but_last (e ∷ cs) c h.1)

allowed_last : (allows : List ℕ → List ℕ → List ℕ → Type 0) (sent was_read : List ℕ) (cs : List AnsweredCheck) (c : AnsweredCheck) → AreAllowed allows sent was_read cs
    → allows (sent ++ (sent_for cs ++ (c.lines ++ check_sat_text))) (was_read ++ read_for cs) c.answer → AreAllowed allows sent was_read (cs ++ c ∷ [])
allowed_last allows sent was_read [] c h a = (subst (λ (t : List ℕ). allows (sent ++ (c.lines ++ check_sat_text)) t c.answer) (append-nil was_read) a, tt)
allowed_last allows sent was_read (d ∷ cs) c h a =
    let asked = c.lines ++ check_sat_text in
    let texts : sent ++ ((d.lines ++ (check_sat_text ++ sent_for cs)) ++ asked) ≡ (sent ++ (d.lines ++ check_sat_text)) ++ (sent_for cs ++ asked) =
    ap (λ (t : List ℕ). sent ++ t) (append_assoc d.lines (check_sat_text ++ sent_for cs) asked ∙ ap (λ (t : List ℕ). d.lines ++ t) (append_assoc check_sat_text (sent_for cs) asked) ∙ sym (append_assoc d.lines check_sat_text (sent_for cs ++ asked)))
    ∙ sym (append_assoc sent (d.lines ++ check_sat_text) (sent_for cs ++ asked)) in
    let bytes : was_read ++ (d.answer ++ read_for cs) ≡ (was_read ++ d.answer) ++ read_for cs = sym (append_assoc was_read d.answer (read_for cs)) in (
      h.0,
      allowed_last allows (sent ++ (d.lines ++ check_sat_text)) (was_read ++ d.answer) cs c h.1
          (subst (λ (t : List ℕ). allows ((sent ++ (d.lines ++ check_sat_text)) ++ (sent_for cs ++ asked)) t c.answer) bytes
          (subst (λ (t : List ℕ). allows t (was_read ++ (d.answer ++ read_for cs)) c.answer) texts a)),
    )

-- ---- what was told before

-- what is told after bytes was told before them
told_before : (old new : Option (List ℕ)) (bytes : List ℕ) → new ≡ append_known old bytes → IsTrue (is_some new) → IsTrue (is_some old)
told_before None new bytes e k = subst (λ (o : Option (List ℕ)). IsTrue (is_some o)) e k
told_before (Some x) new bytes e k = refl

same_told : (old new : Option (List ℕ)) → is_some new ≡ is_some old → IsTrue (is_some new) → IsTrue (is_some old)
same_told old new e k = subst (λ (b : Bool). IsTrue b) e k

-- ---- sending

pub dialogue_begun : (old new : LinkState) → IsUnused old → SendsCommand {T = Unit {0}} old new logic_text (Ok tt) → HasAnswered new [] []
dialogue_begun old new u s = record {
  sent = told_as new.sent logic_text (logic_text ++ []) (sym (append-nil logic_text)) (behind old.sent new.sent logic_text [] s.ok.sent u.sent);
  was_read = behind old.was_read new.was_read [] [] s.ok.was_read u.was_read;
  says = tt;
  lines = λ k m. inl tt;
  spared = still_unkilled old new s.spared.same_killed u.killed;
}

lines_still : (old new : LinkState) (checks : List AnsweredCheck) → (IsOver old → IsOver new) → AreLinesUntilOver old checks → AreLinesUntilOver new checks
lines_still old new checks f (inl h) = inl h
lines_still old new checks f (inr h) = inr (h.0, f h.1)

pub more_taken : (old new : LinkState) (lines : List ℕ) → SendsCommand {T = Unit {0}} old new lines (Ok tt) → TakesMore old new lines
more_taken old new lines s checks rest a = record {
  sent = told_as new.sent ((logic_text ++ (sent_for checks ++ rest)) ++ lines) (logic_text ++ (sent_for checks ++ (rest ++ lines)))
      (append_assoc logic_text (sent_for checks ++ rest) lines ∙ ap (λ (t : List ℕ). logic_text ++ t) (append_assoc (sent_for checks) rest lines))
      (behind old.sent new.sent lines (logic_text ++ (sent_for checks ++ rest)) s.ok.sent a.sent);
  was_read = told_as new.was_read (read_for checks ++ []) (read_for checks) (append-nil (read_for checks)) (behind old.was_read new.was_read [] (read_for checks) s.ok.was_read a.was_read);
  says = a.says;
  lines = λ k m. lines_still old new checks s.over (a.lines (told_before old.was_read new.was_read [] s.ok.was_read k) (same_told old.to_come new.to_come s.told m));
  spared = still_unkilled old new s.spared.same_killed a.spared;
}

pub still_allowed : (allows : List ℕ → List ℕ → List ℕ → Type 0) (old new : LinkState) (lines : List ℕ) → SendsCommand {T = Unit {0}} old new lines (Ok tt) → StaysAllowed allows old new
still_allowed allows old new lines s checks a k m = a (told_before old.sent new.sent lines s.ok.sent k) (told_before old.was_read new.was_read [] s.ok.was_read m)

pub unsent : (old new : LinkState) (e : CheckError) → IsUnkilled old → CannotSend old new e → WhyUnsent new e
unsent old new Start u h = absurd h
unsent old new (Session Io) u h = record { is_kind = refl; failed = let rose = h.0 in omega (arith, rose); spared = still_unkilled old new h.1 u }
unsent old new (Session Solver) u h = absurd h
unsent old new (Session UnrecognizedSolverOutput) u h = absurd h
unsent old new (Session AnswerTooLong) u h = absurd h
unsent old new Memory u h = tt

pub all_unsent : {T : Type 0} (old new : LinkState) (r : Result T CheckError) → IsUnkilled old → IfErr r (CannotSend old new) → IfErr r (WhyUnsent new)
all_unsent old new (Ok x) u h = tt
all_unsent old new (Err e) u h = unsent old new e u h

-- ---- first parts of what is sent

-- where a text was begun, a longer one was
pub begun_longer : (old new : LinkState) (text more : List ℕ) → BeginsExchange old new text → BeginsExchange old new (text ++ more)
begun_longer old new text more b = record {
  sent = record { part = b.sent.part; rest = b.sent.rest ++ more; whole = sym (append_assoc b.sent.part b.sent.rest more) ∙ ap (λ (t : List ℕ). t ++ more) b.sent.whole; appended = b.sent.appended };
  bytes = b.bytes;
  was_read = b.was_read;
  later = b.later;
}

known_twice : (o : Option (List ℕ)) (a b : List ℕ) → append_known (append_known o a) b ≡ append_known o (a ++ b)
known_twice None a b = refl
known_twice (Some t) a b = ap (λ (l : List ℕ). Some l) (append_assoc t a b)

-- a text was sent, and another was begun behind it
pub begun_behind : (old between new : LinkState) (text more : List ℕ) → Exchanges old between text [] → BeginsExchange between new more → BeginsExchange old new (text ++ more)
begun_behind old between new text more x b = record {
  sent = record {
    part = text ++ b.sent.part;
    rest = b.sent.rest;
    whole = append_assoc text b.sent.part b.sent.rest ∙ ap (λ (t : List ℕ). text ++ t) b.sent.whole;
    appended = b.sent.appended ∙ ap (λ (o : Option (List ℕ)). append_known o b.sent.part) x.sent ∙ known_twice old.sent text b.sent.part;
  };
  bytes = [] ++ b.bytes;
  was_read = b.was_read ∙ ap (λ (o : Option (List ℕ)). append_known o b.bytes) x.was_read ∙ known_twice old.was_read [] b.bytes;
  later = let first = x.later in let second = b.later in omega (arith, first, second);
}

-- ---- asking

-- the answers so far are lines, since nothing comes behind one that is none
lines_before : (allows : List ℕ → List ℕ → List ℕ → Type 0) (old new : LinkState) (d : Decision) (checks : List AnsweredCheck) → AsksDecision allows old new (Ok d) → AreLinesUntilOver old checks → AllByRecursion EndsItsLine checks
lines_before allows old new d checks asks (inl h) = h
lines_before allows old new d checks asks (inr h) = absurd (false≢true (asks.over h.1).0)

line_then : (new : LinkState) (checks : List AnsweredCheck) (c : AnsweredCheck) → AllByRecursion EndsItsLine checks → EndsItsLine c ⊎ IsOver new → AreLinesUntilOver new (checks ++ c ∷ [])
line_then new checks c h (inl is_line) = inl (all_last EndsItsLine checks c h is_line)
line_then new checks c h (inr over) = inr (lines_but_last checks c h, over)

next_answered : (allows : List ℕ → List ℕ → List ℕ → Type 0) (old new : LinkState) (checks : List AnsweredCheck) (lines : List ℕ) (d : Decision) → HasAnswered old checks lines → (asks : AsksDecision allows old new (Ok d))
    → HasAnswered new (with_check checks lines asks.ok.line d) []
next_answered allows old new checks lines d a asks =
    let line = asks.ok.line in
    let c : AnsweredCheck = record { lines = lines; answer = line; decision = d } in
    let x = asks.ok.reply.exchanged in
    let texts : (logic_text ++ (sent_for checks ++ lines)) ++ check_sat_text ≡ logic_text ++ (sent_for (checks ++ c ∷ []) ++ []) =
    append_assoc logic_text (sent_for checks ++ lines) check_sat_text
    ∙ ap (λ (t : List ℕ). logic_text ++ t) (append_assoc (sent_for checks) lines check_sat_text ∙ sym (append-nil (sent_for (checks ++ c ∷ [])) ∙ sent_last checks c)) in
    record {
      sent = told_as new.sent _ (logic_text ++ (sent_for (checks ++ c ∷ []) ++ [])) texts (behind old.sent new.sent check_sat_text (logic_text ++ (sent_for checks ++ lines)) x.sent a.sent);
      was_read = told_as new.was_read (read_for checks ++ line) (read_for (checks ++ c ∷ [])) (sym (read_last checks c)) (behind old.was_read new.was_read line (read_for checks) x.was_read a.was_read);
      says = all_last SaysDecision checks c a.says (asks.ok.reply.short, asks.ok.says);
      lines = λ k m.
          line_then new checks c (lines_before allows old new d checks asks (a.lines (told_before old.was_read new.was_read line x.was_read k) (same_told old.to_come new.to_come asks.told m)))
          (broken_answers_are_last old new check_sat_text line d k m x asks.ok.reply.piece asks.ok.says);
      spared = still_unkilled old new asks.ok.spared.same_killed a.spared;
    }

-- what is allowed behind what is told
told_allowed : (allows : List ℕ → List ℕ → List ℕ → Type 0) (sent was_read : Option (List ℕ)) (text bytes line : List ℕ) → IfSome sent (λ t. t ≡ text) → IfSome was_read (λ b. b ≡ bytes) → IsTrue (is_some sent) → IsTrue (is_some was_read)
    → IsAllowed allows sent was_read line → allows text bytes line
told_allowed allows None was_read text bytes line e f k m h = absurd (cc)
told_allowed allows (Some s) None text bytes line e f k m h = absurd (cc)
told_allowed allows (Some s) (Some b) text bytes line e f k m h = subst (λ (t : List ℕ). allows t bytes line) e (subst (λ (t : List ℕ). allows s t line) f h)

next_allowed : (first second : List ℕ → List ℕ → List ℕ → Type 0) (old new : LinkState) (checks : List AnsweredCheck) (lines : List ℕ) (d : Decision) → AllowsOnly second first → HasAnswered old checks lines → GaveAllowed first old checks
    → (asks : AsksDecision second old new (Ok d)) → GaveAllowed first new (with_check checks lines asks.ok.line d)
next_allowed first second old new checks lines d only a gave asks k m =
    let line = asks.ok.line in
    let c : AnsweredCheck = record { lines = lines; answer = line; decision = d } in
    let x = asks.ok.reply.exchanged in
    let asked = logic_text ++ (sent_for checks ++ (lines ++ check_sat_text)) in
    let texts : (logic_text ++ (sent_for checks ++ lines)) ++ check_sat_text ≡ asked =
    append_assoc logic_text (sent_for checks ++ lines) check_sat_text ∙ ap (λ (t : List ℕ). logic_text ++ t) (append_assoc (sent_for checks) lines check_sat_text) in
    let sent = told_as new.sent ((logic_text ++ (sent_for checks ++ lines)) ++ check_sat_text) asked texts (behind old.sent new.sent check_sat_text (logic_text ++ (sent_for checks ++ lines)) x.sent a.sent) in
    let read_told = told_before old.was_read new.was_read line x.was_read m in
    allowed_last first logic_text [] checks c (gave (told_before old.sent new.sent check_sat_text x.sent k) read_told)
    (only asked (read_for checks) line (told_allowed second new.sent old.was_read asked (read_for checks) line sent a.was_read k read_told asks.ok.allowed))

pub answers_next : (first second : List ℕ → List ℕ → List ℕ → Type 0) (old between new : LinkState) (lines : List ℕ) (d : Decision) → AllowsOnly second first → SendsCommand {T = Unit {0}} old between lines (Ok tt)
    → AsksDecision second between new (Ok d) → AnswersNext first old new lines d
answers_next first second old between new lines d only s asks checks rest a gave =
    let b = more_taken old between lines s checks rest a in (
      asks.ok.line,
      next_answered second between new checks (rest ++ lines) d b asks,
      next_allowed first second between new checks (rest ++ lines) d only b (still_allowed first old between lines s checks gave) asks,
    )

-- ---- why there is no answer

unanswered : (new : LinkState) (checks : List AnsweredCheck) (lines : List ℕ) (e : CheckError) → WhyUnsent new e → WhyUnanswered new checks lines e
unanswered new checks lines Start h = absurd h
unanswered new checks lines (Session kind) h = inr h
unanswered new checks lines Memory h = tt

pub unsent_next : (old new : LinkState) (lines : List ℕ) (e : CheckError) → CannotSend old new e → RefusesNext old new lines e
unsent_next old new lines e h checks rest a = unanswered new checks (rest ++ lines) e (unsent old new e a.spared h)

failed_behind : (allows : List ℕ → List ℕ → List ℕ → Type 0) (old new : LinkState) (checks : List AnsweredCheck) (lines : List ℕ) (e : SolverError) → HasAnswered old checks lines → AsksDecision allows old new (Err e)
    → WhyUnanswered new checks lines (session_error e)
failed_behind allows old new checks lines IoError a h = inl (record { before = old; answered = a; error = IoError; is_kind = refl; why = h.err; kills = h.kills })
failed_behind allows old new checks lines (SolverSays message) a h = inl (record { before = old; answered = a; error = SolverSays message; is_kind = refl; why = h.err; kills = h.kills })
failed_behind allows old new checks lines (OtherOutput text) a h = inl (record { before = old; answered = a; error = OtherOutput text; is_kind = refl; why = h.err; kills = h.kills })
failed_behind allows old new checks lines SolverMarkedFailed a h = tt
failed_behind allows old new checks lines TooLongAnswer a h = inl (record { before = old; answered = a; error = TooLongAnswer; is_kind = refl; why = h.err; kills = h.kills })
failed_behind allows old new checks lines SolverWant a h = tt

pub refuses_next : (allows : List ℕ → List ℕ → List ℕ → Type 0) (old between new : LinkState) (lines : List ℕ) (e : SolverError) → SendsCommand {T = Unit {0}} old between lines (Ok tt)
    → AsksDecision allows between new (Err e) → RefusesNext old new lines (session_error e)
refuses_next allows old between new lines e s asks checks rest a = failed_behind allows between new checks (rest ++ lines) e (more_taken old between lines s checks rest a) asks

-- the exit of a `?`, which hands the reason on
pub exits_next : {T : Type 0} (old new : LinkState) (lines : List ℕ) (r : Result T CheckError) (e : CheckError) → IsErrAnd r (λ y. y ≡ e) → RefusesNext old new lines e → IfErr r (RefusesNext old new lines)
exits_next old new lines (Ok x) e h why = absurd h
exits_next old new lines (Err y) e h why = subst (λ (t : CheckError). RefusesNext old new lines t) (sym h) why
