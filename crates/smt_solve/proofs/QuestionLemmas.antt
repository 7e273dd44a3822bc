-- Steps of a question one after another, and what its refusals say.
use Rattle.std.proofs.Common.{◌≡◌, ◌≢◌, ℕ, ◌<◌, ◌≤◌, Bool, true, false, IsTrue, List, [], ◌∷◌, ◌++◌, length, drop, Result, Ok, Err, Option, None, Some, IsErrAnd, refl, sym, ap, ◌∙◌, append-nil, length-append, subst, arith, inl, inr}
use Rattle.std.specs.Prelude.{codes, ◌⊎◌, IfSome, MatchBool, MatchOption, is_some, ◌==◌}
use Rattle.std.specs.Borrow.{Bor}
use Rattle.std.specs.Option.{option_map}
use Rattle.std.specs.Io.KnownBytes.{append_known, prepend_known}
use Rattle.std.specs.Rc.{rc_str_bytes}
use Rattle.smt_script.proofs.PutsLemmas.{appends_then, appends_nothing, part-then}
use Rattle.smt_script.specs.CommandTexts.{check_sat_text}
use Rattle.smt_script.specs.Sink.{Rose}
use Rattle.smt_solve.specs.Answers.{IsNoDecision, IsNoError, StripsTo, decision_word, error_line, is_parse_error}
use Rattle.smt_solve.specs.Link.{AllowsOnly, HandsOn, IsAllowed, IsKilled, IsLine, IsOver, KeepsEnd, LinkState, ReadsLine, Sends}
use Rattle.smt_solve.specs.Question.{AnswersEnded, AsksDecision, AsksRunner, AsksRunning, BeginsExchange, CallsForKill, Exchanges, FailsToSend, GivesRefusal, IsNever, IsNotAsked, IsNotLong, IsNothing, IsPiece, IsReply, JudgesLine, KillsFor, KillsForLine, KillsOnly, Leaves, ReadsReply, Refuses, RefusesLine, RefusesText, Spares, TellsMessage, TellsMessageAs, TellsText, TellsToComeAlike}
use Rattle.smt_solve.proofs.Utf8Lemmas.{message_utf8, stripped_utf8}
use Rattle.smt_solve.specs.declared.answer.Decision.{Decision}
use Rattle.smt_solve.specs.declared.answer.Decision.TheVariants as decisions
use Rattle.smt_solve.specs.declared.error.SolverError.{SolverError}
use Rattle.smt_solve.specs.declared.error.SolverError.TheVariants.{Io, Solver, UnrecognizedSolverOutput, SolverMarkedFailed, AnswerTooLong, Memory}
use Rattle.smt_solve.specs.declared.link.Ended.{Ended}
use Rattle.smt_solve.specs.declared.link.LineEnd.{LineEnd}
use Rattle.smt_solve.specs.declared.link.LinkError.{LinkError}
use Rattle.smt_solve.specs.declared.link.Ended.TheVariants.{Running, Code, Killed}

-- The message of an error line.

pub error_in : (text rest : List ℕ) (r : Option (Bor (List ℕ))) → text ≡ codes "(error \"" ++ rest → MatchOption r ((front : List ℕ) → rest ≢ front ++ codes "\")") (λ x. rest ≡ x.now ++ codes "\")")
    → MatchOption r (IsNoError text) (λ message. text ≡ error_line message.now)
error_in text rest None e h = λ message g. h message (ap (λ t. drop 8 t) (sym e ∙ g))
error_in text rest (Some x) e h = e ∙ ap (λ t. codes "(error \"" ++ t) h

pub not_empty : (line : List ℕ) (r : Bool) → r ≡ (length line == 0) → r ≡ false → line ≢ []
not_empty [] r p q = absurd (cc)
not_empty (x ∷ xs) r p q = λ h. absurd (cc)

-- Ends and kills.

keeps_then : (a b c : Option Ended) → KeepsEnd a b → KeepsEnd b c → KeepsEnd a c
keeps_then None b c p q =
    let f : Option Ended → Type 0 = λ t. KeepsEnd t c in
    subst f p q
keeps_then (Some Running) None c p q = rw q p
keeps_then (Some Running) (Some Running) c p q = q
keeps_then (Some Running) (Some (Code k)) c p q = rw q refl
keeps_then (Some Running) (Some Killed) c p q = rw q refl
keeps_then (Some (Code k)) b c p q =
    let f : Option Ended → Type 0 = λ t. KeepsEnd t c in
    subst f p q
keeps_then (Some Killed) b c p q =
    let f : Option Ended → Type 0 = λ t. KeepsEnd t c in
    subst f p q

told_end : (a b : Option Ended) → KeepsEnd a b → option_map (λ _. Killed) b ≡ option_map (λ _. Killed) a
told_end None b p = rw p refl
told_end (Some Running) None p = absurd (cc)
told_end (Some Running) (Some x) p = refl
told_end (Some (Code k)) b p = rw p refl
told_end (Some Killed) b p = rw p refl

pub spares_then : {a b c : LinkState} → Spares a b → Spares b c → Spares a c
spares_then {a} {b} {c} p q = record { same_killed = q.same_killed ∙ p.same_killed; end = keeps_then a.ended b.ended c.ended p.end q.end }

pub killed_then : {a b c : LinkState} → Spares a b → IsKilled b c → IsKilled a c
killed_then {a} {b} {c} p q = record {
  killed = q.killed ∙ ap (λ t. option_map (λ _. true) t) p.same_killed;
  ended = q.ended ∙ told_end a.ended b.ended p.end;
}

kills_then : (t : Bool) (a b c : LinkState) → Spares a b → MatchBool t (IsKilled b c) (Spares b c) → MatchBool t (IsKilled a c) (Spares a c)
kills_then true a b c p q = killed_then p q
kills_then false a b c p q = spares_then p q

-- Links that are over.

-- Where as much is to come and was read, what is over stays over.
stays_over : (a b : LinkState) → b.to_come ≡ Some [] → b.was_read ≡ a.was_read → IsOver a → IsOver b
stays_over a b e f o = record { to_come = e; answers = o.answers; was_read = f ∙ o.was_read; inside = o.inside }

pub over_left : {a b : LinkState} → Leaves a b → IsOver a → IsOver b
over_left {a} {b} p o = stays_over a b (p.same_to_come ∙ o.to_come) p.same_read o

pub over_sent : {T : Type 0} {a b : LinkState} {text : List ℕ} {r : Result T LinkError} → Sends a b text r → IsOver a → IsOver b
over_sent {a = a} {b} p o = stays_over a b (p.closed o) p.same_read o

pub over_handed : {T : Type 0} {a b : LinkState} {r : Result T LinkError} → HandsOn a b r → IsOver a → IsOver b
over_handed {a = a} {b} p o = stays_over a b (p.same_to_come ∙ o.to_come) p.same_read o

none_more : (piece : List ℕ) (told : Option (List ℕ)) → Some [] ≡ prepend_known piece told → (piece ≡ []) × (told ≡ Some [])
none_more [] None h = absurd (cc)
none_more [] (Some []) h = (refl, refl)
none_more [] (Some (x ∷ xs)) h = absurd (cc)
none_more (x ∷ xs) None h = absurd (cc)
none_more (x ∷ xs) (Some ys) h = absurd (cc)

-- A read of it gives no byte.
pub over_read : {a b : LinkState} {allows : List ℕ → List ℕ → List ℕ → Type 0} {before after : List ℕ} {limit : ℕ} {r : Result LineEnd LinkError} → ReadsLine allows a b before after limit r → IsOver a
    → (after ≡ before) × IsOver b
over_read {a} {b} {before = before} {after} p o =
    let none = none_more p.piece b.to_come (sym o.to_come ∙ p.came) in
    (p.appended ∙ (ap (λ t. before ++ t) none.0 ∙ append-nil before), stays_over a b none.1 (p.was_read ∙ (ap (λ t. append_known a.was_read t) none.0 ∙ sym (appends_nothing a.was_read))) o)

-- What is told of what is to come.

pub told_then : (a b c : LinkState) → TellsToComeAlike a b → TellsToComeAlike b c → TellsToComeAlike a c
told_then a b c p q = q ∙ p

pub told_left : {a b : LinkState} → Leaves a b → TellsToComeAlike a b
told_left {a} {b} p = ap (λ (t : Option (List ℕ)). is_some t) p.same_to_come

-- Exchanges one after another.

pub exchanges_then : {a b c : LinkState} {t x : List ℕ} (u y : List ℕ) → Exchanges a b t x → Exchanges b c u y → Exchanges a c (t ++ u) (x ++ y)
exchanges_then {a} {b} {c} {t} {x} u y p q = record {
  sent = appends_then a.sent b.sent c.sent t u p.sent q.sent;
  was_read = appends_then a.was_read b.was_read c.was_read x y p.was_read q.was_read;
  later = omega (arith, p.later, q.later);
}

-- one exchange, and then the beginning of another
pub begins_then : {a b c : LinkState} {t x : List ℕ} (u : List ℕ) → Exchanges a b t x → BeginsExchange b c u → BeginsExchange a c (t ++ u)
begins_then {a} {b} {c} {t} {x} u p q = record {
  sent = part-then a.sent b.sent c.sent t u p.sent q.sent;
  bytes = x ++ q.bytes;
  was_read = appends_then a.was_read b.was_read c.was_read x q.bytes p.was_read q.was_read;
  later = omega (arith, p.later, q.later);
}

-- text is sent, and then bytes are read
pub after_read : {a b c : LinkState} {t x : List ℕ} (y : List ℕ) → Exchanges a b t x → Exchanges b c [] y → Exchanges a c t (x ++ y)
after_read {a} {c = c} {t} {x} y p q =
    let P : List ℕ → Type 0 = λ u. Exchanges a c u (x ++ y) in
    subst P (append-nil t) (exchanges_then [] y p q)

pub sent_and_read : {a b c : LinkState} {t : List ℕ} (y : List ℕ) → Exchanges a b t [] → Exchanges b c [] y → Exchanges a c t y
sent_and_read y p q = after_read y p q

pub begun_after : {a b c : LinkState} {t x : List ℕ} → Exchanges a b t x → BeginsExchange b c [] → BeginsExchange a c t
begun_after {a} {c = c} {t} p q =
    let P : List ℕ → Type 0 = λ u. BeginsExchange a c u in
    subst P (append-nil t) (begins_then [] p q)

-- What is done is begun.
pub all_begun : {a b : LinkState} {t x : List ℕ} → Exchanges a b t x → BeginsExchange a b t
all_begun {t = t} {x} p = record {
  sent = record { part = t; rest = []; whole = append-nil t; appended = p.sent };
  bytes = x;
  was_read = p.was_read;
  later = p.later;
}

pub exchanged_left : {a b c : LinkState} {t x : List ℕ} → Exchanges a b t x → Leaves b c → Exchanges a c t x
exchanged_left p q = record {
  sent = q.same_sent ∙ p.sent;
  was_read = q.same_read ∙ p.was_read;
  later = omega (arith, p.later, q.later);
}

left_exchanged : {a b c : LinkState} {t x : List ℕ} → Leaves a b → Exchanges b c t x → Exchanges a c t x
left_exchanged {a} {b} {c} {t} {x} p q = record {
  sent = q.sent ∙ ap (λ s. append_known s t) p.same_sent;
  was_read = q.was_read ∙ ap (λ s. append_known s x) p.same_read;
  later = omega (arith, p.later, q.later);
}

left_begun : {a b c : LinkState} {t : List ℕ} → Leaves a b → BeginsExchange b c t → BeginsExchange a c t
left_begun {a} {b} {c} {t} p q = record {
  sent = record { part = q.sent.part; rest = q.sent.rest; whole = q.sent.whole; appended = q.sent.appended ∙ ap (λ s. append_known s q.sent.part) p.same_sent };
  bytes = q.bytes;
  was_read = q.was_read ∙ ap (λ s. append_known s q.bytes) p.same_read;
  later = omega (arith, p.later, q.later);
}

pub ended_left : (a b : LinkState) → Leaves a b → AnswersEnded a → AnswersEnded b
ended_left a b p h =
    let P : Option (List ℕ) → Type 0 = λ t. IfSome t (λ left. left ≡ []) in
    subst P (sym p.same_to_come) h

-- Replies.

allowed_same : {allows allows' : List ℕ → List ℕ → List ℕ → Type 0} (line : List ℕ) → AllowsOnly allows' allows → (sent was_read : Option (List ℕ)) → IsAllowed allows' sent was_read line → IsAllowed allows sent was_read line
allowed_same line f None w h = tt
allowed_same line f (Some s) None h = tt
allowed_same line f (Some s) (Some w) h = f s w line h

-- A line that is allowed here, where other words say what was sent and read.
pub allowed_at : {allows allows' : List ℕ → List ℕ → List ℕ → Type 0} (line : List ℕ) → AllowsOnly allows' allows → {sent sent' was_read was_read' : Option (List ℕ)} → sent' ≡ sent → was_read' ≡ was_read
    → IsAllowed allows' sent was_read line → IsAllowed allows sent' was_read' line
allowed_at {allows} line f {sent} {sent'} {was_read} {was_read'} e g h = rw (e, g) (allowed_same line f sent was_read h)

pub same_only : (allows : List ℕ → List ℕ → List ℕ → Type 0) → AllowsOnly allows allows
same_only allows = λ text earlier line h. h

piece_left : (b c : LinkState) (line : List ℕ) → Leaves b c → IsPiece b line → IsPiece c line
piece_left b c line q (inl h) = inl h
piece_left b c line q (inr h) = inr (h.0, h.1, ended_left b c q h.2)

pub reply_left : {a b c : LinkState} {t line : List ℕ} (allows : List ℕ → List ℕ → List ℕ → Type 0) → IsReply allows a b t line → Leaves b c → IsReply allows a c t line
reply_left {a} {b} {c} {t} {line} allows p q = record {
  exchanged = exchanged_left p.exchanged q;
  short = p.short;
  piece = piece_left b c line q p.piece;
  allowed = λ n. allowed_at line (same_only allows) q.same_sent refl (p.allowed n);
}

pub reply_sent : {a b c : LinkState} {t line : List ℕ} {allows allows' : List ℕ → List ℕ → List ℕ → Type 0} → AllowsOnly allows' allows → Exchanges a b t [] → IsReply allows' b c [] line → IsReply allows a c t line
reply_sent {a} {b} {c} {t} {line} f p q = record {
  exchanged = sent_and_read line p q.exchanged;
  short = q.short;
  piece = q.piece;
  allowed = λ n. allowed_at line f refl (appends_nothing a.was_read ∙ sym p.was_read) (q.allowed n);
}

left_reply : {a b c : LinkState} {t line : List ℕ} {allows allows' : List ℕ → List ℕ → List ℕ → Type 0} → AllowsOnly allows' allows → Leaves a b → IsReply allows' b c t line → IsReply allows a c t line
left_reply {a} {b} {c} {t} {line} f p q = record {
  exchanged = left_exchanged p q.exchanged;
  short = q.short;
  piece = q.piece;
  allowed = λ n. allowed_at line f refl (sym p.same_read) (q.allowed n);
}

line_has_bytes : (line : List ℕ) → IsLine line → line ≡ [] → ⊥
line_has_bytes line h e =
    let l : length (h.0 ++ 10 ∷ []) ≡ 0 = ap (λ (t : List ℕ). length t) (sym h.2 ∙ e) in
    omega (arith, l, length-append h.0 (10 ∷ []))

-- A reply of no byte is the end.
pub reply_ends : (b : LinkState) (line : List ℕ) → IsPiece b line → line ≡ [] → AnswersEnded b
reply_ends b line (inl h) e = absurd (line_has_bytes line h e)
reply_ends b line (inr h) e = h.2

-- A reply is not too long.
pub reply_short : (b : LinkState) (line : List ℕ) → IsPiece b line → IsNotLong line
reply_short b line (inl h) = inl h
reply_short b line (inr h) = inr h.1

-- A line that says something has bytes.
pub says_bytes : (line text : List ℕ) → 0 < length text → StripsTo line text → line ≢ []
says_bytes line text l s e =
    let none : length (s.front ++ (text ++ s.back)) ≡ 0 = ap (λ (t : List ℕ). length t) (sym s.whole ∙ e) in
    omega (arith, l, none, length-append s.front (text ++ s.back), length-append text s.back)

pub word_bytes : (d : Decision) → 0 < length (decision_word d)
word_bytes decisions.Sat = omega arith
word_bytes decisions.Unsat = omega arith
word_bytes decisions.Unknown = omega arith

-- the exit of a `?`, which hands the error on
pub exits : {T E : Type 0} (P : Result T E → Type 0) (r : Result T E) (e : E) → IsErrAnd r (λ y. y ≡ e) → P (Err e) → P r
exits P (Ok x) e h p = absurd h
exits P (Err y) e h p = subst (λ t. P (Err t)) (sym h) p

pub rose_later : (a b c : ℕ) → a ≤ b → Rose b c → Rose a c
rose_later a b c l r = omega (arith, r)

-- An error of sending is one of a question.
pub send_refuses : (a b c : LinkState) (reads judged other : List ℕ → Type 0) (e : SolverError) → a.faults ≤ b.faults → FailsToSend b c e → Refuses reads judged other a c e
send_refuses a b c reads judged other Io l h = inl (rose_later a.faults b.faults c.faults l h)
send_refuses a b c reads judged other (Solver m) l h = absurd h
send_refuses a b c reads judged other (UnrecognizedSolverOutput m) l h = absurd h
send_refuses a b c reads judged other SolverMarkedFailed l h = absurd h
send_refuses a b c reads judged other AnswerTooLong l h = absurd h
send_refuses a b c reads judged other Memory l h = tt

-- A refusal after earlier steps.
pub refuses_later : (a b c : LinkState) (reads reads' judged judged' other other' : List ℕ → Type 0) (e : SolverError) → a.faults ≤ b.faults → Spares a b
    → ((line : List ℕ) → reads line → reads' line) → ((line : List ℕ) → judged line → judged' line) → ((text : List ℕ) → other text → other' text)
    → Refuses reads judged other b c e → Refuses reads' judged' other' a c e
refuses_later a b c reads reads' judged judged' other other' Io l s f g k (inl r) = inl (rose_later a.faults b.faults c.faults l r)
refuses_later a b c reads reads' judged judged' other other' Io l s f g k (inr (line, r, w, n, t)) = inr (line, f line r, w, n, spares_then s t)
refuses_later a b c reads reads' judged judged' other other' (Solver m) l s f g k (inl (r, h, e, t)) = inl (f [] r, h, e, killed_then s t)
refuses_later a b c reads reads' judged judged' other other' (Solver m) l s f g k (inr (line, r, i, h, t)) = inr (line, g line r, i, h, kills_then (is_parse_error (rc_str_bytes m)) a b c s t)
refuses_later a b c reads reads' judged judged' other other' (UnrecognizedSolverOutput m) l s f g k (line, r, i, n, h, o, w, t) = (line, g line r, i, n, h, k _ o, w, spares_then s t)
refuses_later a b c reads reads' judged judged' other other' SolverMarkedFailed l s f g k h = absurd h
refuses_later a b c reads reads' judged judged' other other' AnswerTooLong l s f g k (line, r, h, n, t) = (line, f line r, h, n, spares_then s t)
refuses_later a b c reads reads' judged judged' other other' Memory l s f g k h = tt

-- A kill after earlier steps.
pub kills_later : (a b c : LinkState) (begins begins' : List ℕ → Type 0) (t u : List ℕ) → Spares a b
    → ((bytes : List ℕ) → Exchanges b c u bytes → CallsForKill begins c bytes → (more : List ℕ) × Exchanges a c t more × CallsForKill begins' c more)
    → KillsOnly begins b c u → KillsOnly begins' a c t
kills_later a b c begins begins' t u s f (inl h) = inl (spares_then s h)
kills_later a b c begins begins' t u s f (inr (bytes, x, h, k)) =
    let g = f bytes x h in
    inr (g.0, g.1, g.2, killed_then s k)

-- Lines that are judged.

line_why : (a b c : LinkState) (allows : List ℕ → List ℕ → List ℕ → Type 0) (t line : List ℕ) (other : List ℕ → Type 0) (e : SolverError) → IsReply allows a b t line → Spares a b → Leaves b c
    → RefusesLine other line b c e → Refuses (Exchanges a c t) (Exchanges a c t) other a c e
line_why a b c allows t line other Io p s q (inl r) = inl (rose_later a.faults b.faults c.faults p.exchanged.later r)
line_why a b c allows t line other Io p s q (inr h) = inr (line, exchanged_left p.exchanged q, reply_short b line p.piece, h.0, spares_then s h.1)
line_why a b c allows t line other (Solver m) p s q (inl h) =
    let P : List ℕ → Type 0 = λ u. Exchanges a c t u in
    inl (subst P h.0 (exchanged_left p.exchanged q), ended_left b c q (reply_ends b line p.piece h.0), h.1, killed_then s h.2)
line_why a b c allows t line other (Solver m) p s q (inr h) = inr (line, exchanged_left p.exchanged q, reply_short b line p.piece, h.0, kills_then (is_parse_error (rc_str_bytes m)) a b c s h.1)
line_why a b c allows t line other (UnrecognizedSolverOutput m) p s q (n, h, o, w, k) = (line, exchanged_left p.exchanged q, reply_short b line p.piece, n, h, o, w, spares_then s k)
line_why a b c allows t line other SolverMarkedFailed p s q h = absurd h
line_why a b c allows t line other AnswerTooLong p s q h = absurd h
line_why a b c allows t line other Memory p s q h = tt

pub line_refuses : {a b c : LinkState} {t line : List ℕ} (allows : List ℕ → List ℕ → List ℕ → Type 0) (other : List ℕ → Type 0) (e : SolverError) → IsReply allows a b t line → Spares a b
    → GivesRefusal other line b c e → Refuses (Exchanges a c t) (Exchanges a c t) other a c e
line_refuses {a} {b} {c} {t} {line} allows other e p s q = line_why a b c allows t line other e p s q.left q.why

kills_for : (a b c : LinkState) (allows : List ℕ → List ℕ → List ℕ → Type 0) (t line : List ℕ) → IsReply allows a b t line → Spares a b → Leaves b c → KillsForLine line b c → KillsOnly IsNothing a c t
kills_for a b c allows t line p s q (inl h) = inl (spares_then s h)
kills_for a b c allows t line p s q (inr (inl e, k)) = inr (line, exchanged_left p.exchanged q, inl (e, ended_left b c q (reply_ends b line p.piece e)), killed_then s k)
kills_for a b c allows t line p s q (inr (inr h, k)) = inr (line, exchanged_left p.exchanged q, inr h, killed_then s k)

pub line_kills : {a b c : LinkState} {t line : List ℕ} (allows : List ℕ → List ℕ → List ℕ → Type 0) (other : List ℕ → Type 0) (e : SolverError) → IsReply allows a b t line → Spares a b
    → GivesRefusal other line b c e → KillsOnly IsNothing a c t
line_kills {a} {b} {c} {t} {line} allows other e p s q = kills_for a b c allows t line p s q.left q.kills

text_why : (text message : List ℕ) (b c : LinkState) (e : SolverError) → text ≡ error_line message → TellsMessageAs message b c e → TellsText text b c e
text_why text message b c Io g (inl r) = inl r
text_why text message b c Io g (inr h) = inr (λ u. h.0 (message_utf8 text message g u), h.1)
text_why text message b c (Solver m) g h =
    let P : List ℕ → Type 0 = λ t. (text ≡ error_line t) × KillsFor t b c in
    subst P (sym h.0) (g, h.1)
text_why text message b c (UnrecognizedSolverOutput m) g h = absurd h
text_why text message b c SolverMarkedFailed g h = absurd h
text_why text message b c AnswerTooLong g h = absurd h
text_why text message b c Memory g h = tt

text_kills : (text message : List ℕ) (b c : LinkState) → text ≡ error_line message → Spares b c ⊎ (IsTrue (is_parse_error message) × IsKilled b c)
    → Spares b c ⊎ (((told : List ℕ) × (text ≡ error_line told) × IsTrue (is_parse_error told)) × IsKilled b c)
text_kills text message b c g (inl s) = inl s
text_kills text message b c g (inr h) = inr ((message, g, h.0), h.1)

-- The message of an error line is told.
pub message_refuses : {text message : List ℕ} {b c : LinkState} {e : SolverError} → text ≡ error_line message → TellsMessage message b c e → RefusesText text b c e
message_refuses {text} {message} {b} {c} {e} g h = record {
  why = text_why text message b c e g h.why;
  left = h.left;
  kills = text_kills text message b c g h.kills;
}

why_line : (line text : List ℕ) (other : List ℕ → Type 0) (b c : LinkState) (e : SolverError) → StripsTo line text → line ≢ [] → other text → TellsText text b c e → RefusesLine other line b c e
why_line line text other b c Io s n o (inl r) = inl r
why_line line text other b c Io s n o (inr h) = inr (λ u. h.0 (stripped_utf8 line text s u), h.1)
why_line line text other b c (Solver m) s n o h =
    let P : List ℕ → Type 0 = λ t. StripsTo line t in
    inr (subst P h.0 s, h.1)
why_line line text other b c (UnrecognizedSolverOutput m) s n o h =
    let P : List ℕ → Type 0 = λ t. StripsTo line t in
    (n, subst P h.0 s, subst other h.0 o, subst IsNoError h.0 h.1, h.2)
why_line line text other b c SolverMarkedFailed s n o h = absurd h
why_line line text other b c AnswerTooLong s n o h = absurd h
why_line line text other b c Memory s n o h = tt

kills_line : (line text : List ℕ) (b c : LinkState) → StripsTo line text → Spares b c ⊎ (((told : List ℕ) × (text ≡ error_line told) × IsTrue (is_parse_error told)) × IsKilled b c) → KillsForLine line b c
kills_line line text b c s (inl h) = inl h
kills_line line text b c s (inr ((told, g, p), k)) =
    let P : List ℕ → Type 0 = λ t. StripsTo line t in
    inr (inr (told, subst P g s, p), k)

-- The text of a line is refused, and so is the line.
pub line_judged : {T : Type 0} {line text : List ℕ} {b c : LinkState} {e : SolverError} (good : T → Type 0) (other : List ℕ → Type 0) → StripsTo line text → line ≢ [] → other text → RefusesText text b c e
    → JudgesLine good other line b c (Err e)
line_judged {line = line} {text} {b} {c} {e} good other s n o h = record {
  ok = tt;
  err = record {
    why = why_line line text other b c e s n o h.why;
    left = h.left;
    kills = kills_line line text b c s h.kills;
  };
}

-- The answers of a solver that runs.

pub runner_judged : {a b c : LinkState} {line given : List ℕ} (allows : List ℕ → List ℕ → List ℕ → Type 0) (r : Result Decision SolverError) → IsReply allows a b check_sat_text line → Spares a b
    → TellsToComeAlike a b → line ≡ given → (IsOver a → (given ≡ []) × IsOver b) → JudgesLine (λ d. StripsTo line (decision_word d)) IsNoDecision line b c r → AsksRunner allows a c r
runner_judged {a} {b} {c} {line} allows (Ok d) p s t g h q =
    let reply : IsReply allows a c check_sat_text line = reply_left allows p q.ok.2 in
    let spared : Spares a c = spares_then s q.ok.1 in
    record {
      ok = record { line = line; reply = reply; allowed = reply.allowed (says_bytes line (decision_word d) (word_bytes d) q.ok.0); says = q.ok.0; spared = spared };
      err = tt;
      begun = all_begun reply.exchanged;
      kills = inl spared;
      told = told_then a b c t (told_left q.ok.2);
      over = λ o. absurd (says_bytes line (decision_word d) (word_bytes d) q.ok.0 (g ∙ (h o).0));
    }
runner_judged {a} {b} {c} {line} allows (Err e) p s t g h q = record {
  ok = tt;
  err = line_refuses allows IsNoDecision e p s q.err;
  begun = all_begun (exchanged_left p.exchanged q.err.left);
  kills = line_kills allows IsNoDecision e p s q.err;
  told = tt;
  over = λ o. (refl, over_left q.err.left (h o).1);
}

pub runner_unread : {T : Type 0} {a b c : LinkState} {allows allows' : List ℕ → List ℕ → List ℕ → Type 0} (line : T → List ℕ) (e : SolverError) → Exchanges a b check_sat_text [] → Spares a b
    → (IsOver a → IsOver b) → ReadsReply allows' b c line (Err e) → AsksRunner allows a c (Err e)
runner_unread {a = a} {b} {c} line e p s h q = record {
  ok = tt;
  err = refuses_later a b c (Exchanges b c []) (Exchanges a c check_sat_text) IsNever (Exchanges a c check_sat_text) IsNever IsNoDecision e p.later s
      (λ y h. sent_and_read y p h) (λ y h. absurd h) (λ y h. absurd h) q.err;
  begun = begun_after p q.begun;
  kills = inl (spares_then s q.spared);
  told = tt;
  over = λ o. (refl, (q.over (h o)).1);
}

runs_on : (e : Option Ended) (Q : Ended → Type 0) → IfSome e (λ told. told ≡ Running) → IfSome e (λ how. how ≢ Running → Q how)
runs_on None Q h = tt
runs_on (Some x) Q h = λ n. absurd (n h)

pub runner_asked : {T : Type 0} {a b c : LinkState} {allows allows' : List ℕ → List ℕ → List ℕ → Type 0} (x : T) (r : Result Decision SolverError) → AllowsOnly allows' allows → AsksRunning a b (Ok x)
    → AsksRunner allows' b c r → AsksDecision allows a c r
runner_asked {a = a} {b} {c} x (Ok d) f p q = record {
  ok = record {
    line = q.ok.line;
    reply = left_reply f p.left q.ok.reply;
    allowed = allowed_at q.ok.line f refl (sym p.left.same_read) q.ok.allowed;
    says = q.ok.says;
    spared = spares_then p.spared q.ok.spared;
  };
  err = tt;
  ended = runs_on a.ended (λ how. IsNotAsked a c how (Ok d)) p.ok;
  begun = left_begun p.left q.begun;
  kills = kills_later a b c IsNothing IsNothing check_sat_text check_sat_text p.spared (λ bytes y h. (bytes, left_exchanged p.left y, h)) q.kills;
  told = told_then a b c (told_left p.left) q.told;
  over = λ o. q.over (over_left p.left o);
}
runner_asked {a = a} {b} {c} x (Err e) f p q = record {
  ok = tt;
  err = inr (refuses_later a b c (Exchanges b c check_sat_text) (Exchanges a c check_sat_text) (Exchanges b c check_sat_text) (Exchanges a c check_sat_text) IsNoDecision IsNoDecision e p.left.later p.spared
      (λ y h. left_exchanged p.left h) (λ y h. left_exchanged p.left h) (λ y h. h) q.err);
  ended = runs_on a.ended (λ how. IsNotAsked {T = Decision} a c how (Err e)) p.ok;
  begun = left_begun p.left q.begun;
  kills = kills_later a b c IsNothing IsNothing check_sat_text check_sat_text p.spared (λ bytes y h. (bytes, left_exchanged p.left y, h)) q.kills;
  told = tt;
  over = λ o. q.over (over_left p.left o);
}
