-- Lines of a model one after another.
use Rattle.std.proofs.Common.{◌≡◌, ◌≢◌, ℕ, ◌≤◌, ◌<◌, List, [], ◌∷◌, ◌++◌, length, Bool, true, false, Option, refl, sym, ap, ◌∙◌, append-nil, append_assoc, subst, arith, inl, inr, Err, Ok, Result}
use Rattle.std.specs.Prelude.{◌⊎◌, IsErr}
use Rattle.std.specs.List.{concat}
use Rattle.std.specs.Io.KnownBytes.{append_known}
use Rattle.std.specs.Rc.{rc_str_bytes}
use Rattle.std.specs.declared.alloc.Global.{Global}
use Rattle.std.specs.declared.rc.RcStr.{RcStr}
use Rattle.smt_script.proofs.PutsLemmas.{appends_nothing, appends_then}
use Rattle.smt_script.specs.CommandTexts.{get_model_text}
use Rattle.smt_solve.specs.Answers.{StripsTo, line_limit, model_limit, opening}
use Rattle.smt_solve.specs.Link.{AllowsOnly, HasNoLineFeed, IsKilled, IsLine, IsOver, LinkState}
use Rattle.smt_solve.specs.Model.{ArePieces, AreInner, AsksModel, AsksWithModel, BeginsModel, BeginsRest, GivesModel, GivesPast, IsDecidedAs, IsInner, IsNextLine, IsNotOpening, IsPastLine, IsPastRest, IsPieceAt, KillsAtEnd, ReadsInModel, ReadsInRest, ReadsModel, ReadsNextLine, ReadsOpening, ReadsRest, RefusesModel, RefusesNext, TakesLine, TakesOpening}
use Rattle.smt_solve.specs.Question.{AsksDecision, BeginsExchange, CallsForKill, Exchanges, GivesRefusal, IsNever, IsNothing, IsPiece, IsReply, KillsOnly, Leaves, ReadsReply, Refuses, Spares}
use Rattle.smt_solve.proofs.LinkLemmas.{same_end}
use Rattle.smt_solve.proofs.QuestionLemmas.{after_read, all_begun, allowed_at, begun_after, ended_left, exchanged_left, exchanges_then, killed_then, kills_later, line_kills, line_refuses, refuses_later, reply_ends, reply_left, reply_short, rose_later, same_only, says_bytes, sent_and_read, spares_then}
use Rattle.smt_solve.specs.declared.answer.Decision.{Decision}
use Rattle.smt_solve.specs.declared.answer.Decision.TheVariants as decisions
use Rattle.smt_solve.specs.declared.answer.DecisionWithModel.{DecisionWithModel}
use Rattle.smt_solve.specs.declared.answer.DecisionWithModel.TheVariants.{Sat as SatWith, Unsat as UnsatWith, Unknown as UnknownWith}
use Rattle.smt_solve.specs.declared.error.SolverError.{SolverError}
use Rattle.smt_solve.specs.declared.error.SolverError.TheVariants.{Io, Solver, UnrecognizedSolverOutput, SolverMarkedFailed, AnswerTooLong, Memory}

-- Lines.

concat_one : (lines : List (List ℕ)) (line : List ℕ) → concat (lines ++ line ∷ []) ≡ concat lines ++ line
concat_one [] line = append-nil line
concat_one (x ∷ xs) line = ap (λ t. x ++ t) (concat_one xs line) ∙ sym (append_assoc x (concat xs) line)

all_one : (lines : List (List ℕ)) (line : List ℕ) → AreInner lines → IsInner line → AreInner (lines ++ line ∷ [])
all_one [] line p h = (h, tt)
all_one (x ∷ xs) line p h = (p.0, all_one xs line p.1 h)

piece_same : {allows allows' : List ℕ → List ℕ → List ℕ → Type 0} (line : List ℕ) → AllowsOnly allows' allows → {sent sent' was_read was_read' : Option (List ℕ)} → sent' ≡ sent → was_read' ≡ was_read
    → IsPieceAt allows' sent was_read line → IsPieceAt allows sent' was_read' line
piece_same line f e g h = (allowed_at line f e g h.0, h.1, h.2)

pieces_same : {allows allows' : List ℕ → List ℕ → List ℕ → Type 0} (lines : List (List ℕ)) → AllowsOnly allows' allows → {sent sent' was_read was_read' : Option (List ℕ)} → sent' ≡ sent → was_read' ≡ was_read
    → ArePieces allows' sent was_read lines → ArePieces allows sent' was_read' lines
pieces_same [] f e g h = tt
pieces_same (x ∷ xs) f e g h = (piece_same x f e g h.0, pieces_same xs f e (ap (λ t. append_known t x) g) h.1)

one_more_piece : (allows : List ℕ → List ℕ → List ℕ → Type 0) (sent was_read : Option (List ℕ)) (lines : List (List ℕ)) (line : List ℕ) → ArePieces allows sent was_read lines
    → IsPieceAt allows sent (append_known was_read (concat lines)) line → ArePieces allows sent was_read (lines ++ line ∷ [])
one_more_piece allows sent was_read [] line p h = (piece_same line (same_only allows) refl (appends_nothing was_read) h, tt)
one_more_piece allows sent was_read (x ∷ xs) line p h =
    let e : append_known (append_known was_read x) (concat xs) ≡ append_known was_read (x ++ concat xs) =
    appends_then was_read (append_known was_read x) (append_known (append_known was_read x) (concat xs)) x (concat xs) refl refl in
    (p.0, one_more_piece allows sent (append_known was_read x) xs line p.1 (piece_same line (same_only allows) refl e h))

piece_ends : (b : LinkState) (line : List ℕ) → IsPiece b line → IsLine line ⊎ (HasNoLineFeed line × (length line < line_limit))
piece_ends b line (inl h) = inl h
piece_ends b line (inr h) = inr (h.0, h.1)

-- A reply that has bytes is a line of a model.
pub piece_of : {a b : LinkState} {t line : List ℕ} (allows : List ℕ → List ℕ → List ℕ → Type 0) → line ≢ [] → IsReply allows a b t line → IsPieceAt allows b.sent a.was_read line
piece_of {a} {b} {t} {line} allows n p = (p.allowed n, p.short, piece_ends b line p.piece)

-- The first line.

past_never : (line : List ℕ) (a : LinkState) (b : LinkState) (e : SolverError) → length line ≤ 65536 → GivesPast line [] a b e → ⊥
past_never line a b e l h =
    let k : model_limit < length line = h.1 in
    omega (arith, l, k)

opening_why : {a b c : LinkState} {line : List ℕ} (allows : List ℕ → List ℕ → List ℕ → Type 0) (e : SolverError) → IsReply allows a b [] line → Spares a b
    → GivesRefusal IsNotOpening line b c e ⊎ GivesPast line [] b c e
    → Refuses (Exchanges a c []) (Exchanges a c []) IsNotOpening a c e × BeginsExchange a c [] × KillsOnly IsNothing a c []
opening_why allows e p s (inl h) = (line_refuses allows IsNotOpening e p s h, all_begun (exchanged_left p.exchanged h.left), line_kills allows IsNotOpening e p s h)
opening_why {b = b} {c} {line} allows e p s (inr h) = absurd (past_never line b c e p.short h)

pub opening_taken : {T : Type 0} {a b c : LinkState} {line after : List ℕ} (allows : List ℕ → List ℕ → List ℕ → Type 0) (r : Result T SolverError) → IsReply allows a b [] line → Spares a b
    → TakesOpening line b c after r → ReadsOpening allows a c after r
opening_taken {a = a} {b} {c} {line} {after} allows (Ok x) p s q =
    let reply : IsReply allows a c [] line = reply_left allows p q.ok.3 in
    let P : List ℕ → Type 0 = λ t. Exchanges a c [] t × StripsTo t opening × IsPieceAt allows c.sent a.was_read t × Spares a c in
    record {
      ok = subst P (sym q.ok.0) (reply.exchanged, q.ok.1, piece_of allows (says_bytes line opening (omega arith) q.ok.1) reply, spares_then s q.ok.2);
      err = tt;
      begun = all_begun reply.exchanged;
      kills = inl (spares_then s q.ok.2);
    }
opening_taken allows (Err e) p s q =
    let h = opening_why allows e p s q.err in
    record { ok = tt; err = h.0; begun = h.1; kills = h.2 }

pub opening_unread : {T X : Type 0} {a c : LinkState} {after : List ℕ} (allows : List ℕ → List ℕ → List ℕ → Type 0) (line : X → List ℕ) (e : SolverError) → ReadsReply allows a c line (Err e)
    → ReadsOpening {T = T} allows a c after (Err e)
opening_unread {a = a} {c} allows line e q = record {
  ok = tt;
  err = refuses_later a a c (Exchanges a c []) (Exchanges a c []) IsNever (Exchanges a c []) IsNever IsNotOpening e (omega arith) (record { same_killed = refl; end = same_end a.ended })
      (λ y h. h) (λ y h. absurd h) (λ y h. absurd h) q.err;
  begun = q.begun;
  kills = inl q.spared;
}

-- A further line.

next_why : (a b c : LinkState) (line before : List ℕ) (allows : List ℕ → List ℕ → List ℕ → Type 0) (e : SolverError) → IsReply allows a b [] line → Spares a b → Leaves b c
    → RefusesNext line before b c e → Refuses (Exchanges a c []) IsNever IsNever a c e ⊎ IsPastLine a c before e
next_why a b c line before allows Io p s q (inl r) = inl (inl (rose_later a.faults b.faults c.faults p.exchanged.later r))
next_why a b c line before allows Io p s q (inr h) = inl (inr (line, exchanged_left p.exchanged q, reply_short b line p.piece, h.0, spares_then s h.1))
next_why a b c line before allows (Solver m) p s q h =
    let P : List ℕ → Type 0 = λ u. Exchanges a c [] u in
    inl (inl (subst P h.0 (exchanged_left p.exchanged q), ended_left b c q (reply_ends b line p.piece h.0), h.1, killed_then s h.2))
next_why a b c line before allows (UnrecognizedSolverOutput m) p s q h = absurd h
next_why a b c line before allows SolverMarkedFailed p s q h = absurd h
next_why a b c line before allows AnswerTooLong p s q h = inr (refl, line, exchanged_left p.exchanged q, h.0, spares_then s h.1)
next_why a b c line before allows Memory p s q h = inl tt

next_kills : (a b c : LinkState) (line : List ℕ) (allows : List ℕ → List ℕ → List ℕ → Type 0) → IsReply allows a b [] line → Spares a b → Leaves b c
    → Spares b c ⊎ ((line ≡ []) × IsKilled b c) → KillsAtEnd IsNothing a c []
next_kills a b c line allows p s q (inl h) = inl (spares_then s h)
next_kills a b c line allows p s q (inr h) = inr (line, exchanged_left p.exchanged q, h.0, ended_left b c q (reply_ends b line p.piece h.0), killed_then s h.1)

pub next_taken : {a b c : LinkState} {line before after : List ℕ} (allows : List ℕ → List ℕ → List ℕ → Type 0) (r : Result Bool SolverError) → IsReply allows a b [] line → Spares a b
    → TakesLine line b c before after r → ReadsNextLine allows a c before after r
next_taken {a} {b} {c} {line} {before} {after} allows (Ok closes) p s q =
    let reply : IsReply allows a c [] line = reply_left allows p q.ok.5 in
    record {
      ok = record {
        line = line;
        exchanged = reply.exchanged;
        appended = q.ok.0;
        short = q.ok.1;
        piece = piece_of allows q.ok.2 reply;
        says = q.ok.3;
        spared = spares_then s q.ok.4;
      };
      err = tt;
      begun = all_begun reply.exchanged;
      kills = inl (spares_then s q.ok.4);
    }
next_taken {a} {b} {c} {line} {before} allows (Err e) p s q = record {
  ok = tt;
  err = next_why a b c line before allows e p s q.err.left q.err.why;
  begun = all_begun (exchanged_left p.exchanged q.err.left);
  kills = next_kills a b c line allows p s q.err.left q.err.kills;
}

pub next_unread : {X : Type 0} {a c : LinkState} {before after : List ℕ} (allows : List ℕ → List ℕ → List ℕ → Type 0) (line : X → List ℕ) (e : SolverError) → ReadsReply allows a c line (Err e)
    → ReadsNextLine allows a c before after (Err e)
next_unread allows line e q = record { ok = tt; err = inl q.err; begun = q.begun; kills = inl q.spared }

-- All further lines.

-- Lines none of which is `)` were read so far.
pub record InnerSoFar (allows : List ℕ → List ℕ → List ℕ → Type 0) (old new : LinkState) (before after : List ℕ) : Type 0 where
  pub lines : List (List ℕ)
  pub exchanged : Exchanges old new [] (concat lines)
  pub appended : after ≡ before ++ concat lines
  pub inner : AreInner lines
  pub pieces : ArePieces allows new.sent old.was_read lines
  pub spared : Spares old new

pub none_so_far : (allows : List ℕ → List ℕ → List ℕ → Type 0) (a : LinkState) (before : List ℕ) → InnerSoFar allows a a before before
none_so_far allows a before = record {
  lines = [];
  exchanged = record { sent = appends_nothing a.sent; was_read = appends_nothing a.was_read; later = omega arith };
  appended = sym (append-nil before);
  inner = tt;
  pieces = tt;
  spared = record { same_killed = refl; end = same_end a.ended };
}

grouped : (before bytes line after : List ℕ) (mid : List ℕ) → mid ≡ before ++ bytes → after ≡ mid ++ line → after ≡ before ++ (bytes ++ line)
grouped before bytes line after mid p q = q ∙ (ap (λ t. t ++ line) p ∙ append_assoc before bytes line)

-- one more line
pub record OneMore (allows : List ℕ → List ℕ → List ℕ → Type 0) (old new : LinkState) (before after : List ℕ) (lines : List (List ℕ)) (line : List ℕ) : Type 0 where
  pub exchanged : Exchanges old new [] (concat (lines ++ line ∷ []))
  pub appended : after ≡ before ++ concat (lines ++ line ∷ [])
  pub pieces : ArePieces allows new.sent old.was_read (lines ++ line ∷ [])
  pub spared : Spares old new

one_more : {a b c : LinkState} {before mid after : List ℕ} {allows allows' : List ℕ → List ℕ → List ℕ → Type 0} (closes : Bool) → AllowsOnly allows' allows → (p : InnerSoFar allows a b before mid)
    → (q : IsNextLine allows' b c mid after closes) → OneMore allows a c before after p.lines q.line
one_more {a} {b} {c} {before} {mid} {after} {allows} closes f p q =
    let whole : concat (p.lines ++ q.line ∷ []) ≡ concat p.lines ++ q.line = concat_one p.lines q.line in
    let P : List ℕ → Type 0 = λ t. Exchanges a c [] t in
    let Q : List ℕ → Type 0 = λ t. after ≡ before ++ t in
    let same : c.sent ≡ b.sent = q.exchanged.sent ∙ sym (appends_nothing b.sent) in
    record {
      exchanged = subst P (sym whole) (exchanges_then [] q.line p.exchanged q.exchanged);
      appended = subst Q (sym whole) (grouped before (concat p.lines) q.line after mid p.appended q.appended);
      pieces = one_more_piece allows c.sent a.was_read p.lines q.line (pieces_same p.lines (same_only allows) same refl p.pieces) (piece_same q.line f refl (sym p.exchanged.was_read) q.piece);
      spared = spares_then p.spared q.spared;
    }

pub rest_goes : {a b c : LinkState} {before mid after : List ℕ} {allows allows' : List ℕ → List ℕ → List ℕ → Type 0} (closes : Bool) → AllowsOnly allows' allows → InnerSoFar allows a b before mid
    → ReadsNextLine allows' b c mid after (Ok closes) → closes ≡ false → InnerSoFar allows a c before after
rest_goes {b = b} {c} {mid = mid} {after} {allows' = allows'} closes f p q e =
    let P : Bool → Type 0 = λ t. IsNextLine allows' b c mid after t in
    let next : IsNextLine allows' b c mid after false = subst P e q.ok in
    let more = one_more false f p next in
    record {
      lines = p.lines ++ next.line ∷ [];
      exchanged = more.exchanged;
      appended = more.appended;
      inner = all_one p.lines next.line p.inner next.says;
      pieces = more.pieces;
      spared = more.spared;
    }

pub rest_ends : {a b c : LinkState} {before mid after : List ℕ} {allows allows' : List ℕ → List ℕ → List ℕ → Type 0} (closes : Bool) → AllowsOnly allows' allows → InnerSoFar allows a b before mid
    → ReadsNextLine allows' b c mid after (Ok closes) → closes ≡ true → ReadsRest {T = Unit {0}} allows a c before after (Ok tt)
rest_ends {b = b} {c} {mid = mid} {after} {allows' = allows'} closes f p q e =
    let P : Bool → Type 0 = λ t. IsNextLine allows' b c mid after t in
    let next : IsNextLine allows' b c mid after true = subst P e q.ok in
    let more = one_more true f p next in
    record {
      ok = record {
        inner = p.lines;
        last = next.line;
        exchanged = more.exchanged;
        appended = more.appended;
        short = next.short;
        between = p.inner;
        closes = next.says;
        pieces = more.pieces;
        spared = more.spared;
      };
      err = tt;
      begun = all_begun more.exchanged;
      kills = inl more.spared;
    }

begins_rest : {allows : List ℕ → List ℕ → List ℕ → Type 0} {a b : LinkState} {before mid : List ℕ} (p : InnerSoFar allows a b before mid) → BeginsRest (concat p.lines)
begins_rest p = (p.lines, refl, p.inner)

past_rest : (a b c : LinkState) (before mid : List ℕ) (allows : List ℕ → List ℕ → List ℕ → Type 0) (e : SolverError) → (p : InnerSoFar allows a b before mid) → Refuses (Exchanges b c []) IsNever IsNever b c e ⊎ IsPastLine b c mid e
    → Refuses (ReadsInRest a c) IsNever IsNever a c e ⊎ IsPastRest a c before e
past_rest a b c before mid allows e p (inl h) =
    inl (refuses_later a b c (Exchanges b c []) (ReadsInRest a c) IsNever IsNever IsNever IsNever e p.exchanged.later p.spared
    (λ line y. (concat p.lines, begins_rest p, exchanges_then [] line p.exchanged y)) (λ line y. y) (λ line y. y) h)
past_rest a b c before mid allows e p (inr (g, line, x, l, s)) =
    let P : List ℕ → Type 0 = λ t. model_limit < length t in
    inr (
      g,
      concat p.lines,
      line,
      begins_rest p,
      exchanges_then [] line p.exchanged x,
      subst P (grouped before (concat p.lines) line (mid ++ line) mid p.appended refl) l,
      spares_then p.spared s,
    )

rest_kills : (a b c : LinkState) (before mid : List ℕ) (allows : List ℕ → List ℕ → List ℕ → Type 0) → (p : InnerSoFar allows a b before mid) → KillsAtEnd IsNothing b c [] → KillsAtEnd BeginsRest a c []
rest_kills a b c before mid allows p (inl s) = inl (spares_then p.spared s)
rest_kills a b c before mid allows p (inr (bytes, x, e, h, k)) =
    inr (concat p.lines ++ bytes, exchanges_then [] bytes p.exchanged x, (p.lines, ap (λ t. concat p.lines ++ t) e ∙ append-nil (concat p.lines), p.inner), h, killed_then p.spared k)

pub rest_stops : {a b c : LinkState} {before mid after : List ℕ} {allows allows' : List ℕ → List ℕ → List ℕ → Type 0} (e : SolverError) → InnerSoFar allows a b before mid → ReadsNextLine allows' b c mid after (Err e)
    → ReadsRest {T = Unit {0}} allows a c before after (Err e)
rest_stops {a} {b} {c} {before} {mid} {allows = allows} e p q = record {
  ok = tt;
  err = past_rest a b c before mid allows e p q.err;
  begun = begun_after p.exchanged q.begun;
  kills = rest_kills a b c before mid allows p q.kills;
}

pub rest_never : {a b : LinkState} {before mid : List ℕ} (allows : List ℕ → List ℕ → List ℕ → Type 0) → InnerSoFar allows a b before mid → ReadsRest {T = Unit {0}} allows a b before mid (Err Memory)
rest_never allows p = record { ok = tt; err = inl tt; begun = all_begun p.exchanged; kills = inl p.spared }

-- The whole model.

opening_calls : (c : LinkState) (bytes : List ℕ) → CallsForKill IsNothing c bytes → CallsForKill BeginsModel c bytes
opening_calls c bytes (inl h) = inl (inl h.0, h.1)
opening_calls c bytes (inr h) = inr h

pub model_unopened : {T X : Type 0} {a b c : LinkState} {after after' : List ℕ} {allows allows' : List ℕ → List ℕ → List ℕ → Type 0} (e : SolverError) → Exchanges a b get_model_text [] → Spares a b
    → ReadsOpening {T = X} allows' b c after (Err e) → ReadsModel {T = T} allows a c after' (Err e)
model_unopened {a = a} {b} {c} e p s q = record {
  ok = tt;
  err = inl (refuses_later a b c (Exchanges b c []) (ReadsInModel a c) (Exchanges b c []) (Exchanges a c get_model_text) IsNotOpening IsNotOpening e p.later s
      (λ line h. ([], inl refl, sent_and_read line p h)) (λ line h. sent_and_read line p h) (λ y h. h) q.err);
  begun = begun_after p q.begun;
  kills = kills_later a b c IsNothing BeginsModel get_model_text [] s (λ bytes y h. (bytes, sent_and_read bytes p y, opening_calls c bytes h)) q.kills;
}

begins_model : (first inner : List ℕ) → StripsTo first opening → BeginsRest inner → BeginsModel (first ++ inner)
begins_model first inner o h = inr (first, h.0, ap (λ t. first ++ t) h.1, o, h.2)

behind_first : (a c d : LinkState) (first inner line : List ℕ) → Exchanges a c get_model_text first → Exchanges c d [] (inner ++ line) → Exchanges a d get_model_text ((first ++ inner) ++ line)
behind_first a c d first inner line p q =
    let P : List ℕ → Type 0 = λ t. Exchanges a d get_model_text t in
    subst P (sym (append_assoc first inner line)) (after_read (inner ++ line) p q)

model_why : (a c d : LinkState) (first : List ℕ) (e : SolverError) → Exchanges a c get_model_text first → Spares a c → StripsTo first opening
    → Refuses (ReadsInRest c d) IsNever IsNever c d e ⊎ IsPastRest c d first e → RefusesModel a d e
model_why a c d first e p s o (inl h) =
    inl (refuses_later a c d (ReadsInRest c d) (ReadsInModel a d) IsNever (Exchanges a d get_model_text) IsNever IsNotOpening e p.later s
    (λ line y. (first ++ y.0, begins_model first y.0 o y.1, behind_first a c d first y.0 line p y.2)) (λ line y. absurd y) (λ line y. absurd y) h)
model_why a c d first e p s o (inr (g, inner, line, r, x, l, t)) =
    let P : List ℕ → Type 0 = λ y. model_limit < length y in
    inr (g, first ++ inner, line, begins_model first inner o r, behind_first a c d first inner line p x, subst P (sym (append_assoc first inner line)) l, spares_then s t)

model_kills : (a c d : LinkState) (first : List ℕ) → Exchanges a c get_model_text first → Spares a c → StripsTo first opening → KillsAtEnd BeginsRest c d [] → KillsOnly BeginsModel a d get_model_text
model_kills a c d first p s o (inl h) = inl (spares_then s h)
model_kills a c d first p s o (inr (bytes, x, r, h, k)) = inr (first ++ bytes, after_read bytes p x, inl (begins_model first bytes o r, h), killed_then s k)

pub model_read : {T : Type 0} {a b c d : LinkState} {first after : List ℕ} {allows allows' allows'' : List ℕ → List ℕ → List ℕ → Type 0} (x : T) (r : Result T SolverError) → Exchanges a b get_model_text [] → Spares a b
    → AllowsOnly allows' allows → ReadsOpening {T = T} allows' b c first (Ok x) → AllowsOnly allows'' allows' → ReadsRest allows'' c d first after r → ReadsModel allows a d after r
model_read {a = a} {b} {c} {d} {first} {after} {allows} {allows'} {allows''} x (Ok y) p s f q k r =
    let opened : Exchanges a c get_model_text first = sent_and_read first p q.ok.0 in
    let lines : List (List ℕ) = r.ok.inner ++ r.ok.last ∷ [] in
    let P : List ℕ → Type 0 = λ t. Exchanges a d get_model_text t in
    let all : Exchanges a d get_model_text after = subst P (sym r.ok.appended) (after_read (concat lines) opened r.ok.exchanged) in
    let spared : Spares a d = spares_then s (spares_then q.ok.3 r.ok.spared) in
    let only : AllowsOnly allows'' allows = λ text earlier line h. f text earlier line (k text earlier line h) in
    record {
      ok = record {
        exchanged = all;
        is_model = record {
          first = first;
          inner = r.ok.inner;
          last = r.ok.last;
          whole = r.ok.appended;
          opens = q.ok.1;
          between = r.ok.between;
          closes = r.ok.closes;
          pieces = (piece_same first f (r.ok.exchanged.sent ∙ sym (appends_nothing c.sent)) (appends_nothing a.was_read ∙ sym p.was_read) q.ok.2, pieces_same lines only refl (sym opened.was_read) r.ok.pieces);
          short = r.ok.short;
        };
        spared = spared;
      };
      err = tt;
      begun = all_begun all;
      kills = inl spared;
    }
model_read {a = a} {b} {c} {d} {first} {after} x (Err e) p s f q k r =
    let opened : Exchanges a c get_model_text first = sent_and_read first p q.ok.0 in
    let spared : Spares a c = spares_then s q.ok.3 in
    record {
      ok = tt;
      err = model_why a c d first e opened spared q.ok.1 r.err;
      begun = begun_after opened r.begun;
      kills = model_kills a c d first opened spared q.ok.1 r.kills;
    }

-- The answers of the whole question.

decided_as : (decided : Result Decision SolverError) (r : Result DecisionWithModel SolverError) → IsDecidedAs decided r → IsErr decided → IsErr r
decided_as (Ok d) r h e = absurd (cc)
decided_as (Err x) r h e = rw h refl

-- A link whose answers ended inside a line gives no model and no other answer.
pub with_model_over : {a b : LinkState} (allows : List ℕ → List ℕ → List ℕ → Type 0) (r : Result DecisionWithModel SolverError) → AsksWithModel allows a b r → IsOver a → IsErr r
with_model_over allows r (inl (decided, p, h)) o = decided_as decided r h (p.over o).0
with_model_over allows r (inr (between, p, h)) o =
    let e : IsErr {T = Decision} {E = SolverError} (Ok decisions.Sat) = (p.over o).0 in
    absurd (cc)

pub undecided : {a b : LinkState} (allows : List ℕ → List ℕ → List ℕ → Type 0) (e : SolverError) → AsksDecision allows a b (Err e) → AsksWithModel allows a b (Err e)
undecided allows e p = inl (Err e, p, refl)

pub is_unsat : {a b : LinkState} (allows : List ℕ → List ℕ → List ℕ → Type 0) (d : Decision) → d ≡ decisions.Unsat → AsksDecision allows a b (Ok d) → AsksWithModel allows a b (Ok UnsatWith)
is_unsat {a} {b} allows d h p =
    let P : Decision → Type 0 = λ t. AsksDecision allows a b (Ok t) in
    inl (Ok decisions.Unsat, subst P h p, refl)

pub is_unknown : {a b : LinkState} (allows : List ℕ → List ℕ → List ℕ → Type 0) (d : Decision) → d ≡ decisions.Unknown → AsksDecision allows a b (Ok d) → AsksWithModel allows a b (Ok UnknownWith)
is_unknown {a} {b} allows d h p =
    let P : Decision → Type 0 = λ t. AsksDecision allows a b (Ok t) in
    inl (Ok decisions.Unknown, subst P h p, refl)

gives_same : (allows allows' : List ℕ → List ℕ → List ℕ → Type 0) (a b : LinkState) (model : List ℕ) → AllowsOnly allows' allows → GivesModel allows' a b model → GivesModel allows a b model
gives_same allows allows' a b model f p = record {
  exchanged = p.exchanged;
  is_model = record {
    first = p.is_model.first;
    inner = p.is_model.inner;
    last = p.is_model.last;
    whole = p.is_model.whole;
    opens = p.is_model.opens;
    between = p.is_model.between;
    closes = p.is_model.closes;
    pieces = pieces_same (p.is_model.first ∷ (p.is_model.inner ++ p.is_model.last ∷ [])) f refl refl p.is_model.pieces;
    short = p.is_model.short;
  };
  spared = p.spared;
}

pub has_model : {a b c : LinkState} (allows : List ℕ → List ℕ → List ℕ → Type 0) {allows' : List ℕ → List ℕ → List ℕ → Type 0} (d : Decision) (model : RcStr Global) → d ≡ decisions.Sat → AsksDecision allows a b (Ok d)
    → AllowsOnly allows' allows → AsksModel allows' b c rc_str_bytes (Ok model) → AsksWithModel allows a c (Ok (SatWith model))
has_model {a} {b} {c} allows {allows'} d model h p f q =
    let P : Decision → Type 0 = λ t. AsksDecision allows a b (Ok t) in
    inr (b, subst P h p, record { gives = gives_same allows allows' b c (rc_str_bytes model) f q.ok; begun = q.begun; kills = q.kills })

pub has_no_model : {a b c : LinkState} (allows : List ℕ → List ℕ → List ℕ → Type 0) {allows' : List ℕ → List ℕ → List ℕ → Type 0} (d : Decision) (e : SolverError) → d ≡ decisions.Sat → AsksDecision allows a b (Ok d)
    → AsksModel allows' b c (rc_str_bytes {Z = Global}) (Err e) → AsksWithModel allows a c (Err e)
has_no_model {a} {b} allows d e h p q =
    let P : Decision → Type 0 = λ t. AsksDecision allows a b (Ok t) in
    inr (b, subst P h p, record { gives = q.err; begun = q.begun; kills = q.kills })
