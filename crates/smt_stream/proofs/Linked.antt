-- What is put for the bytes that were sent to a link, and what its calls do, over plain values.
use Rattle.std.proofs.Common.{◌≡◌, ◌≤◌, ℕ, ◌+◌, Bool, true, false, List, [], ◌∷◌, ◌++◌, take, drop, length, Option, Some, Ok, Err, Result, refl, sym, ap, ap₂, ◌∙◌, append-nil, subst, arith}
use Rattle.std.specs.Prelude.{IsOkUnless, OnErr, OnOk, is_err}
use Rattle.std.proofs.lemmas.Bool.{false≢true}
use Rattle.std.proofs.lemmas.List.{length-append, take-append-drop, take-append-le, drop-drop, drop-take, take-take}
use mathlib.Core.HLevel.{⊥_prop}
use mathlib.Core.Logic.{∥∥₁_elim, ∥∥₁_map}
use Rattle.law_scripts.specs.Script.{HasWholeLines}
use Rattle.law_verdicts.specs.Streams.{Standing, TakesAll, Waiting, first_course}
use Rattle.law_verdicts.proofs.StreamReplies.{streams_reply}
use Rattle.smt_script.specs.Sink.{AppendsPart}
use Rattle.smt_solve.specs.Link.{EndsAs, EndsInside, IsOver, KeepsEnd, ReadsLine, Sends}
use Rattle.smt_solve.specs.declared.link.Ended.TheVariants.{Running}
use Rattle.smt_solve.specs.declared.link.LineEnd.{LineEnd}
use Rattle.smt_solve.specs.declared.link.LinkError.{LinkError}
use Rattle.smt_solve.specs.declared.link.LinkError.TheVariants.{Fault, Memory}
use Rattle.smt_solve.proofs.LinkLemmas.{no_part, same_end}
use Rattle.smt_stream.specs.Heard.{IsAt}
use Rattle.smt_stream.specs.Led.{IsLed}
use Rattle.smt_stream.specs.Links.{IsBroken, SendsMore, mini_allows, mini_end, mini_state}
use Rattle.smt_stream.specs.Runs.{Says}
use Rattle.smt_stream.specs.declared.link.MiniLink.{MiniLink}
use Rattle.smt_stream.specs.declared.stream.Stream.{Stream}
use Rattle.smt_stream.proofs.Saying.{takes_then}

-- ---- what is led

pub led_first : (stream : Stream) (sent out : List ℕ) → sent ≡ [] → out ≡ [] → IsAt stream (Waiting first_course) → IsLed stream false sent out
led_first stream sent out e f h = rw (e, f) (record { last = Waiting first_course; takes = (refl, refl); stands = λ _. h })

pub led_broken : (old new : Stream) (b : Bool) (sent out s t : List ℕ) → s ≡ sent → t ≡ out → IsLed old b sent out → IsLed new true s t
led_broken old new b sent out s t e f l = rw (e, f) (record { last = l.last; takes = l.takes; stands = λ h. absurd (false≢true (sym h)) })

put_is : (put : List ℕ) (h : List ℕ) → Some h ≡ Some put → h ≡ put
put_is put h e = cc

-- more bytes were sent, and what was put for them stands in a sink that was empty
pub led_more : (old new : Stream) (b : Bool) (sent out bytes put s t : List ℕ) → b ≡ false → s ≡ sent ++ bytes → t ≡ out ++ put → IsLed old b sent out
    → ((first : Standing) → IsAt old first → (last : Standing) × Says first bytes (Some []) (Some put) last × IsAt new last) → IsLed new b s t
led_more old new b sent out bytes put s t e f g l h =
    let k = h l.last (l.stands e) in
    let same : put ≡ k.1.0 = put_is k.1.0 put k.1.2 in
    rw (f, g) (record {
      last = k.0;
      takes = takes_then (Waiting first_course) l.last k.0 sent bytes out put l.takes (subst (λ x. TakesAll l.last bytes x k.0) (sym same) k.1.1);
      stands = λ _. k.2;
    })

pub within_more : (at : ℕ) (xs ys zs : List ℕ) → zs ≡ xs ++ ys → at ≤ length xs → at ≤ length zs
within_more at xs ys zs e h = omega (arith, h, ap length e, length-append xs ys)

pub within_same : (at : ℕ) (xs zs : List ℕ) → zs ≡ xs → at ≤ length xs → at ≤ length zs
within_same at xs zs e h = omega (arith, h, ap length e)

-- what a call says of its result where that is Ok
pub says_ok : {T E : Type 0} {P : Type 0} (r : Result T E) → false ≡ is_err r → OnOk r P → P
says_ok (Ok x) e h = h
says_ok (Err x) e h = absurd (false≢true e)

pub said_of : (old new : Stream) (first : Standing) (bytes a b : List ℕ) (x y : Option (List ℕ)) → x ≡ Some a → y ≡ Some b → (last : Standing) × Says first bytes x y last × IsAt new last → (last : Standing) × Says first bytes (Some a) (Some b) last × IsAt new last
said_of old new first bytes a b x y e f h = (h.0, subst (λ z. Says first bytes z (Some b) h.0) e (subst (λ z. Says first bytes x z h.0) f h.1), h.2)

-- ---- the answers are never over inside a line

last_of : (a b : List ℕ) (x y : ℕ) → a ++ x ∷ [] ≡ b ++ y ∷ [] → x ≡ y
last_of [] [] x y h = cc
last_of [] (z ∷ b) x y h = absurd (none b y cc)
  where
    none : (c : List ℕ) (n : ℕ) → [] ≡ c ++ n ∷ [] → ⊥
    none [] n e = cc
    none (m ∷ c) n e = cc
last_of (z ∷ a) [] x y h = absurd (none a x cc)
  where
    none : (c : List ℕ) (n : ℕ) → c ++ n ∷ [] ≡ [] → ⊥
    none [] n e = cc
    none (m ∷ c) n e = cc
last_of (z ∷ a) (w ∷ b) x y h = last_of a b x y cc

whole_not_inside : (bytes : List ℕ) → HasWholeLines bytes → EndsInside bytes → ⊥
whole_not_inside [] h (front, last, e, f) = nothing front last e
  where
    nothing : (c : List ℕ) (n : ℕ) → [] ≡ c ++ n ∷ [] → ⊥
    nothing [] n k = cc
    nothing (m ∷ c) n k = cc
whole_not_inside (b ∷ bytes) (body, e) (front, last, k, f) = f (last_of front body last 10 (sym k ∙ e))

some_is : (x y : List ℕ) → Some x ≡ Some y → x ≡ y
some_is x y h = cc

pub never_over : (s : MiniLink) → IsOver (mini_state s) → ⊥
never_over s over = ∥∥₁_elim s.led ⊥_prop (λ l.
    let none : drop s.at s.answers.items ≡ [] = some_is (drop s.at s.answers.items) [] over.to_come in
    let all : take s.at s.answers.items ≡ s.answers.items = sym (append-nil (take s.at s.answers.items)) ∙ ap (λ t. take s.at s.answers.items ++ t) (sym none) ∙ take-append-drop s.at s.answers.items in
    let is : over.answers ≡ s.answers.items = sym (some_is (take s.at s.answers.items) over.answers over.was_read) ∙ all in
    whole_not_inside s.answers.items (streams_reply.lines s.sent.items s.answers.items l.last l.takes) (subst EndsInside is over.inside))

-- ---- a send

sends_ok : (s t : MiniLink) (bytes : List ℕ) → mini_end s ≡ Running → SendsMore s t bytes → Sends {T = Unit {0}} (mini_state s) (mini_state t) bytes (Ok tt)
sends_ok s t bytes running h = record {
  ok = ap Some h.sent;
  err = tt;
  same_read = ap Some (ap₂ take h.same_at h.answers ∙ take-append-le s.at s.answers.items h.put s.within);
  told = refl;
  closed = λ over. absurd (never_over s over);
  same_killed = ap Some h.same_killed;
  end = subst (λ e. KeepsEnd (Some e) (Some (mini_end t))) (sym running) refl;
  counts = record { later = omega (arith, h.same_faults); no_fault = h.same_faults; cause = λ e. absurd (cc) };
}

sends_none : (s t : MiniLink) (bytes : List ℕ) → mini_end s ≡ Running → IsBroken s t → Sends {T = Unit {0}} (mini_state s) (mini_state t) bytes (Err Memory)
sends_none s t bytes running h = record {
  ok = tt;
  err = subst (λ x. AppendsPart (Some s.sent.items) (Some x) bytes) (sym h.same_sent) (no_part (Some s.sent.items) bytes);
  same_read = ap Some (ap₂ take h.same_at h.same_answers);
  told = refl;
  closed = λ over. absurd (never_over s over);
  same_killed = ap Some h.same_killed;
  end = subst (λ e. KeepsEnd (Some e) (Some (mini_end t))) (sym running) refl;
  counts = record { later = omega (arith, h.same_faults); no_fault = tt; cause = λ e. absurd (cc) };
}

pub sends : (s t : MiniLink) (bytes : List ℕ) (r : Result (Unit {0}) LinkError) → mini_end s ≡ Running → OnOk r (SendsMore s t bytes) → OnErr r (IsBroken s t) → IsOkUnless r Memory → Sends {T = Unit {0}} (mini_state s) (mini_state t) bytes r
sends s t bytes (Ok u) running done broken refusal = sends_ok s t bytes running done
sends s t bytes (Err Memory) running done broken refusal = sends_none s t bytes running broken
sends s t bytes (Err Fault) running done broken refusal = absurd (other refusal)
  where
    other : Fault ≡ Memory → ⊥
    other h = cc

-- ---- a read

taken_on : (at n : ℕ) (xs : List ℕ) → take (at + n) xs ≡ take at xs ++ take n (drop at xs)
taken_on at n xs =
    let e : take at (take (at + n) xs) ++ drop at (take (at + n) xs) ≡ take (at + n) xs = take-append-drop at (take (at + n) xs) in
    let l : at ≤ at + n = omega arith in
    sym (rw (take-take at (at + n) xs l, drop-take at n xs) at e)

came_on : (at n : ℕ) (xs : List ℕ) → drop at xs ≡ take n (drop at xs) ++ drop (at + n) xs
came_on at n xs = rw (← drop-drop) (sym (take-append-drop n (drop at xs)))

-- the next line is given, which is the next of what was put
pub reads : (s : MiniLink) (left before after : List ℕ) (n limit : ℕ) (how : LineEnd)
    → left ≡ drop s.at s.answers.items → EndsAs how (take n left) limit (Some (drop n left)) → after ≡ before ++ take n left
    → ReadsLine (mini_allows s) (mini_state s)
    (record { sent = Some s.sent.items; was_read = Some (take (s.at + n) s.answers.items); to_come = Some (drop (s.at + n) s.answers.items); ended = Some (mini_end s); killed = Some s.killed; faults = s.faults })
    before after limit (Ok how)
reads s left before after n limit how g h k =
    let P : List ℕ → Type 0 = λ t. EndsAs how (take n t) limit (Some (drop n t)) in
    let out = s.answers.items in
    record {
      piece = take n (drop s.at out);
      appended = rw (← g) k;
      came = ap Some (came_on s.at n out);
      was_read = ap Some (taken_on s.at n out);
      ending = rw (← drop-drop n s.at out) (subst P g h);
      allowed = λ _. ∥∥₁_map s.led (λ l. record {
        out = out;
        rest = drop (s.at + n) out;
        put = streams_reply.may_be s.sent.items out l.last l.takes;
        reads = sym (take-append-drop s.at out) ∙ ap (λ t. take s.at out ++ t) (came_on s.at n out);
      });
      same_sent = refl;
      same_killed = refl;
      end = same_end (Some (mini_end s));
      counts = record { later = omega arith; no_fault = refl; cause = λ e. absurd (cc) };
    }
