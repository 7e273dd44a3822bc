-- A stream that is led over the bytes of a source: how many came, and what is known behind each piece.
use Rattle.std.proofs.Common.{◌≡◌, ◌<◌, ◌≤◌, ◌+◌, ◌-◌, ◌⊎◌, ℕ, suc, Bool, true, false, List, [], ◌∷◌, ◌++◌, Option, Some, None, refl, sym, ap, ◌∙◌, subst, inl, inr, arith, length, append_assoc}
use Rattle.std.specs.Prelude.{IfErr, IfOk, IfSome, Result, Ok, Err}
use Rattle.std.specs.Io.KnownBytes.{append_known, prepend_known}
use Rattle.std.proofs.lemmas.Bool.{leb-false}
use Rattle.law_verdicts.specs.Machine.{Machine, Reply, Nothing, Line, Model, Ended, turn}
use Rattle.law_verdicts.specs.Scan.{ends_command}
use Rattle.smt_script.proofs.PutsLemmas.{appends_then}
use Rattle.smt_stream.specs.declared.stream.Stream.{Stream}
use Rattle.smt_stream.specs.declared.stream.Stage.{Stage}
use Rattle.smt_stream.specs.declared.stream.Stage.TheVariants as stage
use Rattle.smt_stream.specs.declared.refusal.Refusal.{Refusal}
use Rattle.smt_stream.specs.declared.refusal.Refusal.TheVariants.{Usage, Source, Sink, Memory}
use Rattle.law_verdicts.specs.Streams.{Stop, Course, Exited, IsPutAt, Standing, Stopped, Takes, TakesAll, Waiting, asked, behind_turn, breach, first_course, most_bytes, put_at_end, status_at, with_byte}
use Rattle.smt_stream.specs.Heard.{IsAt, IsLed}
use Rattle.smt_stream.specs.Runs.{Converses, HasCause, IsWholeAt, Says}
use Rattle.smt_stream.proofs.Saying.{says_nothing, says_then}
use Rattle.smt_stream.proofs.Talking.{no_breach, not_exited, not_stopped}

-- ---- how many bytes came

-- one more than how many bytes came where the stream waits, and 0 elsewhere
abbrev total_at : Standing → ℕ
total_at (Waiting c) = suc c.total
total_at Exited = 0
total_at Stopped = 0

turn_counted : (c d : Course) (t : Option (Reply × Machine)) → Waiting d ≡ behind_turn c.scan c.total t → d.total ≡ c.total
turn_counted c d None h = absurd (omega (arith, ap total_at h))
turn_counted c d (Some (Ended, m)) h = absurd (omega (arith, ap total_at h))
turn_counted c d (Some (Nothing, m)) h = omega (arith, ap total_at h)
turn_counted c d (Some (Line x, m)) h = omega (arith, ap total_at h)
turn_counted c d (Some (Model x, m)) h = omega (arith, ap total_at h)

put_counted : (o : Option Stop) (ends : Bool) (c d : Course) (out : List ℕ) → IsPutAt o ends c out (Waiting d) → (o ≡ None) × (d.total ≡ c.total)
put_counted (Some stop) ends c d out h = absurd (omega (arith, ap total_at h.1))
put_counted None true c d out (inl h) = absurd (omega (arith, ap total_at h.2))
put_counted None true c d out (inr h) = (refl, turn_counted c d (turn (asked c.odd c.machine) h.0) h.3)
put_counted None false c d out h = (refl, omega (arith, ap total_at h.1))

takes_counted : (c d : Course) (b : ℕ) (out : List ℕ) → Takes (Waiting c) b out (Waiting d) → (d.total ≡ suc c.total) × (c.total < most_bytes)
takes_counted c d b out h =
    let p = put_counted (breach c b) (ends_command c.scan b) (with_byte c b) d out h in
    (p.1, leb-false most_bytes c.total (no_breach c b p.0).0)

exited_stays : (bs out : List ℕ) (d : Course) → TakesAll Exited bs out (Waiting d) → ⊥
exited_stays [] out d h = absurd (omega (arith, ap total_at h.1))
exited_stays (b ∷ bs) out d h = exited_stays bs h.1 d (subst (λ x. TakesAll x bs h.1 (Waiting d)) h.3.1 h.4)

stopped_stays : (bs out : List ℕ) (d : Course) → TakesAll Stopped bs out (Waiting d) → ⊥
stopped_stays [] out d h = absurd (omega (arith, ap total_at h.1))
stopped_stays (b ∷ bs) out d h = stopped_stays bs h.1 d (subst (λ x. TakesAll x bs h.1 (Waiting d)) h.3.1 h.4)

pub all_counted : (c d : Course) (bs out : List ℕ) → TakesAll (Waiting c) bs out (Waiting d) → (d.total ≡ c.total + length bs) × (c.total ≤ most_bytes → d.total ≤ most_bytes)
all_counted c d [] out h =
    let e : d.total ≡ c.total = omega (arith, ap total_at h.1) in
    (omega (arith, e), λ few. omega (arith, e, few))
all_counted c d (b ∷ bs) out (now, later, Exited, k, t, e) = absurd (exited_stays bs later d t)
all_counted c d (b ∷ bs) out (now, later, Stopped, k, t, e) = absurd (stopped_stays bs later d t)
all_counted c d (b ∷ bs) out (now, later, Waiting x, k, t, e) =
    let p = takes_counted c x b now k in
    let q = all_counted x d bs later t in
    (omega (arith, p.0, q.0), λ few. q.1 (omega (arith, p.0, p.1)))

-- ---- behind pieces

-- The stream waits behind these pieces.
pub record Leading (left left_behind before after : Option (List ℕ)) (d : Stream) : Type 0 where
  pub given : List ℕ
  pub course : Course
  pub from_left : left ≡ prepend_known given left_behind
  pub says : Says (Waiting first_course) given before after (Waiting course)
  pub stands : IsAt d (Waiting course)

prepends_nothing : (a : Option (List ℕ)) → a ≡ prepend_known [] a
prepends_nothing None = refl
prepends_nothing (Some x) = refl

prepends_then : (a b c : Option (List ℕ)) (xs ys : List ℕ) → a ≡ prepend_known xs b → b ≡ prepend_known ys c → a ≡ prepend_known (xs ++ ys) c
prepends_then a b None xs ys p q = rw (p, q)
prepends_then a b (Some z) xs ys p q = rw (p, q, append_assoc)

pub starts : (left held : Option (List ℕ)) (d : Stream) → IsAt d (Waiting first_course) → Leading left left held held d
starts left held d h = record { given = []; course = first_course; from_left = prepends_nothing left; says = says_nothing (Waiting first_course) held; stands = h }

-- a read that gave nothing is the end
pub ends : (left now behind before held : Option (List ℕ)) (d : Stream) → Leading left now before held d → now ≡ prepend_known [] behind → IfSome behind (λ bytes. bytes ≡ []) → IsLed left behind before held d
ends left now behind before held d l e w =
    record { given = l.given; last = Waiting l.course; from_left = l.from_left ∙ ap (prepend_known l.given) (e ∙ sym (prepends_nothing behind)); says = l.says; whole = w; stands = l.stands }

-- one more piece
abbrev pub Piece : (old new : Stream) (bytes : List ℕ) (held after : Option (List ℕ)) → Type 0
Piece old new bytes held after = (first : Standing) → IsAt old first → (last : Standing) × Says first bytes held after last × IsAt new last

over_whole : (d : Stream) (last : Standing) (left : Option (List ℕ)) → (d.stage ≡ stage.Waiting → ⊥) → IsAt d last → IsWholeAt last left
over_whole d (Waiting c) left n h = absurd (n h.0)
over_whole d Exited left n h = tt
over_whole d Stopped left n h = tt

pub is_over : (left now behind before held after : Option (List ℕ)) (old new : Stream) (bytes : List ℕ) → Leading left now before held old → now ≡ prepend_known bytes behind → Piece old new bytes held after → (new.stage ≡ stage.Waiting → ⊥)
    → IsLed left behind before after new
is_over left now behind before held after old new bytes l e p n =
    let s = p (Waiting l.course) l.stands in
    record {
      given = l.given ++ bytes;
      last = s.0;
      from_left = prepends_then left now behind l.given bytes l.from_left e;
      says = says_then (Waiting first_course) (Waiting l.course) s.0 l.given bytes before held after l.says s.1;
      whole = over_whole new s.0 behind n s.2;
      stands = s.2;
    }

leads_on : (left now behind before held after : Option (List ℕ)) (old new : Stream) (bytes : List ℕ) → Leading left now before held old → now ≡ prepend_known bytes behind → new.stage ≡ stage.Waiting
    → (l : Leading left now before held old) → (last : Standing) → Says (Waiting l.course) bytes held after last → IsAt new last → Leading left behind before after new
leads_on left now behind before held after old new bytes k e w l (Waiting c) s h = record {
  given = l.given ++ bytes;
  course = c;
  from_left = prepends_then left now behind l.given bytes l.from_left e;
  says = says_then (Waiting first_course) (Waiting l.course) (Waiting c) l.given bytes before held after l.says s;
  stands = h;
}
leads_on left now behind before held after old new bytes k e w l Exited s h = absurd (not_exited new.stage w h)
leads_on left now behind before held after old new bytes k e w l Stopped s h = absurd (not_stopped new.stage w h)

pub goes_on : (left now behind before held after : Option (List ℕ)) (old new : Stream) (bytes : List ℕ) → Leading left now before held old → now ≡ prepend_known bytes behind → Piece old new bytes held after → new.stage ≡ stage.Waiting
    → Leading left behind before after new
goes_on left now behind before held after old new bytes l e p w = let s = p (Waiting l.course) l.stands in leads_on left now behind before held after old new bytes l e w l s.0 s.1 s.2

-- the number of bytes grows with each piece, and stays within the most that are taken
grown : (old new : Stream) (c : Course) (bytes : List ℕ) (held after : Option (List ℕ)) → c.total ≤ most_bytes → IsAt old (Waiting c) → new.stage ≡ stage.Waiting → (last : Standing) → Says (Waiting c) bytes held after last → IsAt new last
    → (new.total ≡ old.total + length bytes) × (new.total ≤ most_bytes)
grown old new c bytes held after few h w (Waiting d) s k =
    let n = all_counted c d bytes s.0 s.1 in
    let a : c.total ≡ old.total = ap (λ x. x.total) h.2 in
    let b : d.total ≡ new.total = ap (λ x. x.total) k.2 in
    (omega (arith, n.0, a, b), omega (arith, n.1 few, b))
grown old new c bytes held after few h w Exited s k = absurd (not_exited new.stage w k)
grown old new c bytes held after few h w Stopped s k = absurd (not_stopped new.stage w k)

pub grows : (left now before held after : Option (List ℕ)) (old new : Stream) (bytes : List ℕ) → Leading left now before held old → Piece old new bytes held after → new.stage ≡ stage.Waiting → (new.total ≡ old.total + length bytes) × (new.total ≤ most_bytes)
grows left now before held after old new bytes l p w =
    let s = p (Waiting l.course) l.stands in
    let few = (all_counted first_course l.course l.given l.says.0 l.says.1).1 (omega arith) in
    grown old new l.course bytes held after few l.stands w s.0 s.1 s.2

-- ---- how a run ends

as_cause : (source before after : Type 0) (e : Refusal) → (before → after) → HasCause ⊥ ⊥ before e → HasCause ⊥ source after e
as_cause source before after Usage f k = k
as_cause source before after Source f k = absurd k
as_cause source before after Sink f k = f k
as_cause source before after Memory f k = tt

-- a sink that failed behind a put that went well failed in the run
pub caused : (source before after : Type 0) (r : Result (Unit {0}) Refusal) (e : Refusal) → r ≡ Err e → (before → after) → IfErr r (HasCause ⊥ ⊥ before) → HasCause ⊥ source after e
caused source before after r e h f k = as_cause source before after e f (subst (λ x. IfErr x (HasCause ⊥ ⊥ before)) h k)

pub conversed : (left behind before middle after : Option (List ℕ)) (d : Stream) (r : Result ℕ Refusal) → IsLed left behind before middle d
    → ((last : Standing) → IsAt d last → IfOk r (λ status. (status ≡ status_at last) × (after ≡ append_known middle (put_at_end last)))) → IfOk r (Converses left behind before after)
conversed left behind before middle after d (Ok status) l f =
    let k = f l.last l.stands in
    record {
      given = l.given;
      last = l.last;
      put = l.says.0;
      from_left = l.from_left;
      takes = l.says.1;
      whole = l.whole;
      got = appends_then before middle after l.says.0 (put_at_end l.last) l.says.2 k.1;
      ends = k.0;
    }
conversed left behind before middle after d (Err e) l f = tt

pub over : (s : Stage) → (s ≡ stage.Exited) ⊎ (s ≡ stage.Stopped) → s ≡ stage.Waiting → ⊥
over s (inl e) w = not_exited s w e
over s (inr e) w = not_stopped s w e

-- so fewer bytes are left to come
pub smaller : (old new : Stream) (n : ℕ) → new.total ≡ old.total + n → new.total ≤ most_bytes → 0 < n → (most_bytes + 1) - new.total < (most_bytes + 1) - old.total
smaller old new n e few some = omega (arith, e, few, some)
