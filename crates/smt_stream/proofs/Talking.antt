-- What a stream over bytes puts, and where it stands then.
use Rattle.std.proofs.Common.{◌≡◌, ℕ, Bool, true, false, cond, List, [], Some, None, Result, Ok, Err, refl, sym, ap, ◌∙◌, subst, inr}
use Rattle.std.specs.Prelude.{IfOk}
use Rattle.std.proofs.lemmas.Bool.{false≢true}
use Rattle.std.proofs.lemmas.Option.{none-some}
use Rattle.law_texts.specs.Reading.{Expression}
use Rattle.law_texts.specs.Tokens.{IsReadWithin}
use Rattle.law_verdicts.specs.Machine.{Machine, turn}
use Rattle.law_verdicts.specs.Scan.{ends_command}
use Rattle.std.specs.Prelude.{nat_le}
use Rattle.smt_stream.specs.declared.stream.Stream.{Stream}
use Rattle.smt_stream.specs.declared.stream.Heard.{Heard}
use Rattle.smt_stream.specs.declared.stream.Stage.{Stage}
use Rattle.smt_stream.specs.declared.stream.Stage.TheVariants as stage
use Rattle.smt_mini.specs.declared.error.MiniError.{MiniError}
use Rattle.smt_stream.specs.declared.stop.Stop.{Stop}
use Rattle.law_verdicts.specs.Streams.{NotScript, TooDeep, TooLong, Course, IsAnswered, IsPutAt, Standing, Waiting, Exited, Stopped, Takes, asked, behind_turn, breach, most_bytes, stop_line, with_byte}
use Rattle.smt_stream.specs.Heard.{IsAt, IsFed, course_of, heard_text}
use Rattle.smt_stream.specs.Scanning.{plain_scan, plain_stop}
use Rattle.law_verdicts.specs.Streams.{is_too_deep, most_open}
use Rattle.smt_mini.specs.Stands.{Stands}

-- ---- no breach

unbroken : (a b d e : Bool) → cond a (Some TooLong) (cond b (Some NotScript) (cond d (Some TooDeep) (cond e (Some TooLong) None))) ≡ None → (a ≡ false) × (d ≡ false)
unbroken true b d e h = absurd (none-some TooLong (sym h))
unbroken false true d e h = absurd (none-some NotScript (sym h))
unbroken false false true e h = absurd (none-some TooDeep (sym h))
unbroken false false false e h = (refl, refl)

pub no_breach : (c : Course) (b : ℕ) → breach c b ≡ None → (nat_le most_bytes c.total ≡ false) × (is_too_deep c.scan b ≡ false)
no_breach c b h = unbroken _ _ _ _ h

-- ---- stages

is_waiting : Stage → Bool
is_waiting stage.Waiting = true
is_waiting s = false

pub not_exited : (s : Stage) → s ≡ stage.Waiting → s ≡ stage.Exited → ⊥
unfolding is_waiting
not_exited s a b = false≢true (sym (ap is_waiting b) ∙ ap is_waiting a)

pub not_stopped : (s : Stage) → s ≡ stage.Waiting → s ≡ stage.Stopped → ⊥
unfolding is_waiting
not_stopped s a b = false≢true (sym (ap is_waiting b) ∙ ap is_waiting a)

-- ---- a byte

pub stopped : (old new : Stream) (b : ℕ) (stop : Stop) → old.stage ≡ stage.Waiting → new.stage ≡ stage.Stopped → ((m : Machine) → breach (course_of old m) b ≡ Some (plain_stop stop)) → (first : Standing) → IsAt old first
    → (last : Standing) × Takes first b (stop_line (plain_stop stop)) last × IsAt new last
stopped old new b stop w s k (Waiting c) h =
    (Stopped, subst (λ o. IsPutAt o (ends_command c.scan b) (with_byte c b) (stop_line (plain_stop stop)) Stopped) (sym (ap (λ x. breach x b) h.2 ∙ k c.machine)) (refl, refl), s)
stopped old new b stop w s k Exited h = absurd (not_exited old.stage w h)
stopped old new b stop w s k Stopped h = absurd (not_stopped old.stage w h)

pub kept_at : (old kept : Stream) (c : Course) (b : ℕ) → IsAt old (Waiting c) → kept.mini ≡ old.mini → kept.stage ≡ old.stage → ((m : Machine) → course_of kept m ≡ with_byte (course_of old m) b) → IsAt kept (Waiting (with_byte c b))
kept_at old kept c b h p s k = (s ∙ h.0, subst (λ x. Stands x c.machine) (sym p) h.1, ap (λ x. with_byte x b) h.2 ∙ sym (k c.machine))

-- a byte at which nothing is breached puts what its ends puts
put_at_end : (old : Stream) (c : Course) (b : ℕ) (ends : Bool) (out : List ℕ) (last : Standing) → IsAt old (Waiting c) → ((m : Machine) → breach (course_of old m) b ≡ None) → ends_command (plain_scan old.scanner) b ≡ ends
    → IsPutAt None ends (with_byte c b) out last → Takes (Waiting c) b out last
put_at_end old c b ends out last h k e p =
    subst (λ o. IsPutAt o (ends_command c.scan b) (with_byte c b) out last) (sym (ap (λ x. breach x b) h.2 ∙ k c.machine))
    (subst (λ x. IsPutAt None x (with_byte c b) out last) (sym (ap (λ x. ends_command x.scan b) h.2 ∙ e)) p)

then_taken : (old new : Stream) (c : Course) (b : ℕ) (r : Result Heard MiniError) → IsAt old (Waiting c) → ((m : Machine) → breach (course_of old m) b ≡ None) → ends_command (plain_scan old.scanner) b ≡ true
    → IfOk r (λ heard. (last : Standing) × IsAnswered (with_byte c b) (heard_text heard) last × IsAt new last) → IfOk r (λ heard. (last : Standing) × Takes (Waiting c) b (heard_text heard) last × IsAt new last)
then_taken old new c b (Ok heard) h k e a = (a.0, put_at_end old c b true (heard_text heard) a.0 h k e a.1, a.2)
then_taken old new c b (Err x) h k e a = tt

pub answered_at_end : (old kept new : Stream) (b : ℕ) (r : Result Heard MiniError) → old.stage ≡ stage.Waiting → ((m : Machine) → breach (course_of old m) b ≡ None) → ends_command (plain_scan old.scanner) b ≡ true
    → kept.mini ≡ old.mini → kept.stage ≡ old.stage → ((m : Machine) → course_of kept m ≡ with_byte (course_of old m) b)
    → ((c : Course) → IsAt kept (Waiting c) → IfOk r (λ heard. (last : Standing) × IsAnswered c (heard_text heard) last × IsAt new last))
    → (first : Standing) → IsAt old first → IfOk r (λ heard. (last : Standing) × Takes first b (heard_text heard) last × IsAt new last)
answered_at_end old kept new b r w k e p s g a (Waiting c) h = then_taken old new c b r h k e (a (with_byte c b) (kept_at old kept c b h p s g))
answered_at_end old kept new b r w k e p s g a Exited h = absurd (not_exited old.stage w h)
answered_at_end old kept new b r w k e p s g a Stopped h = absurd (not_stopped old.stage w h)

pub gone_on : (old kept : Stream) (b : ℕ) → old.stage ≡ stage.Waiting → ((m : Machine) → breach (course_of old m) b ≡ None) → ends_command (plain_scan old.scanner) b ≡ false
    → kept.mini ≡ old.mini → kept.stage ≡ old.stage → ((m : Machine) → course_of kept m ≡ with_byte (course_of old m) b)
    → (first : Standing) → IsAt old first → (last : Standing) × Takes first b [] last × IsAt kept last
gone_on old kept b w k e p s g (Waiting c) h = (Waiting (with_byte c b), put_at_end old c b false [] (Waiting (with_byte c b)) h k e (refl, refl), kept_at old kept c b h p s g)
gone_on old kept b w k e p s g Exited h = absurd (not_exited old.stage w h)
gone_on old kept b w k e p s g Stopped h = absurd (not_stopped old.stage w h)

-- ---- a command

pub answered : (c : Course) (e : Expression) (r : Result Heard MiniError) (d : Stream) → IsReadWithin c.held most_open e → IfOk r (λ heard. IsFed c (asked c.odd c.machine) e heard d)
    → IfOk r (λ heard. (last : Standing) × IsAnswered c (heard_text heard) last × IsAt d last)
answered c e (Ok heard) d w f = (behind_turn c.scan c.total (turn (asked c.odd c.machine) e), inr (e, w, f.0, refl), f.1)
answered c e (Err x) d w f = tt
