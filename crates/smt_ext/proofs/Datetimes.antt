-- A text is the text of one datetime at most, and then gets no refusal.
use Rattle.std.proofs.Common.{◌≡◌, ℕ, true, false, Some, None, List, sym, ap, ◌∙◌, subst, ℤ, pos, ◌<◌, w8, w16, w32, w64, FitsSigned, arith}
use Rattle.std.specs.Prelude.{◌*ℤ◌, ◌+ℤ◌, ◌≤ℤ◌, neg_ℤ}
use Rattle.std.proofs.lemmas.Bool.{false≢true}
use Rattle.std.proofs.lemmas.Int.{to_z_pos, ints}
use Rattle.std.proofs.lemmas.Option.{none-some}
use Rattle.std.specs.Int.{cast_signed}
use Rattle.jiff.specs.Types.{Date}
use Rattle.jiff.specs.Words.{IsDate, IsYmd, epoch_day}
use Rattle.smt_ext.specs.declared.datetime.error.DatetimeError.{DatetimeError}
use Rattle.smt_ext.specs.declared.datetime.error.DatetimeError.TheVariants.{DatetimeParseError, ChronoParseError, IntegerOverflowDuringParsing, ParseIntError, InvalidUnit, Memory}
use Rattle.smt_ext.specs.declared.datetime.stamp.Stamp.{Stamp}
use Rattle.smt_ext.specs.DatetimeReading.{stamp_at}
use Rattle.smt_ext.specs.DatetimeRefusal.{HoldsText, IsMisshapen, IsUnreal, IsDatetimeRefusal}
use Rattle.smt_ext.specs.DatetimeText.{is_barred, IsReal, IsStampValue, IsDatetimeText, clock_value}
use Rattle.smt_ext.proofs.Stamps.{stamp_takes, stamp_again, one_stamp}

one_day : (y m d : ℤ) (a b : Date) → IsYmd y m d a → IsYmd y m d b → epoch_day a ≡ epoch_day b
one_day y m d a b p q =
    let year : a.year ≡ b.year = p.0 ∙ sym q.0 in
    let e = p.1 ∙ sym q.1 in
    let f = p.2 ∙ sym q.2 in
    let month : a.month ≡ b.month = cc in
    let day : a.day ≡ b.day = cc in
    cc

one_moment : (s : Stamp) (v w : ℤ) → IsStampValue s v → IsStampValue s w → v ≡ w
one_moment s v w p q =
    let e : p.day ≡ q.day = p.is_day.number_is ∙ one_day (pos s.day.year) (pos s.day.month) (pos s.day.day) p.is_day.date q.is_day.date p.is_day.same_day q.is_day.same_day ∙ sym q.is_day.number_is in
    p.number ∙ ap (λ (n : ℤ). n *ℤ pos 86400000 +ℤ clock_value s.clock) e ∙ sym q.number

pub one_datetime : (text : List ℕ) (v w : ℤ) → IsDatetimeText text v → IsDatetimeText text w → v ≡ w
one_datetime text v w d e =
    let same = one_stamp text d.stamp e.stamp d.written e.written in
    let P : Stamp → Type 0 = λ s. IsStampValue s v in
    one_moment e.stamp v w (subst P same d.is_value) e.is_value

pub misshapen_is_none : (text : List ℕ) (v : ℤ) → IsMisshapen text → IsDatetimeText text v → ⊥
misshapen_is_none text v h d = h d.stamp d.written d.allowed

pub unreal_is_none : (text : List ℕ) (v : ℤ) → IsUnreal text → IsDatetimeText text v → ⊥
unreal_is_none text v h d = h.unreal (subst IsReal (one_stamp text d.stamp h.stamp d.written h.written) d.real)

pub one_refusal : (text : List ℕ) → IsMisshapen text → IsUnreal text → ⊥
one_refusal text m u = m u.stamp u.written u.allowed

pub misshapen_by_none : (text : List ℕ) → stamp_at text ≡ None → IsMisshapen text
misshapen_by_none text e s h b = none-some s (sym e ∙ stamp_again text s h)

pub misshapen_by_bar : (text : List ℕ) (s : Stamp) → stamp_at text ≡ Some s → is_barred s.clock ≡ true → IsMisshapen text
misshapen_by_bar text s e h t g b =
    false≢true (sym b ∙ ap (λ (x : Stamp). is_barred x.clock) (one_stamp text t s g (stamp_takes text s e)) ∙ h)

pub unreal_by : (text : List ℕ) (s : Stamp) → stamp_at text ≡ Some s → is_barred s.clock ≡ false → (IsReal s → ⊥) → IsUnreal text
unreal_by text s e b r = record { stamp = s; written = stamp_takes text s e; allowed = b; unreal = r }

pub refusal_of : (text : List ℕ) (e : DatetimeError) → HoldsText text e → IsMisshapen text → IsDatetimeRefusal text e
refusal_of text (DatetimeParseError given) h m = (h, m)
refusal_of text ChronoParseError h m = absurd h
refusal_of text IntegerOverflowDuringParsing h m = absurd h
refusal_of text ParseIntError h m = absurd h
refusal_of text (InvalidUnit unit) h m = absurd h
refusal_of text Memory h m = m

-- the numbers that jiff is handed are those that are written
by_written : (P : ℤ → ℤ → ℤ → Type 0) (y m d : ℕ) → y < 10000 → m < 100 → d < 100 → P (cast_signed w16 y) (cast_signed w8 m) (cast_signed w8 d) → P (pos y) (pos m) (pos d)
by_written P y m d hy hm hd h =
    let A : ℤ → Type 0 = λ z. P z (cast_signed w8 m) (cast_signed w8 d) in
    let B : ℤ → Type 0 = λ z. P (pos y) z (cast_signed w8 d) in
    let C : ℤ → Type 0 = λ z. P (pos y) (pos m) z in
    subst C (to_z_pos w8 d (omega arith)) (subst B (to_z_pos w8 m (omega arith)) (subst A (to_z_pos w16 y (omega arith)) h))

pub real_day : (y m d : ℕ) → y < 10000 → m < 100 → d < 100 → IsDate (cast_signed w16 y) (cast_signed w8 m) (cast_signed w8 d) → IsDate (pos y) (pos m) (pos d)
real_day y m d hy hm hd h = by_written IsDate y m d hy hm hd h

pub same_day : (y m d : ℕ) (date : Date) → y < 10000 → m < 100 → d < 100 → IsYmd (cast_signed w16 y) (cast_signed w8 m) (cast_signed w8 d) date → IsYmd (pos y) (pos m) (pos d) date
same_day y m d date hy hm hd h = by_written (λ a b c. IsYmd a b c date) y m d hy hm hd h

-- ---- no sum on the way leaves 64 bits

pub product_fits : (d : ℤ) → FitsSigned w32 d → FitsSigned w64 (d *ℤ pos 86400000)
product_fits d h = omega (arith, ints)

pub total_fits : (d m : ℤ) → FitsSigned w32 d → neg_ℤ (pos 1000000000) ≤ℤ m → m ≤ℤ pos 1000000000 → FitsSigned w64 (d *ℤ pos 86400000 +ℤ m)
total_fits d m h l u = omega (arith, ints)
