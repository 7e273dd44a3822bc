-- What is read of a datetime's text is what it is written with, and nothing else is.
use Rattle.std.proofs.Common.{subst, inl, inr, ◌≡◌, ℕ, ◌^◌, ◌<◌, Bool, true, false, cond, ◌&&◌, eqb, Option, Some, None, List, [], ◌∷◌, ◌++◌, refl, sym, ap, ap₂, ◌∙◌, take, drop, length, arith}
use Rattle.std.specs.Prelude.{if◌then◌else◌}
use Rattle.law_texts.specs.Front.{begins_without, byte_at}
use Rattle.std.specs.List.{list_all}
use Rattle.std.proofs.lemmas.List.{take-append-drop}
use Rattle.std.proofs.Math.Seq.{take-append_seam, drop-append_seam}
use Rattle.std.proofs.lemmas.Option.{same_Some}
use Rattle.std.proofs.lemmas.Bool.{and_parts, cases_Bool, eqb-true, eq-eqb, not-true}
use Rattle.smt_ext.specs.declared.datetime.stamp.Day.{Day}
use Rattle.smt_ext.specs.declared.datetime.stamp.Clock.{Clock}
use Rattle.smt_ext.specs.declared.datetime.stamp.Stamp.{Stamp}
use Rattle.smt_ext.specs.declared.datetime.stamp.Zone.{Zone}
use Rattle.smt_ext.specs.declared.datetime.stamp.Zone.TheVariants.{Utc, Offset}
use Rattle.smt_ext.specs.DatetimeReading.{is_empty, field_at, day_at, offset_at, zone_at, fraction_behind, fraction_at, clock_at, stamp_at}
use Rattle.law_texts.specs.Options.{◌>>=◌}
use Rattle.smt_ext.specs.DatetimeText.{day_text, zone_text, fraction_text, clock_text, DayFits, ZoneFits, FractionFits, ClockFits, HasStamp}
use Rattle.law_texts.specs.Characters.{is_digit}
use Rattle.law_texts.specs.Digits.{decimal_number, padded}
use Rattle.law_texts.proofs.Fields.{length-padded, padded_digits, number-padded, number_below, padded-number}

-- ---- tools

bind_some : {A B : Type 0} (o : Option A) (f : A → Option B) (y : B) → (o >>= f) ≡ Some y → (x : A) × (o ≡ Some x) × (f x ≡ Some y)
bind_some (Some x) f y e = (x, refl, e)
bind_some None f y e = absurd (let h = e in cc)

chosen_some : {A : Type 0} (b : Bool) (x y : A) → cond b (Some x) None ≡ Some y → (b ≡ true) × (x ≡ y)
chosen_some true x y e = (refl, cc)
chosen_some false x y e = absurd (let h = e in cc)

empty_is : (text : List ℕ) → is_empty text ≡ true → text ≡ []
empty_is [] h = refl
empty_is (b ∷ bs) h = absurd (let e = eqb-true (length (b ∷ bs)) 0 h in omega arith)

not_empty : (b : ℕ) (bs : List ℕ) → is_empty (b ∷ bs) ≡ false
not_empty b bs = elim (cases_Bool (is_empty (b ∷ bs))) [
  | inl h ↦ absurd (let e = eqb-true (length (b ∷ bs)) 0 h in omega arith)
  | inr h ↦ h
]

-- ---- a field and a byte

field_takes : (k : ℕ) (text : List ℕ) (x : ℕ × List ℕ) → field_at k text ≡ Some x → (text ≡ padded k x.0 ++ x.1) × (x.0 < 10 ^ k)
unfolding field_at
field_takes k text x e =
    let front = take k text in
    let c = chosen_some (eqb (length front) k && list_all is_digit front) (decimal_number front, drop k text) x e in
    let a = and_parts (eqb (length front) k) (list_all is_digit front) c.0 in
    let l = eqb-true (length front) k a.0 in
    let back = ap (λ (n : ℕ). padded n (decimal_number front)) (sym l) ∙ padded-number front a.1 in
    let P : ℕ × List ℕ → Type 0 = λ p. (text ≡ padded k p.0 ++ p.1) × (p.0 < 10 ^ k) in
    let Q : ℕ → Type 0 = λ n. decimal_number front < 10 ^ n in
    subst P c.1 (sym (take-append-drop k text) ∙ ap (λ (v : List ℕ). v ++ drop k text) (sym back), subst Q l (number_below front a.1))

field_again : (k n : ℕ) (rest : List ℕ) → n < 10 ^ k → field_at k (padded k n ++ rest) ≡ Some (n, rest)
unfolding field_at
field_again k n rest h =
    let l = length-padded k n in
    let front = ap (λ (m : ℕ). take m (padded k n ++ rest)) (sym l) ∙ take-append_seam (padded k n) rest in
    let back = ap (λ (m : ℕ). drop m (padded k n ++ rest)) (sym l) ∙ drop-append_seam (padded k n) rest in
    rw (front, back, eq-eqb (length (padded k n)) k l, padded_digits k n h, number-padded k n h) refl

byte_takes : (c : ℕ) (text rest : List ℕ) → byte_at c text ≡ Some rest → text ≡ c ∷ rest
unfolding byte_at
byte_takes c [] rest e = absurd (let h = e in cc)
byte_takes c (b ∷ bs) rest e =
    let h = chosen_some (eqb b c) bs rest e in
    let q = eqb-true b c h.0 in
    let r = h.1 in
    cc

byte_again : (c : ℕ) (rest : List ℕ) → byte_at c (c ∷ rest) ≡ Some rest
unfolding byte_at
byte_again c rest = rw (eq-eqb c c refl) refl

-- ---- the day

day_takes : (text : List ℕ) (x : Day × List ℕ) → day_at text ≡ Some x → (text ≡ day_text x.0 ++ x.1) × DayFits x.0
unfolding day_at
day_takes text x e =
    let year = bind_some (field_at 4 text) _ x e in
    let first = bind_some (byte_at 45 year.0.1) _ x year.2 in
    let month = bind_some (field_at 2 first.0) _ x first.2 in
    let second = bind_some (byte_at 45 month.0.1) _ x month.2 in
    let day = bind_some (field_at 2 second.0) _ x second.2 in
    let y = field_takes 4 text year.0 year.1 in
    let m = field_takes 2 first.0 month.0 month.1 in
    let d = field_takes 2 second.0 day.0 day.1 in
    let b = byte_takes 45 year.0.1 first.0 first.1 in
    let c = byte_takes 45 month.0.1 second.0 second.1 in
    let P : Day × List ℕ → Type 0 = λ p. (text ≡ day_text p.0 ++ p.1) × DayFits p.0 in
    subst P (same_Some _ _ day.2) (
      y.0 ∙ ap (λ (v : List ℕ). padded 4 year.0.0 ++ v) (b ∙ ap (λ (v : List ℕ). 45 ∷ v) (m.0 ∙ ap (λ (v : List ℕ). padded 2 month.0.0 ++ v) (c ∙ ap (λ (v : List ℕ). 45 ∷ v) d.0))),
      (y.1, m.1, d.1),
    )

day_again : (d : Day) (rest : List ℕ) → DayFits d → day_at (day_text d ++ rest) ≡ Some (d, rest)
unfolding day_at
day_again d rest h =
    rw (field_again 4 d.year (45 ∷ (padded 2 d.month ++ (45 ∷ (padded 2 d.day ++ rest)))) h.0) (
    rw (byte_again 45 (padded 2 d.month ++ (45 ∷ (padded 2 d.day ++ rest)))) (
    rw (field_again 2 d.month (45 ∷ (padded 2 d.day ++ rest)) h.1) (
    rw (byte_again 45 (padded 2 d.day ++ rest)) (
    rw (field_again 2 d.day rest h.2) refl))))

-- ---- the zone

offset_takes : (west : Bool) (text : List ℕ) (z : Zone) → offset_at west text ≡ Some z → (hours minutes : ℕ) × (z ≡ Offset west hours minutes) × (text ≡ padded 2 hours ++ padded 2 minutes) × (hours < 100) × (minutes < 100)
unfolding offset_at
offset_takes west text z e =
    let hours = bind_some (field_at 2 text) _ z e in
    let minutes = bind_some (field_at 2 hours.0.1) _ z hours.2 in
    let c = chosen_some (is_empty minutes.0.1) (Offset west hours.0.0 minutes.0.0) z minutes.2 in
    let h = field_takes 2 text hours.0 hours.1 in
    let m = field_takes 2 hours.0.1 minutes.0 minutes.1 in
    (hours.0.0, minutes.0.0, sym c.1, h.0 ∙ ap (λ (v : List ℕ). padded 2 hours.0.0 ++ v) (m.0 ∙ ap (λ (v : List ℕ). padded 2 minutes.0.0 ++ v) (empty_is minutes.0.1 c.0)), h.1, m.1)

offset_again : (west : Bool) (hours minutes : ℕ) → hours < 100 → minutes < 100 → offset_at west (padded 2 hours ++ padded 2 minutes) ≡ Some (Offset west hours minutes)
unfolding offset_at
offset_again west hours minutes h m =
    rw (field_again 2 hours (padded 2 minutes) h) (rw (field_again 2 minutes [] m) refl)

zone_takes : (text : List ℕ) (z : Zone) → zone_at text ≡ Some z → (text ≡ zone_text z) × ZoneFits z
unfolding zone_at
zone_takes [] z e = absurd (let h = e in cc)
zone_takes (b ∷ rest) z e = elim (cases_Bool (eqb b 90)) [
  | inl h ↦ (
      let q = eqb-true b 90 h in
      let c = chosen_some (is_empty rest) Utc z (rw h at e) in
      let P : Zone → Type 0 = λ y. (b ∷ rest ≡ zone_text y) × ZoneFits y in
      subst P c.1 (ap₂ (λ (x : ℕ) (xs : List ℕ). x ∷ xs) q (empty_is rest c.0), tt)
      )
  | inr h ↦ by_sign (rw h at e)
]
  where
    by_offset : (west : Bool) (sign : ℕ) → b ≡ sign → (if west then (45 ∷ []) else (43 ∷ [])) ≡ sign ∷ [] → offset_at west rest ≡ Some z → (b ∷ rest ≡ zone_text z) × ZoneFits z
    by_offset west sign q s o =
        let y = offset_takes west rest z o in
        let P : Zone → Type 0 = λ y. (b ∷ rest ≡ zone_text y) × ZoneFits y in
        subst P (sym y.2) (ap₂ (λ (x : ℕ) (xs : List ℕ). x ∷ xs) q y.3 ∙ ap (λ (v : List ℕ). v ++ (padded 2 y.0 ++ padded 2 y.1)) (sym s), (y.4, y.5))

    by_sign : (if eqb b 43 then offset_at false rest else (if eqb b 45 then offset_at true rest else None)) ≡ Some z → (b ∷ rest ≡ zone_text z) × ZoneFits z
    by_sign f = elim (cases_Bool (eqb b 43)) [
      | inl h ↦ by_offset false 43 (eqb-true b 43 h) refl (rw h at f)
      | inr h ↦ elim (cases_Bool (eqb b 45)) [
        | inl k ↦ by_offset true 45 (eqb-true b 45 k) refl (rw k at (rw h at f))
        | inr k ↦ absurd (let n = rw k at (rw h at f) in cc)
      ]
    ]

zone_again : (z : Zone) → ZoneFits z → zone_at (zone_text z) ≡ Some z
unfolding zone_at
zone_again Utc h = refl
zone_again (Offset true hours minutes) h = offset_again true hours minutes h.0 h.1
zone_again (Offset false hours minutes) h = offset_again false hours minutes h.0 h.1

-- ---- the fraction

fraction_takes : (text : List ℕ) (x : Option ℕ × List ℕ) → fraction_at text ≡ Some x → (text ≡ fraction_text x.0 ++ x.1) × FractionFits x.0
unfolding fraction_at
fraction_takes text x e = by_byte (byte_at 46 text) refl e
  where
    by_byte : (o : Option (List ℕ)) → byte_at 46 text ≡ o → fraction_behind text o ≡ Some x → (text ≡ fraction_text x.0 ++ x.1) × FractionFits x.0
    by_byte None b f =
        let P : Option ℕ × List ℕ → Type 0 = λ p. (text ≡ fraction_text p.0 ++ p.1) × FractionFits p.0 in
        subst P (same_Some _ _ f) (refl, tt)
    by_byte (Some rest) b f =
        let P : Option ℕ × List ℕ → Type 0 = λ p. (text ≡ fraction_text p.0 ++ p.1) × FractionFits p.0 in
        let m = bind_some (field_at 3 rest) _ x f in
        let d = field_takes 3 rest m.0 m.1 in
        subst P (same_Some _ _ m.2) (byte_takes 46 text rest b ∙ ap (λ (v : List ℕ). 46 ∷ v) d.0, d.1)

byte_none : (c : ℕ) (rest : List ℕ) → begins_without (λ b. eqb b c) rest ≡ true → byte_at c rest ≡ None
unfolding byte_at
byte_none c [] h = refl
byte_none c (b ∷ bs) h = rw (not-true (eqb b c) h) refl

zone_no_point : (z : Zone) → begins_without (λ b. eqb b 46) (zone_text z) ≡ true
zone_no_point Utc = refl
zone_no_point (Offset true hours minutes) = refl
zone_no_point (Offset false hours minutes) = refl

fraction_again : (f : Option ℕ) (z : Zone) → FractionFits f → fraction_at (fraction_text f ++ zone_text z) ≡ Some (f, zone_text z)
unfolding fraction_at
fraction_again None z h = rw (byte_none 46 (zone_text z) (zone_no_point z)) refl
fraction_again (Some m) z h = rw (byte_again 46 (padded 3 m ++ zone_text z)) (rw (field_again 3 m (zone_text z) h) refl)

-- ---- the time and the whole

clock_takes : (text : List ℕ) (c : Clock) → clock_at text ≡ Some c → (text ≡ clock_text (Some c)) × ClockFits (Some c)
unfolding clock_at
clock_takes text c e =
    let time = bind_some (byte_at 84 text) _ c e in
    let hour = bind_some (field_at 2 time.0) _ c time.2 in
    let first = bind_some (byte_at 58 hour.0.1) _ c hour.2 in
    let minute = bind_some (field_at 2 first.0) _ c first.2 in
    let second = bind_some (byte_at 58 minute.0.1) _ c minute.2 in
    let seconds = bind_some (field_at 2 second.0) _ c second.2 in
    let fraction = bind_some (fraction_at seconds.0.1) _ c seconds.2 in
    let zone = bind_some (zone_at fraction.0.1) _ c fraction.2 in
    let h = field_takes 2 time.0 hour.0 hour.1 in
    let m = field_takes 2 first.0 minute.0 minute.1 in
    let s = field_takes 2 second.0 seconds.0 seconds.1 in
    let f = fraction_takes seconds.0.1 fraction.0 fraction.1 in
    let z = zone_takes fraction.0.1 zone.0 zone.1 in
    let a = byte_takes 84 text time.0 time.1 in
    let b = byte_takes 58 hour.0.1 first.0 first.1 in
    let d = byte_takes 58 minute.0.1 second.0 second.1 in
    let P : Clock → Type 0 = λ k. (text ≡ clock_text (Some k)) × ClockFits (Some k) in
    subst P (same_Some _ _ zone.2) (
      a ∙ ap (λ (v : List ℕ). 84 ∷ v) (h.0 ∙ ap (λ (v : List ℕ). padded 2 hour.0.0 ++ v) (b ∙ ap (λ (v : List ℕ). 58 ∷ v) (m.0 ∙ ap (λ (v : List ℕ). padded 2 minute.0.0 ++ v) (d ∙ ap (λ (v : List ℕ). 58 ∷ v) (s.0 ∙ ap (λ (v : List ℕ). padded 2 seconds.0.0 ++ v) (f.0 ∙ ap (λ (v : List ℕ). fraction_text fraction.0.0 ++ v) z.0)))))),
      (h.1, m.1, s.1, f.1, z.1),
    )

clock_again : (c : Clock) → ClockFits (Some c) → clock_at (clock_text (Some c)) ≡ Some c
unfolding clock_at
clock_again c h =
    let end = fraction_text c.millisecond ++ zone_text c.zone in
    rw (byte_again 84 (padded 2 c.hour ++ (58 ∷ (padded 2 c.minute ++ (58 ∷ (padded 2 c.second ++ end)))))) (
    rw (field_again 2 c.hour (58 ∷ (padded 2 c.minute ++ (58 ∷ (padded 2 c.second ++ end)))) h.0) (
    rw (byte_again 58 (padded 2 c.minute ++ (58 ∷ (padded 2 c.second ++ end)))) (
    rw (field_again 2 c.minute (58 ∷ (padded 2 c.second ++ end)) h.1) (
    rw (byte_again 58 (padded 2 c.second ++ end)) (
    rw (field_again 2 c.second end h.2) (
    rw (fraction_again c.millisecond c.zone h.3) (
    rw (zone_again c.zone h.4) refl)))))))

pub stamp_takes : (text : List ℕ) (s : Stamp) → stamp_at text ≡ Some s → HasStamp text s
unfolding stamp_at
stamp_takes text s e =
    let day = bind_some (day_at text) _ s e in
    let d = day_takes text day.0 day.1 in
    elim (cases_Bool (is_empty day.0.1)) [
      | inl h ↦ (
          let q = same_Some _ _ (rw h at day.2) in
          subst (HasStamp text) q (record { spelled = d.0 ∙ ap (λ (v : List ℕ). day_text day.0.0 ++ v) (empty_is day.0.1 h); day = d.1; clock = tt })
          )
      | inr h ↦ (
          let clock = bind_some (clock_at day.0.1) _ s (rw h at day.2) in
          let c = clock_takes day.0.1 clock.0 clock.1 in
          subst (HasStamp text) (same_Some _ _ clock.2) (record { spelled = d.0 ∙ ap (λ (v : List ℕ). day_text day.0.0 ++ v) c.0; day = d.1; clock = c.1 })
          )
    ]

whole_again : (d : Day) (c : Option Clock) → DayFits d → ClockFits c → stamp_at (day_text d ++ clock_text c) ≡ Some (record { day = d; clock = c })
unfolding stamp_at
whole_again d None f g = rw (day_again d [] f) refl
whole_again d (Some c) f g = rw (day_again d (clock_text (Some c)) f) (rw (not_empty 84 _, clock_again c g) refl)

pub stamp_again : (text : List ℕ) (s : Stamp) → HasStamp text s → stamp_at text ≡ Some s
stamp_again text s h = ap stamp_at h.spelled ∙ whole_again s.day s.clock h.day h.clock

-- a text has one reading
pub one_stamp : (text : List ℕ) (s t : Stamp) → HasStamp text s → HasStamp text t → s ≡ t
one_stamp text s t h g = same_Some s t (sym (stamp_again text s h) ∙ stamp_again text t g)
