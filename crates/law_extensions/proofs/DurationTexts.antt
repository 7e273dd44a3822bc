-- A text is read to a value exactly where it is a duration with that value.
use Rattle.std.proofs.Common.{◌≡◌, ℕ, ◌&&◌, Bool, true, false, not, cond, eqb, Option, Some, None, List, [], ◌∷◌, ◌++◌, refl, ap, ap₂, ◌∙◌, subst, drop, length, append_assoc, append-nil, ℤ}
use Rattle.std.specs.Prelude.{bytes_eq}
use Rattle.std.specs.List.{list_all, take_while}
use Rattle.std.proofs.Math.Seq.{drop-append_seam}
use Rattle.std.proofs.lemmas.Bool.{and_parts, and_from, false≢true, ltb-true, lt-ltb}
use Rattle.std.proofs.lemmas.Slice.Eq.{bytes_eq-Decides}
use Rattle.law_texts.specs.Characters.{is_digit}
use Rattle.law_texts.specs.Digits.{is_numeral, minus_if}
use Rattle.law_texts.specs.Front.{begins_without}
use Rattle.law_texts.proofs.Runs.{digits_of_numeral, no_minus}
use Rattle.smt_ext.specs.DurationText.{Parts, part_text, IsPart, ArePartsOfDuration, parts_text, IsDurationText}
use Rattle.law_extensions.specs.DurationTexts.{digits_at, unit_at, part_at, behind_part, parts_at, duration_of, duration_in}
use Rattle.law_extensions.specs.Readings.{DurationsAreRead}
use Rattle.law_extensions.specs.Signs.{has_minus, without_minus}
use Rattle.law_extensions.proofs.Signs.{long_there, long_put, sign_read, run_read}

-- ---- the parts of a text

-- what is read as a part is a numeral
chosen_part : (digits : List ℕ) (b : Bool) → IsPart (cond (is_numeral digits && b) (Some digits) None)
chosen_part digits b = by (is_numeral digits) b refl
  where
    by : (n c : Bool) → is_numeral digits ≡ n → IsPart (cond (n && c) (Some digits) None)
    by true true e = e
    by true false e = tt
    by false c e = tt

part_is : (unit text : List ℕ) → IsPart (part_at unit text)
part_is unit text = chosen_part (digits_at text) (bytes_eq (unit_at text) unit)

parts_are : (text : List ℕ) → ArePartsOfDuration (parts_at text)
parts_are text =
    let hours = behind_part (100 ∷ []) text in
    let minutes = behind_part (104 ∷ []) hours in
    let seconds = behind_part (109 ∷ []) minutes in
    let milliseconds = behind_part (115 ∷ []) seconds in
    (part_is (100 ∷ []) text, part_is (104 ∷ []) hours, part_is (109 ∷ []) minutes, part_is (115 ∷ []) seconds, part_is (109 ∷ 115 ∷ []) milliseconds)

parts_give : (text : List ℕ) (n : Bool) (p : Parts) (v : ℤ) → ArePartsOfDuration p → duration_of text n p ≡ Some v → IsDurationText text v
parts_give text n p v numerals e =
    let t = long_there _ _ v e in
    let a = and_parts (bytes_eq text (minus_if n ++ parts_text p)) _ t.0 in
    record {
      negative = n;
      parts = p;
      spelled = (bytes_eq-Decides _ _).0 a.0;
      numerals = numerals;
      some_part = ltb-true 0 (length (parts_text p)) a.1;
      number = t.1;
      fits = t.2;
    }

given_by_parts : (text : List ℕ) (v : ℤ) (d : IsDurationText text v) → duration_of text d.negative d.parts ≡ Some v
given_by_parts text v d =
    let spelled = (bytes_eq-Decides text (minus_if d.negative ++ parts_text d.parts)).1 d.spelled in
    let some = lt-ltb 0 (length (parts_text d.parts)) d.some_part in
    long_put _ _ v (and_from _ _ spelled some) d.number d.fits

-- ---- they are read as they are written

-- a digit stands first, or nothing
abbrev opens : List ℕ → Bool
opens text = begins_without (λ b. not (is_digit b)) text

-- no digit is in the unit, and something is
record IsUnit (unit : List ℕ) : Type 0 where
  each : list_all (λ b. not (is_digit b)) unit ≡ true
  first : (rest : List ℕ) → begins_without is_digit (unit ++ rest) ≡ true

twice : (b : Bool) → b ≡ true → not (not b) ≡ true
twice true e = refl
twice false e = absurd (false≢true e)

part_opens : (unit : List ℕ) (p : Option (List ℕ)) (rest : List ℕ) → IsPart p → opens rest ≡ true → opens (part_text unit p ++ rest) ≡ true
part_opens unit None rest q h = h
part_opens unit (Some []) rest q h = absurd (false≢true q)
part_opens unit (Some (d ∷ ds)) rest q h = twice (is_digit d) (and_parts (is_digit d) (list_all is_digit ds) q).0

-- the digits and the unit that stand first
digits_read : (unit ds rest : List ℕ) → IsUnit unit → is_numeral ds ≡ true → opens rest ≡ true → (digits_at ((ds ++ unit) ++ rest) ≡ ds) × (unit_at ((ds ++ unit) ++ rest) ≡ unit)
digits_read unit ds rest u q h =
    let e : digits_at ((ds ++ unit) ++ rest) ≡ ds = rw (append_assoc ds unit rest) (run_read is_digit ds (unit ++ rest) (digits_of_numeral ds q) (u.first rest)) in
    let f : drop (length ds) ((ds ++ unit) ++ rest) ≡ unit ++ rest = rw (append_assoc ds unit rest) (drop-append_seam ds (unit ++ rest)) in
    let g : drop (length (digits_at ((ds ++ unit) ++ rest))) ((ds ++ unit) ++ rest) ≡ unit ++ rest = ap (λ (v : List ℕ). drop (length v) ((ds ++ unit) ++ rest)) e ∙ f in
    (e, ap (λ (v : List ℕ). take_while (λ b. not (is_digit b)) v) g ∙ run_read (λ b. not (is_digit b)) unit rest u.each h)

-- a part is read where it is ..
part_read : (unit : List ℕ) (p : Option (List ℕ)) (rest : List ℕ) → IsUnit unit → IsPart p → opens rest ≡ true → part_at unit rest ≡ None → part_at unit (part_text unit p ++ rest) ≡ p
part_read unit None rest u q h none = none
part_read unit (Some ds) rest u q h none =
    let r = digits_read unit ds rest u q h in
    let same = (bytes_eq-Decides unit unit).1 refl in
    let f : List ℕ → List ℕ → Option (List ℕ) = λ x y. cond (is_numeral x && bytes_eq y unit) (Some x) None in
    ap₂ f r.0 r.1 ∙ rw (q, same) refl

behind_read : (unit : List ℕ) (p : Option (List ℕ)) (rest : List ℕ) → part_at unit (part_text unit p ++ rest) ≡ p → behind_part unit (part_text unit p ++ rest) ≡ rest
behind_read unit p rest e = ap (λ (o : Option (List ℕ)). drop (length (part_text unit o)) (part_text unit p ++ rest)) e ∙ drop-append_seam (part_text unit p) rest

-- .. and not where a part of another unit is
other_part : (unit other : List ℕ) (p : Option (List ℕ)) (rest : List ℕ) → bytes_eq other unit ≡ false → IsUnit other → IsPart p → opens rest ≡ true → part_at unit rest ≡ None → part_at unit (part_text other p ++ rest) ≡ None
other_part unit other None rest differ u q h none = none
other_part unit other (Some ds) rest differ u q h none =
    let r = digits_read other ds rest u q h in
    let f : List ℕ → List ℕ → Option (List ℕ) = λ x y. cond (is_numeral x && bytes_eq y unit) (Some x) None in
    ap₂ f r.0 r.1 ∙ rw (q, differ) refl

unit_d : IsUnit (100 ∷ [])
unit_d = record { each = refl; first = λ rest. refl }

unit_h : IsUnit (104 ∷ [])
unit_h = record { each = refl; first = λ rest. refl }

unit_m : IsUnit (109 ∷ [])
unit_m = record { each = refl; first = λ rest. refl }

unit_s : IsUnit (115 ∷ [])
unit_s = record { each = refl; first = λ rest. refl }

unit_ms : IsUnit (109 ∷ 115 ∷ [])
unit_ms = record { each = refl; first = λ rest. refl }

-- the last part, with nothing behind it
last_opens : (unit : List ℕ) (p : Option (List ℕ)) → IsPart p → opens (part_text unit p) ≡ true
last_opens unit p q = rw (← append-nil (part_text unit p)) (part_opens unit p [] q refl)

last_read : (unit : List ℕ) (p : Option (List ℕ)) → IsUnit unit → IsPart p → part_at unit (part_text unit p) ≡ p
last_read unit p u q = subst (λ (t : List ℕ). part_at unit t ≡ p) (append-nil (part_text unit p)) (part_read unit p [] u q refl refl)

last_other : (unit other : List ℕ) (p : Option (List ℕ)) → bytes_eq other unit ≡ false → IsUnit other → IsPart p → part_at unit (part_text other p) ≡ None
last_other unit other p differ u q = subst (λ (t : List ℕ). part_at unit t ≡ None) (append-nil (part_text other p)) (other_part unit other p [] differ u q refl refl)

record AreRead (p : Parts) : Type 0 where
  opening : opens (parts_text p) ≡ true
  read : parts_at (parts_text p) ≡ p

five : (d h m s x : Option (List ℕ)) → IsPart d → IsPart h → IsPart m → IsPart s → IsPart x → AreRead (record { days = d; hours = h; minutes = m; seconds = s; milliseconds = x })
five d h m s x qd qh qm qs qx =
    let ud = 100 ∷ [] in
    let uh = 104 ∷ [] in
    let um = 109 ∷ [] in
    let us = 115 ∷ [] in
    let ux = 109 ∷ 115 ∷ [] in
    let t5 = part_text ux x in
    let t4 = part_text us s ++ t5 in
    let t3 = part_text um m ++ t4 in
    let t2 = part_text uh h ++ t3 in
    let o5 = last_opens ux x qx in
    let o4 = part_opens us s t5 qs o5 in
    let o3 = part_opens um m t4 qm o4 in
    let o2 = part_opens uh h t3 qh o3 in
    let r5 = last_read ux x unit_ms qx in
    let r4 = part_read us s t5 unit_s qs o5 (last_other us ux x refl unit_ms qx) in
    let r3 = part_read um m t4 unit_m qm o4 (other_part um us s t5 refl unit_s qs o5 (last_other um ux x refl unit_ms qx)) in
    let r2 = part_read uh h t3 unit_h qh o3 (other_part uh um m t4 refl unit_m qm o4 (other_part uh us s t5 refl unit_s qs o5 (last_other uh ux x refl unit_ms qx))) in
    let r1 = part_read ud d t2 unit_d qd o2 (other_part ud uh h t3 refl unit_h qh o3 (other_part ud um m t4 refl unit_m qm o4 (other_part ud us s t5 refl unit_s qs o5 (last_other ud ux x refl unit_ms qx)))) in
    let b1 = behind_read ud d t2 r1 in
    let b2 = behind_again uh b1 ∙ behind_read uh h t3 r2 in
    let b3 = behind_again um b2 ∙ behind_read um m t4 r3 in
    let b4 = behind_again us b3 ∙ behind_read us s t5 r4 in
    let e2 = again uh b1 ∙ r2 in
    let e3 = again um b2 ∙ r3 in
    let e4 = again us b3 ∙ r4 in
    let e5 = again ux b4 ∙ r5 in
    record {
      opening = part_opens ud d t2 qd o2;
      read = λ i. record { days = r1 i; hours = e2 i; minutes = e3 i; seconds = e4 i; milliseconds = e5 i };
    }
  where
    again : {a b : List ℕ} (unit : List ℕ) → a ≡ b → part_at unit a ≡ part_at unit b
    again unit e = ap (λ (t : List ℕ). part_at unit t) e

    behind_again : {a b : List ℕ} (unit : List ℕ) → a ≡ b → behind_part unit a ≡ behind_part unit b
    behind_again unit e = ap (λ (t : List ℕ). behind_part unit t) e

parts_read : (p : Parts) → ArePartsOfDuration p → AreRead p
parts_read p q = five p.days p.hours p.minutes p.seconds p.milliseconds q.0 q.1 q.2 q.3 q.4

-- ---- the law

no_minus_opens : (text : List ℕ) → opens text ≡ true → begins_without (λ b. eqb b 45) text ≡ true
no_minus_opens [] h = refl
no_minus_opens (b ∷ bs) h = no_minus b (once (is_digit b) h)
  where
    once : (c : Bool) → not (not c) ≡ true → c ≡ true
    once true e = refl
    once false e = absurd (false≢true e)

duration_is_read : (text : List ℕ) (v : ℤ) → IsDurationText text v → duration_in text ≡ Some v
duration_is_read text v d =
    let r = parts_read d.parts d.numerals in
    let s = sign_read text (parts_text d.parts) d.negative d.spelled (no_minus_opens (parts_text d.parts) r.opening) in
    let p : parts_at (without_minus text) ≡ d.parts = ap (λ (t : List ℕ). parts_at t) s.1 ∙ r.read in
    let same : duration_in text ≡ duration_of text d.negative d.parts = λ i. duration_of text (s.0 i) (p i) in
    same ∙ given_by_parts text v d

pub durations_are_read : DurationsAreRead
durations_are_read text v = (parts_give text (has_minus text) (parts_at (without_minus text)) v (parts_are (without_minus text)), duration_is_read text v)
