-- What is found of a duration's text from its right end are its parts.
use Rattle.std.proofs.Common.{inl, inr, ◌⊎◌, ◌≡◌, ℕ, zero, suc, ◌+◌, ◌*◌, ◌<◌, ◌≤◌, Bool, true, false, ◌||◌, nat_lt, eqb, drop, Option, Some, None, List, [], ◌∷◌, ◌++◌, reverse, length, refl, sym, ap, ap₂, ◌∙◌, subst, append_assoc, arith, ℤ}
use Rattle.std.specs.List.{list_all}
use Rattle.std.proofs.lemmas.Bool.{false≢true, cases_Bool, and_parts, eqb-true, not_from_false}
use Rattle.std.proofs.lemmas.List.{append-nil, reverse-append, reverse-reverse, append_cancel_right, length-append, length-reverse}
use Rattle.smt_ext.specs.declared.datetime.span.Fault.{Fault}
use Rattle.smt_ext.specs.declared.datetime.span.Fault.TheVariants.{Form, NoDigits, OutOfRange}
use Rattle.smt_ext.specs.declared.datetime.span.TimeUnit.{TimeUnit}
use Rattle.smt_ext.specs.declared.datetime.span.TimeUnit.TheVariants.{Millisecond, Second, Minute, Hour, FullDay}
use Rattle.law_texts.specs.Characters.{is_digit}
use Rattle.law_texts.specs.Digits.{is_numeral, decimal_number, minus_if, signed_number}
use Rattle.law_numbers.specs.Longs.{IsLong}
use Rattle.law_texts.specs.Front.{begins_without, IsSigned}
use Rattle.smt_ext.specs.DurationRefusal.{unit_name, unit_milliseconds, all_units, EndsInPart, HasNoPart, begins_past_ascii, IsSoundPart, IsPartFault, IsFirstFault, HasSum, IsFaultBehindSign, HasFault}
use Rattle.smt_ext.specs.DurationText.{Parts, part_text, part_number, IsPart, parts_text, parts_number, ArePartsOfDuration, IsDurationText}
use Rattle.law_texts.proofs.Runs.{one_run, one_sign, sign_of, numeral_unsigned, digits_of_numeral, list_all-reverse, head_is}
use Rattle.law_texts.proofs.Numbers.{numeral_from}

-- ---- one part is found in one way

reverse_same : (xs ys : List ℕ) → reverse xs ≡ reverse ys → xs ≡ ys
reverse_same xs ys e = sym (reverse-reverse xs) ∙ ap (λ (v : List ℕ). reverse v) e ∙ reverse-reverse ys

one_part : (unit : TimeUnit) (rest f d g e : List ℕ) → EndsInPart unit rest f d → EndsInPart unit rest g e → (f ≡ g) × (d ≡ e)
one_part unit rest f d g e p q =
    let n = unit_name unit in
    let same : f ++ d ≡ g ++ e = append_cancel_right (f ++ d) (g ++ e) n (append_assoc f d n ∙ sym p.whole ∙ q.whole ∙ sym (append_assoc g e n)) in
    let turned : reverse d ++ reverse f ≡ reverse e ++ reverse g = sym (reverse-append f d) ∙ ap (λ (v : List ℕ). reverse v) same ∙ reverse-append g e in
    let r = one_run is_digit (reverse d) (reverse e) (reverse f) (reverse g) (list_all-reverse is_digit d ∙ p.each) (list_all-reverse is_digit e ∙ q.each) p.longest q.longest turned in
    (reverse_same f g r.1, reverse_same d e r.0)

no_part : (unit : TimeUnit) (rest f d : List ℕ) → HasNoPart unit rest → EndsInPart unit rest f d → ⊥
no_part unit rest f d n p = n (f ++ d) (p.whole ∙ sym (append_assoc f d (unit_name unit)))

sound_or_fault : (negative : Bool) (unit : TimeUnit) (f d : List ℕ) (fault : Fault) → IsSoundPart negative unit f d → IsPartFault negative unit f d fault → ⊥
sound_or_fault negative unit f d Form s h = false≢true (sym s.ascii ∙ h)
sound_or_fault negative unit f d NoDigits s h = let l = s.some_digit in let e = ap length h.1 in omega arith
sound_or_fault negative unit f d OutOfRange s h = h.2 s.fits

-- ---- a sum and a fault exclude each other, and there is one sum

pub sum_or_fault : (negative : Bool) (units : List TimeUnit) (rest : List ℕ) (n : ℕ) (fault : Fault) → HasSum negative units rest n → IsFirstFault negative units rest fault → ⊥
unfolding HasSum IsFirstFault
sum_or_fault negative [] rest n fault s f = let e = ap length s.0 in let l = f.0 in omega arith
sum_or_fault negative (unit ∷ units) rest n fault (inl s) (inl f) = sum_or_fault negative units rest n fault s.1 f.1
sum_or_fault negative (unit ∷ units) rest n fault (inl s) (inr f) = no_part unit rest f.0 f.1 s.0 f.2
sum_or_fault negative (unit ∷ units) rest n fault (inr s) (inl f) = no_part unit rest s.0 s.1 f.0 s.3
sum_or_fault negative (unit ∷ units) rest n fault (inr s) (inr f) =
    let same = one_part unit rest s.0 s.1 f.0 f.1 s.3 f.2 in
    let P : List ℕ → Type 0 = λ d. IsSoundPart negative unit s.0 d in
    let Q : List ℕ → Type 0 = λ v. IsSoundPart negative unit v f.1 in
    let R : List ℕ → Type 0 = λ v. HasSum negative units v s.2 in
    elim f.3 [
      | inl h ↦ sound_or_fault negative unit f.0 f.1 fault (subst Q same.0 (subst P same.1 s.4)) h
      | inr h ↦ sum_or_fault negative units f.0 s.2 fault (subst R same.0 s.5) h.1
    ]

one_sum : (negative : Bool) (units : List TimeUnit) (rest : List ℕ) (m n : ℕ) → HasSum negative units rest m → HasSum negative units rest n → m ≡ n
unfolding HasSum
one_sum negative [] rest m n s t = s.1 ∙ sym t.1
one_sum negative (unit ∷ units) rest m n (inl s) (inl t) = one_sum negative units rest m n s.1 t.1
one_sum negative (unit ∷ units) rest m n (inl s) (inr t) = absurd (no_part unit rest t.0 t.1 s.0 t.3)
one_sum negative (unit ∷ units) rest m n (inr s) (inl t) = absurd (no_part unit rest s.0 s.1 t.0 s.3)
one_sum negative (unit ∷ units) rest m n (inr s) (inr t) =
    let same = one_part unit rest s.0 s.1 t.0 t.1 s.3 t.3 in
    let R : List ℕ → Type 0 = λ v. HasSum negative units v s.2 in
    let more = one_sum negative units t.0 s.2 t.2 (subst R same.0 s.5) t.5 in
    s.6 ∙ ap₂ (λ (a : ℕ) (d : List ℕ). a + decimal_number d * unit_milliseconds unit) more same.1 ∙ sym t.6

-- ---- from a sum to the parts

some_digits : (ds : List ℕ) → is_numeral ds ≡ true → 0 < length ds
some_digits [] h = absurd (false≢true h)
some_digits (d ∷ ds) h = omega arith

-- One part off the end, and the sum of what stands before it.
record Taken (negative : Bool) (unit : TimeUnit) (units : List TimeUnit) (rest : List ℕ) (n : ℕ) : Type 0 where
  part : Option (List ℕ)
  front : List ℕ
  more : ℕ
  whole : rest ≡ front ++ part_text (unit_name unit) part
  numeral : IsPart part
  before : HasSum negative units front more
  number : n ≡ more + part_number part * unit_milliseconds unit

taken : (negative : Bool) (unit : TimeUnit) (units : List TimeUnit) (rest : List ℕ) (n : ℕ) → HasSum negative (unit ∷ units) rest n → Taken negative unit units rest n
unfolding HasSum
taken negative unit units rest n (inl s) = record { part = None; front = rest; more = n; whole = sym (append-nil rest); numeral = tt; before = s.1; number = omega arith }
taken negative unit units rest n (inr s) = record { part = Some s.1; front = s.0; more = s.2; whole = s.3.whole; numeral = numeral_from s.1 s.4.some_digit s.3.each; before = s.5; number = s.6 }

nothing_left : (negative : Bool) (rest : List ℕ) (n : ℕ) → HasSum negative [] rest n → (rest ≡ []) × (n ≡ 0)
unfolding HasSum
nothing_left negative rest n s = s

behind : {a b : List ℕ} (unit : TimeUnit) (p : Option (List ℕ)) → a ≡ b → a ++ part_text (unit_name unit) p ≡ b ++ part_text (unit_name unit) p
behind unit p e = ap (λ (v : List ℕ). v ++ part_text (unit_name unit) p) e

regroup : (a b c d e : List ℕ) → (((a ++ b) ++ c) ++ d) ++ e ≡ a ++ (b ++ (c ++ (d ++ e)))
regroup a b c d e = simp append_assoc

-- the parts of a text with a sum
pub parts_of : (negative : Bool) (rest : List ℕ) (n : ℕ) → HasSum negative all_units rest n → (p : Parts) × (rest ≡ parts_text p) × ArePartsOfDuration p × (n ≡ parts_number p)
parts_of negative rest n s =
    let a = taken negative Millisecond (Second ∷ Minute ∷ Hour ∷ FullDay ∷ []) rest n s in
    let b = taken negative Second (Minute ∷ Hour ∷ FullDay ∷ []) a.front a.more a.before in
    let c = taken negative Minute (Hour ∷ FullDay ∷ []) b.front b.more b.before in
    let d = taken negative Hour (FullDay ∷ []) c.front c.more c.before in
    let e = taken negative FullDay [] d.front d.more d.before in
    let z = nothing_left negative e.front e.more e.before in (
      record { days = e.part; hours = d.part; minutes = c.part; seconds = b.part; milliseconds = a.part },
      a.whole ∙ behind Millisecond a.part (b.whole ∙ behind Second b.part (c.whole ∙ behind Minute c.part (d.whole ∙ behind Hour d.part (e.whole ∙ behind FullDay e.part z.0)))) ∙ regroup (part_text (unit_name FullDay) e.part) (part_text (unit_name Hour) d.part) (part_text (unit_name Minute) c.part) (part_text (unit_name Second) b.part) (part_text (unit_name Millisecond) a.part),
      (e.numeral, d.numeral, c.numeral, b.numeral, a.numeral),
      omega (arith, a.number, b.number, c.number, d.number, e.number, z.1),
    )

some_from : (bytes : List ℕ) → eqb (length bytes) 0 ≡ false → 0 < length bytes
some_from [] h = absurd (false≢true (sym h))
some_from (b ∷ bs) h = omega arith

pub duration_is : (text rest : List ℕ) (negative : Bool) (n : ℕ) (v : ℤ) → IsSigned text negative rest → eqb (length rest) 0 ≡ false → HasSum negative all_units rest n → IsLong (signed_number negative n) → v ≡ signed_number negative n → IsDurationText text v
duration_is text rest negative n v sign some s fits e =
    let p = parts_of negative rest n s in
    let l = some_from rest some in
    record {
      negative = negative;
      parts = p.0;
      spelled = sign.whole ∙ ap (λ (x : List ℕ). minus_if negative ++ x) p.1;
      numerals = p.2;
      some_part = (let q = ap length p.1 in omega arith);
      number = e ∙ ap (signed_number negative) p.3;
      fits = rw e fits;
    }

-- ---- where no units and nothing of the text is left

pub none_left : (i : ℕ) → 5 ≤ i → i ≤ 5 → drop i all_units ≡ []
none_left i l h = let e : i ≡ 5 = omega arith in ap (λ (n : ℕ). drop n all_units) e

pub sum_at_end : (negative : Bool) (units : List TimeUnit) (rest : List ℕ) → units ≡ [] → rest ≡ [] → HasSum negative units rest 0
unfolding HasSum
sum_at_end negative units rest u r = rw u (r, refl)

pub fault_at_end : (negative : Bool) (units : List TimeUnit) (rest : List ℕ) → units ≡ [] → eqb (length rest) 0 ≡ false → IsFirstFault negative units rest Form
unfolding IsFirstFault
fault_at_end negative units rest u r = rw u (some_from rest r, refl)

-- ---- from the parts to their sum

-- whether the first byte passes the test, if there is one
first_in : (ℕ → Bool) → List ℕ → Bool
first_in test [] = true
first_in test (b ∷ bs) = test b

first_in_more : (t u : ℕ → Bool) (xs : List ℕ) → ((b : ℕ) → t b ≡ true → u b ≡ true) → first_in t xs ≡ true → first_in u xs ≡ true
unfolding first_in
first_in_more t u [] f h = refl
first_in_more t u (b ∷ bs) f h = f b h

-- the units that may stand last, from the left end on
abbrev in_d : ℕ → Bool
in_d b = eqb b 100

abbrev in_h : ℕ → Bool
in_h b = eqb b 104 || in_d b

abbrev in_m : ℕ → Bool
in_m b = eqb b 109 || in_h b

abbrev in_s : ℕ → Bool
in_s b = eqb b 115 || in_m b

one_more : (x y : Bool) → y ≡ true → (x || y) ≡ true
one_more true y h = refl
one_more false y h = h

letter : (b : ℕ) → in_s b ≡ true → (is_digit b ≡ false) × (nat_lt 127 b ≡ false)
letter b h = elim (cases_Bool (eqb b 115)) [
  | inl e ↦ rw (eqb-true b 115 e) (refl, refl)
  | inr e ↦ elim (cases_Bool (eqb b 109)) [
    | inl f ↦ rw (eqb-true b 109 f) (refl, refl)
    | inr f ↦ elim (cases_Bool (eqb b 104)) [
      | inl g ↦ rw (eqb-true b 104 g) (refl, refl)
      | inr g ↦ elim (cases_Bool (eqb b 100)) [
        | inl k ↦ rw (eqb-true b 100 k) (refl, refl)
        | inr k ↦ absurd (false≢true (let q = rw (e, f, g, k) at h in q))
      ]
    ]
  ]
]

no_digit_first : (xs : List ℕ) → first_in in_s xs ≡ true → begins_without is_digit xs ≡ true
unfolding first_in
no_digit_first [] h = refl
no_digit_first (b ∷ bs) h = not_from_false (is_digit b) (letter b h).0

ascii_first : (xs : List ℕ) → first_in in_s xs ≡ true → begins_past_ascii xs ≡ false
unfolding first_in
ascii_first [] h = refl
ascii_first (b ∷ bs) h = (letter b h).1

turned_letter : (front ds : List ℕ) (l : ℕ) → reverse (front ++ (ds ++ (l ∷ []))) ≡ l ∷ reverse (front ++ ds)
turned_letter front ds l = ap (λ (v : List ℕ). reverse v) (sym (append_assoc front ds (l ∷ []))) ∙ reverse-append (front ++ ds) (l ∷ [])

grows : (t u : ℕ → Bool) (l : ℕ) (front : List ℕ) (p : Option (List ℕ)) → ((b : ℕ) → t b ≡ true → u b ≡ true) → u l ≡ true → first_in t (reverse front) ≡ true → first_in u (reverse (front ++ part_text (l ∷ []) p)) ≡ true
unfolding first_in
grows t u l front None f g h = rw (append-nil front) (first_in_more t u (reverse front) f h)
grows t u l front (Some ds) f g h = rw (turned_letter front ds l) g

no_letter : (t : ℕ → Bool) (l : ℕ) (front : List ℕ) → t l ≡ false → first_in t (reverse front) ≡ true → (g : List ℕ) → front ≡ g ++ (l ∷ []) → ⊥
unfolding first_in
no_letter t l front n h g e =
    let r : reverse front ≡ l ∷ reverse g = ap (λ (v : List ℕ). reverse v) e ∙ reverse-append g (l ∷ []) in
    false≢true (sym n ∙ ap (first_in t) (sym r) ∙ h)

digit_first : (xs rest : List ℕ) → is_numeral xs ≡ true → first_in is_digit (xs ++ rest) ≡ true
unfolding first_in
digit_first [] rest h = absurd (false≢true h)
digit_first (x ∷ xs) rest h = (and_parts (is_digit x) (list_all is_digit xs) h).0

turned_numeral : (ds : List ℕ) → is_numeral ds ≡ true → is_numeral (reverse ds) ≡ true
turned_numeral ds h = numeral_from (reverse ds) (let l = length-reverse ds in let s = some_digits ds h in omega arith) (list_all-reverse is_digit ds ∙ digits_of_numeral ds h)

no_milliseconds : (front : List ℕ) (p : Option (List ℕ)) → IsPart p → first_in in_m (reverse front) ≡ true → HasNoPart Millisecond (front ++ part_text (115 ∷ []) p)
unfolding first_in
no_milliseconds front None q h g e =
    let r : reverse front ≡ 115 ∷ 109 ∷ reverse g = ap (λ (v : List ℕ). reverse v) (sym (append-nil front) ∙ e) ∙ reverse-append g (109 ∷ 115 ∷ []) in
    false≢true (ap (first_in in_m) (sym r) ∙ h)
no_milliseconds front (Some ds) q h g e =
    let r : 115 ∷ reverse (front ++ ds) ≡ 115 ∷ 109 ∷ reverse g = sym (turned_letter front ds 115) ∙ ap (λ (v : List ℕ). reverse v) e ∙ reverse-append g (109 ∷ 115 ∷ []) in
    let s : reverse ds ++ reverse front ≡ 109 ∷ reverse g = sym (reverse-append front ds) ∙ (head_is 115 115 (reverse (front ++ ds)) (109 ∷ reverse g) r).1 in
    false≢true (ap (first_in is_digit) (sym s) ∙ digit_first (reverse ds) (reverse front) (turned_numeral ds q))

no_first : first_in in_s [] ≡ true
unfolding first_in
no_first = refl

no_first_d : first_in in_d [] ≡ true
unfolding first_in
no_first_d = refl

nothing_is_last : (g : List ℕ) (l : ℕ) → [] ≡ g ++ (l ∷ []) → ⊥
nothing_is_last g l e = let q = ap length e in let k = length-append g (l ∷ []) in omega arith

-- one part more
put_back : (negative : Bool) (unit : TimeUnit) (units : List TimeUnit) (front : List ℕ) (p : Option (List ℕ)) (more : ℕ) → IsPart p → HasNoPart unit front → first_in in_s (reverse front) ≡ true → IsLong (signed_number negative (part_number p * unit_milliseconds unit)) → HasSum negative units front more → HasSum negative (unit ∷ units) (front ++ part_text (unit_name unit) p) (more + part_number p * unit_milliseconds unit)
unfolding HasSum
put_back negative unit units front None more q n l fits s =
    let z : more + 0 * unit_milliseconds unit ≡ more = omega arith in
    rw (append-nil front, z) (inl (n, s))
put_back negative unit units front (Some ds) more q n l fits s =
    inr (front, ds, more, record { whole = refl; each = digits_of_numeral ds q; longest = no_digit_first (reverse front) l }, record { ascii = ascii_first (reverse front) l; some_digit = some_digits ds q; fits = fits }, s, refl)

less_fits : (negative : Bool) (a b : ℕ) → a ≤ b → IsLong (signed_number negative b) → IsLong (signed_number negative a)
less_fits true zero b h l = omega arith
less_fits true (suc a) zero h l = absurd (omega arith)
less_fits true (suc a) (suc b) h l = omega arith
less_fits false a b h l = omega arith

pub sum_of : (negative : Bool) (p : Parts) → ArePartsOfDuration p → IsLong (signed_number negative (parts_number p)) → HasSum negative all_units (parts_text p) (parts_number p)
sum_of negative p q fits =
    let part : ℕ → Type 0 = λ a. IsLong (signed_number negative a) in
    let d : part (part_number p.days * 86400000) = less_fits negative _ (parts_number p) (omega arith) fits in
    let h : part (part_number p.hours * 3600000) = less_fits negative _ (parts_number p) (omega arith) fits in
    let m : part (part_number p.minutes * 60000) = less_fits negative _ (parts_number p) (omega arith) fits in
    let s : part (part_number p.seconds * 1000) = less_fits negative _ (parts_number p) (omega arith) fits in
    let x : part (part_number p.milliseconds * 1) = less_fits negative _ (parts_number p) (omega arith) fits in
    let f1 = part_text (100 ∷ []) p.days in
    let f2 = f1 ++ part_text (104 ∷ []) p.hours in
    let f3 = f2 ++ part_text (109 ∷ []) p.minutes in
    let f4 = f3 ++ part_text (115 ∷ []) p.seconds in
    let l1 : first_in in_d (reverse f1) ≡ true = grows in_d in_d 100 [] p.days (λ b e. e) refl no_first_d in
    let l2 : first_in in_h (reverse f2) ≡ true = grows in_d in_h 104 f1 p.hours (λ b e. one_more (eqb b 104) (in_d b) e) refl l1 in
    let l3 : first_in in_m (reverse f3) ≡ true = grows in_h in_m 109 f2 p.minutes (λ b e. one_more (eqb b 109) (in_h b) e) refl l2 in
    let l4 : first_in in_s (reverse f4) ≡ true = grows in_m in_s 115 f3 p.seconds (λ b e. one_more (eqb b 115) (in_m b) e) refl l3 in
    let w1 = first_in_more in_d in_s (reverse f1) (λ b e. one_more (eqb b 115) (in_m b) (one_more (eqb b 109) (in_h b) (one_more (eqb b 104) (in_d b) e))) l1 in
    let w2 = first_in_more in_h in_s (reverse f2) (λ b e. one_more (eqb b 115) (in_m b) (one_more (eqb b 109) (in_h b) e)) l2 in
    let w3 = first_in_more in_m in_s (reverse f3) (λ b e. one_more (eqb b 115) (in_m b) e) l3 in
    let t1 = put_back negative FullDay [] [] p.days 0 q.0 (λ g e. nothing_is_last g 100 e) no_first d (sum_at_end negative [] [] refl refl) in
    let t2 = put_back negative Hour (FullDay ∷ []) f1 p.hours _ q.1 (no_letter in_d 104 f1 refl l1) w1 h t1 in
    let t3 = put_back negative Minute (Hour ∷ FullDay ∷ []) f2 p.minutes _ q.2 (no_letter in_h 109 f2 refl l2) w2 m t2 in
    let t4 = put_back negative Second (Minute ∷ Hour ∷ FullDay ∷ []) f3 p.seconds _ q.3 (no_letter in_m 115 f3 refl l3) w3 s t3 in
    let t5 = put_back negative Millisecond (Second ∷ Minute ∷ Hour ∷ FullDay ∷ []) f4 p.milliseconds _ q.4 (no_milliseconds f3 p.seconds q.3 l3) l4 x t4 in
    let P : List ℕ → Type 0 = λ v. HasSum negative all_units v (parts_number p) in
    let Q : ℕ → Type 0 = λ n. HasSum negative all_units (f4 ++ part_text (109 ∷ 115 ∷ []) p.milliseconds) n in
    subst P (regroup f1 (part_text (104 ∷ []) p.hours) (part_text (109 ∷ []) p.minutes) (part_text (115 ∷ []) p.seconds) (part_text (109 ∷ 115 ∷ []) p.milliseconds)) (subst Q (omega arith) t5)

-- ---- a duration's text has one value and no fault

first_part : (unit : List ℕ) (p : Option (List ℕ)) (rest : List ℕ) → IsPart p → begins_without (λ b. eqb b 45) rest ≡ true → begins_without (λ b. eqb b 45) (part_text unit p ++ rest) ≡ true
first_part unit None rest q h = h
first_part unit (Some ds) rest q h = rw (append_assoc ds unit rest) (numeral_unsigned ds (unit ++ rest) q)

last_part : (unit : List ℕ) (p : Option (List ℕ)) → IsPart p → begins_without (λ b. eqb b 45) (part_text unit p) ≡ true
last_part unit None q = refl
last_part unit (Some ds) q = numeral_unsigned ds unit q

parts_unsigned : (p : Parts) → ArePartsOfDuration p → 0 < length (parts_text p) → begins_without (λ b. eqb b 45) (parts_text p) ≡ true
parts_unsigned p q l =
    first_part (100 ∷ []) p.days _ q.0 (first_part (104 ∷ []) p.hours _ q.1 (first_part (109 ∷ []) p.minutes _ q.2 (
    first_part (115 ∷ []) p.seconds _ q.3 (last_part (109 ∷ 115 ∷ []) p.milliseconds q.4))))

sum_of_text : (text rest : List ℕ) (negative : Bool) (v : ℤ) → IsSigned text negative rest → (d : IsDurationText text v) → (negative ≡ d.negative) × (rest ≡ parts_text d.parts)
sum_of_text text rest negative v s d = one_sign text rest (parts_text d.parts) negative d.negative s d.spelled (parts_unsigned d.parts d.numerals d.some_part)

pub no_fault : (text : List ℕ) (v : ℤ) (fault : Fault) → IsDurationText text v → HasFault text fault → ⊥
no_fault text v fault d f =
    let u = sum_of_text text f.rest f.negative v f.sign d in
    let long : IsLong (signed_number d.negative (parts_number d.parts)) = (let e = d.number in rw (← e) d.fits) in
    let s = sum_of d.negative d.parts d.numerals long in
    let P : Bool → Type 0 = λ b. HasSum b all_units (parts_text d.parts) (parts_number d.parts) in
    let Q : List ℕ → Type 0 = λ r. HasSum f.negative all_units r (parts_number d.parts) in
    let mine = subst Q (sym u.1) (subst P (sym u.0) s) in
    let l = d.some_part in
    let e = ap length u.1 in
    elim f.fault_is [
      | inl h ↦ (let z = ap length h.0 in omega arith)
      | inr h ↦ elim h [
        | inl k ↦ sum_or_fault f.negative all_units f.rest (parts_number d.parts) fault mine k.1
        | inr k ↦ k.3 (let same = one_sum f.negative all_units f.rest (parts_number d.parts) k.0 mine k.2 in rw (u.0, sym same) long)
      ]
    ]

pub one_duration : (text : List ℕ) (v w : ℤ) → IsDurationText text v → IsDurationText text w → v ≡ w
one_duration text v w d e =
    let s = sign_of text (parts_text d.parts) d.negative d.spelled (parts_unsigned d.parts d.numerals d.some_part) in
    let u = sum_of_text text (parts_text d.parts) d.negative w s e in
    let a = sum_of d.negative d.parts d.numerals (let q = d.number in rw (← q) d.fits) in
    let b = sum_of e.negative e.parts e.numerals (let q = e.number in rw (← q) e.fits) in
    let P : Bool → Type 0 = λ x. HasSum x all_units (parts_text d.parts) (parts_number d.parts) in
    let Q : List ℕ → Type 0 = λ r. HasSum e.negative all_units r (parts_number d.parts) in
    let same = one_sum e.negative all_units (parts_text e.parts) (parts_number d.parts) (parts_number e.parts) (subst Q u.1 (subst P u.0 a)) b in
    d.number ∙ ap₂ (λ (x : Bool) (n : ℕ). signed_number x n) u.0 same ∙ sym e.number

-- ---- a text has one fault at most

one_part_fault : (negative : Bool) (unit : TimeUnit) (f d : List ℕ) (a b : Fault) → IsPartFault negative unit f d a → IsPartFault negative unit f d b → a ≡ b
one_part_fault negative unit f d Form Form h k = refl
one_part_fault negative unit f d Form NoDigits h k = absurd (false≢true (sym k.0 ∙ h))
one_part_fault negative unit f d Form OutOfRange h k = absurd (false≢true (sym k.0 ∙ h))
one_part_fault negative unit f d NoDigits Form h k = absurd (false≢true (sym h.0 ∙ k))
one_part_fault negative unit f d NoDigits NoDigits h k = refl
one_part_fault negative unit f d NoDigits OutOfRange h k = absurd (let l = k.1 in let e = ap length h.1 in omega arith)
one_part_fault negative unit f d OutOfRange Form h k = absurd (false≢true (sym h.0 ∙ k))
one_part_fault negative unit f d OutOfRange NoDigits h k = absurd (let l = h.1 in let e = ap length k.1 in omega arith)
one_part_fault negative unit f d OutOfRange OutOfRange h k = refl

one_first_fault : (negative : Bool) (units : List TimeUnit) (rest : List ℕ) (a b : Fault) → IsFirstFault negative units rest a → IsFirstFault negative units rest b → a ≡ b
unfolding IsFirstFault
one_first_fault negative [] rest a b s t = s.1 ∙ sym t.1
one_first_fault negative (unit ∷ units) rest a b (inl s) (inl t) = one_first_fault negative units rest a b s.1 t.1
one_first_fault negative (unit ∷ units) rest a b (inl s) (inr t) = absurd (no_part unit rest t.0 t.1 s.0 t.2)
one_first_fault negative (unit ∷ units) rest a b (inr s) (inl t) = absurd (no_part unit rest s.0 s.1 t.0 s.2)
one_first_fault negative (unit ∷ units) rest a b (inr s) (inr t) =
    let same = one_part unit rest s.0 s.1 t.0 t.1 s.2 t.2 in
    let P : List ℕ → Type 0 = λ d. IsPartFault negative unit s.0 d a ⊎ (IsSoundPart negative unit s.0 d × IsFirstFault negative units s.0 a) in
    let Q : List ℕ → Type 0 = λ f. IsPartFault negative unit f t.1 a ⊎ (IsSoundPart negative unit f t.1 × IsFirstFault negative units f a) in
    elim (subst Q same.0 (subst P same.1 s.3)) [
      | inl h ↦ elim t.3 [
        | inl k ↦ one_part_fault negative unit t.0 t.1 a b h k
        | inr k ↦ absurd (sound_or_fault negative unit t.0 t.1 a k.0 h)
      ]
      | inr h ↦ elim t.3 [
        | inl k ↦ absurd (sound_or_fault negative unit t.0 t.1 b h.0 k)
        | inr k ↦ one_first_fault negative units t.0 a b h.1 k.1
      ]
    ]

one_fault_behind : (negative : Bool) (rest : List ℕ) (a b : Fault) → IsFaultBehindSign negative rest a → IsFaultBehindSign negative rest b → a ≡ b
one_fault_behind negative rest a b (inl s) (inl t) = s.1 ∙ sym t.1
one_fault_behind negative rest a b (inl s) (inr (inl t)) = absurd (let l = t.0 in let e = ap length s.0 in omega arith)
one_fault_behind negative rest a b (inl s) (inr (inr t)) = absurd (let l = t.1 in let e = ap length s.0 in omega arith)
one_fault_behind negative rest a b (inr (inl s)) (inl t) = absurd (let l = s.0 in let e = ap length t.0 in omega arith)
one_fault_behind negative rest a b (inr (inr s)) (inl t) = absurd (let l = s.1 in let e = ap length t.0 in omega arith)
one_fault_behind negative rest a b (inr (inl s)) (inr (inl t)) = one_first_fault negative all_units rest a b s.1 t.1
one_fault_behind negative rest a b (inr (inl s)) (inr (inr t)) = absurd (sum_or_fault negative all_units rest t.0 a t.2 s.1)
one_fault_behind negative rest a b (inr (inr s)) (inr (inl t)) = absurd (sum_or_fault negative all_units rest s.0 b s.2 t.1)
one_fault_behind negative rest a b (inr (inr s)) (inr (inr t)) = s.4 ∙ sym t.4

one_rest : (text r s : List ℕ) (m n : Bool) → IsSigned text m r → IsSigned text n s → (m ≡ n) × (r ≡ s)
one_rest text r s true true p q = (refl, (head_is 45 45 r s (sym p.whole ∙ q.whole)).1)
one_rest text r s true false p q = absurd (q.only refl r p.whole)
one_rest text r s false true p q = absurd (p.only refl s q.whole)
one_rest text r s false false p q = (refl, sym p.whole ∙ q.whole)

pub one_fault : (text : List ℕ) (a b : Fault) → HasFault text a → HasFault text b → a ≡ b
one_fault text a b f g =
    let u = one_rest text f.rest g.rest f.negative g.negative f.sign g.sign in
    let P : Bool → Type 0 = λ n. IsFaultBehindSign n f.rest a in
    let Q : List ℕ → Type 0 = λ r. IsFaultBehindSign g.negative r a in
    one_fault_behind g.negative g.rest a b (subst Q u.1 (subst P u.0 f.fault_is)) g.fault_is
