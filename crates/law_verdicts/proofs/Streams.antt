-- What a stream puts, command by command.
use Rattle.std.proofs.Common.{◌≡◌, ◌⊎◌, ℕ, pred, Bool, true, false, ◌&&◌, ◌||◌, cond, eqb, eqb-true, List, [], ◌∷◌, ◌++◌, refl, sym, ap, ap₂, ◌∙◌, subst, inl, inr, append_assoc, Option, Some, None}
use Rattle.std.proofs.lemmas.Bool.{and_parts, cases_Bool, cond-true, false≢true}
use Rattle.std.proofs.lemmas.List.{append-nil}
use Rattle.law_verdicts.specs.Scan.{Between, InComment, InString, Place, Scan, at_depth, ends_command, first_command, in_front, is_between, scanned, scanned_at}
use Rattle.law_verdicts.specs.Streams.{NotScript, TooDeep, TooLong, Course, Exited, IsAnswered, IsPutAt, Standing, Stop, Stopped, Takes, TakesAll, Waiting, breach, any_odd, is_kept, is_odd, is_stray, stop_line, with_byte}
use Rattle.law_verdicts.proofs.Scan.{front_of, one_byte, pair}

-- ---- many bytes at once

-- where a scan stands behind bytes
abbrev pub scanned_all : Scan → List ℕ → Scan
scanned_all s [] = s
scanned_all s (b ∷ bs) = scanned_all (scanned s b) bs

-- one of the bytes is of a token outside brackets
abbrev pub any_stray : Scan → List ℕ → Bool
any_stray s [] = false
any_stray s (b ∷ bs) = is_stray s b || any_stray (scanned s b) bs

-- the bytes that are held
abbrev pub kept : Scan → List ℕ → List ℕ
kept s [] = []
kept s (b ∷ bs) = cond (is_kept s b) (b ∷ kept (scanned s b) bs) (kept (scanned s b) bs)

-- the course with these bytes more
abbrev pub with_bytes : Course → List ℕ → Course
with_bytes c [] = c
with_bytes c (b ∷ bs) = with_bytes (with_byte c b) bs

pub machine_stays : (bs : List ℕ) (c : Course) → (with_bytes c bs).machine ≡ c.machine
machine_stays [] c = refl
machine_stays (b ∷ bs) c = machine_stays bs (with_byte c b)

pub scan_goes_on : (bs : List ℕ) (c : Course) → (with_bytes c bs).scan ≡ scanned_all c.scan bs
scan_goes_on [] c = refl
scan_goes_on (b ∷ bs) c = scan_goes_on bs (with_byte c b)

or_assoc : (x y z : Bool) → ((x || y) || z) ≡ (x || (y || z))
or_assoc true y z = refl
or_assoc false y z = refl

or_nothing : (x : Bool) → x ≡ (x || false)
or_nothing true = refl
or_nothing false = refl

pub odd_is : (bs : List ℕ) (c : Course) → (with_bytes c bs).odd ≡ (c.odd || any_odd c.scan bs)
odd_is [] c = or_nothing c.odd
odd_is (b ∷ bs) c = odd_is bs (with_byte c b) ∙ or_assoc c.odd (is_odd c.scan b) (any_odd (scanned c.scan b) bs)

pub held_is : (bs : List ℕ) (c : Course) → (with_bytes c bs).held ≡ c.held ++ kept c.scan bs
held_is [] c = sym (append-nil c.held)
held_is (b ∷ bs) c = held_is bs (with_byte c b) ∙ by (is_kept c.scan b)
  where
    by : (k : Bool) → cond k (c.held ++ b ∷ []) c.held ++ kept (scanned c.scan b) bs ≡ c.held ++ cond k (b ∷ kept (scanned c.scan b) bs) (kept (scanned c.scan b) bs)
    by true = append_assoc c.held (b ∷ []) (kept (scanned c.scan b) bs)
    by false = refl

-- ---- what is put for many bytes

-- The stream stops with an error.
abbrev pub Breaks : List ℕ → Standing → Type 0
Breaks out last = (stop : Stop) × (out ≡ stop_line stop) × (last ≡ Stopped)

-- A command is answered, and then the rest is taken.
abbrev pub Answers : Course → (rest out : List ℕ) → Standing → Type 0
Answers c rest out last = (now later : List ℕ) × (next : Standing) × IsAnswered c now next × TakesAll next rest later last × (out ≡ now ++ later)

pub silent_stopped : (bs out : List ℕ) (last : Standing) → TakesAll Stopped bs out last → (out ≡ []) × (last ≡ Stopped)
silent_stopped [] out last h = h
silent_stopped (b ∷ bs) out last (now, later, next, t, rest, e) =
    let p = silent_stopped bs later last (subst (λ x. TakesAll x bs later last) t.1 rest) in
    (e ∙ ap₂ (λ (x y : List ℕ). x ++ y) t.0 p.0, p.1)

pub silent_exited : (bs out : List ℕ) (last : Standing) → TakesAll Exited bs out last → (out ≡ []) × (last ≡ Exited)
silent_exited [] out last h = h
silent_exited (b ∷ bs) out last (now, later, next, t, rest, e) =
    let p = silent_exited bs later last (subst (λ x. TakesAll x bs later last) t.1 rest) in
    (e ∙ ap₂ (λ (x y : List ℕ). x ++ y) t.0 p.0, p.1)

not_stray : (a b d e : Bool) → cond a (Some TooLong) (cond b (Some NotScript) (cond d (Some TooDeep) (cond e (Some TooLong) None))) ≡ None → b ≡ false
not_stray true b d e h = absurd cc
not_stray false true d e h = absurd cc
not_stray false false d e h = refl

-- a byte that ends no command
abbrev Goes : (c : Course) (b : ℕ) (out : List ℕ) → Standing → Type 0
Goes c b out last = (out ≡ []) × (last ≡ Waiting (with_byte c b)) × (is_stray c.scan b ≡ false)

byte_within : (c : Course) (b : ℕ) (out : List ℕ) (last : Standing) → ends_command c.scan b ≡ false → Takes (Waiting c) b out last → Breaks out last ⊎ Goes c b out last
byte_within c b out last e h = by (breach c b) refl (subst (λ x. IsPutAt (breach c b) x (with_byte c b) out last) e h)
  where
    by : (o : Option Stop) → breach c b ≡ o → IsPutAt o false (with_byte c b) out last → Breaks out last ⊎ Goes c b out last
    by (Some stop) f k = inl (stop, k.0, k.1)
    by None f k = inr (k.0, k.1, not_stray _ _ _ _ f)

-- a byte that ends one
byte_at_end : (c : Course) (b : ℕ) (out : List ℕ) (last : Standing) → ends_command c.scan b ≡ true → Takes (Waiting c) b out last → Breaks out last ⊎ (IsAnswered (with_byte c b) out last × (is_stray c.scan b ≡ false))
byte_at_end c b out last e h = by (breach c b) refl (subst (λ x. IsPutAt (breach c b) x (with_byte c b) out last) e h)
  where
    by : (o : Option Stop) → breach c b ≡ o → IsPutAt o true (with_byte c b) out last → Breaks out last ⊎ (IsAnswered (with_byte c b) out last × (is_stray c.scan b ≡ false))
    by (Some stop) f k = inl (stop, k.0, k.1)
    by None f k = inr (k, not_stray _ _ _ _ f)

none_more : (x y : Bool) → x ≡ false → y ≡ false → (x || y) ≡ false
none_more x y e f = rw (e, f) refl

-- behind an error nothing is put
breaks_on : (bs now later out : List ℕ) (next last : Standing) → Breaks now next → TakesAll next bs later last → out ≡ now ++ later → Breaks out last
breaks_on bs now later out next last (stop, put, stops) t e =
    let p = silent_stopped bs later last (subst (λ x. TakesAll x bs later last) stops t) in
    (stop, e ∙ ap₂ (λ (x y : List ℕ). x ++ y) put p.0 ∙ append-nil (stop_line stop), p.1)

pub none_in_front : (b : ℕ) (o : Option (List ℕ × List ℕ)) → in_front (b ∷ []) o ≡ None → o ≡ None
none_in_front b (Some p) h = absurd cc
none_in_front b None h = refl

-- Nothing was put for these bytes, of which none is of a token outside brackets, and more are waited for.
abbrev pub Waits : Course → (bs out : List ℕ) → Standing → Type 0
Waits c bs out last = (out ≡ []) × (last ≡ Waiting (with_bytes c bs)) × (any_stray c.scan bs ≡ false)

-- where no command ends, nothing is put but an error
pub within_one : (bs : List ℕ) (c : Course) (out : List ℕ) (last : Standing) → first_command c.scan bs ≡ None → TakesAll (Waiting c) bs out last → Breaks out last ⊎ Waits c bs out last
within_one [] c out last f h = inr (h.0, h.1, refl)
within_one (b ∷ bs) c out last f (now, later, next, t, rest, e) = elim (cases_Bool (ends_command c.scan b)) [
  | inl k ↦ absurd (none (b ∷ [], bs) (sym (cond-true (ends_command c.scan b) (Some (b ∷ [], bs)) (in_front (b ∷ []) (first_command (scanned c.scan b) bs)) k) ∙ f))
  | inr k ↦ by (none_in_front b (first_command (scanned c.scan b) bs) (sym (one_byte c.scan b bs k) ∙ f)) (within_one bs (with_byte c b) later last) (byte_within c b now next k t)
]
  where
    none : (q : List ℕ × List ℕ) → Some q ≡ None → ⊥
    none q x = cc

    by : first_command (scanned c.scan b) bs ≡ None
        → (first_command (scanned c.scan b) bs ≡ None → TakesAll (Waiting (with_byte c b)) bs later last → Breaks later last ⊎ Waits (with_byte c b) bs later last)
        → Breaks now next ⊎ Goes c b now next → Breaks out last ⊎ Waits c (b ∷ bs) out last
    by g again (inl breaks) = inl (breaks_on bs now later out next last breaks rest e)
    by g again (inr goes) = behind (again g (subst (λ x. TakesAll x bs later last) goes.1 rest))
      where
        same : out ≡ later
        same = e ∙ ap (λ x. x ++ later) goes.0

        behind : Breaks later last ⊎ Waits (with_byte c b) bs later last → Breaks out last ⊎ Waits c (b ∷ bs) out last
        behind (inl breaks) = inl (subst (λ x. Breaks x last) (sym same) breaks)
        behind (inr waits) = inr (same ∙ waits.0, waits.1, none_more (is_stray c.scan b) (any_stray (scanned c.scan b) bs) goes.2 waits.2)

-- A command is answered behind these bytes, of which none is of a token outside brackets, and then the rest is taken.
abbrev pub Reaches : Course → (List ℕ × List ℕ) → (out : List ℕ) → Standing → Type 0
Reaches c p out last = Answers (with_bytes c p.0) p.1 out last × (any_stray c.scan p.0 ≡ false)

-- up to the last bracket of the first command nothing is put but an error; then it is answered
pub up_to_end : (bs : List ℕ) (c : Course) (p : List ℕ × List ℕ) (out : List ℕ) (last : Standing) → first_command c.scan bs ≡ Some p → TakesAll (Waiting c) bs out last → Breaks out last ⊎ Reaches c p out last
up_to_end [] c p out last f h = absurd cc
up_to_end (b ∷ bs) c p out last f (now, later, next, t, rest, e) = elim (cases_Bool (ends_command c.scan b)) [
  | inl k ↦ ended (pair (b ∷ [], bs) p (sym (cond-true (ends_command c.scan b) (Some (b ∷ [], bs)) (in_front (b ∷ []) (first_command (scanned c.scan b) bs)) k) ∙ f)) (byte_at_end c b now next k t)
  | inr k ↦ by (front_of b (first_command (scanned c.scan b) bs) p (sym (one_byte c.scan b bs k) ∙ f)) (λ q. up_to_end bs (with_byte c b) q later last) (byte_within c b now next k t)
]
  where
    ended : (b ∷ [], bs) ≡ p → Breaks now next ⊎ (IsAnswered (with_byte c b) now next × (is_stray c.scan b ≡ false)) → Breaks out last ⊎ Reaches c p out last
    ended q (inl breaks) = inl (breaks_on bs now later out next last breaks rest e)
    ended q (inr answered) = inr (subst (λ (x : List ℕ × List ℕ). Reaches c x out last) q ((now, later, next, answered.0, rest, e), none_more (is_stray c.scan b) false answered.1 refl))

    by : (q : List ℕ × List ℕ) × (first_command (scanned c.scan b) bs ≡ Some q) × ((b ∷ q.0, q.1) ≡ p)
        → ((q : List ℕ × List ℕ) → first_command (scanned c.scan b) bs ≡ Some q → TakesAll (Waiting (with_byte c b)) bs later last → Breaks later last ⊎ Reaches (with_byte c b) q later last)
        → Breaks now next ⊎ Goes c b now next → Breaks out last ⊎ Reaches c p out last
    by q again (inl breaks) = inl (breaks_on bs now later out next last breaks rest e)
    by (q, g, whole) again (inr goes) = behind (again q g (subst (λ x. TakesAll x bs later last) goes.1 rest))
      where
        same : out ≡ later
        same = e ∙ ap (λ x. x ++ later) goes.0

        behind : Breaks later last ⊎ Reaches (with_byte c b) q later last → Breaks out last ⊎ Reaches c p out last
        behind (inl breaks) = inl (subst (λ x. Breaks x last) (sym same) breaks)
        behind (inr reaches) =
            inr (subst (λ x. Reaches c p x last) (sym same) (subst (λ (x : List ℕ × List ℕ). Reaches c x later last) whole
            (reaches.0, none_more (is_stray c.scan b) (any_stray (scanned c.scan b) q.0) goes.2 reaches.1)))

closed_last : (s : Scan) (b : ℕ) → ends_command s b ≡ true → scanned s b ≡ at_depth 0 Between
closed_last s b h =
    let p = and_parts (eqb b 41) (is_between s.place && eqb s.depth 1) h in
    let q = and_parts (is_between s.place) (eqb s.depth 1) p.1 in
    ap (scanned s) (eqb-true b 41 p.0) ∙ by s.place s.depth q.0 (eqb-true s.depth 1 q.1)
  where
    by : (x : Place) (d : ℕ) → is_between x ≡ true → d ≡ 1 → scanned_at d x 41 ≡ at_depth 0 Between
    by Between d h e = ap (λ n. at_depth (pred n) Between) e
    by InString d h e = absurd (false≢true h)
    by InComment d h e = absurd (false≢true h)

-- behind a command the scan stands outside brackets
pub ends_outside : (s : Scan) (bs : List ℕ) (p : List ℕ × List ℕ) → first_command s bs ≡ Some p → scanned_all s p.0 ≡ at_depth 0 Between
ends_outside s [] p f = absurd cc
ends_outside s (b ∷ bs) p f = elim (cases_Bool (ends_command s b)) [
  | inl k ↦ ap (λ (x : List ℕ × List ℕ). scanned_all s x.0) (sym (pair (b ∷ [], bs) p (sym (cond-true (ends_command s b) (Some (b ∷ [], bs)) (in_front (b ∷ []) (first_command (scanned s b) bs)) k) ∙ f))) ∙ closed_last s b k
  | inr k ↦ (let q = front_of b (first_command (scanned s b) bs) p (sym (one_byte s b bs k) ∙ f) in
      ap (λ (x : List ℕ × List ℕ). scanned_all s x.0) (sym q.2) ∙ ends_outside (scanned s b) bs q.0 q.1)
]
