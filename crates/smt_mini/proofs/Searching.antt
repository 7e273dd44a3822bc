-- What the search drops and finds.
use Rattle.std.proofs.Common.{◌≡◌, ℕ, ◌^◌, zero, suc, ◌+◌, ◌<◌, ◌≤◌, ◌-◌, Bool, true, false, ◌&&◌, ◌||◌, not, ltb, List, [], ◌∷◌, ◌++◌, length, map, get_or, refl, sym, ap, ap₂, ◌∙◌, subst, inl, inr, append_assoc, Some, None, Result, Ok, Err, arith}
use Rattle.std.specs.Prelude.{IfOk}
use Rattle.std.specs.declared.alloc.AllocError.{AllocError}
use Rattle.std.specs.Bool.{beq}
use Rattle.std.specs.List.{list_all}
use Rattle.std.specs.Option.{option_or}
use Rattle.std.proofs.lemmas.Bool.{and_parts, and_from, cases_Bool, cases_lt, false≢true}
use Rattle.std.proofs.lemmas.List.{get_or-append_right, get_or_append_left, length-append}
use Rattle.law_texts.specs.Options.{◌>>=◌}
use Rattle.law_verdicts.specs.FirstModel.{first_such}
use Rattle.law_verdicts.specs.TruthRows.{May as Possible, allows, has_bit, just, may_and, may_equal, may_not, may_or, row_truths}
use Rattle.law_verdicts.proofs.TruthRows.{AllAllowed, and_allowed, choice_allowed, equal_allowed, just_one, just_three, least_row_is_first, not_allowed, or_allowed, same_such}
use Rattle.std.proofs.Math.Nat.{min-eq_left, min-eq_right, min-le_right}
use Rattle.std.proofs.Math.Pow.{pow_mono}
use Rattle.smt_mini.proofs.RowBits.{above_is, below_is, empty_bit, row_bit, row_long, more, no_more}
use Rattle.smt_mini.specs.Gates.{gate_value, value_at, values_behind}
use Rattle.smt_mini.specs.Search.{Searched, SearchedWith, all_hold, is_alive, lanes_of, may_all_hold, may_of_gate, may_of_input, may_place, mays_of}
use Rattle.smt_mini.specs.declared.gate.Gate.{Gate}
use Rattle.smt_mini.specs.declared.gate.Gate.TheVariants.{Input, Truth, Not, And, Or, Eq, Ite}

-- ---- what is so, may be so

itself_allowed : (b : Bool) → allows (just b) b ≡ true
itself_allowed true = refl
itself_allowed false = refl

place_allowed : (ms : List Possible) (bs : List Bool) → AllAllowed ms bs → (p : ℕ) → allows (may_place ms p) (value_at bs p) ≡ true
place_allowed [] [] h p = refl
place_allowed [] (b ∷ bs) h p = absurd h
place_allowed (m ∷ ms) [] h p = absurd h
place_allowed (m ∷ ms) (b ∷ bs) h zero = h.0
place_allowed (m ∷ ms) (b ∷ bs) h (suc p) = place_allowed ms bs h.1 p

one_more : (ms : List Possible) (bs : List Bool) (m : Possible) (b : Bool) → AllAllowed ms bs → allows m b ≡ true → AllAllowed (ms ++ m ∷ []) (bs ++ b ∷ [])
one_more [] [] m b h k = (k, tt)
one_more [] (c ∷ bs) m b h k = absurd h
one_more (n ∷ ms) [] m b h k = absurd h
one_more (n ∷ ms) (c ∷ bs) m b h k = (h.0, one_more ms bs m b h.1 k)

gate_allowed : (may : ℕ → Possible) (at : ℕ → Bool) → ((k : ℕ) → allows (may k) (at k) ≡ true) → (ms : List Possible) (bs : List Bool) → AllAllowed ms bs → (g : Gate) → allows (may_of_gate may ms g) (gate_value at bs g) ≡ true
gate_allowed may at i ms bs h (Input k) = i k
gate_allowed may at i ms bs h (Truth b) = itself_allowed b
gate_allowed may at i ms bs h (Not a) = not_allowed (may_place ms a) (value_at bs a) (place_allowed ms bs h a)
gate_allowed may at i ms bs h (And a b) = and_allowed (may_place ms a) (may_place ms b) (value_at bs a) (value_at bs b) (place_allowed ms bs h a) (place_allowed ms bs h b)
gate_allowed may at i ms bs h (Or a b) = or_allowed (may_place ms a) (may_place ms b) (value_at bs a) (value_at bs b) (place_allowed ms bs h a) (place_allowed ms bs h b)
gate_allowed may at i ms bs h (Eq a b) = equal_allowed (may_place ms a) (may_place ms b) (value_at bs a) (value_at bs b) (place_allowed ms bs h a) (place_allowed ms bs h b)
gate_allowed may at i ms bs h (Ite a b c) =
    choice_allowed (may_place ms a) (may_place ms b) (may_place ms c) (value_at bs a) (value_at bs b) (value_at bs c) (place_allowed ms bs h a) (place_allowed ms bs h b) (place_allowed ms bs h c)

gates_allowed : (may : ℕ → Possible) (at : ℕ → Bool) → ((k : ℕ) → allows (may k) (at k) ≡ true) → (ms : List Possible) (bs : List Bool) → AllAllowed ms bs → (gs : List Gate) → AllAllowed (mays_of may ms gs) (values_behind at bs gs)
gates_allowed may at i ms bs h [] = h
gates_allowed may at i ms bs h (g ∷ gs) =
    gates_allowed may at i (ms ++ may_of_gate may ms g ∷ []) (bs ++ gate_value at bs g ∷ []) (one_more ms bs (may_of_gate may ms g) (gate_value at bs g) h (gate_allowed may at i ms bs h g)) gs

-- ---- inputs

nothing_behind : (bs : List Bool) (k : ℕ) → length bs ≤ k → get_or bs k false ≡ false
nothing_behind [] k h = refl
nothing_behind (b ∷ bs) zero h = absurd (omega (arith, h))
nothing_behind (b ∷ bs) (suc k) h = nothing_behind bs k (omega (arith, h))

unknown_allows : (b : Bool) → allows (record { holds = true; fails = true }) b ≡ true
unknown_allows true = refl
unknown_allows false = refl

-- what stands in front of the last constants
in_front : (n total k : ℕ) → n + lanes_of total ≡ total → total ≤ k + 6 → n ≤ k
in_front n total k h l = elim (cases_lt total 6) [
  | inl m ↦ (let e = min-eq_left {n = total} {m = 6} (omega (arith, m)) in omega (arith, h, e))
  | inr m ↦ (let e = min-eq_right {n = 6} {m = total} m in omega (arith, h, l, e))
]

-- the last constants have their truths by row
by_row : (chosen mid : List Bool) (total r k : ℕ) → length chosen + length mid + lanes_of total ≡ total → length chosen + length mid ≤ k → k < total → get_or (chosen ++ (mid ++ row_truths (lanes_of total) r)) k false ≡ has_bit r (total - 1 - k)
by_row chosen mid total r k h l m =
    let place : lanes_of total - 1 - (k - length chosen - length mid) ≡ total - 1 - k = omega (arith, h, l, m) in
    get_or-append_right chosen (mid ++ row_truths (lanes_of total) r) (length chosen) k false refl (omega (arith, l))
    ∙ get_or-append_right mid (row_truths (lanes_of total) r) (length mid) (k - length chosen) false refl (omega (arith, l))
    ∙ row_bit (lanes_of total) r (k - length chosen - length mid) (omega (arith, h, l, m))
    ∙ ap (has_bit r) place

input_allowed : (chosen mid : List Bool) (total r k : ℕ) → length chosen + length mid + lanes_of total ≡ total → allows (may_of_input chosen total r k) (get_or (chosen ++ (mid ++ row_truths (lanes_of total) r)) k false) ≡ true
input_allowed chosen mid total r k h = elim (cases_lt k (length chosen)) [
  | inl l ↦ rw (below_is k (length chosen) l, get_or_append_left chosen (mid ++ row_truths (lanes_of total) r) false k l) (itself_allowed (get_or chosen k false))
  | inr l ↦ elim (cases_lt k total) [
    | inl m ↦ elim (cases_lt (k + 6) total) [
      | inl q ↦ rw (above_is k (length chosen) l, below_is k total m, more total (k + 6) q) (unknown_allows (get_or (chosen ++ (mid ++ row_truths (lanes_of total) r)) k false))
      | inr q ↦ rw (above_is k (length chosen) l, below_is k total m, no_more total (k + 6) q, by_row chosen mid total r k h (in_front (length chosen + length mid) total k h q) m) (itself_allowed (has_bit r (total - 1 - k)))
    ]
    | inr m ↦ rw (
      above_is k (length chosen) l,
      above_is k total m,
      nothing_behind (chosen ++ (mid ++ row_truths (lanes_of total) r)) k
          (omega (arith, h, m, length-append chosen (mid ++ row_truths (lanes_of total) r), length-append mid (row_truths (lanes_of total) r), row_long (lanes_of total) r)),
    ) refl
  ]
]

-- ---- assertions

each_may : (ms : List Possible) (bs : List Bool) → AllAllowed ms bs → (ps : List ℕ) → list_all (value_at bs) ps ≡ true → list_all (λ p. (may_place ms p).holds) ps ≡ true
each_may ms bs h [] k = refl
each_may ms bs h (p ∷ ps) k =
    let q = and_parts (value_at bs p) (list_all (value_at bs) ps) k in
    and_from (may_place ms p).holds (list_all (λ x. (may_place ms x).holds) ps) (subst (λ b. allows (may_place ms p) b ≡ true) q.0 (place_allowed ms bs h p)) (each_may ms bs h ps q.1)

-- where a model is behind the chosen truths, each assertion may hold in its row
model_may : (gs : List Gate) (ps : List ℕ) (total r : ℕ) (chosen mid : List Bool) → length chosen + length mid + lanes_of total ≡ total → all_hold gs ps (chosen ++ (mid ++ row_truths (lanes_of total) r)) ≡ true → may_all_hold gs ps total r chosen ≡ true
model_may gs ps total r chosen mid l h =
    let at : ℕ → Bool = λ k. get_or (chosen ++ (mid ++ row_truths (lanes_of total) r)) k false in
    each_may (mays_of (may_of_input chosen total r) [] gs) (values_behind at [] gs) (gates_allowed (may_of_input chosen total r) at (λ k. input_allowed chosen mid total r k l) [] [] tt gs) ps h

-- ---- where all is chosen

just_and : (a b : Bool) → may_and (just a) (just b) ≡ just (a && b)
just_and true true = refl
just_and true false = refl
just_and false b = refl

just_or : (a b : Bool) → may_or (just a) (just b) ≡ just (a || b)
just_or true true = refl
just_or true false = refl
just_or false b = refl

just_equal : (a b : Bool) → may_equal (just a) (just b) ≡ just (beq a b)
just_equal true true = refl
just_equal true false = refl
just_equal false true = refl
just_equal false false = refl

place_just : (bs : List Bool) (p : ℕ) → may_place (map just bs) p ≡ just (value_at bs p)
place_just [] p = refl
place_just (b ∷ bs) zero = refl
place_just (b ∷ bs) (suc p) = place_just bs p

gate_just : (may : ℕ → Possible) (at : ℕ → Bool) → ((k : ℕ) → may k ≡ just (at k)) → (bs : List Bool) (g : Gate) → may_of_gate may (map just bs) g ≡ just (gate_value at bs g)
gate_just may at i bs (Input k) = i k
gate_just may at i bs (Truth b) = refl
gate_just may at i bs (Not a) = ap may_not (place_just bs a) ∙ just_one (value_at bs a)
gate_just may at i bs (And a b) = ap₂ may_and (place_just bs a) (place_just bs b) ∙ just_and (value_at bs a) (value_at bs b)
gate_just may at i bs (Or a b) = ap₂ may_or (place_just bs a) (place_just bs b) ∙ just_or (value_at bs a) (value_at bs b)
gate_just may at i bs (Eq a b) = ap₂ may_equal (place_just bs a) (place_just bs b) ∙ just_equal (value_at bs a) (value_at bs b)
gate_just may at i bs (Ite a b c) = rw (place_just bs a, place_just bs b, place_just bs c) (just_three (value_at bs a) (value_at bs b) (value_at bs c))

just_behind : (bs : List Bool) (b : Bool) → map just bs ++ just b ∷ [] ≡ map just (bs ++ b ∷ [])
just_behind [] b = refl
just_behind (c ∷ bs) b = ap (λ ms. just c ∷ ms) (just_behind bs b)

gates_just : (may : ℕ → Possible) (at : ℕ → Bool) → ((k : ℕ) → may k ≡ just (at k)) → (bs : List Bool) (gs : List Gate) → mays_of may (map just bs) gs ≡ map just (values_behind at bs gs)
gates_just may at i bs [] = refl
gates_just may at i bs (g ∷ gs) =
    ap (λ m. mays_of may (map just bs ++ m ∷ []) gs) (gate_just may at i bs g)
    ∙ ap (λ ms. mays_of may ms gs) (just_behind bs (gate_value at bs g))
    ∙ gates_just may at i (bs ++ gate_value at bs g ∷ []) gs

input_just : (chosen : List Bool) (total r k : ℕ) → length chosen + lanes_of total ≡ total → may_of_input chosen total r k ≡ just (get_or (chosen ++ row_truths (lanes_of total) r) k false)
input_just chosen total r k h = elim (cases_lt k (length chosen)) [
  | inl l ↦ rw (below_is k (length chosen) l, get_or_append_left chosen (row_truths (lanes_of total) r) false k l) refl
  | inr l ↦ elim (cases_lt k total) [
    | inl m ↦ rw (above_is k (length chosen) l, below_is k total m, no_more total (k + 6) (omega (arith, h, l, min-le_right total 6)), by_row chosen [] total r k (omega (arith, h)) (omega (arith, l)) m) refl
    | inr m ↦ rw (above_is k (length chosen) l, above_is k total m, nothing_behind (chosen ++ row_truths (lanes_of total) r) k (omega (arith, h, m, length-append chosen (row_truths (lanes_of total) r), row_long (lanes_of total) r))) refl
  ]
]

each_just : (bs : List Bool) (ps : List ℕ) → list_all (λ p. (may_place (map just bs) p).holds) ps ≡ list_all (value_at bs) ps
each_just bs [] = refl
each_just bs (p ∷ ps) = ap₂ (λ a b. a && b) (ap (λ (m : Possible). m.holds) (place_just bs p)) (each_just bs ps)

chosen_hold : (gs : List Gate) (ps : List ℕ) (total r : ℕ) (chosen : List Bool) → length chosen + lanes_of total ≡ total → may_all_hold gs ps total r chosen ≡ all_hold gs ps (chosen ++ row_truths (lanes_of total) r)
chosen_hold gs ps total r chosen h =
    let at : ℕ → Bool = λ k. get_or (chosen ++ row_truths (lanes_of total) r) k false in
    ap (λ ms. list_all (λ p. (may_place ms p).holds) ps) (gates_just (may_of_input chosen total r) at (λ k. input_just chosen total r k h) [] gs) ∙ each_just (values_behind at [] gs) ps

-- ---- what is found

-- no row behind any truths
none_in_branch : (lanes left : ℕ) (f : List Bool → Bool) → ((mid : List Bool) → length mid ≡ left → (r : ℕ) → r < 2 ^ lanes → f (mid ++ row_truths lanes r) ≡ false) → first_such (left + lanes) f ≡ None
none_in_branch lanes zero f h = let e : zero + lanes ≡ lanes = omega arith in ap (λ n. first_such n f) e ∙ least_row_is_first.none lanes f (λ r l. h [] refl r l)
none_in_branch lanes (suc n) f h =
    let e : suc n + lanes ≡ suc (n + lanes) = omega arith in
    ap (λ m. first_such m f) e
    ∙ ap₂ option_or
    (ap (λ o. o >>= λ bs. Some (false ∷ bs)) (none_in_branch lanes n (λ bs. f (false ∷ bs)) (λ mid l r k. h (false ∷ mid) (ap suc l) r k)))
    (ap (λ o. o >>= λ bs. Some (true ∷ bs)) (none_in_branch lanes n (λ bs. f (true ∷ bs)) (λ mid l r k. h (true ∷ mid) (ap suc l) r k)))

few_rows : (total : ℕ) → 2 ^ lanes_of total ≤ 64
few_rows total = pow_mono {i = lanes_of total} {j = 6} (min-le_right total 6)

-- a row that is not alive has no model
dead_row : (gs : List Gate) (ps : List ℕ) (total : ℕ) (chosen : List Bool) (r : ℕ) → r < 2 ^ lanes_of total → is_alive gs ps total chosen r ≡ false → may_all_hold gs ps total r chosen ≡ false
dead_row gs ps total chosen r l h = ap (λ b. b && may_all_hold gs ps total r chosen) (sym (below_is r (2 ^ lanes_of total) l)) ∙ h

-- what was looked at are the chosen truths
pub seen_alive : (gs : List Gate) (ps : List ℕ) (total alive : ℕ) (seen chosen : List Bool) → seen ≡ chosen → ((r : ℕ) → r < 64 → has_bit alive r ≡ is_alive gs ps total seen r) → (r : ℕ) → r < 64 → has_bit alive r ≡ is_alive gs ps total chosen r
seen_alive gs ps total alive seen chosen e h r l = h r l ∙ ap (λ bs. is_alive gs ps total bs r) e

pub chosen_row : (new chosen : List Bool) (n lanes z : ℕ) → new ≡ chosen ++ row_truths n z → n ≡ lanes → new ≡ chosen ++ row_truths lanes z
chosen_row new chosen n lanes z h e = h ∙ ap (λ m. chosen ++ row_truths m z) e

-- a branch is dropped where no row is alive
pub dropped : (gs : List Gate) (ps : List ℕ) (total left alive : ℕ) (chosen : List Bool) → length chosen + left + lanes_of total ≡ total → ((r : ℕ) → r < 64 → has_bit alive r ≡ is_alive gs ps total chosen r) → alive ≡ 0
    → Searched (all_hold gs ps) (left + lanes_of total) chosen chosen false
dropped gs ps total left alive chosen l h e = (none_in_branch (lanes_of total) left (λ bs. all_hold gs ps (chosen ++ bs)) none, refl)
  where
    none : (mid : List Bool) → length mid ≡ left → (r : ℕ) → r < 2 ^ lanes_of total → all_hold gs ps (chosen ++ (mid ++ row_truths (lanes_of total) r)) ≡ false
    none mid m r k =
        let dead = dead_row gs ps total chosen r k (sym (h r (omega (arith, k, few_rows total))) ∙ ap (λ w. has_bit w r) e ∙ empty_bit r) in
        elim (cases_Bool (all_hold gs ps (chosen ++ (mid ++ row_truths (lanes_of total) r)))) [
          | inl q ↦ absurd (false≢true (sym dead ∙ model_may gs ps total r chosen mid (omega (arith, l, m)) q))
          | inr q ↦ q
        ]

-- where all but the last are chosen the least row that is alive has the first model
pub at_end : (gs : List Gate) (ps : List ℕ) (total left alive z : ℕ) (chosen new : List Bool) → length chosen + left + lanes_of total ≡ total → ((r : ℕ) → r < 64 → has_bit alive r ≡ is_alive gs ps total chosen r)
    → z < 64 → has_bit alive z ≡ true → ((i : ℕ) → i < z → has_bit alive i ≡ false) → left ≡ 0 → new ≡ chosen ++ row_truths (lanes_of total) z → Searched (all_hold gs ps) (left + lanes_of total) chosen new true
at_end gs ps total left alive z chosen new l h low bit least e last =
    let full : length chosen + lanes_of total ≡ total = omega (arith, l, e) in
    let lives = and_parts (ltb z (2 ^ lanes_of total)) (may_all_hold gs ps total z chosen) (sym (h z low) ∙ bit) in
    let few : z < 2 ^ lanes_of total = grind (arith, lives.0) in
    let lanes : left + lanes_of total ≡ lanes_of total = omega (arith, e) in
    let below : (i : ℕ) → i < z → all_hold gs ps (chosen ++ row_truths (lanes_of total) i) ≡ false = λ i k.
    sym (chosen_hold gs ps total i chosen full) ∙ dead_row gs ps total chosen i (omega (arith, k, few)) (sym (h i (omega (arith, k, low))) ∙ least i k) in (
      row_truths (lanes_of total) z,
      ap (λ n. first_such n (λ bs. all_hold gs ps (chosen ++ bs))) lanes
          ∙ least_row_is_first.found (lanes_of total) z (λ bs. all_hold gs ps (chosen ++ bs)) few (sym (chosen_hold gs ps total z chosen full) ∙ lives.1) below,
      last,
    )

-- one more truth was chosen
pub with_one : (holds : List Bool → Bool) (b : Bool) (left : ℕ) (old new : List Bool) (found : Bool) → Searched holds left (old ++ b ∷ []) new found → found ≡ true → SearchedWith holds b left old new true
with_one holds b left old new true s e =
    (s.0, same_such left (λ bs. holds (old ++ b ∷ bs)) (λ bs. holds ((old ++ b ∷ []) ++ bs)) (λ bs. ap holds (sym (append_assoc old (b ∷ []) bs))) ∙ s.1, s.2 ∙ append_assoc old (b ∷ []) s.0)
with_one holds b left old new false s e = absurd (false≢true e)

pub without_one : (holds : List Bool → Bool) (b : Bool) (left : ℕ) (old new last : List Bool) (found : Bool) → Searched holds left (old ++ b ∷ []) new found → found ≡ false → (new ≡ old ++ b ∷ [] → last ≡ old) → SearchedWith holds b left old last false
without_one holds b left old new last false s e k =
    (same_such left (λ bs. holds (old ++ b ∷ bs)) (λ bs. holds ((old ++ b ∷ []) ++ bs)) (λ bs. ap holds (sym (append_assoc old (b ∷ []) bs))) ∙ s.0, k s.1)
without_one holds b left old new last true s e k = absurd (false≢true (sym e))

-- the first of two branches has a model
first_one : (holds : List Bool → Bool) (n : ℕ) (old new : List Bool) → SearchedWith holds false n old new true → Searched holds (suc n) old new true
first_one holds n old new s = (false ∷ s.0, ap (λ o. option_or (o >>= λ bs. Some (false ∷ bs)) (first_such n (λ bs. holds (old ++ true ∷ bs)) >>= λ bs. Some (true ∷ bs))) s.1, s.2)

second_one : (holds : List Bool → Bool) (n : ℕ) (old mid new : List Bool) (found : Bool) → SearchedWith holds false n old mid false → SearchedWith holds true n mid new found → Searched holds (suc n) old new found
second_one holds n old mid new true s t =
    let u = subst (λ x. SearchedWith holds true n x new true) s.1 t in
    (true ∷ u.0, ap₂ (λ o p. option_or (o >>= λ bs. Some (false ∷ bs)) (p >>= λ bs. Some (true ∷ bs))) s.0 u.1, u.2)
second_one holds n old mid new false s t =
    let u = subst (λ x. SearchedWith holds true n x new false) s.1 t in
    (ap₂ (λ o p. option_or (o >>= λ bs. Some (false ∷ bs)) (p >>= λ bs. Some (true ∷ bs))) s.0 u.0, u.1)

first_found : (holds : List Bool → Bool) (left : ℕ) (old new : List Bool) (found : Bool) → 0 < left → SearchedWith holds false (left - 1) old new found → found ≡ true → Searched holds left old new true
first_found holds left old new found l s e =
    let one_less : suc (left - 1) ≡ left = omega (arith, l) in
    subst (λ n. Searched holds n old new true) one_less (first_one holds (left - 1) old new (subst (SearchedWith holds false (left - 1) old new) e s))

second_found : (holds : List Bool → Bool) (left : ℕ) (old mid new : List Bool) (other found : Bool) → 0 < left → SearchedWith holds false (left - 1) old mid other → other ≡ false → SearchedWith holds true (left - 1) mid new found → Searched holds left old new found
second_found holds left old mid new other found l s e t =
    let one_less : suc (left - 1) ≡ left = omega (arith, l) in
    subst (λ n. Searched holds n old new found) one_less (second_one holds (left - 1) old mid new found (subst (SearchedWith holds false (left - 1) old mid) e s) t)

-- the answer of the second branch is passed on
second_passed : (holds : List Bool → Bool) (left : ℕ) (old mid new : List Bool) (other : Bool) (r : Result Bool AllocError) → 0 < left → SearchedWith holds false (left - 1) old mid other → other ≡ false
    → IfOk r (SearchedWith holds true (left - 1) mid new) → IfOk r (Searched holds left old new)
second_passed holds left old mid new other (Ok found) l s e t = second_found holds left old mid new other found l s e t
second_passed holds left old mid new other (Err x) l s e t = tt

pub all_lanes : (total : ℕ) → (total - 6) + lanes_of total ≡ total
all_lanes total = elim (cases_lt total 6) [
  | inl m ↦ (let e = min-eq_left {n = total} {m = 6} (omega (arith, m)) in omega (arith, m, e))
  | inr m ↦ (let e = min-eq_right {n = 6} {m = total} m in omega (arith, m, e))
]

-- so it is in front of the last constants
pub first_before : (holds : List Bool → Bool) (left lanes : ℕ) (old new : List Bool) (found : Bool) → 0 < left → SearchedWith holds false (left - 1 + lanes) old new found → found ≡ true → Searched holds (left + lanes) old new true
first_before holds left lanes old new found l s e =
    let less : left - 1 + lanes ≡ left + lanes - 1 = omega (arith, l) in
    first_found holds (left + lanes) old new found (omega (arith, l)) (subst (λ n. SearchedWith holds false n old new found) less s) e

pub second_before : (holds : List Bool → Bool) (left lanes : ℕ) (old mid new : List Bool) (other : Bool) (r : Result Bool AllocError) → 0 < left → SearchedWith holds false (left - 1 + lanes) old mid other → other ≡ false
    → IfOk r (SearchedWith holds true (left - 1 + lanes) mid new) → IfOk r (Searched holds (left + lanes) old new)
second_before holds left lanes old mid new other r l s e t =
    let less : left - 1 + lanes ≡ left + lanes - 1 = omega (arith, l) in
    second_passed holds (left + lanes) old mid new other r (omega (arith, l)) (subst (λ n. SearchedWith holds false n old mid other) less s) e (subst (λ n. IfOk r (SearchedWith holds true n mid new)) less t)

-- with nothing chosen before
pub none_at_all : (holds : List Bool → Bool) (n : ℕ) (new : List Bool) (found : Bool) → Searched holds n [] new found → found ≡ false → None ≡ first_such n holds
none_at_all holds n new false s e = sym s.0
none_at_all holds n new true s e = absurd (false≢true (sym e))

pub found_at_all : (holds : List Bool → Bool) (n : ℕ) (new : List Bool) (found : Bool) → Searched holds n [] new found → found ≡ true → Some new ≡ first_such n holds
found_at_all holds n new true s e = ap Some s.2 ∙ sym s.1
found_at_all holds n new false s e = absurd (false≢true e)
