-- A text has one reading.
use Rattle.std.proofs.Common.{ap₂, inl, inr, ◌≡◌, ℕ, Bool, true, false, not, ◌&&◌, ◌||◌, cond, eqb, List, [], ◌<◌, ◌∷◌, ◌++◌, refl, sym, ap, ◌∙◌, append_assoc, arith}
use Rattle.std.specs.Prelude.{codes}
use Rattle.std.specs.List.{flat_map, list_all}
use Rattle.std.proofs.lemmas.List.{append_cancel_left}
use Rattle.std.proofs.lemmas.Bool.{and_parts, false≢true, eqb-true, eq-eqb, cases_Bool, or_cases, cond-true, cond-false, not-true}
use Rattle.std.specs.Str.{is_utf8}
use Rattle.law_texts.specs.Front.{begins_without}
use Rattle.law_texts.proofs.Runs.{head_is, one_run}
use Rattle.law_texts.specs.Lexicon.{Piece, Space, Comment, Open, Close, Quoted, Binary, Hexadecimal, Numeral, Symbol, spelling, spell, some_all, is_symbol, is_piece, goes_on, stops, each_longest, quote_twice, is_line_end, is_binary, is_hexadecimal, is_digit, is_symbol_byte, is_space}

-- ---- strings

pub twice_quote : (y : ℕ) (ys t : List ℕ) → eqb y 34 ≡ true → flat_map quote_twice (y ∷ ys) ++ t ≡ 34 ∷ 34 ∷ (flat_map quote_twice ys ++ t)
twice_quote y ys t e = rw e refl

pub twice_other : (y : ℕ) (ys t : List ℕ) → eqb y 34 ≡ false → flat_map quote_twice (y ∷ ys) ++ t ≡ y ∷ (flat_map quote_twice ys ++ t)
twice_other y ys t e = rw e refl

-- a string doesn't end before the other does
pub not_sooner : (y : ℕ) (ys r t : List ℕ) → begins_without (λ b. eqb b 34) r ≡ true → 34 ∷ r ≡ flat_map quote_twice (y ∷ ys) ++ t → ⊥
not_sooner y ys r t hr e = elim (cases_Bool (eqb y 34)) [
  | inl q ↦ two r hr (head_is 34 34 r (34 ∷ (flat_map quote_twice ys ++ t)) (e ∙ twice_quote y ys t q)).1
  | inr q ↦ (let h = head_is 34 y r (flat_map quote_twice ys ++ t) (e ∙ twice_other y ys t q) in false≢true (sym q ∙ eq-eqb y 34 (sym h.0)))
]
  where
    two : (s : List ℕ) → begins_without (λ b. eqb b 34) s ≡ true → s ≡ 34 ∷ (flat_map quote_twice ys ++ t) → ⊥
    two [] h f = cc
    two (b ∷ s) h f = false≢true (ap (λ n. not (eqb n 34)) (sym (head_is b 34 s (flat_map quote_twice ys ++ t) f).0) ∙ h)

pub one_string : (xs ys r s : List ℕ) → begins_without (λ b. eqb b 34) r ≡ true → begins_without (λ b. eqb b 34) s ≡ true → flat_map quote_twice xs ++ (34 ∷ r) ≡ flat_map quote_twice ys ++ (34 ∷ s) → (xs ≡ ys) × (r ≡ s)
one_string [] [] r s hr hs e = (refl, (head_is 34 34 r s e).1)
one_string [] (y ∷ ys) r s hr hs e = absurd (not_sooner y ys r (34 ∷ s) hr e)
one_string (x ∷ xs) [] r s hr hs e = absurd (not_sooner x xs s (34 ∷ r) hs (sym e))
one_string (x ∷ xs) (y ∷ ys) r s hr hs e =
    let u = flat_map quote_twice xs ++ (34 ∷ r) in
    let v = flat_map quote_twice ys ++ (34 ∷ s) in
    let again : u ≡ v → x ≡ y → (x ∷ xs ≡ y ∷ ys) × (r ≡ s) = λ f g. (let t = one_string xs ys r s hr hs f in (ap₂ (λ (a : ℕ) (w : List ℕ). a ∷ w) g t.0, t.1)) in
    elim (cases_Bool (eqb x 34)) [
      | inl p ↦ elim (cases_Bool (eqb y 34)) [
        | inl q ↦ again (head_is 34 34 u v (head_is 34 34 (34 ∷ u) (34 ∷ v) (sym (twice_quote x xs (34 ∷ r) p) ∙ e ∙ twice_quote y ys (34 ∷ s) q)).1).1 (eqb-true x 34 p ∙ sym (eqb-true y 34 q))
        | inr q ↦ absurd (false≢true (sym q ∙ eq-eqb y 34 (sym (head_is 34 y (34 ∷ u) v (sym (twice_quote x xs (34 ∷ r) p) ∙ e ∙ twice_other y ys (34 ∷ s) q)).0)))
      ]
      | inr p ↦ elim (cases_Bool (eqb y 34)) [
        | inl q ↦ absurd (false≢true (sym p ∙ eq-eqb x 34 (head_is x 34 u (34 ∷ v) (sym (twice_other x xs (34 ∷ r) p) ∙ e ∙ twice_quote y ys (34 ∷ s) q)).0))
        | inr q ↦ (let h = head_is x y u v (sym (twice_other x xs (34 ∷ r) p) ∙ e ∙ twice_other y ys (34 ∷ s) q) in again h.1 h.0)
      ]
    ]

-- ---- which piece begins a text

abbrev pub number : Piece → ℕ
number (Space b) = 0
number (Comment t) = 1
number Open = 2
number Close = 3
number (Quoted t) = 4
number (Binary t) = 5
number (Hexadecimal t) = 6
number (Numeral t) = 7
number (Symbol t) = 8

abbrev pub second : List ℕ → ℕ
second [] = 9
second (b ∷ bs) = cond (eqb b 98) 5 6

abbrev pub kind : List ℕ → ℕ
kind [] = 9
kind (b ∷ bs) = cond (is_digit b) 7 (cond (is_symbol_byte b) 8 (cond (is_space b) 0 (cond (eqb b 59) 1 (cond (eqb b 40) 2 (cond (eqb b 41) 3 (cond (eqb b 34) 4 (second bs)))))))

pub kind_space : (b : ℕ) (r : List ℕ) → is_space b ≡ true → kind (b ∷ r) ≡ 0
kind_space b r h = elim (or_cases ((eqb b 32 || eqb b 9) || is_line_end b) (eqb b 12) h) [
  | inr e ↦ rw (eqb-true b 12 e) refl
  | inl f ↦ elim (or_cases (eqb b 32 || eqb b 9) (is_line_end b) f) [
    | inl g ↦ elim (or_cases (eqb b 32) (eqb b 9) g) [
      | inl e ↦ rw (eqb-true b 32 e) refl
      | inr e ↦ rw (eqb-true b 9 e) refl
    ]
    | inr k ↦ elim (or_cases (eqb b 10) (eqb b 13) k) [
      | inl e ↦ rw (eqb-true b 10 e) refl
      | inr e ↦ rw (eqb-true b 13 e) refl
    ]
  ]
]

pub kind_is : (x : Piece) (r : List ℕ) → is_piece x ≡ true → kind (spelling x ++ r) ≡ number x
kind_is (Space b) r h = kind_space b r h
kind_is (Comment t) r h = refl
kind_is Open r h = refl
kind_is Close r h = refl
kind_is (Quoted t) r h = refl
kind_is (Binary t) r h = refl
kind_is (Hexadecimal t) r h = refl
kind_is (Numeral []) r h = absurd (false≢true h)
kind_is (Numeral (d ∷ ds)) r h = cond-true (is_digit d) 7 _ (and_parts (is_digit d) (list_all is_digit ds) h).0
kind_is (Symbol []) r h = absurd (false≢true h)
kind_is (Symbol (c ∷ cs)) r h =
    let p = and_parts (not (is_digit c)) (some_all is_symbol_byte (c ∷ cs)) (and_parts (is_symbol (c ∷ cs)) (is_utf8 (c ∷ cs)) h).0 in
    cond-false (is_digit c) 7 _ (not-true (is_digit c) p.0) ∙ cond-true (is_symbol_byte c) 8 _ (and_parts (is_symbol_byte c) (list_all is_symbol_byte cs) p.1).0

-- ---- the first piece

all_of_some : (test : ℕ → Bool) (bs : List ℕ) → some_all test bs ≡ true → list_all test bs ≡ true
all_of_some test [] h = refl
all_of_some test (b ∷ bs) h = h

pub all_of_symbol : (bs : List ℕ) → is_symbol bs ≡ true → list_all is_symbol_byte bs ≡ true
all_of_symbol [] h = refl
all_of_symbol (b ∷ bs) h = (and_parts (not (is_digit b)) (some_all is_symbol_byte (b ∷ bs)) h).1

pub run_ends : (x : Piece) (r : List ℕ) → stops x r ≡ true → begins_without (goes_on x) r ≡ true
run_ends x [] h = refl
run_ends x (b ∷ r) h = h

same_kind : (x y : Piece) (r s : List ℕ) → number x ≡ number y → is_piece x ≡ true → is_piece y ≡ true → stops x r ≡ true → stops y s ≡ true → spelling x ++ r ≡ spelling y ++ s → (x ≡ y) × (r ≡ s)
same_kind (Space a) (Space b) r s n hx hy hr hs e = let h = head_is a b r s e in (ap Space h.0, h.1)
same_kind (Comment a) (Comment b) r s n hx hy hr hs e =
    let t = one_run (λ k. not (is_line_end k)) a b r s hx hy (run_ends (Comment a) r hr) (run_ends (Comment b) s hs) (head_is 59 59 (a ++ r) (b ++ s) e).1 in (ap Comment t.0, t.1)
same_kind Open Open r s n hx hy hr hs e = (refl, (head_is 40 40 r s e).1)
same_kind Close Close r s n hx hy hr hs e = (refl, (head_is 41 41 r s e).1)
same_kind (Quoted a) (Quoted b) r s n hx hy hr hs e =
    let f = (head_is 34 34 ((flat_map quote_twice a ++ 34 ∷ []) ++ r) ((flat_map quote_twice b ++ 34 ∷ []) ++ s) e).1 in
    let g = sym (append_assoc (flat_map quote_twice a) (34 ∷ []) r) ∙ f ∙ append_assoc (flat_map quote_twice b) (34 ∷ []) s in
    let t = one_string a b r s (run_ends (Quoted a) r hr) (run_ends (Quoted b) s hs) g in (ap Quoted t.0, t.1)
same_kind (Binary a) (Binary b) r s n hx hy hr hs e =
    let t = one_run is_binary a b r s (all_of_some is_binary a hx) (all_of_some is_binary b hy) (run_ends (Binary a) r hr) (run_ends (Binary b) s hs) (append_cancel_left (codes "#b") (a ++ r) (b ++ s) e) in (ap Binary t.0, t.1)
same_kind (Hexadecimal a) (Hexadecimal b) r s n hx hy hr hs e =
    let t = one_run is_hexadecimal a b r s (all_of_some is_hexadecimal a hx) (all_of_some is_hexadecimal b hy) (run_ends (Hexadecimal a) r hr) (run_ends (Hexadecimal b) s hs) (append_cancel_left (codes "#x") (a ++ r) (b ++ s) e) in (ap Hexadecimal t.0, t.1)
same_kind (Numeral a) (Numeral b) r s n hx hy hr hs e =
    let t = one_run is_digit a b r s (all_of_some is_digit a hx) (all_of_some is_digit b hy) (run_ends (Numeral a) r hr) (run_ends (Numeral b) s hs) e in (ap Numeral t.0, t.1)
same_kind (Symbol a) (Symbol b) r s n hx hy hr hs e =
    let t = one_run is_symbol_byte a b r s (all_of_symbol a (and_parts (is_symbol a) (is_utf8 a) hx).0) (all_of_symbol b (and_parts (is_symbol b) (is_utf8 b) hy).0) (run_ends (Symbol a) r hr) (run_ends (Symbol b) s hs) e in (ap Symbol t.0, t.1)
same_kind x y r s n hx hy hr hs e = absurd (cc)

pub first_one : (x y : Piece) (r s : List ℕ) → is_piece x ≡ true → is_piece y ≡ true → stops x r ≡ true → stops y s ≡ true → spelling x ++ r ≡ spelling y ++ s → (x ≡ y) × (r ≡ s)
first_one x y r s hx hy hr hs e = same_kind x y r s (sym (kind_is x r hx) ∙ ap kind e ∙ kind_is y s hy) hx hy hr hs e

pub begins : (x : Piece) (r : List ℕ) → is_piece x ≡ true → [] ≡ spelling x ++ r → ⊥
begins x r h e = no (number x) (number_small x) (ap kind e ∙ kind_is x r h)
  where
    no : (n : ℕ) → n < 9 → 9 ≡ n → ⊥
    no n l q = omega arith

    number_small : (p : Piece) → number p < 9
    number_small (Space b) = omega arith
    number_small (Comment t) = omega arith
    number_small Open = omega arith
    number_small Close = omega arith
    number_small (Quoted t) = omega arith
    number_small (Binary t) = omega arith
    number_small (Hexadecimal t) = omega arith
    number_small (Numeral t) = omega arith
    number_small (Symbol t) = omega arith

-- A text is cut in one way.
pub one_cut : (xs ys : List Piece) → each_longest xs ≡ true → each_longest ys ≡ true → spell xs ≡ spell ys → xs ≡ ys
one_cut [] [] h k e = refl
one_cut [] (y ∷ ys) h k e = absurd (begins y (spell ys) (and_parts (is_piece y) _ k).0 e)
one_cut (x ∷ xs) [] h k e = absurd (begins x (spell xs) (and_parts (is_piece x) _ h).0 (sym e))
one_cut (x ∷ xs) (y ∷ ys) h k e =
    let p = and_parts (is_piece x) (stops x (spell xs) && each_longest xs) h in
    let q = and_parts (is_piece y) (stops y (spell ys) && each_longest ys) k in
    let p' = and_parts (stops x (spell xs)) (each_longest xs) p.1 in
    let q' = and_parts (stops y (spell ys)) (each_longest ys) q.1 in
    let f = first_one x y (spell xs) (spell ys) p.0 q.0 p'.0 q'.0 e in
    ap₂ (λ (a : Piece) (v : List Piece). a ∷ v) f.0 (one_cut xs ys p'.1 q'.1 f.1)
