-- What formulas may be, in rows; and branches that are dropped.
use Rattle.std.proofs.Common.{◌≡◌, ◌⊎◌, ℕ, zero, suc, ◌+◌, ◌-◌, ◌*◌, ◌^◌, ◌<◌, ◌≤◌, min, max, pow-suc, Bool, true, false, ◌&&◌, ◌||◌, cond, eqb, List, [], ◌∷◌, ◌++◌, length, map, refl, sym, ap, ap₂, ◌∙◌, inl, inr, append_assoc, Option, Some, None, arith}
use Rattle.std.specs.Prelude.{codes, bytes_eq, not}
use Rattle.std.specs.Int.{bit_at}
use Rattle.std.specs.Int.Bits.{bit_and, bit_or}
use Rattle.std.specs.Option.{option_or}
use Rattle.std.proofs.lemmas.Bool.{and_parts, cases_Bool, cases_lt, cond-false, cond-true, false≢true}
use Rattle.std.proofs.lemmas.List.{append-nil}
use Rattle.std.proofs.lemmas.Nat.Bits.{bit_at-lt, bit_at_above, bit_at_and, bit_at_cat_high, bit_at_cat_low, bit_at_or}
use Rattle.law_texts.specs.Lexicon.{Bits, Number, Text, Name}
use Rattle.law_texts.specs.Reading.{Expression, Leaf, Node, Expressions, Nil, Cons}
use Rattle.law_scripts.specs.Script.{count}
use Rattle.law_texts.specs.Options.{◌>>=◌}
use Rattle.law_verdicts.specs.FirstModel.{first_such}
use Rattle.law_verdicts.specs.Fragment.{are_formulas, is_connective, is_formula}
use Rattle.law_verdicts.specs.TruthRows.{BranchesMayBeDropped, FormulasMayBe, LeastRowIsFirst, May, RowsStandAlone, allows, first_behind, has_bit, just, may_and, may_choose, may_connected, may_equal, may_in, may_not, may_or, mays_in, row_truths}
use Rattle.law_verdicts.specs.Truths.{connected, truth_in, truths_in}
use Rattle.std.specs.Bool.{beq}
use Rattle.law_verdicts.proofs.Formulas.{IsWord, is_and, is_choice, is_equal, is_not, is_or, word_of}
use Rattle.law_scripts.proofs.Results.{or_left, or_right}

-- ---- one row

-- The truths are allowed, one by one.
abbrev pub AllAllowed : List May → List Bool → Type 0
AllAllowed [] [] = Unit {0}
AllAllowed [] (b ∷ bs) = ⊥
AllAllowed (m ∷ ms) [] = ⊥
AllAllowed (m ∷ ms) (b ∷ bs) = (allows m b ≡ true) × AllAllowed ms bs

both : (a b : Bool) → a ≡ true → b ≡ true → (a && b) ≡ true
both a b g h = rw (g, h) refl

pub not_allowed : (a : May) (x : Bool) → allows a x ≡ true → allows (may_not a) (not x) ≡ true
not_allowed a true h = h
not_allowed a false h = h

pub and_allowed : (a b : May) (x y : Bool) → allows a x ≡ true → allows b y ≡ true → allows (may_and a b) (x && y) ≡ true
and_allowed a b true true g h = both a.holds b.holds g h
and_allowed a b true false g h = or_right a.fails b.fails h
and_allowed a b false y g h = or_left a.fails b.fails g

pub or_allowed : (a b : May) (x y : Bool) → allows a x ≡ true → allows b y ≡ true → allows (may_or a b) (x || y) ≡ true
or_allowed a b true y g h = or_left a.holds b.holds g
or_allowed a b false true g h = or_right a.holds b.holds h
or_allowed a b false false g h = both a.fails b.fails g h

pub equal_allowed : (a b : May) (x y : Bool) → allows a x ≡ true → allows b y ≡ true → allows (may_equal a b) (beq x y) ≡ true
equal_allowed a b true true g h = or_left (a.holds && b.holds) (a.fails && b.fails) (both a.holds b.holds g h)
equal_allowed a b true false g h = or_left (a.holds && b.fails) (a.fails && b.holds) (both a.holds b.fails g h)
equal_allowed a b false true g h = or_right (a.holds && b.fails) (a.fails && b.holds) (both a.fails b.holds g h)
equal_allowed a b false false g h = or_right (a.holds && b.holds) (a.fails && b.fails) (both a.fails b.fails g h)

pub choice_allowed : (a b c : May) (x y z : Bool) → allows a x ≡ true → allows b y ≡ true → allows c z ≡ true → allows (may_choose a b c) (cond x y z) ≡ true
choice_allowed a b c true true z g h i = or_left (a.holds && b.holds) (a.fails && c.holds) (both a.holds b.holds g h)
choice_allowed a b c true false z g h i = or_left (a.holds && b.fails) (a.fails && c.fails) (both a.holds b.fails g h)
choice_allowed a b c false y true g h i = or_right (a.holds && b.holds) (a.fails && c.holds) (both a.fails c.holds g i)
choice_allowed a b c false y false g h i = or_right (a.holds && b.fails) (a.fails && c.fails) (both a.fails c.fails g i)

-- what a connective gives is allowed of it
word_allowed : (f : List ℕ) (n : ℕ) → IsWord f n → (ms : List May) (bs : List Bool) → length bs ≡ n → AllAllowed ms bs → allows (may_connected f ms) (connected f bs) ≡ true
word_allowed f n w [] (b ∷ bs) l h = absurd h
word_allowed f n w (m ∷ ms) [] l h = absurd h
word_allowed f n is_not [] [] l h = absurd cc
word_allowed f n is_and [] [] l h = absurd cc
word_allowed f n is_or [] [] l h = absurd cc
word_allowed f n is_equal [] [] l h = absurd cc
word_allowed f n is_choice [] [] l h = absurd cc
word_allowed f n w (a ∷ []) (x ∷ []) l h = not_allowed a x h.0
word_allowed f n w (a ∷ []) (x ∷ y ∷ bs) l h = absurd h.1
word_allowed f n w (a ∷ b ∷ ms) (x ∷ []) l h = absurd h.1
word_allowed f n is_and (a ∷ b ∷ []) (x ∷ y ∷ []) l h = and_allowed a b x y h.0 h.1.0
word_allowed f n is_or (a ∷ b ∷ []) (x ∷ y ∷ []) l h = or_allowed a b x y h.0 h.1.0
word_allowed f n is_equal (a ∷ b ∷ []) (x ∷ y ∷ []) l h = equal_allowed a b x y h.0 h.1.0
word_allowed f n is_not (a ∷ b ∷ []) (x ∷ y ∷ []) l h = absurd cc
word_allowed f n is_choice (a ∷ b ∷ []) (x ∷ y ∷ []) l h = absurd cc
word_allowed f n w (a ∷ b ∷ []) (x ∷ y ∷ z ∷ bs) l h = absurd h.1.1
word_allowed f n w (a ∷ b ∷ c ∷ ms) (x ∷ y ∷ []) l h = absurd h.1.1
word_allowed f n w (a ∷ b ∷ c ∷ []) (x ∷ y ∷ z ∷ []) l h = choice_allowed a b c x y z h.0 h.1.0 h.1.1.0
word_allowed f n w (a ∷ b ∷ c ∷ []) (x ∷ y ∷ z ∷ v ∷ bs) l h = absurd h.1.1.1
word_allowed f n w (a ∷ b ∷ c ∷ d ∷ ms) (x ∷ y ∷ z ∷ []) l h = absurd h.1.1.1
word_allowed f n is_not (a ∷ b ∷ c ∷ d ∷ ms) (x ∷ y ∷ z ∷ v ∷ bs) l h = absurd cc
word_allowed f n is_and (a ∷ b ∷ c ∷ d ∷ ms) (x ∷ y ∷ z ∷ v ∷ bs) l h = absurd cc
word_allowed f n is_or (a ∷ b ∷ c ∷ d ∷ ms) (x ∷ y ∷ z ∷ v ∷ bs) l h = absurd cc
word_allowed f n is_equal (a ∷ b ∷ c ∷ d ∷ ms) (x ∷ y ∷ z ∷ v ∷ bs) l h = absurd cc
word_allowed f n is_choice (a ∷ b ∷ c ∷ d ∷ ms) (x ∷ y ∷ z ∷ v ∷ bs) l h = absurd cc

as_many : (truth : List ℕ → Bool) (es : Expressions) → length (truths_in truth es) ≡ count es
as_many truth Nil = refl
as_many truth (Cons e es) = ap suc (as_many truth es)

mutual
  formula_allowed : (has : List ℕ → Bool) (at : List ℕ → May) (truth : List ℕ → Bool) → ((n : List ℕ) → allows (at n) (truth n) ≡ true) → (e : Expression) → is_formula has e ≡ true → allows (may_in at e) (truth_in truth e) ≡ true
  formula_allowed has at truth t (Leaf (Name n)) h = t n
  formula_allowed has at truth t (Leaf (Bits w n)) h = absurd (false≢true h)
  formula_allowed has at truth t (Leaf (Number n)) h = absurd (false≢true h)
  formula_allowed has at truth t (Leaf (Text s)) h = absurd (false≢true h)
  formula_allowed has at truth t (Node Nil) h = absurd (false≢true h)
  formula_allowed has at truth t (Node (Cons (Leaf (Name f)) es)) h =
      let p = and_parts (is_connective f (count es)) (are_formulas has es) h in
      word_allowed f (count es) (word_of f (count es) p.0) (mays_in at es) (truths_in truth es) (as_many truth es) (formulas_allowed has at truth t es p.1)
  formula_allowed has at truth t (Node (Cons (Leaf (Bits w n)) es)) h = absurd (false≢true h)
  formula_allowed has at truth t (Node (Cons (Leaf (Number n)) es)) h = absurd (false≢true h)
  formula_allowed has at truth t (Node (Cons (Leaf (Text s)) es)) h = absurd (false≢true h)
  formula_allowed has at truth t (Node (Cons (Node fs) es)) h = absurd (false≢true h)

  formulas_allowed : (has : List ℕ → Bool) (at : List ℕ → May) (truth : List ℕ → Bool) → ((n : List ℕ) → allows (at n) (truth n) ≡ true) → (es : Expressions) → are_formulas has es ≡ true → AllAllowed (mays_in at es) (truths_in truth es)
  formulas_allowed has at truth t Nil h = tt
  formulas_allowed has at truth t (Cons e es) h =
      let p = and_parts (is_formula has e) (are_formulas has es) h in
      (formula_allowed has at truth t e p.0, formulas_allowed has at truth t es p.1)

-- ---- just one truth

abbrev justs : List Bool → List May
justs bs = map just bs

just_two : (f : List ℕ) (a b : Bool) → may_connected f (just a ∷ just b ∷ []) ≡ just (connected f (a ∷ b ∷ []))
just_two f a b = by (bytes_eq f (codes "and")) (bytes_eq f (codes "or")) a b
  where
    by : (p q x y : Bool) → cond p (may_and (just x) (just y)) (cond q (may_or (just x) (just y)) (may_equal (just x) (just y))) ≡ just (cond p (x && y) (cond q (x || y) (beq x y)))
    by true q true true = refl
    by true q true false = refl
    by true q false true = refl
    by true q false false = refl
    by false true true true = refl
    by false true true false = refl
    by false true false true = refl
    by false true false false = refl
    by false false true true = refl
    by false false true false = refl
    by false false false true = refl
    by false false false false = refl

pub just_three : (a b c : Bool) → may_choose (just a) (just b) (just c) ≡ just (cond a b c)
just_three true true c = refl
just_three true false c = refl
just_three false b true = refl
just_three false b false = refl

pub just_one : (a : Bool) → may_not (just a) ≡ just (not a)
just_one true = refl
just_one false = refl

word_just : (f : List ℕ) (n : ℕ) → IsWord f n → (bs : List Bool) → length bs ≡ n → may_connected f (justs bs) ≡ just (connected f bs)
word_just f n is_not [] l = absurd cc
word_just f n is_and [] l = absurd cc
word_just f n is_or [] l = absurd cc
word_just f n is_equal [] l = absurd cc
word_just f n is_choice [] l = absurd cc
word_just f n w (a ∷ []) l = just_one a
word_just f n w (a ∷ b ∷ []) l = just_two f a b
word_just f n w (a ∷ b ∷ c ∷ []) l = just_three a b c
word_just f n is_not (a ∷ b ∷ c ∷ d ∷ bs) l = absurd cc
word_just f n is_and (a ∷ b ∷ c ∷ d ∷ bs) l = absurd cc
word_just f n is_or (a ∷ b ∷ c ∷ d ∷ bs) l = absurd cc
word_just f n is_equal (a ∷ b ∷ c ∷ d ∷ bs) l = absurd cc
word_just f n is_choice (a ∷ b ∷ c ∷ d ∷ bs) l = absurd cc

mutual
  formula_just : (has truth : List ℕ → Bool) (e : Expression) → is_formula has e ≡ true → may_in (λ n. just (truth n)) e ≡ just (truth_in truth e)
  formula_just has truth (Leaf (Name n)) h = refl
  formula_just has truth (Leaf (Bits w n)) h = absurd (false≢true h)
  formula_just has truth (Leaf (Number n)) h = absurd (false≢true h)
  formula_just has truth (Leaf (Text s)) h = absurd (false≢true h)
  formula_just has truth (Node Nil) h = absurd (false≢true h)
  formula_just has truth (Node (Cons (Leaf (Name f)) es)) h =
      let p = and_parts (is_connective f (count es)) (are_formulas has es) h in
      ap (may_connected f) (formulas_just has truth es p.1) ∙ word_just f (count es) (word_of f (count es) p.0) (truths_in truth es) (as_many truth es)
  formula_just has truth (Node (Cons (Leaf (Bits w n)) es)) h = absurd (false≢true h)
  formula_just has truth (Node (Cons (Leaf (Number n)) es)) h = absurd (false≢true h)
  formula_just has truth (Node (Cons (Leaf (Text s)) es)) h = absurd (false≢true h)
  formula_just has truth (Node (Cons (Node fs) es)) h = absurd (false≢true h)

  formulas_just : (has truth : List ℕ → Bool) (es : Expressions) → are_formulas has es ≡ true → mays_in (λ n. just (truth n)) es ≡ justs (truths_in truth es)
  formulas_just has truth Nil h = refl
  formulas_just has truth (Cons e es) h =
      let p = and_parts (is_formula has e) (are_formulas has es) h in
      ap₂ (λ (m : May) (ms : List May). m ∷ ms) (formula_just has truth e p.0) (formulas_just has truth es p.1)

pub formulas_may_be : FormulasMayBe
formulas_may_be = record { allowed = λ has at truth e t h. formula_allowed has at truth t e h; exact = formula_just }

-- ---- the rows of a word

-- a bit is one of two
two : (x : ℕ) → x < 2 → (x ≡ 0) ⊎ (x ≡ 1)
two zero h = inl refl
two (suc zero) h = inr refl
two (suc (suc x)) h = absurd (omega (arith, h))

least : (x y : ℕ) → (x ≡ 0) ⊎ (x ≡ 1) → (y ≡ 0) ⊎ (y ≡ 1) → eqb (min x y) 1 ≡ (eqb x 1 && eqb y 1)
least x y (inl e) (inl f) = rw (e, f) refl
least x y (inl e) (inr f) = rw (e, f) refl
least x y (inr e) (inl f) = rw (e, f) refl
least x y (inr e) (inr f) = rw (e, f) refl

greatest : (x y : ℕ) → (x ≡ 0) ⊎ (x ≡ 1) → (y ≡ 0) ⊎ (y ≡ 1) → eqb (max x y) 1 ≡ (eqb x 1 || eqb y 1)
greatest x y (inl e) (inl f) = rw (e, f) refl
greatest x y (inl e) (inr f) = rw (e, f) refl
greatest x y (inr e) (inl f) = rw (e, f) refl
greatest x y (inr e) (inr f) = rw (e, f) refl

bit_of_and : (k a b : ℕ) → has_bit (bit_and a b) k ≡ (has_bit a k && has_bit b k)
bit_of_and k a b = ap (λ x. eqb x 1) (bit_at_and a b k) ∙ least (bit_at a k) (bit_at b k) (two (bit_at a k) (bit_at-lt a k)) (two (bit_at b k) (bit_at-lt b k))

bit_of_or : (k a b : ℕ) → has_bit (bit_or a b) k ≡ (has_bit a k || has_bit b k)
bit_of_or k a b = ap (λ x. eqb x 1) (bit_at_or a b k) ∙ greatest (bit_at a k) (bit_at b k) (two (bit_at a k) (bit_at-lt a k)) (two (bit_at b k) (bit_at-lt b k))

-- a disjunction of conjunctions
bit_of_both : (k a b c d : ℕ) → has_bit (bit_or (bit_and a b) (bit_and c d)) k ≡ ((has_bit a k && has_bit b k) || (has_bit c k && has_bit d k))
bit_of_both k a b c d = bit_of_or k (bit_and a b) (bit_and c d) ∙ ap₂ (λ (x y : Bool). x || y) (bit_of_and k a b) (bit_of_and k c d)

abbrev may : Bool → Bool → May
may x y = record { holds = x; fails = y }

pub rows_stand_alone : RowsStandAlone
rows_stand_alone = record {
  negation = λ k a. refl;
  conjunction = λ k a b. ap₂ may (bit_of_and k a.holds b.holds) (bit_of_or k a.fails b.fails);
  disjunction = λ k a b. ap₂ may (bit_of_or k a.holds b.holds) (bit_of_and k a.fails b.fails);
  equality = λ k a b. ap₂ may (bit_of_both k a.holds b.holds a.fails b.fails) (bit_of_both k a.holds b.fails a.fails b.holds);
  choice = λ k a b c. ap₂ may (bit_of_both k a.holds b.holds a.fails c.holds) (bit_of_both k a.holds b.fails a.fails c.fails);
}

-- ---- dropped branches

-- what is found behind the chosen truths, with these in front
abbrev in_front : List Bool → Option (List Bool) → Option (List Bool)
in_front chosen o = o >>= λ bs. Some (chosen ++ bs)

front_or : (chosen : List Bool) (o p : Option (List Bool)) → in_front chosen (option_or o p) ≡ option_or (in_front chosen o) (in_front chosen p)
front_or chosen (Some x) p = refl
front_or chosen None p = refl

front_one : (chosen : List Bool) (b : Bool) (o : Option (List Bool)) → in_front (chosen ++ b ∷ []) o ≡ in_front chosen (o >>= λ bs. Some (b ∷ bs))
front_one chosen b (Some bs) = ap Some (append_assoc chosen (b ∷ []) bs)
front_one chosen b None = refl

-- the test behind the chosen truths
abbrev behind : List Bool → (List Bool → Bool) → List Bool → Bool
behind chosen holds bs = holds (chosen ++ bs)

pub same_such : (n : ℕ) (f g : List Bool → Bool) → ((bs : List Bool) → f bs ≡ g bs) → first_such n f ≡ first_such n g
same_such zero f g h = ap (λ b. cond b (Some []) None) (h [])
same_such (suc n) f g h = ap₂ option_or
    (ap (λ o. o >>= λ bs. Some (false ∷ bs)) (same_such n (λ bs. f (false ∷ bs)) (λ bs. g (false ∷ bs)) (λ bs. h (false ∷ bs))))
    (ap (λ o. o >>= λ bs. Some (true ∷ bs)) (same_such n (λ bs. f (true ∷ bs)) (λ bs. g (true ∷ bs)) (λ bs. h (true ∷ bs))))

-- where the test never holds nothing is found
never_such : (n : ℕ) (f : List Bool → Bool) → ((bs : List Bool) → f bs ≡ false) → first_such n f ≡ None
never_such zero f h = ap (λ b. cond b (Some []) None) (h [])
never_such (suc n) f h = ap₂ option_or
    (ap (λ o. o >>= λ bs. Some (false ∷ bs)) (never_such n (λ bs. f (false ∷ bs)) (λ bs. h (false ∷ bs))))
    (ap (λ o. o >>= λ bs. Some (true ∷ bs)) (never_such n (λ bs. f (true ∷ bs)) (λ bs. h (true ∷ bs))))

-- Nothing comes of a dropped branch.
abbrev Fits : (may holds : List Bool → Bool) → Type 0
Fits may holds = (chosen rest : List Bool) → holds (chosen ++ rest) ≡ true → may chosen ≡ true

never_holds : (may holds : List Bool → Bool) → Fits may holds → (chosen : List Bool) → may chosen ≡ false → (bs : List Bool) → holds (chosen ++ bs) ≡ false
never_holds may holds fits chosen e bs = elim (cases_Bool (holds (chosen ++ bs))) [ inl h ↦ absurd (false≢true (sym e ∙ fits chosen bs h)) | inr h ↦ h ]

found_behind : (n : ℕ) (may holds : List Bool → Bool) → Fits may holds → (chosen : List Bool) → first_behind n may holds chosen ≡ in_front chosen (first_such n (behind chosen holds))
found_behind zero may holds fits chosen = elim (cases_Bool (may chosen)) [
  | inl e ↦ ap (λ b. cond (b && holds chosen) (Some chosen) None) e ∙ at_end (holds chosen) ∙ ap (λ t. in_front chosen (cond (holds t) (Some []) None)) (sym (append-nil chosen))
  | inr e ↦ ap (λ b. cond (b && holds chosen) (Some chosen) None) e ∙ sym (ap (in_front chosen) (never_such zero (behind chosen holds) (never_holds may holds fits chosen e)))
]
  where
    at_end : (b : Bool) → cond b (Some chosen) None ≡ in_front chosen (cond b (Some []) None)
    at_end true = ap Some (sym (append-nil chosen))
    at_end false = refl
found_behind (suc n) may holds fits chosen = elim (cases_Bool (may chosen)) [
  | inl e ↦ cond-true (may chosen) _ None e
      ∙ ap₂ option_or (found_behind n may holds fits (chosen ++ false ∷ []) ∙ one false) (found_behind n may holds fits (chosen ++ true ∷ []) ∙ one true)
      ∙ sym (front_or chosen (first_such n (λ bs. behind chosen holds (false ∷ bs)) >>= λ bs. Some (false ∷ bs)) (first_such n (λ bs. behind chosen holds (true ∷ bs)) >>= λ bs. Some (true ∷ bs)))
  | inr e ↦ cond-false (may chosen) _ None e ∙ sym (ap (in_front chosen) (never_such (suc n) (behind chosen holds) (never_holds may holds fits chosen e)))
]
  where
    one : (b : Bool) → in_front (chosen ++ b ∷ []) (first_such n (behind (chosen ++ b ∷ []) holds)) ≡ in_front chosen (first_such n (λ bs. behind chosen holds (b ∷ bs)) >>= λ bs. Some (b ∷ bs))
    one b = ap (in_front (chosen ++ b ∷ [])) (same_such n (behind (chosen ++ b ∷ []) holds) (λ bs. behind chosen holds (b ∷ bs)) (λ bs. ap holds (append_assoc chosen (b ∷ []) bs)))
        ∙ front_one chosen b (first_such n (λ bs. behind chosen holds (b ∷ bs)))

front_nothing : (o : Option (List Bool)) → in_front [] o ≡ o
front_nothing (Some bs) = refl
front_nothing None = refl

pub branches_may_be_dropped : BranchesMayBeDropped
branches_may_be_dropped n may holds fits = found_behind n may holds fits [] ∙ front_nothing (first_such n holds)

-- ---- the least row

abbrev Test : Type 0
Test = List Bool → Bool

low_bit : (n k : ℕ) → k < 2 ^ n → row_truths (suc n) k ≡ false ∷ row_truths n k
low_bit n k h = ap (λ x. eqb x 1 ∷ row_truths n k) (bit_at_above k n n h (omega arith))

-- the bits below a place
below : (m n k : ℕ) → m ≤ n → row_truths m (1 * 2 ^ n + k) ≡ row_truths m k
below zero n k h = refl
below (suc m) n k h = ap₂ (λ (x : ℕ) (xs : List Bool). eqb x 1 ∷ xs) (bit_at_cat_low 1 n k m (omega (arith, h))) (below m n k (omega (arith, h)))

high_bit : (n k : ℕ) → k < 2 ^ n → row_truths (suc n) (1 * 2 ^ n + k) ≡ true ∷ row_truths n k
high_bit n k h =
    let place : n - n ≡ 0 = omega arith in
    ap₂ (λ (x : ℕ) (xs : List Bool). eqb x 1 ∷ xs) (bit_at_cat_high 1 n k n h (omega arith) ∙ ap (bit_at 1) place) (below n n k (omega arith))

none_in_rows : (n : ℕ) (holds : Test) → ((i : ℕ) → i < 2 ^ n → holds (row_truths n i) ≡ false) → first_such n holds ≡ None
none_in_rows zero holds h = ap (λ b. cond b (Some []) None) (h 0 (omega arith))
none_in_rows (suc n) holds h =
    let double : 2 ^ suc n ≡ 2 ^ n + 2 ^ n = omega (arith, pow-suc 2 n) in
    ap₂ option_or
    (ap (λ o. o >>= λ bs. Some (false ∷ bs)) (none_in_rows n (λ bs. holds (false ∷ bs)) (λ i k. ap holds (sym (low_bit n i k)) ∙ h i (omega (arith, k, double)))))
    (ap (λ o. o >>= λ bs. Some (true ∷ bs)) (none_in_rows n (λ bs. holds (true ∷ bs)) (λ i k. ap holds (sym (high_bit n i k)) ∙ h (1 * 2 ^ n + i) (omega (arith, k, double)))))

least_row : (n k : ℕ) (holds : Test) → k < 2 ^ n → holds (row_truths n k) ≡ true → ((i : ℕ) → i < k → holds (row_truths n i) ≡ false) → first_such n holds ≡ Some (row_truths n k)
least_row zero k holds l h f = ap (λ b. cond b (Some []) None) h
least_row (suc n) k holds l h f = elim (cases_lt k (2 ^ n)) [
  | inl e ↦ (let same = low_bit n k e in
      ap (λ o. option_or (o >>= λ bs. Some (false ∷ bs)) (first_such n (λ bs. holds (true ∷ bs)) >>= λ bs. Some (true ∷ bs)))
      (least_row n k (λ bs. holds (false ∷ bs)) e (ap holds (sym same) ∙ h) (λ i q. ap holds (sym (low_bit n i (omega (arith, q, e)))) ∙ f i q))
      ∙ ap Some (sym same))
  | inr e ↦ (let double : 2 ^ suc n ≡ 2 ^ n + 2 ^ n = omega (arith, pow-suc 2 n) in
      let m = k - 2 ^ n in
      let small : m < 2 ^ n = omega (arith, l, e, double) in
      let split : k ≡ 1 * 2 ^ n + m = omega (arith, e) in
      let same : row_truths (suc n) k ≡ true ∷ row_truths n m = ap (row_truths (suc n)) split ∙ high_bit n m small in
      ap₂ (λ (o p : Option (List Bool)). option_or (o >>= λ bs. Some (false ∷ bs)) (p >>= λ bs. Some (true ∷ bs)))
      (none_in_rows n (λ bs. holds (false ∷ bs)) (λ i q. ap holds (sym (low_bit n i q)) ∙ f i (omega (arith, q, e))))
      (least_row n m (λ bs. holds (true ∷ bs)) small (ap holds (sym same) ∙ h) (λ i q. ap holds (sym (high_bit n i (omega (arith, q, small)))) ∙ f (1 * 2 ^ n + i) (omega (arith, q, e))))
      ∙ ap Some (sym same))
]

pub least_row_is_first : LeastRowIsFirst
least_row_is_first = record { found = least_row; none = none_in_rows; words = refl }
