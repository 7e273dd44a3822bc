-- Runs of digits and signs at the front of a text: there is one reading.
use Rattle.std.proofs.Common.{inl, inr, ap₂, ◌≡◌, ℕ, ◌-◌, ◌≤◌, ◌&&◌, reverse, Bool, true, false, not, eqb, List, [], ◌∷◌, ◌++◌, refl, sym, ap, ◌∙◌, take, drop, length, arith}
use Rattle.std.specs.List.{list_all, prefix_len, take_while}
use Rattle.std.proofs.Math.Numerals.{one-add}
use Rattle.std.proofs.Math.Seq.{take-append_seam, drop-append_seam}
use Rattle.std.proofs.lemmas.List.{reverse-reverse, reverse-append, length-reverse, length-drop}
use Rattle.std.proofs.lemmas.Bool.{and_parts, and_from, cases_Bool, eqb-true, not_from_false, not_from_true, false≢true}
use Rattle.std.proofs.lemmas.List.Folds.{length-prefix_len, list_all-append}
use Rattle.law_texts.proofs.Numbers.{digit_range}
use Rattle.law_texts.specs.Characters.{is_digit}
use Rattle.law_texts.specs.Digits.{is_numeral, minus_if}
use Rattle.law_texts.specs.Front.{begins_without, IsRun, IsRunAtEnd, IsSigned}

pub head_is : (a b : ℕ) (xs ys : List ℕ) → a ∷ xs ≡ b ∷ ys → (a ≡ b) × (xs ≡ ys)
head_is a b xs ys e = (cc, cc)

pub nothing_is : (b : ℕ) (bs : List ℕ) → [] ≡ b ∷ bs → ⊥
nothing_is b bs e = cc

-- ---- the longest run

one_longer : (test : ℕ → Bool) (b : ℕ) (bytes front back : List ℕ) → test b ≡ true → IsRun test bytes front back → IsRun test (b ∷ bytes) (b ∷ front) back
one_longer test b bytes front back h r = record {
  whole = ap (λ (v : List ℕ). b ∷ v) r.whole;
  each = and_from (test b) (list_all test front) h r.each;
  longest = r.longest;
}

none_here : (test : ℕ → Bool) (b : ℕ) (bytes : List ℕ) → test b ≡ false → IsRun test (b ∷ bytes) [] (b ∷ bytes)
none_here test b bytes h = record { whole = refl; each = refl; longest = not_from_false (test b) h }

none_left : (test : ℕ → Bool) → IsRun test [] [] []
none_left test = record { whole = refl; each = refl; longest = refl }

front_run : (test : ℕ → Bool) (bytes : List ℕ) → IsRun test bytes (take (prefix_len test bytes) bytes) (drop (prefix_len test bytes) bytes)
front_run test [] = none_left test
front_run test (b ∷ bytes) = elim (cases_Bool (test b)) [
  | inl h ↦ rw (h, one-add (prefix_len test bytes)) (one_longer test b bytes _ _ h (front_run test bytes))
  | inr h ↦ rw h (none_here test b bytes h)
]

-- What is split at the length of a run is the run and the rest.
pub run_at : (test : ℕ → Bool) (bytes front back : List ℕ) (n : ℕ) → n ≡ length (take_while test bytes) → front ≡ take n bytes → back ≡ drop n bytes → IsRun test bytes front back
run_at test bytes front back n h f b =
    let e : n ≡ prefix_len test bytes = h ∙ length-prefix_len test bytes in
    rw (f, b, e) (front_run test bytes)

-- Two runs at one place are one.
pub one_run : (test : ℕ → Bool) (xs ys r s : List ℕ) → list_all test xs ≡ true → list_all test ys ≡ true → begins_without test r ≡ true → begins_without test s ≡ true → xs ++ r ≡ ys ++ s → (xs ≡ ys) × (r ≡ s)
one_run test [] [] r s hx hy hr hs e = (refl, e)
one_run test [] (y ∷ ys) [] s hx hy hr hs e = absurd (nothing_is y (ys ++ s) e)
one_run test [] (y ∷ ys) (b ∷ r) s hx hy hr hs e =
    absurd (false≢true (sym (not_from_true (test y) (and_parts (test y) (list_all test ys) hy).0) ∙ ap (λ n. not (test n)) (sym (head_is b y r (ys ++ s) e).0) ∙ hr))
one_run test (x ∷ xs) [] r [] hx hy hr hs e = absurd (nothing_is x (xs ++ r) (sym e))
one_run test (x ∷ xs) [] r (b ∷ s) hx hy hr hs e =
    absurd (false≢true (sym (not_from_true (test x) (and_parts (test x) (list_all test xs) hx).0) ∙ ap (λ n. not (test n)) (head_is x b (xs ++ r) s e).0 ∙ hs))
one_run test (x ∷ xs) (y ∷ ys) r s hx hy hr hs e =
    let h = head_is x y (xs ++ r) (ys ++ s) e in
    let t = one_run test xs ys r s (and_parts (test x) (list_all test xs) hx).1 (and_parts (test y) (list_all test ys) hy).1 hr hs h.1 in
    (ap₂ (λ (a : ℕ) (v : List ℕ). a ∷ v) h.0 t.0, t.1)

-- ---- digits and signs

pub no_minus : (b : ℕ) → is_digit b ≡ true → not (eqb b 45) ≡ true
no_minus b h = elim (cases_Bool (eqb b 45)) [
  | inl e ↦ (let r = digit_range b h in let q = eqb-true b 45 e in absurd (omega arith))
  | inr e ↦ not_from_false (eqb b 45) e
]

-- a numeral is digits alone ..
pub digits_of_numeral : (ds : List ℕ) → is_numeral ds ≡ true → list_all is_digit ds ≡ true
digits_of_numeral [] h = absurd (false≢true h)
digits_of_numeral (d ∷ ds) h = h

-- .. and begins with no minus
pub numeral_unsigned : (ds rest : List ℕ) → is_numeral ds ≡ true → begins_without (λ b. eqb b 45) (ds ++ rest) ≡ true
numeral_unsigned [] rest h = absurd (false≢true h)
numeral_unsigned (d ∷ ds) rest h = no_minus d (and_parts (is_digit d) (list_all is_digit ds) h).0

begins_with_none : (bytes rest : List ℕ) → begins_without (λ b. eqb b 45) bytes ≡ true → bytes ≡ 45 ∷ rest → ⊥
begins_with_none bytes rest h e = false≢true (ap (begins_without (λ b. eqb b 45)) (sym e) ∙ h)

-- A sign is read in one way.
pub one_sign : (text rest other : List ℕ) (negative n : Bool) → IsSigned text negative rest → text ≡ minus_if n ++ other → begins_without (λ b. eqb b 45) other ≡ true → (negative ≡ n) × (rest ≡ other)
one_sign text rest other true true s e h = (refl, (head_is 45 45 rest other (sym s.whole ∙ e)).1)
one_sign text rest other true false s e h = absurd (begins_with_none other rest h (sym e ∙ s.whole))
one_sign text rest other false true s e h = absurd (s.only refl other e)
one_sign text rest other false false s e h = (refl, sym s.whole ∙ e)

pub sign_of : (text other : List ℕ) (n : Bool) → text ≡ minus_if n ++ other → begins_without (λ b. eqb b 45) other ≡ true → IsSigned text n other
sign_of text other true e h = record { whole = e; only = λ f. absurd (false≢true (sym f)) }
sign_of text other false e h = record { whole = e; only = λ f rest g. begins_with_none other rest h (sym e ∙ g) }

pub list_all-reverse : (test : ℕ → Bool) (xs : List ℕ) → list_all test (reverse xs) ≡ list_all test xs
list_all-reverse test [] = refl
list_all-reverse test (x ∷ xs) = ap (λ (v : List ℕ). list_all test v) (reverse-append (x ∷ []) xs) ∙ list_all-append test (reverse xs) (x ∷ []) ∙ ap (λ (b : Bool). b && (test x && true)) (list_all-reverse test xs) ∙ turned (list_all test xs) (test x)
  where
    turned : (a b : Bool) → (a && (b && true)) ≡ (b && a)
    turned true true = refl
    turned true false = refl
    turned false true = refl
    turned false false = refl

-- What is split before the digits at the end is the front and the run.
pub run_at_end : (test : ℕ → Bool) (bytes front back : List ℕ) (n : ℕ) → n ≡ length (take_while test (reverse bytes)) → n ≤ length bytes → front ≡ take (length bytes - n) bytes → back ≡ drop (length bytes - n) bytes → IsRunAtEnd test bytes front back
run_at_end test bytes front back n h within f b =
    let r = front_run test (reverse bytes) in
    let m = prefix_len test (reverse bytes) in
    let e : n ≡ m = h ∙ length-prefix_len test (reverse bytes) in
    let run = take m (reverse bytes) in
    let rest = drop m (reverse bytes) in
    let turned : bytes ≡ reverse rest ++ reverse run = sym (reverse-reverse bytes) ∙ ap (λ (v : List ℕ). reverse v) r.whole ∙ reverse-append run rest in
    let short : length (reverse rest) ≡ length bytes - n = length-reverse rest ∙ length-drop m (reverse bytes) ∙ (let l = length-reverse bytes in omega arith) in
    let first : front ≡ reverse rest = f ∙ ap₂ (λ (i : ℕ) (v : List ℕ). take i v) (sym short) turned ∙ take-append_seam (reverse rest) (reverse run) in
    let last : back ≡ reverse run = b ∙ ap₂ (λ (i : ℕ) (v : List ℕ). drop i v) (sym short) turned ∙ drop-append_seam (reverse rest) (reverse run) in
    record {
      whole = turned ∙ sym (ap₂ (λ (v w : List ℕ). v ++ w) first last);
      each = ap (λ (v : List ℕ). list_all test v) last ∙ list_all-reverse test run ∙ r.each;
      longest = ap (λ (v : List ℕ). begins_without test (reverse v)) first ∙ ap (λ (v : List ℕ). begins_without test v) (reverse-reverse rest) ∙ r.longest;
    }
