-- UTF-8 keeps the order of texts.
use Rattle.std.proofs.Common.{◌≡◌, ℕ, ◌+◌, ◌/◌, ◌%◌, ◌<◌, ◌≤◌, Bool, true, false, List, [], ◌∷◌, ◌++◌, refl, ap, ◌∙◌, sym, arith}
use Rattle.std.specs.Prelude.{cond, nat_lt, ◌==◌, IsUtf8}
use Rattle.std.specs.Cmp.{nat_cmp_is, first_so, second_so}
use Rattle.std.specs.Ordering.{nat_cmp, ordering_then, ordering_reverse}
use Rattle.std.specs.declared.cmp.Ordering.{Ordering}
use Rattle.std.specs.declared.cmp.Ordering.TheVariants.{Less, Equal, Greater}
use Rattle.std.proofs.lemmas.Bool.{ltb-true, ltb-false}
use Rattle.std.proofs.Math.Utf8.{encode, next, encodes, scalar, scalars, scalar_cases}
use Rattle.std.proofs.lemmas.Str.{encodes-chars, scalars-chars}
use Rattle.std.proofs.lemmas.Cmp.{nat_cmp_total, nat_list_cmp_total}
use Rattle.std.specs.FinMap.{nat_cmp-IsAntisymmetric}
use Rattle.std.specs.Str.{chars}
use mathlib.Core.Logic.{⊎_elim}
use Rattle.law_terms.specs.ValueOrder.{text_cmp}

head_less : (a b : ℕ) (xs ys : List ℕ) → a < b → text_cmp (a ∷ xs) (b ∷ ys) ≡ Less
head_less a b xs ys h = ap (λ o. ordering_then o (text_cmp xs ys)) (sym (nat_cmp_is a b Less h))

step : (a b : ℕ) (xs ys : List ℕ) → a ≤ b → (a ≡ b → text_cmp xs ys ≡ Less) → text_cmp (a ∷ xs) (b ∷ ys) ≡ Less
step a b xs ys h rest = from (nat_lt a b) refl
  where
    from : (t : Bool) → nat_lt a b ≡ t → text_cmp (a ∷ xs) (b ∷ ys) ≡ Less
    from true e = head_less a b xs ys (ltb-true a b e)
    from false e =
        let g : b ≤ a = ltb-false a b e in
        let s : a ≡ b = omega arith in
        ap (λ o. ordering_then o (text_cmp xs ys)) (sym (nat_cmp_is a b Equal s)) ∙ rest s

two : (c d : ℕ) (xs ys : List ℕ) → c < d → text_cmp ((192 + c / 64) ∷ (128 + c % 64) ∷ xs) ((192 + d / 64) ∷ (128 + d % 64) ∷ ys) ≡ Less
two c d xs ys h =
    let p0 : (192 + c / 64) ≤ (192 + d / 64) = omega arith in
    step (192 + c / 64) (192 + d / 64) ((128 + c % 64) ∷ xs) ((128 + d % 64) ∷ ys) p0 (λ (e0 : (192 + c / 64) ≡ (192 + d / 64)).
    let p1 : (128 + c % 64) < (128 + d % 64) = omega arith in
    head_less (128 + c % 64) (128 + d % 64) xs ys p1)

three : (c d : ℕ) (xs ys : List ℕ) → c < d → text_cmp ((224 + c / 4096) ∷ (128 + c / 64 % 64) ∷ (128 + c % 64) ∷ xs) ((224 + d / 4096) ∷ (128 + d / 64 % 64) ∷ (128 + d % 64) ∷ ys) ≡ Less
three c d xs ys h =
    let p0 : (224 + c / 4096) ≤ (224 + d / 4096) = omega arith in
    step (224 + c / 4096) (224 + d / 4096) ((128 + c / 64 % 64) ∷ (128 + c % 64) ∷ xs) ((128 + d / 64 % 64) ∷ (128 + d % 64) ∷ ys) p0 (λ (e0 : (224 + c / 4096) ≡ (224 + d / 4096)).
    let p1 : (128 + c / 64 % 64) ≤ (128 + d / 64 % 64) = omega arith in
    step (128 + c / 64 % 64) (128 + d / 64 % 64) ((128 + c % 64) ∷ xs) ((128 + d % 64) ∷ ys) p1 (λ (e1 : (128 + c / 64 % 64) ≡ (128 + d / 64 % 64)).
    let p2 : (128 + c % 64) < (128 + d % 64) = omega arith in
    head_less (128 + c % 64) (128 + d % 64) xs ys p2))

four : (c d : ℕ) (xs ys : List ℕ) → c < d → text_cmp ((240 + c / 262144) ∷ (128 + c / 4096 % 64) ∷ (128 + c / 64 % 64) ∷ (128 + c % 64) ∷ xs) ((240 + d / 262144) ∷ (128 + d / 4096 % 64) ∷ (128 + d / 64 % 64) ∷ (128 + d % 64) ∷ ys) ≡ Less
four c d xs ys h =
    let p0 : (240 + c / 262144) ≤ (240 + d / 262144) = omega arith in
    step (240 + c / 262144) (240 + d / 262144) ((128 + c / 4096 % 64) ∷ (128 + c / 64 % 64) ∷ (128 + c % 64) ∷ xs) ((128 + d / 4096 % 64) ∷ (128 + d / 64 % 64) ∷ (128 + d % 64) ∷ ys) p0 (λ (e0 : (240 + c / 262144) ≡ (240 + d / 262144)).
    let p1 : (128 + c / 4096 % 64) ≤ (128 + d / 4096 % 64) = omega arith in
    step (128 + c / 4096 % 64) (128 + d / 4096 % 64) ((128 + c / 64 % 64) ∷ (128 + c % 64) ∷ xs) ((128 + d / 64 % 64) ∷ (128 + d % 64) ∷ ys) p1 (λ (e1 : (128 + c / 4096 % 64) ≡ (128 + d / 4096 % 64)).
    let p2 : (128 + c / 64 % 64) ≤ (128 + d / 64 % 64) = omega arith in
    step (128 + c / 64 % 64) (128 + d / 64 % 64) ((128 + c % 64) ∷ xs) ((128 + d % 64) ∷ ys) p2 (λ (e2 : (128 + c / 64 % 64) ≡ (128 + d / 64 % 64)).
    let p3 : (128 + c % 64) < (128 + d % 64) = omega arith in
    head_less (128 + c % 64) (128 + d % 64) xs ys p3)))

-- the bytes of a character, by the tests of its range
abbrev code : Bool → Bool → Bool → ℕ → List ℕ
code true b3 b4 c = c ∷ []
code false true b4 c = (192 + c / 64) ∷ (128 + c % 64) ∷ []
code false false true c = (224 + c / 4096) ∷ (128 + c / 64 % 64) ∷ (128 + c % 64) ∷ []
code false false false c = (240 + c / 262144) ∷ (128 + c / 4096 % 64) ∷ (128 + c / 64 % 64) ∷ (128 + c % 64) ∷ []

apart : (a2 a3 a4 b2 b3 b4 : Bool) (c d : ℕ) (xs ys : List ℕ) → nat_lt c 128 ≡ a2 → nat_lt c 2048 ≡ a3 → nat_lt c 65536 ≡ a4 → nat_lt d 128 ≡ b2 → nat_lt d 2048 ≡ b3 → nat_lt d 65536 ≡ b4 → c < 1114112 → d < 1114112 → c < d → text_cmp (code a2 a3 a4 c ++ xs) (code b2 b3 b4 d ++ ys) ≡ Less
apart true a3 a4 true b3 b4 c d xs ys e2 e3 e4 f2 f3 f4 u v h = head_less c d xs ys h
apart true a3 a4 false true b4 c d xs ys e2 e3 e4 f2 f3 f4 u v h = let k : c < 128 = ltb-true c 128 e2 in let m : 128 ≤ d = ltb-false d 128 f2 in let q : d < 2048 = ltb-true d 2048 f3 in let r : c < 192 + d / 64 = omega arith in head_less (c) (192 + d / 64) xs ((128 + d % 64) ∷ ys) r
apart true a3 a4 false false true c d xs ys e2 e3 e4 f2 f3 f4 u v h = let k : c < 128 = ltb-true c 128 e2 in let m : 2048 ≤ d = ltb-false d 2048 f3 in let q : d < 65536 = ltb-true d 65536 f4 in let r : c < 224 + d / 4096 = omega arith in head_less (c) (224 + d / 4096) xs ((128 + d / 64 % 64) ∷ (128 + d % 64) ∷ ys) r
apart true a3 a4 false false false c d xs ys e2 e3 e4 f2 f3 f4 u v h = let k : c < 128 = ltb-true c 128 e2 in let m : 65536 ≤ d = ltb-false d 65536 f4 in let r : c < 240 + d / 262144 = omega arith in head_less (c) (240 + d / 262144) xs ((128 + d / 4096 % 64) ∷ (128 + d / 64 % 64) ∷ (128 + d % 64) ∷ ys) r
apart false true a4 true b3 b4 c d xs ys e2 e3 e4 f2 f3 f4 u v h = let k : c < 2048 = ltb-true c 2048 e3 in let o : 128 ≤ c = ltb-false c 128 e2 in let q : d < 128 = ltb-true d 128 f2 in let r : ⊥ = omega arith in absurd r
apart false true a4 false true b4 c d xs ys e2 e3 e4 f2 f3 f4 u v h = two c d xs ys h
apart false true a4 false false true c d xs ys e2 e3 e4 f2 f3 f4 u v h = let k : c < 2048 = ltb-true c 2048 e3 in let m : 2048 ≤ d = ltb-false d 2048 f3 in let o : 128 ≤ c = ltb-false c 128 e2 in let q : d < 65536 = ltb-true d 65536 f4 in let r : 192 + c / 64 < 224 + d / 4096 = omega arith in head_less (192 + c / 64) (224 + d / 4096) ((128 + c % 64) ∷ xs) ((128 + d / 64 % 64) ∷ (128 + d % 64) ∷ ys) r
apart false true a4 false false false c d xs ys e2 e3 e4 f2 f3 f4 u v h = let k : c < 2048 = ltb-true c 2048 e3 in let m : 65536 ≤ d = ltb-false d 65536 f4 in let o : 128 ≤ c = ltb-false c 128 e2 in let r : 192 + c / 64 < 240 + d / 262144 = omega arith in head_less (192 + c / 64) (240 + d / 262144) ((128 + c % 64) ∷ xs) ((128 + d / 4096 % 64) ∷ (128 + d / 64 % 64) ∷ (128 + d % 64) ∷ ys) r
apart false false true true b3 b4 c d xs ys e2 e3 e4 f2 f3 f4 u v h = let k : c < 65536 = ltb-true c 65536 e4 in let o : 2048 ≤ c = ltb-false c 2048 e3 in let q : d < 128 = ltb-true d 128 f2 in let r : ⊥ = omega arith in absurd r
apart false false true false true b4 c d xs ys e2 e3 e4 f2 f3 f4 u v h = let k : c < 65536 = ltb-true c 65536 e4 in let m : 128 ≤ d = ltb-false d 128 f2 in let o : 2048 ≤ c = ltb-false c 2048 e3 in let q : d < 2048 = ltb-true d 2048 f3 in let r : ⊥ = omega arith in absurd r
apart false false true false false true c d xs ys e2 e3 e4 f2 f3 f4 u v h = three c d xs ys h
apart false false true false false false c d xs ys e2 e3 e4 f2 f3 f4 u v h = let k : c < 65536 = ltb-true c 65536 e4 in let m : 65536 ≤ d = ltb-false d 65536 f4 in let o : 2048 ≤ c = ltb-false c 2048 e3 in let r : 224 + c / 4096 < 240 + d / 262144 = omega arith in head_less (224 + c / 4096) (240 + d / 262144) ((128 + c / 64 % 64) ∷ (128 + c % 64) ∷ xs) ((128 + d / 4096 % 64) ∷ (128 + d / 64 % 64) ∷ (128 + d % 64) ∷ ys) r
apart false false false true b3 b4 c d xs ys e2 e3 e4 f2 f3 f4 u v h = let o : 65536 ≤ c = ltb-false c 65536 e4 in let q : d < 128 = ltb-true d 128 f2 in let r : ⊥ = omega arith in absurd r
apart false false false false true b4 c d xs ys e2 e3 e4 f2 f3 f4 u v h = let m : 128 ≤ d = ltb-false d 128 f2 in let o : 65536 ≤ c = ltb-false c 65536 e4 in let q : d < 2048 = ltb-true d 2048 f3 in let r : ⊥ = omega arith in absurd r
apart false false false false false true c d xs ys e2 e3 e4 f2 f3 f4 u v h = let m : 2048 ≤ d = ltb-false d 2048 f3 in let o : 65536 ≤ c = ltb-false c 65536 e4 in let q : d < 65536 = ltb-true d 65536 f4 in let r : ⊥ = omega arith in absurd r
apart false false false false false false c d xs ys e2 e3 e4 f2 f3 f4 u v h = four c d xs ys h

nat_less : (c d : ℕ) → nat_cmp c d ≡ Less → c < d
nat_less c d e = by (nat_lt c d) refl e
  where
    by : (b : Bool) → nat_lt c d ≡ b → cond b Less (cond (c == d) Equal Greater) ≡ Less → c < d
    by true f k = ltb-true c d f
    by false f k = other (c == d) k
      where
        other : (b : Bool) → cond b Equal Greater ≡ Less → c < d
        other true k = cc
        other false k = cc

scalar-below : (c : ℕ) → scalar c ≡ true → c < 1114112
scalar-below c e = ⊎_elim (λ h. omega arith) (λ h. h.1) (scalar_cases c e)

coded : (c : ℕ) → encode c ≡ code (nat_lt c 128) (nat_lt c 2048) (nat_lt c 65536) c
unfolding encode
coded c = by (nat_lt c 128) (nat_lt c 2048) (nat_lt c 65536)
  where
    by : (x y z : Bool) → cond x (c ∷ []) (cond y ((192 + c / 64) ∷ next c ∷ []) (cond z ((224 + c / 4096) ∷ next (c / 64) ∷ next c ∷ []) ((240 + c / 262144) ∷ next (c / 4096) ∷ next (c / 64) ∷ next c ∷ []))) ≡ code x y z c
    by true y z = refl
    by false true z = refl
    by false false true = refl
    by false false false = refl

encoded_less : (c d : ℕ) (xs ys : List ℕ) → scalar c ≡ true → scalar d ≡ true → c < d → text_cmp (encode c ++ xs) (encode d ++ ys) ≡ Less
encoded_less c d xs ys u v h =
    (λ i. text_cmp (coded c i ++ xs) (coded d i ++ ys)) ∙ apart (nat_lt c 128) (nat_lt c 2048) (nat_lt c 65536) (nat_lt d 128) (nat_lt d 2048) (nat_lt d 65536) c d xs ys refl refl refl refl refl refl (scalar-below c u) (scalar-below d v) h

after_same : (ps xs ys : List ℕ) → text_cmp (ps ++ xs) (ps ++ ys) ≡ text_cmp xs ys
after_same [] xs ys = refl
after_same (p ∷ ps) xs ys = ap (λ o. ordering_then o (text_cmp (ps ++ xs) (ps ++ ys))) (sym (nat_cmp_is p p Equal refl)) ∙ after_same ps xs ys

before_some : (d : ℕ) (ys : List ℕ) → text_cmp [] (encode d ++ ys) ≡ Less
before_some d ys = ap (λ l. text_cmp [] (l ++ ys)) (coded d) ∙ by (nat_lt d 128) (nat_lt d 2048) (nat_lt d 65536)
  where
    by : (x y z : Bool) → text_cmp [] (code x y z d ++ ys) ≡ Less
    by true y z = refl
    by false true z = refl
    by false false true = refl
    by false false false = refl

turned : (a b : List ℕ) → text_cmp a b ≡ ordering_reverse (text_cmp b a)
turned = nat_list_cmp_total.antisymm

pub encodes_order : (cs ds : List ℕ) → scalars cs ≡ true → scalars ds ≡ true → text_cmp (encodes cs) (encodes ds) ≡ text_cmp cs ds
encodes_order [] [] u v = refl
encodes_order [] (d ∷ ds) u v = before_some d (encodes ds)
encodes_order (c ∷ cs) [] u v = turned (encodes (c ∷ cs)) [] ∙ ap ordering_reverse (before_some c (encodes cs))
encodes_order (c ∷ cs) (d ∷ ds) u v = from (nat_cmp c d) refl (encodes_order cs ds (second_so (scalar c) (scalars cs) u) (second_so (scalar d) (scalars ds) v))
  where
    uc : scalar c ≡ true
    uc = first_so (scalar c) (scalars cs) u

    ud : scalar d ≡ true
    ud = first_so (scalar d) (scalars ds) v

    from : (o : Ordering) → nat_cmp c d ≡ o → text_cmp (encodes cs) (encodes ds) ≡ text_cmp cs ds → text_cmp (encode c ++ encodes cs) (encode d ++ encodes ds) ≡ ordering_then o (text_cmp cs ds)
    from Less e again = encoded_less c d (encodes cs) (encodes ds) uc ud (nat_less c d e)
    from Equal e again = ap (λ x. text_cmp (encode c ++ encodes cs) (encode x ++ encodes ds)) (sym (nat_cmp-IsAntisymmetric c d e)) ∙ (after_same (encode c) (encodes cs) (encodes ds) ∙ again)
    from Greater e again =
        turned (encode c ++ encodes cs) (encode d ++ encodes ds) ∙ ap ordering_reverse (encoded_less d c (encodes ds) (encodes cs) ud uc (nat_less d c (nat_cmp_total.antisymm d c ∙ ap ordering_reverse e)))

pub utf8_order : (s t : List ℕ) → IsUtf8 s → IsUtf8 t → text_cmp s t ≡ text_cmp (chars s) (chars t)
utf8_order s t u v = (λ i. text_cmp (sym (encodes-chars s u) i) (sym (encodes-chars t v) i)) ∙ encodes_order (chars s) (chars t) (scalars-chars s u) (scalars-chars t v)
