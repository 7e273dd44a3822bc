-- What is written of code points between quotes is read as these.
use Rattle.std.proofs.Common.{◌≡◌, ℕ, zero, suc, cond, ◌/◌, ◌%◌, ◌<◌, Bool, true, false, not, ◌&&◌, eqb, List, [], ◌∷◌, ◌++◌, refl, sym, ap, ◌∙◌, subst, inl, inr, Some, None, append_assoc, arith}
use Rattle.std.specs.Prelude.{codes, take, length, nat_eq, nat_le, ◌==◌, if◌then◌else◌}
use Rattle.std.specs.List.{flat_map, list_all}
use Rattle.std.specs.Fmt.{digits, digits_onto, digit_glyph}
use Rattle.std.proofs.lemmas.Bool.{and_parts, and_from, cases_Bool, cond-true, cond-false, eqb-true, eq-eqb, agree_below_at, leb-true, not-true}
use Rattle.std.proofs.lemmas.List.{append-nil}
use Rattle.std.proofs.lemmas.List.Folds.{list_all-append}
use Rattle.std.proofs.lemmas.Grind.{flat_map-append}
use Rattle.law_texts.specs.Characters.{is_code_point, is_hexadecimal, is_printable}
use Rattle.law_texts.specs.Digits.{digit_value, number_in}
use Rattle.law_texts.specs.Escapes.{escaped, short_escape, braced_escape, escape, decoded}
use Rattle.law_texts.specs.Quoting.{quote_twice, quoted_character}
use Rattle.law_texts.specs.Lexicon.{Quoted, Word, Text}
use Rattle.law_texts.specs.QuotedTexts.{QuotedTextsAreRead}
use Rattle.law_texts.proofs.Strings.{is_no_quote, twice_none}

-- ---- digits in base 16

record IsGlyph (d a : ℕ) : Type 0 where
  hex : is_hexadecimal a ≡ true
  apart : eqb a 125 ≡ false
  value : digit_value a ≡ d
  printable : is_printable a ≡ true

glyph : (d : ℕ) → d < 16 → IsGlyph d (digit_glyph false d)
glyph d h = record {
  hex = agree_below_at (λ n. is_hexadecimal (digit_glyph false n)) (λ n. true) 16 d refl h;
  apart = agree_below_at (λ n. eqb (digit_glyph false n) 125) (λ n. false) 16 d refl h;
  value = eqb-true (digit_value (digit_glyph false d)) d (agree_below_at (λ n. eqb (digit_value (digit_glyph false n)) n) (λ n. true) 16 d refl h);
  printable = agree_below_at (λ n. is_printable (digit_glyph false n)) (λ n. true) 16 d refl h;
}

-- ---- escapes of one to five digits

abbrev behind : List ℕ → List ℕ → List ℕ
behind ds rest = 92 ∷ 117 ∷ 123 ∷ (ds ++ (125 ∷ rest))

short_none : (xs : List ℕ) → short_escape (92 ∷ 117 ∷ 123 ∷ xs) ≡ None
short_none xs = elim (cases_Bool (eqb (length (take 4 (123 ∷ xs))) 4)) [ inl e ↦ rw e refl | inr e ↦ rw e refl ]

abbrev Decodes : ℕ → List ℕ → Type 0
Decodes c ds = (rest : List ℕ) → decoded 0 (behind ds rest) ≡ c ∷ decoded 0 rest

decodes : (k c : ℕ) (bs rest : List ℕ) → escape (92 ∷ bs) ≡ Some (record { len = suc k; point = c }) → decoded k bs ≡ decoded 0 rest → decoded 0 (92 ∷ bs) ≡ c ∷ decoded 0 rest
decodes k c bs rest e f = rw e (ap (λ (t : List ℕ). c ∷ t) f)

escape_1 : (a c : ℕ) → list_all is_hexadecimal (a ∷ []) ≡ true → number_in 16 (a ∷ []) ≡ c → is_code_point c ≡ true → Decodes c (a ∷ [])
escape_1 a c h v p rest =
    let bs = behind (a ∷ []) rest in
    let y : braced_escape 1 bs ≡ Some (record { len = 5; point = c }) = rw (h, v, p) refl in
    decodes 4 c (117 ∷ 123 ∷ a ∷ 125 ∷ rest) rest (rw (short_none (a ∷ 125 ∷ rest), y) refl) refl

escape_2 : (a b c : ℕ) → list_all is_hexadecimal (a ∷ b ∷ []) ≡ true → eqb b 125 ≡ false → number_in 16 (a ∷ b ∷ []) ≡ c → is_code_point c ≡ true → Decodes c (a ∷ b ∷ [])
escape_2 a b c h h1 v p rest =
    let bs = behind (a ∷ b ∷ []) rest in
    let n1 : braced_escape 1 bs ≡ None = rw h1 refl in
    let y : braced_escape 2 bs ≡ Some (record { len = 6; point = c }) = rw (h, v, p) refl in
    decodes 5 c (117 ∷ 123 ∷ a ∷ b ∷ 125 ∷ rest) rest (rw (short_none (a ∷ b ∷ 125 ∷ rest), n1, y) refl) refl

escape_3 : (a b d c : ℕ) → list_all is_hexadecimal (a ∷ b ∷ d ∷ []) ≡ true → eqb b 125 ≡ false → eqb d 125 ≡ false → number_in 16 (a ∷ b ∷ d ∷ []) ≡ c → is_code_point c ≡ true → Decodes c (a ∷ b ∷ d ∷ [])
escape_3 a b d c h h1 h2 v p rest =
    let bs = behind (a ∷ b ∷ d ∷ []) rest in
    let n1 : braced_escape 1 bs ≡ None = rw h1 refl in
    let n2 : braced_escape 2 bs ≡ None = rw h2 refl in
    let y : braced_escape 3 bs ≡ Some (record { len = 7; point = c }) = rw (h, v, p) refl in
    decodes 6 c (117 ∷ 123 ∷ a ∷ b ∷ d ∷ 125 ∷ rest) rest (rw (short_none (a ∷ b ∷ d ∷ 125 ∷ rest), n1, n2, y) refl) refl

escape_4 : (a b d e c : ℕ) → list_all is_hexadecimal (a ∷ b ∷ d ∷ e ∷ []) ≡ true → eqb b 125 ≡ false → eqb d 125 ≡ false → eqb e 125 ≡ false → number_in 16 (a ∷ b ∷ d ∷ e ∷ []) ≡ c → is_code_point c ≡ true → Decodes c (a ∷ b ∷ d ∷ e ∷ [])
escape_4 a b d e c h h1 h2 h3 v p rest =
    let bs = behind (a ∷ b ∷ d ∷ e ∷ []) rest in
    let n1 : braced_escape 1 bs ≡ None = rw h1 refl in
    let n2 : braced_escape 2 bs ≡ None = rw h2 refl in
    let n3 : braced_escape 3 bs ≡ None = rw h3 refl in
    let y : braced_escape 4 bs ≡ Some (record { len = 8; point = c }) = rw (h, v, p) refl in
    decodes 7 c (117 ∷ 123 ∷ a ∷ b ∷ d ∷ e ∷ 125 ∷ rest) rest (rw (short_none (a ∷ b ∷ d ∷ e ∷ 125 ∷ rest), n1, n2, n3, y) refl) refl

escape_5 : (a b d e f c : ℕ) → list_all is_hexadecimal (a ∷ b ∷ d ∷ e ∷ f ∷ []) ≡ true → eqb b 125 ≡ false → eqb d 125 ≡ false → eqb e 125 ≡ false → eqb f 125 ≡ false → number_in 16 (a ∷ b ∷ d ∷ e ∷ f ∷ []) ≡ c → is_code_point c ≡ true → Decodes c (a ∷ b ∷ d ∷ e ∷ f ∷ [])
escape_5 a b d e f c h h1 h2 h3 h4 v p rest =
    let bs = behind (a ∷ b ∷ d ∷ e ∷ f ∷ []) rest in
    let n1 : braced_escape 1 bs ≡ None = rw h1 refl in
    let n2 : braced_escape 2 bs ≡ None = rw h2 refl in
    let n3 : braced_escape 3 bs ≡ None = rw h3 refl in
    let n4 : braced_escape 4 bs ≡ None = rw h4 refl in
    let y : braced_escape 5 bs ≡ Some (record { len = 9; point = c }) = rw (h, v, p) refl in
    decodes 8 c (117 ∷ 123 ∷ a ∷ b ∷ d ∷ e ∷ f ∷ 125 ∷ rest) rest (rw (short_none (a ∷ b ∷ d ∷ e ∷ f ∷ 125 ∷ rest), n1, n2, n3, n4, y) refl) refl

record Writing (c : ℕ) (ds : List ℕ) : Type 0 where
  decodes : Decodes c ds
  printable : list_all is_printable ds ≡ true

writing_1 : (c : ℕ) → eqb (c / 16) 0 ≡ true → is_code_point c ≡ true → Writing c (digits 16 false c)
unfolding digits
writing_1 c e1 p =
    let m0 : c % 16 < 16 = omega arith in
    let g0 = glyph (c % 16) m0 in
    let z = eqb-true (c / 16) 0 e1 in
    let ds : List ℕ = digit_glyph false (c % 16) ∷ [] in
    let v : number_in 16 ds ≡ c = rw (g0.value) (omega arith) in
    let hex : list_all is_hexadecimal ds ≡ true = rw (g0.hex) refl in
    let print : list_all is_printable ds ≡ true = rw (g0.printable) refl in
    let e : ds ≡ digits 16 false c = rw (e1) refl in
    subst (λ (t : List ℕ). Writing c t) e (record { decodes = escape_1 (digit_glyph false (c % 16)) c hex v p; printable = print })

writing_2 : (c : ℕ) → eqb (c / 16) 0 ≡ false → eqb (c / 16 / 16) 0 ≡ true → is_code_point c ≡ true → Writing c (digits 16 false c)
unfolding digits
writing_2 c e1 e2 p =
    let m0 : c % 16 < 16 = omega arith in
    let g0 = glyph (c % 16) m0 in
    let m1 : c / 16 % 16 < 16 = omega arith in
    let g1 = glyph (c / 16 % 16) m1 in
    let z = eqb-true (c / 16 / 16) 0 e2 in
    let ds : List ℕ = digit_glyph false (c / 16 % 16) ∷ digit_glyph false (c % 16) ∷ [] in
    let v : number_in 16 ds ≡ c = rw (g1.value, g0.value) (omega arith) in
    let hex : list_all is_hexadecimal ds ≡ true = rw (g1.hex, g0.hex) refl in
    let print : list_all is_printable ds ≡ true = rw (g1.printable, g0.printable) refl in
    let e : ds ≡ digits 16 false c = rw (e1, e2) refl in
    subst (λ (t : List ℕ). Writing c t) e (record { decodes = escape_2 (digit_glyph false (c / 16 % 16)) (digit_glyph false (c % 16)) c hex g0.apart v p; printable = print })

writing_3 : (c : ℕ) → eqb (c / 16) 0 ≡ false → eqb (c / 16 / 16) 0 ≡ false → eqb (c / 16 / 16 / 16) 0 ≡ true → is_code_point c ≡ true → Writing c (digits 16 false c)
unfolding digits
writing_3 c e1 e2 e3 p =
    let m0 : c % 16 < 16 = omega arith in
    let g0 = glyph (c % 16) m0 in
    let m1 : c / 16 % 16 < 16 = omega arith in
    let g1 = glyph (c / 16 % 16) m1 in
    let m2 : c / 16 / 16 % 16 < 16 = omega arith in
    let g2 = glyph (c / 16 / 16 % 16) m2 in
    let z = eqb-true (c / 16 / 16 / 16) 0 e3 in
    let ds : List ℕ = digit_glyph false (c / 16 / 16 % 16) ∷ digit_glyph false (c / 16 % 16) ∷ digit_glyph false (c % 16) ∷ [] in
    let v : number_in 16 ds ≡ c = rw (g2.value, g1.value, g0.value) (omega arith) in
    let hex : list_all is_hexadecimal ds ≡ true = rw (g2.hex, g1.hex, g0.hex) refl in
    let print : list_all is_printable ds ≡ true = rw (g2.printable, g1.printable, g0.printable) refl in
    let e : ds ≡ digits 16 false c = rw (e1, e2, e3) refl in
    subst (λ (t : List ℕ). Writing c t) e (record { decodes = escape_3 (digit_glyph false (c / 16 / 16 % 16)) (digit_glyph false (c / 16 % 16)) (digit_glyph false (c % 16)) c hex g1.apart g0.apart v p; printable = print })

writing_4 : (c : ℕ) → eqb (c / 16) 0 ≡ false → eqb (c / 16 / 16) 0 ≡ false → eqb (c / 16 / 16 / 16) 0 ≡ false → eqb (c / 16 / 16 / 16 / 16) 0 ≡ true → is_code_point c ≡ true → Writing c (digits 16 false c)
unfolding digits
writing_4 c e1 e2 e3 e4 p =
    let m0 : c % 16 < 16 = omega arith in
    let g0 = glyph (c % 16) m0 in
    let m1 : c / 16 % 16 < 16 = omega arith in
    let g1 = glyph (c / 16 % 16) m1 in
    let m2 : c / 16 / 16 % 16 < 16 = omega arith in
    let g2 = glyph (c / 16 / 16 % 16) m2 in
    let m3 : c / 16 / 16 / 16 % 16 < 16 = omega arith in
    let g3 = glyph (c / 16 / 16 / 16 % 16) m3 in
    let z = eqb-true (c / 16 / 16 / 16 / 16) 0 e4 in
    let ds : List ℕ = digit_glyph false (c / 16 / 16 / 16 % 16) ∷ digit_glyph false (c / 16 / 16 % 16) ∷ digit_glyph false (c / 16 % 16) ∷ digit_glyph false (c % 16) ∷ [] in
    let v : number_in 16 ds ≡ c = rw (g3.value, g2.value, g1.value, g0.value) (omega arith) in
    let hex : list_all is_hexadecimal ds ≡ true = rw (g3.hex, g2.hex, g1.hex, g0.hex) refl in
    let print : list_all is_printable ds ≡ true = rw (g3.printable, g2.printable, g1.printable, g0.printable) refl in
    let e : ds ≡ digits 16 false c = rw (e1, e2, e3, e4) refl in
    subst (λ (t : List ℕ). Writing c t) e (record { decodes = escape_4 (digit_glyph false (c / 16 / 16 / 16 % 16)) (digit_glyph false (c / 16 / 16 % 16)) (digit_glyph false (c / 16 % 16)) (digit_glyph false (c % 16)) c hex g2.apart g1.apart g0.apart v p; printable = print })

writing_5 : (c : ℕ) → eqb (c / 16) 0 ≡ false → eqb (c / 16 / 16) 0 ≡ false → eqb (c / 16 / 16 / 16) 0 ≡ false → eqb (c / 16 / 16 / 16 / 16) 0 ≡ false → eqb (c / 16 / 16 / 16 / 16 / 16) 0 ≡ true → is_code_point c ≡ true → Writing c (digits 16 false c)
unfolding digits
writing_5 c e1 e2 e3 e4 e5 p =
    let m0 : c % 16 < 16 = omega arith in
    let g0 = glyph (c % 16) m0 in
    let m1 : c / 16 % 16 < 16 = omega arith in
    let g1 = glyph (c / 16 % 16) m1 in
    let m2 : c / 16 / 16 % 16 < 16 = omega arith in
    let g2 = glyph (c / 16 / 16 % 16) m2 in
    let m3 : c / 16 / 16 / 16 % 16 < 16 = omega arith in
    let g3 = glyph (c / 16 / 16 / 16 % 16) m3 in
    let m4 : c / 16 / 16 / 16 / 16 % 16 < 16 = omega arith in
    let g4 = glyph (c / 16 / 16 / 16 / 16 % 16) m4 in
    let z = eqb-true (c / 16 / 16 / 16 / 16 / 16) 0 e5 in
    let ds : List ℕ = digit_glyph false (c / 16 / 16 / 16 / 16 % 16) ∷ digit_glyph false (c / 16 / 16 / 16 % 16) ∷ digit_glyph false (c / 16 / 16 % 16) ∷ digit_glyph false (c / 16 % 16) ∷ digit_glyph false (c % 16) ∷ [] in
    let v : number_in 16 ds ≡ c = rw (g4.value, g3.value, g2.value, g1.value, g0.value) (omega arith) in
    let hex : list_all is_hexadecimal ds ≡ true = rw (g4.hex, g3.hex, g2.hex, g1.hex, g0.hex) refl in
    let print : list_all is_printable ds ≡ true = rw (g4.printable, g3.printable, g2.printable, g1.printable, g0.printable) refl in
    let e : ds ≡ digits 16 false c = rw (e1, e2, e3, e4, e5) refl in
    subst (λ (t : List ℕ). Writing c t) e (record { decodes = escape_5 (digit_glyph false (c / 16 / 16 / 16 / 16 % 16)) (digit_glyph false (c / 16 / 16 / 16 % 16)) (digit_glyph false (c / 16 / 16 % 16)) (digit_glyph false (c / 16 % 16)) (digit_glyph false (c % 16)) c hex g3.apart g2.apart g1.apart g0.apart v p; printable = print })

hexadecimal : (c : ℕ) → is_code_point c ≡ true → Writing c (digits 16 false c)
hexadecimal c p = elim (cases_Bool (eqb (c / 16) 0)) [
  | inl e1 ↦ writing_1 c e1 p
  | inr e1 ↦ elim (cases_Bool (eqb (c / 16 / 16) 0)) [
    | inl e2 ↦ writing_2 c e1 e2 p
    | inr e2 ↦ elim (cases_Bool (eqb (c / 16 / 16 / 16) 0)) [
      | inl e3 ↦ writing_3 c e1 e2 e3 p
      | inr e3 ↦ elim (cases_Bool (eqb (c / 16 / 16 / 16 / 16) 0)) [
        | inl e4 ↦ writing_4 c e1 e2 e3 e4 p
        | inr e4 ↦ (let l = leb-true c 196607 p in let z : c / 16 / 16 / 16 / 16 / 16 ≡ 0 = omega arith in writing_5 c e1 e2 e3 e4 (eq-eqb (c / 16 / 16 / 16 / 16 / 16) 0 z) p)
      ]
    ]
  ]
]

stays : (c : ℕ) (rest : List ℕ) → eqb c 92 ≡ false → decoded 0 (c ∷ rest) ≡ c ∷ decoded 0 rest
stays c rest h =
    let n : escape (c ∷ rest) ≡ None = rw h refl in
    rw (n, decoded) refl

-- a character between quotes, before each quote is written twice
abbrev pub undoubled : ℕ → List ℕ
undoubled c = if is_printable c && not (c == 92) then (c ∷ []) else escaped c

-- ---- quotes are written twice

hex_digits : (k n : ℕ) (ds : List ℕ) → list_all is_no_quote ds ≡ true → list_all is_no_quote (digits_onto k 16 false n ds) ≡ true
hex_digits zero n ds h = h
hex_digits (suc k) n ds h = go (nat_eq (n / 16) 0) more (hex_digits k (n / 16) (digit_glyph false (n % 16) ∷ ds) more)
  where
    more : list_all is_no_quote (digit_glyph false (n % 16) ∷ ds) ≡ true
    more = and_from (is_no_quote (digit_glyph false (n % 16))) (list_all is_no_quote ds) (agree_below_at (λ m. is_no_quote (digit_glyph false m)) (λ m. true) 16 (n % 16) refl (omega arith)) h

    go : (b : Bool) → list_all is_no_quote (digit_glyph false (n % 16) ∷ ds) ≡ true → list_all is_no_quote (digits_onto k 16 false (n / 16) (digit_glyph false (n % 16) ∷ ds)) ≡ true
        → list_all is_no_quote (cond b (digit_glyph false (n % 16) ∷ ds) (digits_onto k 16 false (n / 16) (digit_glyph false (n % 16) ∷ ds))) ≡ true
    go true m again = m
    go false m again = again

digits_no_quote : (c : ℕ) → list_all is_no_quote (digits 16 false c) ≡ true
unfolding digits
digits_no_quote c = hex_digits 64 c [] refl

escaped_stays : (c : ℕ) → flat_map quote_twice (escaped c) ≡ escaped c
escaped_stays c = twice_none (escaped c) (list_all-append is_no_quote (digits 16 false c) (codes "}") ∙ and_from (list_all is_no_quote (digits 16 false c)) true (digits_no_quote c) refl)

backslash : escaped 92 ≡ codes "\\u{5c}"
unfolding digits
backslash = refl

character_is : (c : ℕ) → quoted_character c ≡ flat_map quote_twice (undoubled c)
character_is c = go (eqb c 34) refl
  where
    other : eqb c 34 ≡ false → eqb c 92 ≡ false → (b : Bool) → (nat_le 32 c && nat_le c 126) ≡ b
        → cond b (c ∷ []) (escaped c) ≡ flat_map quote_twice (cond (b && true) (c ∷ []) (escaped c))
    other e f true g = rw e refl
    other e f false g = sym (escaped_stays c)

    next : eqb c 34 ≡ false → (b : Bool) → eqb c 92 ≡ b → quoted_character c ≡ flat_map quote_twice (undoubled c)
    next e true f = let x = eqb-true c 92 f in rw x (sym (ap (flat_map quote_twice) backslash))
    next e false f = rw (e, f) (other e f (nat_le 32 c && nat_le c 126) refl)

    go : (b : Bool) → eqb c 34 ≡ b → quoted_character c ≡ flat_map quote_twice (undoubled c)
    go true e = let x = eqb-true c 34 e in rw x refl
    go false e = next e (eqb c 92) refl

pub characters_are : (cs : List ℕ) → flat_map quoted_character cs ≡ flat_map quote_twice (flat_map undoubled cs)
characters_are [] = refl
characters_are (c ∷ cs) =
    let a = character_is c in let b = characters_are cs in
    (λ i. a i ++ b i) ∙ sym (flat_map-append quote_twice (undoubled c) (flat_map undoubled cs))

-- ---- characters

record IsRead (c : ℕ) : Type 0 where
  read : (rest : List ℕ) → decoded 0 (undoubled c ++ rest) ≡ c ∷ decoded 0 rest
  plain : list_all is_printable (undoubled c) ≡ true

reads : (c : ℕ) → is_code_point c ≡ true → IsRead c
reads c h = elim (cases_Bool (is_printable c && not (eqb c 92))) [
  | inl e ↦ (let p = and_parts (is_printable c) (not (eqb c 92)) e in
      let w : c ∷ [] ≡ undoubled c = sym (cond-true (is_printable c && not (eqb c 92)) (c ∷ []) (escaped c) e) in
      record {
        read = λ rest. subst (λ (t : List ℕ). decoded 0 (t ++ rest) ≡ c ∷ decoded 0 rest) w (stays c rest (not-true (eqb c 92) p.1));
        plain = subst (λ (t : List ℕ). list_all is_printable t ≡ true) w (and_from (is_printable c) true p.0 refl);
      })
  | inr e ↦ (let x = hexadecimal c h in
      let w : escaped c ≡ undoubled c = sym (cond-false (is_printable c && not (eqb c 92)) (c ∷ []) (escaped c) e) in
      record {
        read = λ rest. subst (λ (t : List ℕ). decoded 0 (t ++ rest) ≡ c ∷ decoded 0 rest) w (ap (λ (t : List ℕ). decoded 0 (92 ∷ 117 ∷ 123 ∷ t)) (append_assoc (digits 16 false c) (125 ∷ []) rest) ∙ x.decodes rest);
        plain = subst (λ (t : List ℕ). list_all is_printable t ≡ true) w (list_all-append is_printable (digits 16 false c) (125 ∷ []) ∙ and_from (list_all is_printable (digits 16 false c)) true x.printable refl);
      })
]

pub all_read : (cs : List ℕ) → list_all is_code_point cs ≡ true → decoded 0 (flat_map undoubled cs) ≡ cs
all_read [] h = refl
all_read (c ∷ cs) h =
    let p = and_parts (is_code_point c) (list_all is_code_point cs) h in
    (reads c p.0).read (flat_map undoubled cs) ∙ ap (λ (t : List ℕ). c ∷ t) (all_read cs p.1)

pub all_plain : (cs : List ℕ) → list_all is_code_point cs ≡ true → list_all is_printable (flat_map undoubled cs) ≡ true
all_plain [] h = refl
all_plain (c ∷ cs) h =
    let p = and_parts (is_code_point c) (list_all is_code_point cs) h in
    list_all-append is_printable (undoubled c) (flat_map undoubled cs) ∙ and_from (list_all is_printable (undoubled c)) (list_all is_printable (flat_map undoubled cs)) (reads c p.0).plain (all_plain cs p.1)

-- ---- the text

-- one piece, with no byte behind it
pub quoted_texts_are_read : QuotedTextsAreRead
quoted_texts_are_read cs h =
    let text = flat_map undoubled cs in
    record {
      pieces = Quoted text ∷ [];
      cut = record {
        spelled = ap (λ (t : List ℕ). codes "\"" ++ (t ++ codes "\"")) (characters_are cs) ∙ sym (append-nil (codes "\"" ++ (flat_map quote_twice text ++ codes "\"")));
        longest = refl;
      };
      tokens_are = ap (λ (t : List ℕ). Word (Text t) ∷ []) (all_read cs h);
    }
