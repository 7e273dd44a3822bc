-- A plain symbol is ASCII, and so UTF-8.
use Rattle.std.proofs.Common.{◌≡◌, ℕ, ◌<◌, ◌||◌, true, eqb, List, [], ◌∷◌, refl, subst, sym, inl, inr, arith}
use Rattle.std.specs.Prelude.{codes, nat_lt}
use Rattle.std.specs.List.{list_all, list_any}
use Rattle.std.specs.Str.{IsAscii, is_utf8}
use Rattle.std.proofs.lemmas.Bool.{and_parts, or_cases, false≢true, eqb-true, ltb-true}
use Rattle.std.proofs.lemmas.Bool.Decides.{nat_tests}
use Rattle.std.proofs.lemmas.Str.Ascii.{IsAscii-cons, IsAscii-nil}
use Rattle.std.proofs.lemmas.Str.{IsUtf8-from_ascii, is_utf8-from_IsUtf8}
use Rattle.law_texts.specs.Lexicon.{is_digit, is_letter, is_plain_byte, is_plain_symbol}

among_small : (b : ℕ) (cs : List ℕ) → list_all (λ c. nat_lt c 128) cs ≡ true → list_any (λ c. eqb b c) cs ≡ true → b < 128
among_small b [] h e = absurd (false≢true e)
among_small b (c ∷ cs) h e =
    let p = and_parts (nat_lt c 128) (list_all (λ d. nat_lt d 128) cs) h in
    elim (or_cases (eqb b c) (list_any (λ d. eqb b d) cs) e) [
      | inl q ↦ subst (λ n. n < 128) (sym (eqb-true b c q)) (ltb-true c 128 p.0)
      | inr q ↦ among_small b cs p.1 q
    ]

letter_small : (b : ℕ) → is_letter b ≡ true → b < 128
letter_small b h = grind (arith, nat_tests)

digit_small : (b : ℕ) → is_digit b ≡ true → b < 128
digit_small b h = grind (arith, nat_tests)

plain_small : (b : ℕ) → is_plain_byte b ≡ true → b < 128
plain_small b h = elim (or_cases (is_letter b || is_digit b) (list_any (λ c. eqb b c) (codes "~!@$%^&*_-+=<>.?/")) h) [
  | inl p ↦ elim (or_cases (is_letter b) (is_digit b) p) [ inl q ↦ letter_small b q | inr q ↦ digit_small b q ]
  | inr p ↦ among_small b (codes "~!@$%^&*_-+=<>.?/") refl p
]

plain_ascii : (bs : List ℕ) → list_all is_plain_byte bs ≡ true → IsAscii bs
plain_ascii [] h = IsAscii-nil
plain_ascii (b ∷ bs) h = let p = and_parts (is_plain_byte b) (list_all is_plain_byte bs) h in IsAscii-cons b bs (plain_small b p.0) (plain_ascii bs p.1)

pub plain_utf8 : (n : List ℕ) → is_plain_symbol n ≡ true → is_utf8 n ≡ true
plain_utf8 [] h = absurd (false≢true h)
plain_utf8 (b ∷ bs) h =
    let p = and_parts (is_plain_byte b || eqb b 58) (list_all is_plain_byte bs) h in
    is_utf8-from_IsUtf8 (b ∷ bs) (IsUtf8-from_ascii (b ∷ bs) (IsAscii-cons b bs (first p.0) (plain_ascii bs p.1)))
  where
    first : (is_plain_byte b || eqb b 58) ≡ true → b < 128
    first e = elim (or_cases (is_plain_byte b) (eqb b 58) e) [ inl q ↦ plain_small b q | inr q ↦ (let r = eqb-true b 58 q in omega arith) ]
