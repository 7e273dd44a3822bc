-- The code points of a string's text, read one by one.
use Rattle.std.proofs.Common.{inl, inr, ◌⊎◌, ◌≡◌, ℕ, zero, suc, ◌-◌, pred, Bool, true, false, ◌&&◌, List, [], ◌∷◌, ◌++◌, refl, sym, ap, ap₂, ◌∙◌, append_assoc, drop, Option, Some, None, arith}
use Rattle.std.specs.Prelude.{encode_utf8, encode_utf8_all}
use Rattle.std.specs.Str.{chars}
use Rattle.std.proofs.Math.Utf8.{scalar, scalars}
use Rattle.std.proofs.lemmas.Bool.{and_from, cases_Bool}
use Rattle.std.proofs.lemmas.List.{append-nil}
use Rattle.std.proofs.lemmas.Str.{chars-encodes, encodes-append}
use Rattle.law_texts.specs.Escapes.{Escape, escape, decoded}

decoded_skip : (n : ℕ) (bs : List ℕ) → decoded n bs ≡ decoded 0 (drop n bs)
decoded_skip zero bs = refl
decoded_skip (suc n) [] = refl
decoded_skip (suc n) (b ∷ bs) = decoded_skip n bs

pred_is : (n : ℕ) → pred n ≡ n - 1
pred_is zero = refl
pred_is (suc n) = omega arith

decoded_is : (b : ℕ) (bs : List ℕ) (o : Option Escape) → escape (b ∷ bs) ≡ o → decoded 0 (b ∷ bs) ≡ elim o [ None ↦ b ∷ decoded 0 bs | Some x ↦ x.point ∷ decoded (pred x.len) bs ]
decoded_is b bs o e = ap (λ (v : Option Escape). elim v [ None ↦ b ∷ decoded 0 bs | Some x ↦ x.point ∷ decoded (pred x.len) bs ]) e

-- at an escape
pub escape_first : (text rest behind : List ℕ) (b point len : ℕ) → text ≡ b ∷ rest → escape text ≡ Some (record { len = len; point = point }) → behind ≡ drop (len - 1) rest → decoded 0 text ≡ point ∷ decoded 0 behind
escape_first text rest behind b point len e f g =
    ap (decoded 0) e
    ∙ decoded_is b rest (Some (record { len = len; point = point })) (ap escape (sym e) ∙ f)
    ∙ ap (λ (v : List ℕ). point ∷ v) (decoded_skip (pred len) rest ∙ ap (λ n. decoded 0 (drop n rest)) (pred_is len) ∙ ap (decoded 0) (sym g))

-- at any other byte
pub byte_first : (text rest : List ℕ) (b : ℕ) → text ≡ b ∷ rest → escape text ≡ None → decoded 0 text ≡ b ∷ decoded 0 rest
byte_first text rest b e f = ap (decoded 0) e ∙ decoded_is b rest None (ap escape (sym e) ∙ f)

scalars-append : (xs ys : List ℕ) → scalars (xs ++ ys) ≡ (scalars xs && scalars ys)
scalars-append [] ys = refl
scalars-append (x ∷ xs) ys = ap (λ b. scalar x && b) (scalars-append xs ys) ∙ assoc (scalar x) (scalars xs) (scalars ys)
  where
    assoc : (a b c : Bool) → (a && (b && c)) ≡ ((a && b) && c)
    assoc true b c = refl
    assoc false b c = refl

-- at the end of the text
pub all_decoded : (done text rest bytes : List ℕ) → bytes ≡ encode_utf8_all done → scalars done ≡ true → decoded 0 text ≡ done ++ decoded 0 rest → rest ≡ [] → (chars bytes ≡ decoded 0 text) × (true ≡ scalars (decoded 0 text))
all_decoded done text rest bytes e s d r =
    let all : decoded 0 text ≡ done = d ∙ ap (λ v. done ++ decoded 0 v) r ∙ append-nil done in
    (ap chars e ∙ chars-encodes done s ∙ sym all, sym (ap scalars all ∙ s))

-- at a code point that is no character
pub no_character : (done text rest behind : List ℕ) (p : ℕ) → scalars done ≡ true → decoded 0 text ≡ done ++ decoded 0 rest → decoded 0 rest ≡ p ∷ decoded 0 behind → (scalar p ≡ true → ⊥) → false ≡ scalars (decoded 0 text)
no_character done text rest behind p s d f h =
    sym (ap scalars (d ∙ ap (λ v. done ++ v) f) ∙ scalars-append done (p ∷ decoded 0 behind) ∙ ap₂ (λ a b. a && (b && scalars (decoded 0 behind))) s (none (cases_Bool (scalar p))))
  where
    none : (scalar p ≡ true) ⊎ (scalar p ≡ false) → scalar p ≡ false
    none (inl e) = absurd (h e)
    none (inr e) = e

-- at one that is
pub one_decoded : (done text rest behind bytes bytes' : List ℕ) (p c : ℕ) → bytes ≡ encode_utf8_all done → scalars done ≡ true → decoded 0 text ≡ done ++ decoded 0 rest → decoded 0 rest ≡ p ∷ decoded 0 behind → scalar p ≡ true → c ≡ p → bytes' ≡ bytes ++ encode_utf8 c → (bytes' ≡ encode_utf8_all (done ++ p ∷ [])) × (scalars (done ++ p ∷ []) ≡ true) × (decoded 0 text ≡ (done ++ p ∷ []) ++ decoded 0 behind)
one_decoded done text rest behind bytes bytes' p c e s d f h same g = (
  g ∙ ap₂ (λ v k. v ++ encode_utf8 k) e same ∙ ap (λ v. encode_utf8_all done ++ v) (sym (append-nil (encode_utf8 p))) ∙ sym (encodes-append done (p ∷ [])),
  scalars-append done (p ∷ []) ∙ and_from (scalars done) (scalar p && true) s (and_from (scalar p) true h refl),
  d ∙ ap (λ v. done ++ v) f ∙ sym (append_assoc done (p ∷ []) (decoded 0 behind)),
)
