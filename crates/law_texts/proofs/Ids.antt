-- What is written of an id, character by character.
use Rattle.std.proofs.Common.{◌≡◌, ◌≢◌, ℕ, ◌+◌, ◌/◌, ◌≤◌, Bool, true, false, cond, List, [], ◌∷◌, ◌++◌, refl, arith, inl, inr}
use Rattle.std.proofs.lemmas.Bool.{le-ltb, cases_lt}
use Rattle.std.proofs.lemmas.Bool.Decides.{nat_tests}
use Rattle.std.proofs.lemmas.Grind.{flat_map-append}
use Rattle.std.proofs.Math.Utf8.{encode, next}
use Rattle.std.proofs.lemmas.Str.{encode_ascii}
use Rattle.std.specs.Char.{IsNotAsciiControl}
use Rattle.std.specs.Prelude.{nat_lt, encode_utf8_all}
use Rattle.std.specs.List.{flat_map}
use Rattle.law_texts.specs.Quoting.{quoted_id_byte}

-- a byte that is neither a control nor a quote nor a backslash is written as it is
pub plain_byte : (b : ℕ) → 32 ≤ b → b ≢ 34 → b ≢ 92 → b ≢ 127 → quoted_id_byte b ≡ b ∷ []
plain_byte b low quote backslash delete = grind (arith, nat_tests)

high_byte : (b : ℕ) → 128 ≤ b → quoted_id_byte b ≡ b ∷ []
high_byte b h = plain_byte b (omega arith) (omega arith) (omega arith) (omega arith)

two : (a b : ℕ) → 128 ≤ a → 128 ≤ b → flat_map quoted_id_byte (a ∷ b ∷ []) ≡ a ∷ b ∷ []
two a b h i = let e = high_byte a h in let f = high_byte b i in rw (e, f) refl

three : (a b c : ℕ) → 128 ≤ a → 128 ≤ b → 128 ≤ c → flat_map quoted_id_byte (a ∷ b ∷ c ∷ []) ≡ a ∷ b ∷ c ∷ []
three a b c h i j = let e = high_byte a h in let f = high_byte b i in let g = high_byte c j in rw (e, f, g) refl

four : (a b c d : ℕ) → 128 ≤ a → 128 ≤ b → 128 ≤ c → 128 ≤ d → flat_map quoted_id_byte (a ∷ b ∷ c ∷ d ∷ []) ≡ a ∷ b ∷ c ∷ d ∷ []
four a b c d h i j k = let e = high_byte a h in let f = high_byte b i in let g = high_byte c j in let l = high_byte d k in rw (e, f, g, l) refl

next_high : (n : ℕ) → 128 ≤ next n
next_high n = omega arith

-- by how many bytes a character past ASCII has
of_length : (m n : Bool) (a b c d e f : ℕ) → 128 ≤ a → 128 ≤ b → 128 ≤ c → 128 ≤ d → 128 ≤ e → 128 ≤ f
    → flat_map quoted_id_byte (cond m (a ∷ d ∷ []) (cond n (b ∷ e ∷ d ∷ []) (c ∷ f ∷ e ∷ d ∷ []))) ≡ cond m (a ∷ d ∷ []) (cond n (b ∷ e ∷ d ∷ []) (c ∷ f ∷ e ∷ d ∷ []))
of_length true n a b c d e f h i j k l m = two a d h k
of_length false true a b c d e f h i j k l m = three b e d i l k
of_length false false a b c d e f h i j k l m = four c f e d j m l k

-- a character past ASCII is written as it is
pub high_character : (c : ℕ) → 128 ≤ c → flat_map quoted_id_byte (encode c) ≡ encode c
unfolding encode
high_character c h =
    let e : nat_lt c 128 ≡ false = le-ltb c 128 h in
    rw e (of_length (nat_lt c 2048) (nat_lt c 65536) (192 + c / 64) (224 + c / 4096) (240 + c / 262144) (next c) (next (c / 64)) (next (c / 4096))
    (omega arith) (omega arith) (omega arith) (next_high c) (next_high (c / 64)) (next_high (c / 4096)))

-- a character that is neither a control of ASCII nor a quote nor a backslash is written as it is
pub plain_character : (c : ℕ) → IsNotAsciiControl c → c ≢ 34 → c ≢ 92 → flat_map quoted_id_byte (encode c) ≡ encode c
plain_character c control quote backslash = elim (cases_lt c 128) [
  | inl low ↦ (let e = encode_ascii c low in let f : quoted_id_byte c ≡ c ∷ [] = plain_byte c (omega (arith, control.0)) quote backslash (omega (arith, control.1)) in rw (e, f) refl)
  | inr high ↦ high_character c high
]

-- one character more of an id
pub one_more : (c : ℕ) (cs : List ℕ) → flat_map quoted_id_byte (encode_utf8_all (c ∷ cs)) ≡ flat_map quoted_id_byte (encode c) ++ flat_map quoted_id_byte (encode_utf8_all cs)
one_more c cs = flat_map-append quoted_id_byte (encode c) (encode_utf8_all cs)
