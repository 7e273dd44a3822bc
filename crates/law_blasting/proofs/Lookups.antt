-- What the bits of an interpretation give to new variables.
use Rattle.std.proofs.Common.{◌≡◌, ℕ, zero, suc, ◌≤◌, ◌/◌, Bool, true, false, cond, List, [], ◌∷◌, ◌++◌, length, map, refl, sym, ap, ◌∙◌, arith}
use Rattle.std.specs.Prelude.{bytes_eq, ◌||◌, Some, None}
use Rattle.std.specs.Option.{unwrap_or}
use Rattle.std.specs.Cmp.{first_so, second_so}
use Rattle.std.specs.List.{AllByRecursion, zip}
use Rattle.std.specs.Map.{lookup}
use Rattle.std.proofs.lemmas.Slice.Eq.{bytes_eq-Decides}
use Rattle.law_blasting.specs.Circuits.{number_bits}
use Rattle.law_blasting.specs.Passing.{Related, none, one}
use Rattle.law_terms.specs.Operators.{truth, number}
use Rattle.law_terms.specs.Tables.{Interpretation}
use Rattle.law_terms.specs.Types.{type_eq}
use Rattle.law_terms.specs.Values.{BoolValue}
use Rattle.law_terms.specs.Plain.{PlainType, BitVecType, BoolType}
use Rattle.law_terms.proofs.TypeOrder.{eq_same}
use Rattle.law_terms.proofs.ValueOrder.{bytes_itself}
use Rattle.law_blasting.specs.Blasted.{Variables, is_among, number_from, variable_name, bit_name, bit_names, new_names, new_variable, value_bits, bits_from, bits}
use Rattle.law_terms.specs.Interpretations.{variable_eq}
use Rattle.law_blasting.specs.Laws.{IsBit}
use Rattle.law_blasting.specs.Refusals.{type_refusal}
use Rattle.law_blasting.proofs.Names.{HasNumber, bit_has, names_have, variable_has, none_named, places_differ}

abbrev pub Entries : Type 0
Entries = List (List ℕ × Bool)

-- ---- the place of a variable

pub same_is : (v w : List ℕ × PlainType) → variable_eq v w ≡ true → w ≡ v
same_is v w h =
    let e : v.0 ≡ w.0 = (bytes_eq-Decides v.0 w.0).0 (first_so (bytes_eq v.0 w.0) (type_eq v.1 w.1) h) in
    let f : v.1 ≡ w.1 = eq_same v.1 w.1 (second_so (bytes_eq v.0 w.0) (type_eq v.1 w.1) h) in
    sym (ap (λ x. (x, v.1)) e ∙ ap (λ y. (w.0, y)) f)

-- v stands in a list whose variables are numbered from j, with number k
pub data At (v : List ℕ × PlainType) : ℕ → Variables → ℕ → Type 0 where
  here : {j : ℕ} {w : List ℕ × PlainType} {ws : Variables} → w ≡ v → At v j (w ∷ ws) j
  there : {j k : ℕ} {w : List ℕ × PlainType} {ws : Variables} → At v (suc j) ws k → At v j (w ∷ ws) k

pub at : (v : List ℕ × PlainType) (j : ℕ) (vs : Variables) → is_among vs v ≡ true → At v j vs (number_from j vs v)
at v j [] h = cc
at v j (w ∷ ws) h = by (variable_eq v w) refl (at v (suc j) ws) h
  where
    by : (t : Bool) → variable_eq v w ≡ t → (is_among ws v ≡ true → At v (suc j) ws (number_from (suc j) ws v)) → (t || is_among ws v) ≡ true → At v j (w ∷ ws) (elim t [ true ↦ j | false ↦ number_from (suc j) ws v ])
    by true e again k = here (same_is v w e)
    by false e again k = there (again k)

numbers_rise : (v : List ℕ × PlainType) (j k : ℕ) (vs : Variables) → At v j vs k → j ≤ k
numbers_rise v j k vs (here e) = omega arith
numbers_rise v j k vs (there {w = w} {ws = ws} h) = omega (arith, numbers_rise v (suc j) k ws h)

-- ---- what is found

skip : (name : List ℕ) (names : List (List ℕ)) (bs : List Bool) (rest : Entries) → AllByRecursion (λ n. bytes_eq name n ≡ false) names → lookup (bytes_eq name) (zip names bs ++ rest) ≡ lookup (bytes_eq name) rest
skip name [] bs rest h = refl
skip name (n ∷ names) [] rest h = refl
skip name (n ∷ names) (b ∷ bs) rest h = ap (λ t. cond t (Some b) (lookup (bytes_eq name) (zip names bs ++ rest))) h.0 ∙ skip name names bs rest h.1

module _ (I : Interpretation) where
  -- the entries behind those of a variable
  pub rest_of : {v : List ℕ × PlainType} {j k : ℕ} {vs : Variables} → At v j vs k → Entries
  rest_of (here {j} {w} {ws} e) = bits_from (suc j) ws I
  rest_of (there h) = rest_of h

  abbrev pub own : List ℕ × PlainType → ℕ → Entries
  own v k = zip (new_names k v.1) (value_bits v.1 (I.variable v.0 v.1))

  pub located : (v : List ℕ × PlainType) (j k : ℕ) (vs : Variables) (h : At v j vs k) (name : List ℕ) → HasNumber k name → lookup (bytes_eq name) (bits_from j vs I) ≡ lookup (bytes_eq name) (own v k ++ rest_of h)
  unfolding rest_of
  located v j k vs (here {w = w} {ws = ws} e) name n = ap (λ x. lookup (bytes_eq name) (own x j ++ bits_from (suc j) ws I)) e
  located v j k vs (there {w = w} {ws = ws} h) name n =
      let l : suc j ≤ k = numbers_rise v (suc j) k ws h in
      skip name (new_names j w.1) (value_bits w.1 (I.variable w.0 w.1)) (bits_from (suc j) ws I) (none_named k j name (new_names j w.1) n (names_have j w.1) (λ e. absurd (omega (arith, l, e)))) ∙ located v (suc j) k ws h name n

pub bits_length : (n a : ℕ) → length (number_bits n a) ≡ n
bits_length zero a = refl
bits_length (suc n) a = ap suc (bits_length n (a / 2))

found_here : (name : List ℕ) (b : Bool) (rest : Entries) → lookup (bytes_eq name) ((name, b) ∷ rest) ≡ Some b
found_here name b rest = ap (λ t. cond t (Some b) (lookup (bytes_eq name) rest)) (bytes_itself name)

module _ (vs : Variables) (I : Interpretation) where
  is_bit : (name : List ℕ) (b : Bool) → lookup (bytes_eq name) (bits_from 0 vs I) ≡ Some b → IsBit (bits vs I) (new_variable name) b
  is_bit name b e = record { typed = record { parts = refl; type = refl }; value = ap (λ o. BoolValue (unwrap_or o false)) e }

  places_found : (k i n : ℕ) (bs : List Bool) (rest : Entries) → length bs ≡ n
      → ((m : ℕ) → i ≤ m → lookup (bytes_eq (bit_name k m)) (bits_from 0 vs I) ≡ lookup (bytes_eq (bit_name k m)) (zip (bit_names k i n) bs ++ rest))
      → Related (IsBit (bits vs I)) (map new_variable (bit_names k i n)) bs
  places_found k i zero [] rest e h = none
  places_found k i zero (b ∷ bs) rest e h = absurd (omega (arith, e))
  places_found k i (suc n) [] rest e h = absurd (omega (arith, e))
  places_found k i (suc n) (b ∷ bs) rest e h =
      one (is_bit (bit_name k i) b (h i (omega arith) ∙ found_here (bit_name k i) b (zip (bit_names k (suc i) n) bs ++ rest)))
      (places_found k (suc i) n bs rest (omega (arith, e)) (λ m l. h m (omega (arith, l)) ∙ ap (λ t. cond t (Some b) (lookup (bytes_eq (bit_name k m)) (zip (bit_names k (suc i) n) bs ++ rest))) (places_differ k m i (λ q. absurd (omega (arith, l, q))))))

  -- a variable's new ones have its bits
  pub bits_found : (k : ℕ) (id : List ℕ) (t : PlainType) → type_refusal t ≡ None → At (id, t) 0 vs k → Related (IsBit (bits vs I)) (map new_variable (new_names k t)) (value_bits t (I.variable id t))
  bits_found k id BoolType r h =
      one (is_bit (variable_name k) (truth (I.variable id BoolType)) (located I (id, BoolType) 0 k vs h (variable_name k) (variable_has k) ∙ found_here (variable_name k) (truth (I.variable id BoolType)) (rest_of I h))) none
  bits_found k id (BitVecType n) r h =
      places_found k 0 n (number_bits n (number (I.variable id (BitVecType n)))) (rest_of I h) (bits_length n (number (I.variable id (BitVecType n)))) (λ m l. located I (id, BitVecType n) 0 k vs h (bit_name k m) (bit_has k m))
  bits_found k id t r h = cc
