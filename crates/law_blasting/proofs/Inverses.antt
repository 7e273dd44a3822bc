-- Interpretations of the new variables are the bits of those of the old ones, one to one.
use Rattle.std.proofs.Common.{◌≡◌, ℕ, zero, suc, ◌<◌, ◌^◌, Bool, true, false, ◌||◌, List, [], ◌∷◌, length, map, refl, sym, ap, ◌∙◌, subst, mod-eq_of_lt}
use Rattle.std.proofs.lemmas.Bool.{and_from}
use Rattle.std.proofs.lemmas.List.{length-map}
use Rattle.std.specs.Prelude.{None, bytes_eq}
use Rattle.std.specs.List.{AllByRecursion}
use Rattle.std.specs.Ordering.{is_eq}
use Rattle.law_blasting.specs.Circuits.{number, number_bits}
use Rattle.law_blasting.specs.Passing.{Related, none, one}
use Rattle.law_blasting.proofs.Bits.{numbers_have_bits, bits_have_numbers}
use Rattle.law_blasting.proofs.Sums.{number_below}
use Rattle.law_terms.specs.Operators.{truth}
use Rattle.law_terms.specs.Tables.{Interpretation}
use Rattle.law_terms.specs.TypeValues.{Enums, IsValue}
use Rattle.law_terms.specs.Values.{Value, BoolValue, BitVecValue}
use Rattle.law_terms.specs.Plain.{PlainType, BitVecType, BoolType}
use Rattle.law_terms.proofs.Matching.{or_second}
use Rattle.law_terms.proofs.Shapes.{all-become}
use Rattle.law_terms.proofs.Soundness.{all-front, all-back}
use Rattle.law_terms.proofs.TypeOrder.{type_itself}
use Rattle.law_terms.proofs.ValueOrder.{bytes_itself}
use Rattle.law_blasting.specs.Blasted.{Variables, is_among, number_from, bit_names, new_names, new_variable, all_names, value_bits, value_of_bits, bits, unbits}
use Rattle.law_terms.specs.Interpretations.{variable_eq}
use Rattle.law_blasting.specs.Laws.{IsBit, AreSupported, AreDistinct, AgreeOnNew, BitsAreBooleans, BitsAreOneToOne, BitsAreOnto}
use Rattle.law_blasting.specs.Refusals.{type_refusal}
use Rattle.law_blasting.proofs.Lookups.{At, here, there, at, same_is, bits_found}
use Rattle.law_terms.proofs.Defaults.{all-join}

-- ---- lists

module _ {X : Type 0} (P Q R : X → Type 0) where
  pub both_become : ((x : X) → P x → Q x → R x) → (xs : List X) → AllByRecursion P xs → AllByRecursion Q xs → AllByRecursion R xs
  both_become f [] h k = tt
  both_become f (x ∷ xs) h k = (f x h.0 k.0, both_become f xs h.1 k.1)

module _ {X : Type 0} (P : X → Type 0) where
  all_of : ((x : X) → P x) → (xs : List X) → AllByRecursion P xs
  all_of f [] = tt
  all_of f (x ∷ xs) = (f x, all_of f xs)

pub variable_itself : (v : List ℕ × PlainType) → variable_eq v v ≡ true
variable_itself v = and_from (bytes_eq v.0 v.0) _ (bytes_itself v.0) (ap is_eq (type_itself v.1))

pub each_among : (vs : Variables) → AllByRecursion (λ v. is_among vs v ≡ true) vs
each_among [] = tt
each_among (w ∷ ws) = (ap (λ b. b || is_among ws w) (variable_itself w), all-become (λ v. is_among ws v ≡ true) (λ v. is_among (w ∷ ws) v ≡ true) (λ v h. or_second (variable_eq v w) (is_among ws v) h) ws (each_among ws))

-- the names of one variable's new ones are among all
pub own_names : (P : List ℕ → Type 0) (v : List ℕ × PlainType) (j k : ℕ) (vs : Variables) → At v j vs k → AllByRecursion P (all_names j vs) → AllByRecursion P (new_names k v.1)
own_names P v j k vs (here {w = w} {ws = ws} e) h = subst (λ x. AllByRecursion P (new_names j x.1)) e (all-front P (new_names j w.1) (all_names (suc j) ws) h)
own_names P v j k vs (there {w = w} {ws = ws} q) h = own_names P v (suc j) k ws q (all-back P (new_names j w.1) (all_names (suc j) ws) h)

-- ---- values and their bits

abbrev pub told : Interpretation → List ℕ → Bool
told J name = truth (J.variable name BoolType)

truths_found : (J : Interpretation) (names : List (List ℕ)) (bs : List Bool) → Related (IsBit J) (map new_variable names) bs → map (told J) names ≡ bs
truths_found J [] bs none = refl
truths_found J (n ∷ names) bs (one {y = b} {ys = cs} r h) = ap (λ v. truth v ∷ map (told J) names) r.value ∙ ap (λ ds. b ∷ ds) (truths_found J names cs h)

values_found : (J : Interpretation) (f : List ℕ → Bool) (names : List (List ℕ)) → Related (IsBit J) (map new_variable names) (map f names) → AllByRecursion (λ n. J.variable n BoolType ≡ BoolValue (f n)) names
values_found J f [] none = tt
values_found J f (n ∷ names) (one r h) = (r.value, values_found J f names h)

value_back : (enums : Enums) (t : PlainType) (v : Value) → type_refusal t ≡ None → IsValue enums t v → value_of_bits t (value_bits t v) ≡ v
value_back enums BoolType (BoolValue b) r h = refl
value_back enums (BitVecType n) (BitVecValue m a) r h = ap (BitVecValue n) (numbers_have_bits n a ∙ mod-eq_of_lt h.1) ∙ ap (λ k. BitVecValue k a) (sym h.0)
value_back enums BoolType v r h = elim h [ ]
value_back enums (BitVecType n) v r h = elim h [ ]
value_back enums t v r h = cc

names_length : (k i n : ℕ) → length (bit_names k i n) ≡ n
names_length k i zero = refl
names_length k i (suc n) = ap suc (names_length k (suc i) n)

bits_back : (f : List ℕ → Bool) (k : ℕ) (t : PlainType) → value_bits t (value_of_bits t (map f (new_names k t))) ≡ map f (new_names k t)
bits_back f k BoolType = refl
bits_back f k (BitVecType n) =
    let e : length (map f (bit_names k 0 n)) ≡ n = length-map (bit_names k 0 n) f ∙ names_length k 0 n in
    ap (λ m. number_bits m (number (map f (bit_names k 0 n)))) (sym e) ∙ bits_have_numbers (map f (bit_names k 0 n))
bits_back f k t = refl

pub value_given : (enums : Enums) (f : List ℕ → Bool) (k : ℕ) (t : PlainType) → type_refusal t ≡ None → IsValue enums t (value_of_bits t (map f (new_names k t)))
value_given enums f k BoolType r = tt
value_given enums f k (BitVecType n) r =
    let e : length (map f (bit_names k 0 n)) ≡ n = length-map (bit_names k 0 n) f ∙ names_length k 0 n in
    (refl, subst (λ m. number (map f (bit_names k 0 n)) < 2 ^ m) e (number_below (map f (bit_names k 0 n))))
value_given enums f k t r = cc

-- ---- one to one

pub bits_are_booleans : BitsAreBooleans
bits_are_booleans enums vs I = all_of (λ name. IsValue enums BoolType ((bits vs I).variable name BoolType)) (λ name. tt) (all_names 0 vs)

given_back : (enums : Enums) (vs : Variables) (I : Interpretation) (v : List ℕ × PlainType) → is_among vs v ≡ true → type_refusal v.1 ≡ None → IsValue enums v.1 (I.variable v.0 v.1) → (unbits vs (bits vs I)).variable v.0 v.1 ≡ I.variable v.0 v.1
given_back enums vs I v h r g =
    ap (value_of_bits v.1) (truths_found (bits vs I) (new_names (number_from 0 vs v) v.1) (value_bits v.1 (I.variable v.0 v.1)) (bits_found vs I (number_from 0 vs v) v.0 v.1 r (at v 0 vs h))) ∙ value_back enums v.1 (I.variable v.0 v.1) r g

same_told : (J K : Interpretation) (names : List (List ℕ)) → AllByRecursion (λ n. J.variable n BoolType ≡ K.variable n BoolType) names → map (told J) names ≡ map (told K) names
same_told J K [] h = refl
same_told J K (n ∷ names) h = ap (λ v. truth v ∷ map (told J) names) h.0 ∙ ap (λ bs. told K n ∷ bs) (same_told J K names h.1)

unbits_agree : (vs : Variables) (J K : Interpretation) → AgreeOnNew vs J K → (v : List ℕ × PlainType) → is_among vs v ≡ true → (unbits vs J).variable v.0 v.1 ≡ (unbits vs K).variable v.0 v.1
unbits_agree vs J K h v e = ap (value_of_bits v.1) (same_told J K (new_names (number_from 0 vs v) v.1) (own_names (λ n. J.variable n BoolType ≡ K.variable n BoolType) v 0 (number_from 0 vs v) vs (at v 0 vs e) h))

pub bits_are_one_to_one : BitsAreOneToOne
bits_are_one_to_one enums vs I K s g k h =
    both_become (λ v. (type_refusal v.1 ≡ None) × IsValue enums v.1 (I.variable v.0 v.1)) (λ v. (is_among vs v ≡ true) × IsValue enums v.1 (K.variable v.0 v.1)) (λ v. I.variable v.0 v.1 ≡ K.variable v.0 v.1)
    (λ v x y. sym (given_back enums vs I v y.0 x.0 x.1) ∙ unbits_agree vs (bits vs I) (bits vs K) h v y.0 ∙ given_back enums vs K v y.0 x.0 y.1)
    vs
    (both_become (λ v. type_refusal v.1 ≡ None) (λ v. IsValue enums v.1 (I.variable v.0 v.1)) (λ v. (type_refusal v.1 ≡ None) × IsValue enums v.1 (I.variable v.0 v.1)) (λ v a b. (a, b)) vs s g)
    (both_become (λ v. is_among vs v ≡ true) (λ v. IsValue enums v.1 (K.variable v.0 v.1)) (λ v. (is_among vs v ≡ true) × IsValue enums v.1 (K.variable v.0 v.1)) (λ v a b. (a, b)) vs (each_among vs) k)

-- ---- onto

pub unlike : false ≡ true → ⊥
unlike q = cc

-- each variable of a list that is numbered from i, and a part of the list that is numbered from j
abbrev AreAt : ℕ → Variables → ℕ → Variables → Type 0
AreAt i whole j [] = Unit {0}
AreAt i whole j (w ∷ ws) = (At w i whole j × (number_from i whole w ≡ j) × (is_among whole w ≡ true)) × AreAt i whole (suc j) ws

lifted : (i : ℕ) (whole : Variables) (w : List ℕ × PlainType) (j : ℕ) (ws : Variables) → is_among whole w ≡ false → AreAt (suc i) whole j ws → AreAt i (w ∷ whole) j ws
lifted i whole w j [] d h = tt
lifted i whole w j (v ∷ ws) d h = ((there h.0.0, by (variable_eq v w) refl, or_second (variable_eq v w) (is_among whole v) h.0.2), lifted i whole w (suc j) ws d h.1)
  where
    by : (t : Bool) → variable_eq v w ≡ t → ◌≡◌ {A = ℕ} (elim t [ true ↦ i | false ↦ number_from (suc i) whole v ]) j
    by false e = h.0.1
    by true e = absurd (unlike (sym (subst (λ x. is_among whole x ≡ false) (same_is v w e) d) ∙ h.0.2))

numbered : (i : ℕ) (vs : Variables) → AreDistinct vs → AreAt i vs i vs
numbered i [] d = tt
numbered i (v ∷ vs) d =
    ((here refl, first_here (variable_eq v v) (variable_itself v), ap (λ b. b || is_among vs v) (variable_itself v)), lifted i vs v (suc i) vs d.0 (numbered (suc i) vs d.1))
  where
    first_here : (t : Bool) → t ≡ true → ◌≡◌ {A = ℕ} (elim t [ true ↦ i | false ↦ number_from (suc i) vs v ]) i
    first_here true e = refl
    first_here false e = cc

module _ (enums : Enums) (vs : Variables) (J : Interpretation) where
  back_at : (k : ℕ) (id : List ℕ) (t : PlainType) → type_refusal t ≡ None → At (id, t) 0 vs k → number_from 0 vs (id, t) ≡ k → AllByRecursion (λ n. IsValue enums BoolType (J.variable n BoolType)) (new_names k t) → AllByRecursion (λ n. (bits vs (unbits vs J)).variable n BoolType ≡ J.variable n BoolType) (new_names k t)
  back_at k id t r h e b =
      let I = unbits vs J in
      let given : value_bits t (I.variable id t) ≡ map (told J) (new_names k t) = ap (λ m. value_bits t (value_of_bits t (map (told J) (new_names m t)))) e ∙ bits_back (told J) k t in
      let found = values_found (bits vs I) (told J) (new_names k t) (subst (Related (IsBit (bits vs I)) (map new_variable (new_names k t))) given (bits_found vs I k id t r h)) in
      both_become (λ n. (bits vs I).variable n BoolType ≡ BoolValue (told J n)) (λ n. IsValue enums BoolType (J.variable n BoolType)) (λ n. (bits vs I).variable n BoolType ≡ J.variable n BoolType) (λ n x y. x ∙ boolean (J.variable n BoolType) y) (new_names k t) found b
    where
      boolean : (v : Value) → IsValue enums BoolType v → BoolValue (truth v) ≡ v
      boolean (BoolValue c) y = refl
      boolean v y = elim y [ ]

  all_back : (j : ℕ) (ws : Variables) → AreSupported ws → AreAt 0 vs j ws → AllByRecursion (λ n. IsValue enums BoolType (J.variable n BoolType)) (all_names j ws) → AllByRecursion (λ n. (bits vs (unbits vs J)).variable n BoolType ≡ J.variable n BoolType) (all_names j ws)
  all_back j [] s h b = tt
  all_back j (w ∷ ws) s h b =
      all-join (λ n. (bits vs (unbits vs J)).variable n BoolType ≡ J.variable n BoolType) (new_names j w.1) (all_names (suc j) ws)
      (back_at j w.0 w.1 s.0 h.0.0 h.0.1 (all-front (λ n. IsValue enums BoolType (J.variable n BoolType)) (new_names j w.1) (all_names (suc j) ws) b))
      (all_back (suc j) ws s.1 h.1 (all-back (λ n. IsValue enums BoolType (J.variable n BoolType)) (new_names j w.1) (all_names (suc j) ws) b))

pub bits_are_onto : BitsAreOnto
bits_are_onto enums vs J s d b =
    (all-become (λ v. type_refusal v.1 ≡ None) (λ v. IsValue enums v.1 ((unbits vs J).variable v.0 v.1)) (λ v r. value_given enums (told J) (number_from 0 vs v) v.1 r) vs s, all_back enums vs J 0 vs s (numbered 0 vs d) b)
