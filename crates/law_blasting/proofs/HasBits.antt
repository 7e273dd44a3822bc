-- Values with their bits, and that each operator's circuit gives the bits of what the operator gives.
use Rattle.std.proofs.Common.{◌≡◌, ℕ, suc, ◌+◌, ◌<◌, ◌≤◌, Bool, true, false, ◌&&◌, ◌||◌, List, [], ◌∷◌, length, replicate, refl, sym, ap, ◌∙◌, subst, arith, length-append}
use Rattle.std.specs.Prelude.{not, cond, nat_lt, nat_le, int_lt, int_le, ℤ, Some}
use Rattle.std.specs.Bool.{beq, then_some}
use Rattle.std.specs.Option.{unwrap_or}
use Rattle.std.proofs.lemmas.Bool.{and_parts, ltb-true, ltb-false, leb-true, leb-false}
use Rattle.std.proofs.lemmas.Bool.Decides.{same_from_decides}
use Rattle.std.proofs.lemmas.Int.{ints}
use Rattle.std.proofs.lemmas.List.{length-replicate}
use Rattle.law_numbers.specs.BitOperators.{BitsOperator, BvaddOp, BvlshrOp, BvmulOp, BvsdivOp, BvshlOp, BvsmodOp, BvsremOp, BvsubOp, BvudivOp, BvuremOp, TestOperator, BvsleOp, BvsltOp, BvuleOp, BvultOp, OverflowOperator, BvsaddoOp, BvsmuloOp, BvssuboOp, bits_entry, test_entry, overflow_entry}
use Rattle.law_numbers.specs.BitVectors.{bvneg, bvnego, bvsle, bvslt, signed}
use Rattle.law_blasting.specs.Circuits.{truth_gates, number, sum, difference, borrow_out, carries_differ, borrows_differ, equal, zeros, extended, choose, up, down, shift}
use Rattle.law_blasting.proofs.Bits.{equal_decides, extensions_keep}
use Rattle.law_blasting.proofs.Overflows.{sums_overflow}
use Rattle.law_blasting.proofs.Shifts.{chosen, shifts_go_up, shifts_go_down, shift_length, up_length, down_length}
use Rattle.law_blasting.proofs.Signs.{less_is_signed}
use Rattle.law_blasting.proofs.Subtractions.{differences_overflow, negations_are_taken, negations_overflow}
use Rattle.law_blasting.proofs.Sums.{sums_are_added, sum_length, differences_are_taken, difference_length, less_is_borrowed}
use Rattle.law_terms.specs.Meaning.{meaning, meanings}
use Rattle.law_terms.specs.Operators.{truth, width, to_bits, to_truth, apply}
use Rattle.law_terms.specs.Operators as operators
use Rattle.law_terms.specs.Tables.{Interpretation}
use Rattle.law_terms.specs.Types.{type_eq, type_of, types_of, is_bits, width_in, extended_type, bits_and_bits, result_type}
use Rattle.law_terms.specs.ValueOrder.{value_eq}
use Rattle.law_terms.specs.Values.{Value, BoolValue, BitVecValue}
use Rattle.law_terms.specs.Plain.{PlainType, BitVecType, BoolType, PlainOp, AndOp, BitsOp, BvnegOp, BvnegoOp, EqOp, IteOp, NotOp, OrOp, OverflowOp, TestOp, ZeroExtendOp, PlainTerm, PlainTerms, no_terms, one_term}
use Rattle.law_terms.proofs.Soundness as sound
use Rattle.law_terms.proofs.TypeOrder.{eq_same}
use Rattle.law_terms.proofs.ValueOrder.{values_decided}
use Rattle.law_blasting.specs.OperatorCircuits.{the_bit, bits_circuit, test_circuit, overflow_circuit, operator_circuit}
use Rattle.law_blasting.specs.Refusals.{is_supported, is_supported_on_bits, is_supported_overflow}

-- a value of a type with its bits: one of a Boolean, and at least one of a bitvector
pub data HasBits : PlainType → List Bool → Value → Type 0 where
  OfTruth : (b : Bool) → HasBits BoolType (b ∷ []) (BoolValue b)
  OfNumber : (b : Bool) (bs : List Bool) → HasBits (BitVecType (suc (length bs))) (b ∷ bs) (BitVecValue (suc (length bs)) (number (b ∷ bs)))

pub of_bits : (n a : ℕ) (bs : List Bool) → 1 ≤ n → length bs ≡ n → number bs ≡ a → HasBits (BitVecType n) bs (BitVecValue n a)
of_bits n a [] l e f = absurd (omega (arith, l, e))
of_bits n a (b ∷ bs) l e f = subst (λ m. HasBits (BitVecType m) (b ∷ bs) (BitVecValue m a)) e (subst (λ m. HasBits (BitVecType (suc (length bs))) (b ∷ bs) (BitVecValue (suc (length bs)) m)) f (OfNumber b bs))

of_truth : (b c : Bool) → b ≡ c → HasBits BoolType (b ∷ []) (BoolValue c)
of_truth b c e = subst (λ d. HasBits BoolType (b ∷ []) (BoolValue d)) e (OfTruth b)

same_width : (n m : ℕ) → type_eq (BitVecType n) (BitVecType m) ≡ true → n ≡ m
same_width n m e = ap (λ t. unwrap_or (width_in t) 0) (eq_same (BitVecType n) (BitVecType m) e)

-- ---- comparisons

not_less : (a b : ℕ) (t u : Bool) → nat_lt b a ≡ t → nat_le a b ≡ u → not t ≡ u
not_less a b true true e f = let p : b < a = ltb-true b a e in let q : a ≤ b = leb-true a b f in absurd (omega (arith, p, q))
not_less a b true false e f = refl
not_less a b false true e f = refl
not_less a b false false e f = let p : a ≤ b = ltb-false b a e in let q : b < a = leb-false a b f in absurd (omega (arith, p, q))

not_less_signed : (a b : ℤ) (t u : Bool) → int_lt b a ≡ t → int_le a b ≡ u → not t ≡ u
not_less_signed a b true true e f = absurd (omega (arith, ints, e, f))
not_less_signed a b true false e f = refl
not_less_signed a b false true e f = refl
not_less_signed a b false false e f = absurd (omega (arith, ints, e, f))

-- ---- two bitvectors of one width

module _ (f : List Bool → List Bool → List Bool) (F : ℕ → ℕ → ℕ → ℕ) (law : (xs ys : List Bool) → length xs ≡ length ys → number (f xs ys) ≡ F (length xs) (number xs) (number ys)) (keeps : (xs ys : List Bool) → length xs ≡ length ys → length (f xs ys) ≡ length xs) where
  on_bits : (t u ty : PlainType) (xs ys : List Bool) (v w : Value) → then_some (bits_and_bits t u) t ≡ Some ty → HasBits t xs v → HasBits u ys w → HasBits ty (f xs ys) (to_bits F v w)
  on_bits t u ty xs ys v w e (OfNumber b bs) (OfNumber c cs) =
      let k = sound.chosen (type_eq (BitVecType (suc (length bs))) (BitVecType (suc (length cs)))) (BitVecType (suc (length bs))) ty e in
      let s : suc (length bs) ≡ suc (length cs) = same_width (suc (length bs)) (suc (length cs)) k.0 in
      subst (λ x. HasBits x (f (b ∷ bs) (c ∷ cs)) (BitVecValue (suc (length bs)) (F (suc (length bs)) (number (b ∷ bs)) (number (c ∷ cs))))) k.1
      (of_bits (suc (length bs)) (F (suc (length bs)) (number (b ∷ bs)) (number (c ∷ cs))) (f (b ∷ bs) (c ∷ cs)) (omega arith) (keeps (b ∷ bs) (c ∷ cs) s) (law (b ∷ bs) (c ∷ cs) s))
  on_bits t u ty xs ys v w e (OfNumber b bs) (OfTruth c) = cc
  on_bits t u ty xs ys v w e (OfTruth b) k = cc

module _ (f : List Bool → List Bool → Bool) (F : ℕ → ℕ → ℕ → Bool) (law : (xs ys : List Bool) (k : ℕ) → length xs ≡ suc k → length ys ≡ suc k → f xs ys ≡ F (suc k) (number xs) (number ys)) where
  on_truths : (t u ty : PlainType) (xs ys : List Bool) (v w : Value) → then_some (bits_and_bits t u) BoolType ≡ Some ty → HasBits t xs v → HasBits u ys w → HasBits ty (f xs ys ∷ []) (to_truth F v w)
  on_truths t u ty xs ys v w e (OfNumber b bs) (OfNumber c cs) =
      let k = sound.chosen (type_eq (BitVecType (suc (length bs))) (BitVecType (suc (length cs)))) BoolType ty e in
      let s : suc (length bs) ≡ suc (length cs) = same_width (suc (length bs)) (suc (length cs)) k.0 in
      subst (λ x. HasBits x (f (b ∷ bs) (c ∷ cs) ∷ []) (BoolValue (F (suc (length bs)) (number (b ∷ bs)) (number (c ∷ cs))))) k.1
      (of_truth (f (b ∷ bs) (c ∷ cs)) (F (suc (length bs)) (number (b ∷ bs)) (number (c ∷ cs))) (law (b ∷ bs) (c ∷ cs) (length bs) refl (sym s)))
  on_truths t u ty xs ys v w e (OfNumber b bs) (OfTruth c) = cc
  on_truths t u ty xs ys v w e (OfTruth b) k = cc

bits_operators : (o : BitsOperator) → is_supported_on_bits o ≡ true → (t u ty : PlainType) (xs ys : List Bool) (v w : Value) → then_some (bits_and_bits t u) t ≡ Some ty → HasBits t xs v → HasBits u ys w → HasBits ty (bits_circuit truth_gates o xs ys) (to_bits (bits_entry o).function v w)
bits_operators BvaddOp s = on_bits (λ xs ys. sum truth_gates xs ys false) (bits_entry BvaddOp).function sums_are_added (λ xs ys e. sum_length xs ys false e)
bits_operators BvsubOp s = on_bits (λ xs ys. difference truth_gates xs ys false) (bits_entry BvsubOp).function differences_are_taken (λ xs ys e. difference_length xs ys false e)
bits_operators BvshlOp s = on_bits (λ xs ys. shift truth_gates (up truth_gates) (length xs) 1 ys xs) (bits_entry BvshlOp).function (λ xs ys e. shifts_go_up xs ys) (λ xs ys e. shift_length (up truth_gates) up_length (length xs) 1 ys xs)
bits_operators BvlshrOp s = on_bits (λ xs ys. shift truth_gates (down truth_gates) (length xs) 1 ys xs) (bits_entry BvlshrOp).function (λ xs ys e. shifts_go_down xs ys) (λ xs ys e. shift_length (down truth_gates) down_length (length xs) 1 ys xs)
bits_operators BvmulOp s = cc
bits_operators BvsdivOp s = cc
bits_operators BvsmodOp s = cc
bits_operators BvsremOp s = cc
bits_operators BvudivOp s = cc
bits_operators BvuremOp s = cc

less_here : (xs ys : List Bool) (k : ℕ) → length xs ≡ suc k → length ys ≡ suc k → borrow_out truth_gates xs ys false ≡ nat_lt (number xs) (number ys)
less_here xs ys k e f = less_is_borrowed xs ys (e ∙ sym f)

test_operators : (o : TestOperator) (t u ty : PlainType) (xs ys : List Bool) (v w : Value) → then_some (bits_and_bits t u) BoolType ≡ Some ty → HasBits t xs v → HasBits u ys w → HasBits ty (test_circuit truth_gates o xs ys ∷ []) (to_truth (test_entry o).function v w)
test_operators BvultOp = on_truths (test_circuit truth_gates BvultOp) (test_entry BvultOp).function less_here
test_operators BvuleOp = on_truths (test_circuit truth_gates BvuleOp) (test_entry BvuleOp).function (λ xs ys k e f. ap not (less_here ys xs k f e) ∙ not_less (number xs) (number ys) (nat_lt (number ys) (number xs)) (nat_le (number xs) (number ys)) refl refl)
test_operators BvsltOp = on_truths (test_circuit truth_gates BvsltOp) (test_entry BvsltOp).function less_is_signed
test_operators BvsleOp = on_truths (test_circuit truth_gates BvsleOp) (test_entry BvsleOp).function (λ xs ys k e f. ap not (less_is_signed ys xs k f e) ∙ not_less_signed (signed (suc k) (number xs)) (signed (suc k) (number ys)) (bvslt (suc k) (number ys) (number xs)) (bvsle (suc k) (number xs) (number ys)) refl refl)

overflow_operators : (o : OverflowOperator) → is_supported_overflow o ≡ true → (t u ty : PlainType) (xs ys : List Bool) (v w : Value) → then_some (bits_and_bits t u) BoolType ≡ Some ty → HasBits t xs v → HasBits u ys w → HasBits ty (overflow_circuit truth_gates o xs ys) (to_truth (overflow_entry o).function v w)
overflow_operators BvsaddoOp s = on_truths (λ xs ys. carries_differ truth_gates xs ys false) (overflow_entry BvsaddoOp).function sums_overflow
overflow_operators BvssuboOp s = on_truths (λ xs ys. borrows_differ truth_gates xs ys false) (overflow_entry BvssuboOp).function differences_overflow
overflow_operators BvsmuloOp s = cc

-- ---- one bitvector

negation : (t ty : PlainType) (xs : List Bool) (v : Value) → then_some (is_bits t) t ≡ Some ty → HasBits t xs v → HasBits ty (difference truth_gates (zeros truth_gates xs) xs false) (BitVecValue (width v) (bvneg (width v) (operators.number v)))
negation t ty xs v e (OfNumber b bs) =
    let z : length (zeros truth_gates (b ∷ bs)) ≡ length (b ∷ bs) = length-replicate (length (b ∷ bs)) false in
    subst (λ x. HasBits x (difference truth_gates (zeros truth_gates (b ∷ bs)) (b ∷ bs) false) (BitVecValue (suc (length bs)) (bvneg (suc (length bs)) (number (b ∷ bs))))) (sound.inside (BitVecType (suc (length bs))) ty e)
    (of_bits (suc (length bs)) (bvneg (suc (length bs)) (number (b ∷ bs))) (difference truth_gates (zeros truth_gates (b ∷ bs)) (b ∷ bs) false) (omega arith) (difference_length (zeros truth_gates (b ∷ bs)) (b ∷ bs) false z ∙ z) (negations_are_taken (b ∷ bs)))
negation t ty xs v e (OfTruth b) = cc

negation_overflow : (t ty : PlainType) (xs : List Bool) (v : Value) → then_some (is_bits t) BoolType ≡ Some ty → HasBits t xs v → HasBits ty (borrows_differ truth_gates (zeros truth_gates xs) xs false ∷ []) (BoolValue (bvnego (width v) (operators.number v)))
negation_overflow t ty xs v e (OfNumber b bs) =
    subst (λ x. HasBits x (borrows_differ truth_gates (zeros truth_gates (b ∷ bs)) (b ∷ bs) false ∷ []) (BoolValue (bvnego (suc (length bs)) (number (b ∷ bs))))) (sound.inside BoolType ty e)
    (of_truth (borrows_differ truth_gates (zeros truth_gates (b ∷ bs)) (b ∷ bs) false) (bvnego (suc (length bs)) (number (b ∷ bs))) (negations_overflow (b ∷ bs) (length bs) refl))
negation_overflow t ty xs v e (OfTruth b) = cc

extension : (k : ℕ) (t ty : PlainType) (xs : List Bool) (v : Value) → extended_type k t ≡ Some ty → HasBits t xs v → HasBits ty (extended truth_gates k xs) (BitVecValue (width v + k) (operators.number v))
extension k t ty xs v e (OfNumber b bs) =
    let n : length (extended truth_gates k (b ∷ bs)) ≡ suc (length bs) + k = omega (arith, length-append bs (replicate k false), length-replicate k false) in
    subst (λ x. HasBits x (extended truth_gates k (b ∷ bs)) (BitVecValue (suc (length bs) + k) (number (b ∷ bs)))) (sound.chosen (nat_le (suc (length bs) + k) 128) (BitVecType (suc (length bs) + k)) ty e).1
    (of_bits (suc (length bs) + k) (number (b ∷ bs)) (extended truth_gates k (b ∷ bs)) (omega arith) n (extensions_keep k (b ∷ bs)))
extension k t ty xs v e (OfTruth b) = cc

-- ---- values of one type

pub same_bits : (b c : Bool) → beq b c ≡ value_eq (BoolValue b) (BoolValue c)
same_bits true true = refl
same_bits true false = refl
same_bits false true = refl
same_bits false false = refl

equality : (t u : PlainType) (xs ys : List Bool) (v w : Value) → type_eq t u ≡ true → HasBits t xs v → HasBits u ys w → HasBits BoolType (equal truth_gates xs ys ∷ []) (BoolValue (value_eq v w))
equality t u xs ys v w e (OfTruth b) (OfTruth c) = of_truth (beq b c) (value_eq (BoolValue b) (BoolValue c)) (same_bits b c)
equality t u xs ys v w e (OfNumber b bs) (OfNumber c cs) =
    let s : suc (length bs) ≡ suc (length cs) = same_width (suc (length bs)) (suc (length cs)) e in
    let v = BitVecValue (suc (length bs)) (number (b ∷ bs)) in
    let w = BitVecValue (suc (length cs)) (number (c ∷ cs)) in
    let d = equal_decides (b ∷ bs) (c ∷ cs) s in
    let i = values_decided v w in
    of_truth (equal truth_gates (b ∷ bs) (c ∷ cs)) (value_eq v w)
    (same_from_decides (equal truth_gates (b ∷ bs) (c ∷ cs)) (value_eq v w) d (λ h. ap operators.number (i.0 h), λ h. i.1 (ap (λ n. BitVecValue n (number (b ∷ bs))) s ∙ ap (BitVecValue (suc (length cs))) h)))
equality t u xs ys v w e (OfNumber b bs) (OfTruth c) = cc
equality t u xs ys v w e (OfTruth b) (OfNumber c cs) = cc

picked : (c : Bool) (t : PlainType) (xs ys : List Bool) (v w : Value) → HasBits t xs v → HasBits t ys w → HasBits t (cond c xs ys) (cond c v w)
picked true t xs ys v w h k = h
picked false t xs ys v w h k = k

one_length : (t u : PlainType) (xs ys : List Bool) (v w : Value) → type_eq t u ≡ true → HasBits t xs v → HasBits u ys w → length xs ≡ length ys
one_length t u xs ys v w e (OfTruth b) (OfTruth c) = refl
one_length t u xs ys v w e (OfNumber b bs) (OfNumber c cs) = same_width (suc (length bs)) (suc (length cs)) e
one_length t u xs ys v w e (OfNumber b bs) (OfTruth c) = cc
one_length t u xs ys v w e (OfTruth b) (OfNumber c cs) = cc

bit_is : (t : PlainType) (xs : List Bool) (v : Value) → type_eq t BoolType ≡ true → HasBits t xs v → the_bit truth_gates xs ≡ truth v
bit_is t xs v e (OfTruth b) = refl
bit_is t xs v e (OfNumber b bs) = cc

choice : (g t u ty : PlainType) (cs xs ys : List Bool) (c v w : Value) → then_some (type_eq g BoolType && type_eq t u) t ≡ Some ty → HasBits g cs c → HasBits t xs v → HasBits u ys w → HasBits ty (choose truth_gates (the_bit truth_gates cs) xs ys) (cond (truth c) v w)
choice g t u ty cs xs ys c v w e h k l =
    let p = sound.chosen (type_eq g BoolType && type_eq t u) t ty e in
    let q = and_parts (type_eq g BoolType) (type_eq t u) p.0 in
    let same : t ≡ u = eq_same t u q.1 in
    let i : the_bit truth_gates cs ≡ truth c = bit_is g cs c q.0 h in
    let l2 : HasBits t ys w = subst (λ x. HasBits x ys w) (sym same) l in
    subst (λ x. HasBits x (choose truth_gates (the_bit truth_gates cs) xs ys) (cond (truth c) v w)) p.1
    (subst (λ zs. HasBits t zs (cond (truth c) v w)) (sym (chosen (the_bit truth_gates cs) xs ys (one_length t u xs ys v w q.1 k l))) (subst (λ b. HasBits t (cond (the_bit truth_gates cs) xs ys) (cond b v w)) i (picked (the_bit truth_gates cs) t xs ys v w k l2)))

-- ---- all operators

-- arguments with their bits
pub data HaveBits (I : Interpretation) : PlainTerms → List (List Bool) → Type 0 where
  none : HaveBits I no_terms []
  one : {t : PlainTerm} {ts : PlainTerms} {bs : List Bool} {bss : List (List Bool)} → HasBits (type_of t) bs (meaning I t) → HaveBits I ts bss → HaveBits I (one_term t ts) (bs ∷ bss)

truth_of : (t : Bool) (ty : PlainType) (b c : Bool) → then_some t BoolType ≡ Some ty → (t ≡ true → b ≡ c) → HasBits ty (b ∷ []) (BoolValue c)
truth_of t ty b c e f = let p = sound.chosen t BoolType ty e in subst (λ x. HasBits x (b ∷ []) (BoolValue c)) p.1 (of_truth b c (f p.0))

pub operators_have_bits : (I : Interpretation) (o : PlainOp) (ts : PlainTerms) (bss : List (List Bool)) (ty : PlainType) → result_type o (types_of ts) ≡ Some ty → is_supported o ≡ true → HaveBits I ts bss → HasBits ty (operator_circuit truth_gates o bss) (apply I o ty (meanings I ts))
operators_have_bits I NotOp ts bss ty e s (one {t = a} {bs = xs} h none) = truth_of (type_eq (type_of a) BoolType) ty _ _ e (λ q. ap not (bit_is (type_of a) xs (meaning I a) q h))
operators_have_bits I AndOp ts bss ty e s (one {t = a} {bs = xs} h (one {t = b} {bs = ys} k none)) =
    truth_of (type_eq (type_of a) BoolType && type_eq (type_of b) BoolType) ty _ _ e (λ q. let r = and_parts (type_eq (type_of a) BoolType) (type_eq (type_of b) BoolType) q in ap (λ c. c && the_bit truth_gates ys) (bit_is (type_of a) xs (meaning I a) r.0 h) ∙ ap (λ c. truth (meaning I a) && c) (bit_is (type_of b) ys (meaning I b) r.1 k))
operators_have_bits I OrOp ts bss ty e s (one {t = a} {bs = xs} h (one {t = b} {bs = ys} k none)) =
    truth_of (type_eq (type_of a) BoolType && type_eq (type_of b) BoolType) ty _ _ e (λ q. let r = and_parts (type_eq (type_of a) BoolType) (type_eq (type_of b) BoolType) q in ap (λ c. c || the_bit truth_gates ys) (bit_is (type_of a) xs (meaning I a) r.0 h) ∙ ap (λ c. truth (meaning I a) || c) (bit_is (type_of b) ys (meaning I b) r.1 k))
operators_have_bits I EqOp ts bss ty e s (one {t = a} {bs = xs} h (one {t = b} {bs = ys} k none)) =
    let p = sound.chosen (type_eq (type_of a) (type_of b)) BoolType ty e in
    subst (λ x. HasBits x (equal truth_gates xs ys ∷ []) (BoolValue (value_eq (meaning I a) (meaning I b)))) p.1 (equality (type_of a) (type_of b) xs ys (meaning I a) (meaning I b) p.0 h k)
operators_have_bits I IteOp ts bss ty e s (one {t = c} {bs = cs} l (one {t = a} {bs = xs} h (one {t = b} {bs = ys} k none))) = choice (type_of c) (type_of a) (type_of b) ty cs xs ys (meaning I c) (meaning I a) (meaning I b) e l h k
operators_have_bits I BvnegOp ts bss ty e s (one {t = a} {bs = xs} h none) = negation (type_of a) ty xs (meaning I a) e h
operators_have_bits I BvnegoOp ts bss ty e s (one {t = a} {bs = xs} h none) = negation_overflow (type_of a) ty xs (meaning I a) e h
operators_have_bits I (BitsOp o) ts bss ty e s (one {t = a} {bs = xs} h (one {t = b} {bs = ys} k none)) = bits_operators o s (type_of a) (type_of b) ty xs ys (meaning I a) (meaning I b) e h k
operators_have_bits I (TestOp o) ts bss ty e s (one {t = a} {bs = xs} h (one {t = b} {bs = ys} k none)) = test_operators o (type_of a) (type_of b) ty xs ys (meaning I a) (meaning I b) e h k
operators_have_bits I (OverflowOp o) ts bss ty e s (one {t = a} {bs = xs} h (one {t = b} {bs = ys} k none)) = overflow_operators o s (type_of a) (type_of b) ty xs ys (meaning I a) (meaning I b) e h k
operators_have_bits I (ZeroExtendOp n) ts bss ty e s (one {t = a} {bs = xs} h none) = extension n (type_of a) ty xs (meaning I a) e h
operators_have_bits I o ts bss ty e s h = cc
