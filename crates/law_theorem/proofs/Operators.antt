-- Operators give what is carried.
use Rattle.std.proofs.Common.{◌≡◌, ℕ, ◌+◌, Bool, true, false, cond, ◌&&◌, ◌||◌, List, [], ◌∷◌, refl, sym, ap, ◌∙◌, subst}
use Rattle.std.specs.Prelude.{not, nat_le, Option, Some, None}
use Rattle.std.specs.Bool.{then_some}
use Rattle.std.specs.Cmp.{first_so, second_so}
use Rattle.std.proofs.lemmas.Bool.{eq-eqb}
use Rattle.law_numbers.specs.BitOperators.{bits_entry, test_entry, overflow_entry}
use Rattle.law_terms.specs.Plain.{PlainType, BitVecType, BoolType, StringType, SetType, PlainOp, AndOp, BvnegOp, BvnegoOp, EqOp, ExtOp, IteOp, NotOp, OptionGetOp, OrOp, RecordGetOp, SetInterOp, SetMemberOp, SetSubsetOp, StringLikeOp, UufOp, ZeroExtendOp, PatternPart, BitsOp, TestOp, OverflowOp}
use Rattle.law_terms.specs.Values.{Value, BoolValue, BitVecValue, StringValue, SetValue}
use Rattle.law_scripts.specs.ScriptValues.{TruthOf, BitsOf, SetOf}
use Rattle.law_numbers.specs.BitVectors as bits
use Rattle.law_terms.specs.Operators.{truth, to_bits, to_truth, elements, is_member, is_subset, intersection, characters, apply}
use Rattle.law_terms.specs.Patterns.{matches}
use Rattle.law_terms.specs.Tables.{Interpretation}
use Rattle.law_terms.specs.Types.{type_eq, is_bits, is_set, bits_and_bits, extended_type, result_type}
use Rattle.law_terms.specs.TypeValues.{IsValue, Enums, AreEnums}
use Rattle.law_terms.specs.ValueOrder.{value_eq, set_of}
use Rattle.law_terms.proofs.TypeOrder.{eq_same}
use Rattle.law_scripts.specs.Value.{on_truth, on_truths, on_two, choice, on_bits, extended, on_two_bits, in_set, on_sets, on_text, operator_value}
use Rattle.law_scripts.specs.ScriptOrder as sets
use Rattle.law_lines.specs.NameTables.{Tables}
use Rattle.law_theorem.specs.Carry.{carry}
use Rattle.law_theorem.specs.CarriedOperators.{AreValues, carry_each, is_script_operator}
use Rattle.law_theorem.proofs.Ordered.{same_values}
use Rattle.law_theorem.proofs.Sets.{member_carried, subset_carried, intersected}
use Rattle.law_terms.proofs.Soundness.{inside, chosen}

module _ (enums : Enums) (T : List PlainType → List Value → Type 0) where
  unary : ((vs : List Value) → T [] vs) → ((t u : PlainType) (tys : List PlainType) (vs : List Value) → T (t ∷ u ∷ tys) vs)
      → ((t : PlainType) (v : Value) → IsValue enums t v → T (t ∷ []) (v ∷ [])) → (tys : List PlainType) (vs : List Value) → AreValues enums tys vs → T tys vs
  unary n m f [] vs a = n vs
  unary n m f (t ∷ []) [] a = absurd a
  unary n m f (t ∷ []) (v ∷ []) a = f t v a.0
  unary n m f (t ∷ []) (v ∷ w ∷ vs) a = absurd a.1
  unary n m f (t ∷ u ∷ tys) vs a = m t u tys vs

  binary : ((vs : List Value) → T [] vs) → ((t : PlainType) (vs : List Value) → T (t ∷ []) vs) → ((t u x : PlainType) (tys : List PlainType) (vs : List Value) → T (t ∷ u ∷ x ∷ tys) vs)
      → ((t u : PlainType) (v w : Value) → IsValue enums t v → IsValue enums u w → T (t ∷ u ∷ []) (v ∷ w ∷ [])) → (tys : List PlainType) (vs : List Value) → AreValues enums tys vs → T tys vs
  binary n o m f [] vs a = n vs
  binary n o m f (t ∷ []) vs a = o t vs
  binary n o m f (t ∷ u ∷ []) [] a = absurd a
  binary n o m f (t ∷ u ∷ []) (v ∷ []) a = absurd a.1
  binary n o m f (t ∷ u ∷ []) (v ∷ w ∷ []) a = f t u v w a.0 a.1.0
  binary n o m f (t ∷ u ∷ []) (v ∷ w ∷ x ∷ vs) a = absurd a.1.1
  binary n o m f (t ∷ u ∷ x ∷ tys) vs a = m t u x tys vs

  ternary : ((vs : List Value) → T [] vs) → ((t : PlainType) (vs : List Value) → T (t ∷ []) vs) → ((t u : PlainType) (vs : List Value) → T (t ∷ u ∷ []) vs)
      → ((t u x y : PlainType) (tys : List PlainType) (vs : List Value) → T (t ∷ u ∷ x ∷ y ∷ tys) vs)
      → ((t u x : PlainType) (v w z : Value) → IsValue enums t v → IsValue enums u w → IsValue enums x z → T (t ∷ u ∷ x ∷ []) (v ∷ w ∷ z ∷ [])) → (tys : List PlainType) (vs : List Value) → AreValues enums tys vs → T tys vs
  ternary n o p m f [] vs a = n vs
  ternary n o p m f (t ∷ []) vs a = o t vs
  ternary n o p m f (t ∷ u ∷ []) vs a = p t u vs
  ternary n o p m f (t ∷ u ∷ x ∷ []) [] a = absurd a
  ternary n o p m f (t ∷ u ∷ x ∷ []) (v ∷ []) a = absurd a.1
  ternary n o p m f (t ∷ u ∷ x ∷ []) (v ∷ w ∷ []) a = absurd a.1.1
  ternary n o p m f (t ∷ u ∷ x ∷ []) (v ∷ w ∷ z ∷ []) a = f t u x v w z a.0 a.1.0 a.1.1.0
  ternary n o p m f (t ∷ u ∷ x ∷ []) (v ∷ w ∷ z ∷ y ∷ vs) a = absurd a.1.1.1
  ternary n o p m f (t ∷ u ∷ x ∷ y ∷ tys) vs a = m t u x y tys vs

module _ (enums : Enums) (s : Tables) (good : AreEnums enums) where
  -- ---- Booleans

  truth_at : (f : Bool → Bool) (v : Value) → IsValue enums BoolType v → on_truth f (carry enums s BoolType v ∷ []) ≡ Some (TruthOf (f (truth v)))
  truth_at f (BoolValue b) h = refl
  truth_at f v h = absurd h

  truths_at : (f : Bool → Bool → Bool) (v w : Value) → IsValue enums BoolType v → IsValue enums BoolType w → on_truths f (carry enums s BoolType v ∷ carry enums s BoolType w ∷ []) ≡ Some (TruthOf (f (truth v) (truth w)))
  truths_at f (BoolValue b) (BoolValue c) h k = refl
  truths_at f (BoolValue b) w h k = absurd k
  truths_at f v w h k = absurd h

  choice_at : (t : PlainType) (g v w : Value) → IsValue enums BoolType g → choice (carry enums s BoolType g ∷ carry enums s t v ∷ carry enums s t w ∷ []) ≡ Some (carry enums s t (cond (truth g) v w))
  choice_at t (BoolValue true) v w h = refl
  choice_at t (BoolValue false) v w h = refl
  choice_at t g v w h = absurd h

  truth_case : (f : Bool → Bool) (t ty : PlainType) (v : Value) → IsValue enums t v → then_some (type_eq t BoolType) BoolType ≡ Some ty → on_truth f (carry enums s t v ∷ []) ≡ Some (carry enums s ty (BoolValue (f (truth v))))
  truth_case f t ty v h r =
      let c : (type_eq t BoolType ≡ true) × (BoolType ≡ ty) = chosen (type_eq t BoolType) BoolType ty r in
      let e : BoolType ≡ t = sym (eq_same t BoolType c.0) in
      subst (λ x. on_truth f (carry enums s t v ∷ []) ≡ Some (carry enums s x (BoolValue (f (truth v))))) c.1
      (subst (λ x. IsValue enums x v → on_truth f (carry enums s x v ∷ []) ≡ Some (TruthOf (f (truth v)))) e (truth_at f v) h)

  truths_case : (f : Bool → Bool → Bool) (t u ty : PlainType) (v w : Value) → IsValue enums t v → IsValue enums u w → then_some (type_eq t BoolType && type_eq u BoolType) BoolType ≡ Some ty
      → on_truths f (carry enums s t v ∷ carry enums s u w ∷ []) ≡ Some (carry enums s ty (BoolValue (f (truth v) (truth w))))
  truths_case f t u ty v w h k r =
      let c : ((type_eq t BoolType && type_eq u BoolType) ≡ true) × (BoolType ≡ ty) = chosen (type_eq t BoolType && type_eq u BoolType) BoolType ty r in
      let d : BoolType ≡ t = sym (eq_same t BoolType (first_so (type_eq t BoolType) (type_eq u BoolType) c.0)) in
      let e : BoolType ≡ u = sym (eq_same u BoolType (second_so (type_eq t BoolType) (type_eq u BoolType) c.0)) in
      subst (λ x. on_truths f (carry enums s t v ∷ carry enums s u w ∷ []) ≡ Some (carry enums s x (BoolValue (f (truth v) (truth w))))) c.1
      (subst (λ x. IsValue enums x v → on_truths f (carry enums s x v ∷ carry enums s u w ∷ []) ≡ Some (TruthOf (f (truth v) (truth w)))) d
      (subst (λ x. IsValue enums x w → IsValue enums BoolType v → on_truths f (carry enums s BoolType v ∷ carry enums s x w ∷ []) ≡ Some (TruthOf (f (truth v) (truth w)))) e (λ q p. truths_at f v w p q) k) h)

  equal_case : (t u ty : PlainType) (v w : Value) → IsValue enums t v → IsValue enums u w → then_some (type_eq t u) BoolType ≡ Some ty
      → on_two (carry enums s t v ∷ carry enums s u w ∷ []) ≡ Some (carry enums s ty (BoolValue (value_eq v w)))
  equal_case t u ty v w h k r =
      let c : (type_eq t u ≡ true) × (BoolType ≡ ty) = chosen (type_eq t u) BoolType ty r in
      subst (λ x. on_two (carry enums s t v ∷ carry enums s u w ∷ []) ≡ Some (carry enums s x (BoolValue (value_eq v w)))) c.1
      (subst (λ x. IsValue enums x w → on_two (carry enums s t v ∷ carry enums s x w ∷ []) ≡ Some (TruthOf (value_eq v w))) (eq_same t u c.0) (λ q. ap (λ b. Some (TruthOf b)) (same_values enums s good t v w h q)) k)

  choice_case : (g t u ty : PlainType) (a v w : Value) → IsValue enums g a → then_some (type_eq g BoolType && type_eq t u) t ≡ Some ty
      → choice (carry enums s g a ∷ carry enums s t v ∷ carry enums s u w ∷ []) ≡ Some (carry enums s ty (cond (truth a) v w))
  choice_case g t u ty a v w h r =
      let c : ((type_eq g BoolType && type_eq t u) ≡ true) × (t ≡ ty) = chosen (type_eq g BoolType && type_eq t u) t ty r in
      let d : BoolType ≡ g = sym (eq_same g BoolType (first_so (type_eq g BoolType) (type_eq t u) c.0)) in
      let e : t ≡ u = eq_same t u (second_so (type_eq g BoolType) (type_eq t u) c.0) in
      subst (λ x. choice (carry enums s g a ∷ carry enums s t v ∷ carry enums s u w ∷ []) ≡ Some (carry enums s x (cond (truth a) v w))) c.1
      (subst (λ x. IsValue enums x a → choice (carry enums s x a ∷ carry enums s t v ∷ carry enums s u w ∷ []) ≡ Some (carry enums s t (cond (truth a) v w))) d
      (subst (λ x. IsValue enums BoolType a → choice (carry enums s BoolType a ∷ carry enums s t v ∷ carry enums s x w ∷ []) ≡ Some (carry enums s t (cond (truth a) v w))) e (choice_at t a v w)) h)

  -- ---- bitvectors

  negated_case : (t ty : PlainType) (v : Value) → IsValue enums t v → then_some (is_bits t) t ≡ Some ty → (I : Interpretation) → on_bits bits.bvneg (carry enums s t v ∷ []) ≡ Some (carry enums s ty (apply I BvnegOp ty (v ∷ [])))
  negated_case (BitVecType n) ty (BitVecValue m a) h r I = subst (λ x. Some (BitsOf m (bits.bvneg m a)) ≡ Some (carry enums s x (BitVecValue m (bits.bvneg m a)))) (inside (BitVecType n) ty r) refl
  negated_case (BitVecType n) ty v h r I = absurd h
  negated_case t ty v h r I = absurd cc

  extended_at : (n k m a : ℕ) (ty : PlainType) (b : Bool) → then_some b (BitVecType (n + k)) ≡ Some ty → m ≡ n → nat_le (n + k) 128 ≡ b
      → cond (nat_le (m + k) 128) (Some (BitsOf (m + k) a)) None ≡ Some (carry enums s ty (BitVecValue (m + k) a))
  extended_at n k m a ty true r e f =
      ap (λ c. cond c (Some (BitsOf (m + k) a)) None) (ap (λ x. nat_le (x + k) 128) e ∙ f)
      ∙ subst (λ x. Some (BitsOf (m + k) a) ≡ Some (carry enums s x (BitVecValue (m + k) a))) (inside (BitVecType (n + k)) ty r) refl
  extended_at n k m a ty false r e f = cc

  extended_case : (k : ℕ) (t ty : PlainType) (v : Value) → IsValue enums t v → extended_type k t ≡ Some ty → (I : Interpretation) → extended k (carry enums s t v ∷ []) ≡ Some (carry enums s ty (apply I (ZeroExtendOp k) ty (v ∷ [])))
  extended_case k (BitVecType n) ty (BitVecValue m a) h r I = extended_at n k m a ty (nat_le (n + k) 128) r h.0 refl
  extended_case k (BitVecType n) ty v h r I = absurd h
  extended_case k t ty v h r I = absurd cc

  bits_at : (f : ℕ → ℕ → ℕ → ℕ) (test : Option (ℕ → ℕ → ℕ → Bool)) (n : ℕ) (v w : Value) → IsValue enums (BitVecType n) v → IsValue enums (BitVecType n) w
      → on_two_bits (Some f) test (carry enums s (BitVecType n) v ∷ carry enums s (BitVecType n) w ∷ []) ≡ Some (carry enums s (BitVecType n) (to_bits f v w))
  bits_at f test n (BitVecValue l a) (BitVecValue m b) h k =
      ap (λ c. cond c (Some (BitsOf l (f l a b))) None) (eq-eqb l m (h.0 ∙ sym k.0))
  bits_at f test n (BitVecValue l a) w h k = absurd k
  bits_at f test n v w h k = absurd h

  test_at : (f : ℕ → ℕ → ℕ → Bool) (n : ℕ) (v w : Value) → IsValue enums (BitVecType n) v → IsValue enums (BitVecType n) w
      → on_two_bits None (Some f) (carry enums s (BitVecType n) v ∷ carry enums s (BitVecType n) w ∷ []) ≡ Some (carry enums s BoolType (to_truth f v w))
  test_at f n (BitVecValue l a) (BitVecValue m b) h k =
      ap (λ c. cond c (Some (TruthOf (f l a b))) None) (eq-eqb l m (h.0 ∙ sym k.0))
  test_at f n (BitVecValue l a) w h k = absurd k
  test_at f n v w h k = absurd h

  -- two of one width
  widths : (Q : PlainType → PlainType → Value → Value → Type 0) → ((n : ℕ) (v w : Value) → IsValue enums (BitVecType n) v → IsValue enums (BitVecType n) w → Q (BitVecType n) (BitVecType n) v w)
      → (t u : PlainType) (v w : Value) → IsValue enums t v → IsValue enums u w → bits_and_bits t u ≡ true → Q t u v w
  widths Q f (BitVecType n) u v w h k r =
      subst (λ x. IsValue enums x w → Q (BitVecType n) x v w) (eq_same (BitVecType n) u r) (λ q. f n v w h q) k
  widths Q f t u v w h k r = absurd cc

  bits_case : (f : ℕ → ℕ → ℕ → ℕ) (test : Option (ℕ → ℕ → ℕ → Bool)) (t u ty : PlainType) (v w : Value) → IsValue enums t v → IsValue enums u w
      → then_some (bits_and_bits t u) t ≡ Some ty → on_two_bits (Some f) test (carry enums s t v ∷ carry enums s u w ∷ []) ≡ Some (carry enums s ty (to_bits f v w))
  bits_case f test t u ty v w h k r =
      let c : (bits_and_bits t u ≡ true) × (t ≡ ty) = chosen (bits_and_bits t u) t ty r in
      subst (λ x. on_two_bits (Some f) test (carry enums s t v ∷ carry enums s u w ∷ []) ≡ Some (carry enums s x (to_bits f v w))) c.1
      (widths (λ x y p q. on_two_bits (Some f) test (carry enums s x p ∷ carry enums s y q ∷ []) ≡ Some (carry enums s x (to_bits f p q))) (bits_at f test) t u v w h k c.0)

  test_case : (f : ℕ → ℕ → ℕ → Bool) (t u ty : PlainType) (v w : Value) → IsValue enums t v → IsValue enums u w
      → then_some (bits_and_bits t u) BoolType ≡ Some ty → on_two_bits None (Some f) (carry enums s t v ∷ carry enums s u w ∷ []) ≡ Some (carry enums s ty (to_truth f v w))
  test_case f t u ty v w h k r =
      let c : (bits_and_bits t u ≡ true) × (BoolType ≡ ty) = chosen (bits_and_bits t u) BoolType ty r in
      subst (λ x. on_two_bits None (Some f) (carry enums s t v ∷ carry enums s u w ∷ []) ≡ Some (carry enums s x (to_truth f v w))) c.1
      (widths (λ x y p q. on_two_bits None (Some f) (carry enums s x p ∷ carry enums s y q ∷ []) ≡ Some (carry enums s BoolType (to_truth f p q))) (test_at f) t u v w h k c.0)

  -- ---- sets

  member_at : (t : PlainType) (v w : Value) → IsValue enums t v → IsValue enums (SetType t) w → in_set (carry enums s t v ∷ carry enums s (SetType t) w ∷ []) ≡ Some (TruthOf (is_member v (elements w)))
  member_at t v (SetValue ws) h k = ap (λ b. Some (TruthOf b)) (member_carried enums s good t v ws h k.1)
  member_at t v w h k = absurd k

  member_case : (t u ty : PlainType) (v w : Value) → IsValue enums t v → IsValue enums u w → then_some (type_eq u (SetType t)) BoolType ≡ Some ty
      → in_set (carry enums s t v ∷ carry enums s u w ∷ []) ≡ Some (carry enums s ty (BoolValue (is_member v (elements w))))
  member_case t u ty v w h k r =
      let c : (type_eq u (SetType t) ≡ true) × (BoolType ≡ ty) = chosen (type_eq u (SetType t)) BoolType ty r in
      subst (λ x. in_set (carry enums s t v ∷ carry enums s u w ∷ []) ≡ Some (carry enums s x (BoolValue (is_member v (elements w))))) c.1
      (subst (λ x. IsValue enums x w → in_set (carry enums s t v ∷ carry enums s x w ∷ []) ≡ Some (TruthOf (is_member v (elements w)))) (sym (eq_same u (SetType t) c.0)) (member_at t v w h) k)

  subset_at : (t : PlainType) (v w : Value) → IsValue enums (SetType t) v → IsValue enums (SetType t) w
      → on_sets (λ xs ys. TruthOf (sets.is_subset xs ys)) (carry enums s (SetType t) v ∷ carry enums s (SetType t) w ∷ []) ≡ Some (TruthOf (is_subset (elements v) (elements w)))
  subset_at t (SetValue vs) (SetValue ws) h k = ap (λ b. Some (TruthOf b)) (subset_carried enums s good t vs ws h.1 k.1)
  subset_at t (SetValue vs) w h k = absurd k
  subset_at t v w h k = absurd h

  intersection_at : (t : PlainType) (v w : Value) → IsValue enums (SetType t) v → IsValue enums (SetType t) w
      → on_sets (λ xs ys. SetOf (sets.intersection xs ys)) (carry enums s (SetType t) v ∷ carry enums s (SetType t) w ∷ []) ≡ Some (carry enums s (SetType t) (set_of (intersection (elements v) (elements w))))
  intersection_at t (SetValue vs) (SetValue ws) h k = ap (λ x. Some x) (intersected enums s good t vs ws h.0 h.1 k.1)
  intersection_at t (SetValue vs) w h k = absurd k
  intersection_at t v w h k = absurd h

  -- two sets of one type
  two_sets : (Q : PlainType → PlainType → Value → Value → Type 0) → ((t : PlainType) (v w : Value) → IsValue enums (SetType t) v → IsValue enums (SetType t) w → Q (SetType t) (SetType t) v w)
      → (t u : PlainType) (v w : Value) → IsValue enums t v → IsValue enums u w → (is_set t && type_eq t u) ≡ true → Q t u v w
  two_sets Q f (SetType t) u v w h k r = subst (λ x. IsValue enums x w → Q (SetType t) x v w) (eq_same (SetType t) u r) (λ q. f t v w h q) k
  two_sets Q f t u v w h k r = absurd cc

  subset_case : (t u ty : PlainType) (v w : Value) → IsValue enums t v → IsValue enums u w → then_some (is_set t && type_eq t u) BoolType ≡ Some ty
      → on_sets (λ xs ys. TruthOf (sets.is_subset xs ys)) (carry enums s t v ∷ carry enums s u w ∷ []) ≡ Some (carry enums s ty (BoolValue (is_subset (elements v) (elements w))))
  subset_case t u ty v w h k r =
      let c : ((is_set t && type_eq t u) ≡ true) × (BoolType ≡ ty) = chosen (is_set t && type_eq t u) BoolType ty r in
      subst (λ x. on_sets (λ xs ys. TruthOf (sets.is_subset xs ys)) (carry enums s t v ∷ carry enums s u w ∷ []) ≡ Some (carry enums s x (BoolValue (is_subset (elements v) (elements w))))) c.1
      (two_sets (λ x y p q. on_sets (λ xs ys. TruthOf (sets.is_subset xs ys)) (carry enums s x p ∷ carry enums s y q ∷ []) ≡ Some (TruthOf (is_subset (elements p) (elements q)))) subset_at t u v w h k c.0)

  intersection_case : (t u ty : PlainType) (v w : Value) → IsValue enums t v → IsValue enums u w → then_some (is_set t && type_eq t u) t ≡ Some ty
      → on_sets (λ xs ys. SetOf (sets.intersection xs ys)) (carry enums s t v ∷ carry enums s u w ∷ []) ≡ Some (carry enums s ty (set_of (intersection (elements v) (elements w))))
  intersection_case t u ty v w h k r =
      let c : ((is_set t && type_eq t u) ≡ true) × (t ≡ ty) = chosen (is_set t && type_eq t u) t ty r in
      subst (λ x. on_sets (λ xs ys. SetOf (sets.intersection xs ys)) (carry enums s t v ∷ carry enums s u w ∷ []) ≡ Some (carry enums s x (set_of (intersection (elements v) (elements w))))) c.1
      (two_sets (λ x y p q. on_sets (λ xs ys. SetOf (sets.intersection xs ys)) (carry enums s x p ∷ carry enums s y q ∷ []) ≡ Some (carry enums s x (set_of (intersection (elements p) (elements q))))) intersection_at t u v w h k c.0)

  -- ---- texts

  text_at : (p : List PatternPart) (v : Value) → IsValue enums StringType v → on_text (matches p) (carry enums s StringType v ∷ []) ≡ Some (TruthOf (matches p (characters v)))
  text_at p (StringValue text) h = refl
  text_at p v h = absurd h

  text_case : (p : List PatternPart) (t ty : PlainType) (v : Value) → IsValue enums t v → then_some (type_eq t StringType) BoolType ≡ Some ty
      → on_text (matches p) (carry enums s t v ∷ []) ≡ Some (carry enums s ty (BoolValue (matches p (characters v))))
  text_case p t ty v h r =
      let c : (type_eq t StringType ≡ true) × (BoolType ≡ ty) = chosen (type_eq t StringType) BoolType ty r in
      subst (λ x. on_text (matches p) (carry enums s t v ∷ []) ≡ Some (carry enums s x (BoolValue (matches p (characters v))))) c.1
      (subst (λ x. IsValue enums x v → on_text (matches p) (carry enums s x v ∷ []) ≡ Some (TruthOf (matches p (characters v)))) (sym (eq_same t StringType c.0)) (text_at p v) h)

  -- ---- all together

  abbrev Goal : Interpretation → PlainOp → PlainType → List PlainType → List Value → Type 0
  Goal I op ty tys vs = result_type op tys ≡ Some ty → operator_value op (carry_each enums s tys vs) ≡ Some (carry enums s ty (apply I op ty vs))

  pub commutes : (I : Interpretation) (op : PlainOp) (ty : PlainType) (tys : List PlainType) (vs : List Value) → is_script_operator op ≡ true → AreValues enums tys vs → Goal I op ty tys vs
  commutes I NotOp ty tys vs o a = unary enums (Goal I NotOp ty) (λ ws r. cc) (λ t u us ws r. cc) (λ t v h r. truth_case not t ty v h r) tys vs a
  commutes I AndOp ty tys vs o a = binary enums (Goal I AndOp ty) (λ ws r. cc) (λ t ws r. cc) (λ t u x us ws r. cc) (λ t u v w h k r. truths_case (λ a b. a && b) t u ty v w h k r) tys vs a
  commutes I OrOp ty tys vs o a = binary enums (Goal I OrOp ty) (λ ws r. cc) (λ t ws r. cc) (λ t u x us ws r. cc) (λ t u v w h k r. truths_case (λ a b. a || b) t u ty v w h k r) tys vs a
  commutes I EqOp ty tys vs o a = binary enums (Goal I EqOp ty) (λ ws r. cc) (λ t ws r. cc) (λ t u x us ws r. cc) (λ t u v w h k r. equal_case t u ty v w h k r) tys vs a
  commutes I IteOp ty tys vs o a = ternary enums (Goal I IteOp ty) (λ ws r. cc) (λ t ws r. cc) (λ t u ws r. cc) (λ t u x y us ws r. cc) (λ g t u b v w h k l r. choice_case g t u ty b v w h r) tys vs a
  commutes I BvnegOp ty tys vs o a = unary enums (Goal I BvnegOp ty) (λ ws r. cc) (λ t u us ws r. cc) (λ t v h r. negated_case t ty v h r I) tys vs a
  commutes I (ZeroExtendOp n) ty tys vs o a = unary enums (Goal I (ZeroExtendOp n) ty) (λ ws r. cc) (λ t u us ws r. cc) (λ t v h r. extended_case n t ty v h r I) tys vs a
  commutes I (BitsOp b) ty tys vs o a = binary enums (Goal I (BitsOp b) ty) (λ ws r. cc) (λ t ws r. cc) (λ t u x us ws r. cc) (λ t u v w h k r. bits_case (bits_entry b).function None t u ty v w h k r) tys vs a
  commutes I (TestOp b) ty tys vs o a = binary enums (Goal I (TestOp b) ty) (λ ws r. cc) (λ t ws r. cc) (λ t u x us ws r. cc) (λ t u v w h k r. test_case (test_entry b).function t u ty v w h k r) tys vs a
  commutes I (OverflowOp b) ty tys vs o a = binary enums (Goal I (OverflowOp b) ty) (λ ws r. cc) (λ t ws r. cc) (λ t u x us ws r. cc) (λ t u v w h k r. test_case (overflow_entry b).function t u ty v w h k r) tys vs a
  commutes I SetMemberOp ty tys vs o a = binary enums (Goal I SetMemberOp ty) (λ ws r. cc) (λ t ws r. cc) (λ t u x us ws r. cc) (λ t u v w h k r. member_case t u ty v w h k r) tys vs a
  commutes I SetSubsetOp ty tys vs o a = binary enums (Goal I SetSubsetOp ty) (λ ws r. cc) (λ t ws r. cc) (λ t u x us ws r. cc) (λ t u v w h k r. subset_case t u ty v w h k r) tys vs a
  commutes I SetInterOp ty tys vs o a = binary enums (Goal I SetInterOp ty) (λ ws r. cc) (λ t ws r. cc) (λ t u x us ws r. cc) (λ t u v w h k r. intersection_case t u ty v w h k r) tys vs a
  commutes I (StringLikeOp p) ty tys vs o a = unary enums (Goal I (StringLikeOp p) ty) (λ ws r. cc) (λ t u us ws r. cc) (λ t v h r. text_case p t ty v h r) tys vs a
  commutes I BvnegoOp ty tys vs o a = absurd cc
  commutes I (ExtOp e) ty tys vs o a = absurd cc
  commutes I OptionGetOp ty tys vs o a = absurd cc
  commutes I (RecordGetOp x) ty tys vs o a = absurd cc
  commutes I (UufOp f) ty tys vs o a = absurd cc
