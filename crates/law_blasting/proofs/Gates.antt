-- Gates that are terms, and the circuits of operators over them.
use Rattle.std.proofs.Common.{◌≡◌, Bool, true, false, ◌&&◌, ◌||◌, List, [], ◌∷◌, refl, sym, ap, ◌∙◌, subst}
use Rattle.std.specs.Prelude.{not, cond}
use Rattle.std.proofs.lemmas.Bool.{and_from}
use Rattle.law_numbers.specs.BitOperators.{BitsOperator, BvaddOp, BvlshrOp, BvshlOp, BvsubOp, TestOperator, BvsleOp, BvsltOp, BvuleOp, BvultOp, OverflowOperator, BvsaddoOp, BvssuboOp}
use Rattle.law_blasting.specs.Circuits.{Gates, truth_gates}
use Rattle.law_blasting.specs.Passing.{Related, none, one, Passes}
use Rattle.law_blasting.proofs.Passing.{circuits_pass}
use Rattle.law_terms.specs.Meaning.{meaning}
use Rattle.law_terms.specs.Operators.{truth}
use Rattle.law_terms.specs.Tables.{Interpretation}
use Rattle.law_terms.specs.Types.{types_of, result_type, is_type}
use Rattle.law_terms.specs.Typing.{Typed, typed, typed_all}
use Rattle.law_terms.specs.ValueOrder.{value_eq}
use Rattle.law_terms.specs.Values.{BoolValue}
use Rattle.law_terms.specs.Plain.{PlainType, BoolType, PlainOp, AndOp, BitsOp, BvnegOp, BvnegoOp, EqOp, IteOp, NotOp, OrOp, OverflowOp, TestOp, ZeroExtendOp, PlainTerm, Application, PlainTerms, no_terms, one_term}
use Rattle.law_blasting.specs.Laws.{IsBit, TermGatesPass, TermCircuitsPass, OperatorCircuitsPass}
use Rattle.law_blasting.specs.OperatorCircuits.{term_gates, the_bit, bits_circuit, test_circuit, overflow_circuit, operator_circuit}
use Rattle.law_blasting.proofs.HasBits.{same_bits}

-- ---- the gates

connected : (o : PlainOp) (ts : PlainTerms) (tys : List PlainType) → typed_all ts ≡ true → types_of ts ≡ tys → is_type (result_type o tys) BoolType ≡ true → Typed (Application o ts BoolType) BoolType
connected o ts tys h e r = record { parts = and_from (typed_all ts) (is_type (result_type o (types_of ts)) BoolType) h (subst (λ x. is_type (result_type o x) BoolType ≡ true) (sym e) r); type = refl }

one_typed : (a : PlainTerm) → Typed a BoolType → (typed_all (one_term a no_terms) ≡ true) × (types_of (one_term a no_terms) ≡ BoolType ∷ [])
one_typed a h = (and_from (typed a) true h.parts refl, ap (λ t. t ∷ []) h.type)

more_typed : (a : PlainTerm) (ts : PlainTerms) (tys : List PlainType) → Typed a BoolType → (typed_all ts ≡ true) × (types_of ts ≡ tys) → (typed_all (one_term a ts) ≡ true) × (types_of (one_term a ts) ≡ BoolType ∷ tys)
more_typed a ts tys h k = (and_from (typed a) (typed_all ts) h.parts k.0, ap (λ t. t ∷ types_of ts) h.type ∙ ap (λ us. BoolType ∷ us) k.1)

chosen_value : (p q r : Bool) → cond p (BoolValue q) (BoolValue r) ≡ BoolValue (cond p q r)
chosen_value true q r = refl
chosen_value false q r = refl

module _ (J : Interpretation) where
  not_passes : (a : PlainTerm) (p : Bool) → IsBit J a p → IsBit J (term_gates.not a) (not p)
  not_passes a p r =
      let k = one_typed a r.typed in
      record { typed = connected NotOp (one_term a no_terms) (BoolType ∷ []) k.0 k.1 refl; value = ap (λ v. BoolValue (not (truth v))) r.value }

  two_typed : (a b : PlainTerm) (p q : Bool) → IsBit J a p → IsBit J b q → (typed_all (one_term a (one_term b no_terms)) ≡ true) × (types_of (one_term a (one_term b no_terms)) ≡ BoolType ∷ BoolType ∷ [])
  two_typed a b p q r s = more_typed a (one_term b no_terms) (BoolType ∷ []) r.typed (one_typed b s.typed)

  and_passes : (a b : PlainTerm) (p q : Bool) → IsBit J a p → IsBit J b q → IsBit J (term_gates.and a b) (p && q)
  and_passes a b p q r s =
      let k = two_typed a b p q r s in
      record { typed = connected AndOp (one_term a (one_term b no_terms)) (BoolType ∷ BoolType ∷ []) k.0 k.1 refl; value = ap (λ v. BoolValue (truth v && truth (meaning J b))) r.value ∙ ap (λ v. BoolValue (p && truth v)) s.value }

  or_passes : (a b : PlainTerm) (p q : Bool) → IsBit J a p → IsBit J b q → IsBit J (term_gates.or a b) (p || q)
  or_passes a b p q r s =
      let k = two_typed a b p q r s in
      record { typed = connected OrOp (one_term a (one_term b no_terms)) (BoolType ∷ BoolType ∷ []) k.0 k.1 refl; value = ap (λ v. BoolValue (truth v || truth (meaning J b))) r.value ∙ ap (λ v. BoolValue (p || truth v)) s.value }

  eq_passes : (a b : PlainTerm) (p q : Bool) → IsBit J a p → IsBit J b q → IsBit J (term_gates.eq a b) (truth_gates.eq p q)
  eq_passes a b p q r s =
      let k = two_typed a b p q r s in
      record { typed = connected EqOp (one_term a (one_term b no_terms)) (BoolType ∷ BoolType ∷ []) k.0 k.1 refl; value = ap (λ v. BoolValue (value_eq v (meaning J b))) r.value ∙ ap (λ v. BoolValue (value_eq (BoolValue p) v)) s.value ∙ ap BoolValue (sym (same_bits p q)) }

  ite_passes : (a b c : PlainTerm) (p q r : Bool) → IsBit J a p → IsBit J b q → IsBit J c r → IsBit J (term_gates.ite a b c) (cond p q r)
  ite_passes a b c p q r h k l =
      let t = more_typed a (one_term b (one_term c no_terms)) (BoolType ∷ BoolType ∷ []) h.typed (two_typed b c q r k l) in
      record { typed = connected IteOp (one_term a (one_term b (one_term c no_terms))) (BoolType ∷ BoolType ∷ BoolType ∷ []) t.0 t.1 refl; value = ap (λ v. cond (truth v) (meaning J b) (meaning J c)) h.value ∙ ap (λ v. cond p v (meaning J c)) k.value ∙ ap (λ v. cond p (BoolValue q) v) l.value ∙ chosen_value p q r }

pub term_gates_pass : TermGatesPass
term_gates_pass J = record {
  no = record { typed = record { parts = refl; type = refl }; value = refl };
  yes = record { typed = record { parts = refl; type = refl }; value = refl };
  not = not_passes J;
  and = and_passes J;
  or = or_passes J;
  eq = eq_passes J;
  ite = ite_passes J;
}

pub term_circuits_pass : TermCircuitsPass
term_circuits_pass J = circuits_pass term_gates truth_gates (IsBit J) (term_gates_pass J)

-- ---- the circuits of operators, over any gates

module _ {X Y : Type 0} (g : Gates X) (h : Gates Y) (R : X → Y → Type 0) (p : Passes g h R) where
  bit_passes : {xs : List X} {us : List Y} → Related R xs us → R (the_bit g xs) (the_bit h us)
  bit_passes none = p.no
  bit_passes (one r q) = r

  bits_pass : (o : BitsOperator) {xs ys : List X} {us vs : List Y} → Related R xs us → Related R ys vs → Related R (bits_circuit g o xs ys) (bits_circuit h o us vs)
  bits_pass BvaddOp q k = (circuits_pass g h R p).sums q k p.no
  bits_pass BvsubOp q k = (circuits_pass g h R p).differences q k p.no
  bits_pass BvshlOp q k = (circuits_pass g h R p).shifts_up k q
  bits_pass BvlshrOp q k = (circuits_pass g h R p).shifts_down k q
  bits_pass o q k = none

  test_passes : (o : TestOperator) {xs ys : List X} {us vs : List Y} → Related R xs us → Related R ys vs → R (test_circuit g o xs ys) (test_circuit h o us vs)
  test_passes BvultOp q k = (circuits_pass g h R p).borrows q k p.no
  test_passes BvuleOp q k = p.not _ _ ((circuits_pass g h R p).borrows k q p.no)
  test_passes BvsltOp q k = (circuits_pass g h R p).borrows ((circuits_pass g h R p).tops q k) ((circuits_pass g h R p).tops k q) p.no
  test_passes BvsleOp q k = p.not _ _ ((circuits_pass g h R p).borrows ((circuits_pass g h R p).tops k q) ((circuits_pass g h R p).tops q k) p.no)

  overflow_passes : (o : OverflowOperator) {xs ys : List X} {us vs : List Y} → Related R xs us → Related R ys vs → Related R (overflow_circuit g o xs ys) (overflow_circuit h o us vs)
  overflow_passes BvsaddoOp q k = one ((circuits_pass g h R p).sum_overflows q k p.no) none
  overflow_passes BvssuboOp q k = one ((circuits_pass g h R p).difference_overflows q k p.no) none
  overflow_passes o q k = none

  pub operators_pass : (o : PlainOp) {xss : List (List X)} {uss : List (List Y)} → Related (Related R) xss uss → Related R (operator_circuit g o xss) (operator_circuit h o uss)
  operators_pass NotOp (one a none) = one (p.not _ _ (bit_passes a)) none
  operators_pass AndOp (one a (one b none)) = one (p.and _ _ _ _ (bit_passes a) (bit_passes b)) none
  operators_pass OrOp (one a (one b none)) = one (p.or _ _ _ _ (bit_passes a) (bit_passes b)) none
  operators_pass EqOp (one a (one b none)) = one ((circuits_pass g h R p).equalities a b) none
  operators_pass IteOp (one c (one a (one b none))) = (circuits_pass g h R p).choices (bit_passes c) a b
  operators_pass BvnegOp (one a none) = (circuits_pass g h R p).differences ((circuits_pass g h R p).zeros a) a p.no
  operators_pass BvnegoOp (one a none) = one ((circuits_pass g h R p).difference_overflows ((circuits_pass g h R p).zeros a) a p.no) none
  operators_pass (BitsOp o) (one a (one b none)) = bits_pass o a b
  operators_pass (TestOp o) (one a (one b none)) = one (test_passes o a b) none
  operators_pass (OverflowOp o) (one a (one b none)) = overflow_passes o a b
  operators_pass (ZeroExtendOp k) (one a none) = (circuits_pass g h R p).extensions k a
  operators_pass o q = none

pub operator_circuits_pass : OperatorCircuitsPass
operator_circuits_pass J o uss bss q = operators_pass term_gates truth_gates (IsBit J) (term_gates_pass J) o q
