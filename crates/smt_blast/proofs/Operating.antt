-- The circuits of operators, by the groups of the code.
use Rattle.std.proofs.Common.{◌≡◌, ◌⊎◌, inl, inr, ℕ, List, [], ◌∷◌, length, refl, sym, ap, ◌∙◌, subst}
use Rattle.law_blasting.specs.Circuits.{shift}
use Rattle.law_blasting.specs.OperatorCircuits.{operator_circuit, term_gates}
use Rattle.law_blasting.specs.Passing.{none}
use Rattle.law_terms.specs.Plain.{PlainTerm}
use Rattle.smt_nodes.specs.declared.id.NodeId.{NodeId}
use Rattle.smt_nodes.specs.declared.interner.Interner.{Interner}
use Rattle.smt_blast.specs.Chains.{added, leaves_range, moved}
use Rattle.smt_blast.specs.CircuitView.{operator_of}
use Rattle.smt_blast.specs.Standing.{AreBits}
use Rattle.smt_blast.specs.declared.circuit.Chain.{Chain}
use Rattle.smt_blast.specs.declared.circuit.Chain.TheVariants.{Carry, Borrow}
use Rattle.smt_blast.specs.declared.circuit.Circuit.{Circuit}
use Rattle.smt_blast.specs.declared.circuit.Circuit.TheVariants.{Logic, Equal, Choice, Sum, Overflow, Negation, NegationOverflow, Shift, Test, ZeroExtension}
use Rattle.smt_blast.specs.declared.circuit.Comparison.{Comparison}
use Rattle.smt_blast.specs.declared.circuit.Connective.{Connective}
use Rattle.smt_blast.specs.declared.circuit.Connective.TheVariants.{And, Not, Or}
use Rattle.smt_blast.specs.declared.circuit.Direction.{Direction}
use Rattle.smt_blast.specs.declared.circuit.Direction.TheVariants.{Up, Down}

-- no bits stand for no terms
pub nothing_stands : (i : Interner) (ids : List NodeId) (us : List PlainTerm) → ids ≡ [] → us ≡ [] → AreBits i ids us
nothing_stands i ids us e f = subst (λ (l : List NodeId). AreBits i l us) (sym e) (subst (λ (ws : List PlainTerm). AreBits i [] ws) (sym f) none)

-- what an operator gives to one argument
abbrev pub given_one : List PlainTerm → Circuit → List PlainTerm
given_one us k = operator_circuit term_gates (operator_of k) (us ∷ [])

-- what an operator gives to two arguments
abbrev pub given_two : List PlainTerm → List PlainTerm → Circuit → List PlainTerm
given_two us vs k = operator_circuit term_gates (operator_of k) (us ∷ vs ∷ [])

pub not_of_one : (k : Connective) (us : List PlainTerm) → (k ≡ And) ⊎ (k ≡ Or) → given_one us (Logic k) ≡ []
not_of_one k us (inl e) = ap (λ c. given_one us (Logic c)) e
not_of_one k us (inr e) = ap (λ c. given_one us (Logic c)) e

sum_of_one : (x : Chain) (us : List PlainTerm) → given_one us (Sum x) ≡ []
sum_of_one Carry us = refl
sum_of_one Borrow us = refl

overflow_of_one : (x : Chain) (us : List PlainTerm) → given_one us (Overflow x) ≡ []
overflow_of_one Carry us = refl
overflow_of_one Borrow us = refl

shift_of_one : (x : Direction) (us : List PlainTerm) → given_one us (Shift x) ≡ []
shift_of_one Up us = refl
shift_of_one Down us = refl

pub nothing_of_one : (k : Circuit) (us : List PlainTerm) → (k ≡ Equal) ⊎ ((k ≡ Choice) ⊎ (((x : Chain) × (k ≡ Sum x)) ⊎ (((x : Chain) × (k ≡ Overflow x)) ⊎ (((x : Direction) × (k ≡ Shift x)) ⊎ ((x : Comparison) × (k ≡ Test x)))))) → given_one us k ≡ []
nothing_of_one k us (inl e) = ap (given_one us) e
nothing_of_one k us (inr (inl e)) = ap (given_one us) e
nothing_of_one k us (inr (inr (inl (x, e)))) = ap (given_one us) e ∙ sum_of_one x us
nothing_of_one k us (inr (inr (inr (inl (x, e))))) = ap (given_one us) e ∙ overflow_of_one x us
nothing_of_one k us (inr (inr (inr (inr (inl (x, e)))))) = ap (given_one us) e ∙ shift_of_one x us
nothing_of_one k us (inr (inr (inr (inr (inr (x, e)))))) = ap (given_one us) e

pub nothing_of_two : (k : Circuit) (us vs : List PlainTerm) → (k ≡ Choice) ⊎ ((k ≡ Negation) ⊎ ((k ≡ NegationOverflow) ⊎ ((n : ℕ) × (k ≡ ZeroExtension n)))) → given_two us vs k ≡ []
nothing_of_two k us vs (inl e) = ap (given_two us vs) e
nothing_of_two k us vs (inr (inl e)) = ap (given_two us vs) e
nothing_of_two k us vs (inr (inr (inl e))) = ap (given_two us vs) e
nothing_of_two k us vs (inr (inr (inr (n, e)))) = ap (given_two us vs) e

pub nothing_of_three : (k : Circuit) (gs us vs : List PlainTerm) → (k ≡ Choice → ⊥) → operator_circuit term_gates (operator_of k) (gs ∷ us ∷ vs ∷ []) ≡ []
nothing_of_three Choice gs us vs h = absurd (h refl)
nothing_of_three Equal gs us vs h = refl
nothing_of_three Negation gs us vs h = refl
nothing_of_three NegationOverflow gs us vs h = refl
nothing_of_three (Test x) gs us vs h = refl
nothing_of_three (ZeroExtension n) gs us vs h = refl
nothing_of_three (Logic And) gs us vs h = refl
nothing_of_three (Logic Not) gs us vs h = refl
nothing_of_three (Logic Or) gs us vs h = refl
nothing_of_three (Sum Carry) gs us vs h = refl
nothing_of_three (Sum Borrow) gs us vs h = refl
nothing_of_three (Overflow Carry) gs us vs h = refl
nothing_of_three (Overflow Borrow) gs us vs h = refl
nothing_of_three (Shift Up) gs us vs h = refl
nothing_of_three (Shift Down) gs us vs h = refl

pub sum_of_two : (x : Chain) (us vs : List PlainTerm) → added term_gates x us vs term_gates.no ≡ given_two us vs (Sum x)
sum_of_two Carry us vs = refl
sum_of_two Borrow us vs = refl

pub overflow_of_two : (x : Chain) (us vs : List PlainTerm) → leaves_range term_gates x us vs term_gates.no ∷ [] ≡ given_two us vs (Overflow x)
overflow_of_two Carry us vs = refl
overflow_of_two Borrow us vs = refl

pub shift_of_two : (x : Direction) (us vs : List PlainTerm) → shift term_gates (moved term_gates x) (length us) 1 vs us ≡ given_two us vs (Shift x)
shift_of_two Up us vs = refl
shift_of_two Down us vs = refl
