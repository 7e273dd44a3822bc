-- The bits of old nodes by their tables.
use Rattle.std.proofs.Common.{◌≡◌, ◌/◌, ◌%◌, ◌==◌, ◌≤◌, ◌<◌, ℕ, suc, List, [], ◌∷◌, ◌++◌, get_or, length, map, refl, sym, ap, ◌∙◌, subst, append_assoc, arith}
use Rattle.std.specs.Prelude.{OnOk, Result}
use Rattle.law_blasting.specs.Blasted.{bit_name, bit_names, new_variable}
use Rattle.law_blasting.specs.Circuits.{number_bits}
use Rattle.law_blasting.specs.OperatorCircuits.{operator_circuit, term_gates}
use Rattle.law_blasting.specs.Passing.{Related, none, one}
use Rattle.law_blasting.proofs.Passing.{same_length}
use Rattle.law_terms.specs.Plain.{BoolLiteral, LiteralTerm, PlainTerm}
use Rattle.smt_nodes.specs.View.{place_of}
use Rattle.smt_nodes.specs.declared.id.IdList.{IdList}
use Rattle.smt_nodes.specs.declared.id.NodeId.{NodeId}
use Rattle.smt_nodes.specs.declared.interner.Interner.{Interner}
use Rattle.smt_blast.specs.CircuitView.{operator_of}
use Rattle.smt_blast.specs.Standing.{AreBits}
use Rattle.smt_blast.specs.Tables.{bits_in, literals, HasBits}
use Rattle.smt_blast.specs.declared.circuit.Chain.TheVariants.{Carry, Borrow}
use Rattle.smt_blast.specs.declared.circuit.Circuit.{Circuit}
use Rattle.smt_blast.specs.declared.circuit.Circuit.TheVariants.{Logic, Equal, Choice, Sum, Overflow, Negation, NegationOverflow, Shift, Test, ZeroExtension}
use Rattle.smt_blast.specs.declared.circuit.Connective.TheVariants.{And, Not, Or}
use Rattle.smt_blast.specs.declared.circuit.Direction.TheVariants.{Up, Down}

-- ---- one more bit

pub literal_step : (n k a : ℕ) → n ≡ suc k → LiteralTerm (BoolLiteral (a % 2 == 1)) ∷ literals (number_bits k (a / 2)) ≡ literals (number_bits n a)
literal_step n k a e = sym (ap (λ m. literals (number_bits m a)) e)

pub name_step : (number place next n k : ℕ) → n ≡ suc k → next ≡ suc place → new_variable (bit_name number place) ∷ map new_variable (bit_names number next k) ≡ map new_variable (bit_names number place n)
name_step number place next n k e f = ap (λ i. new_variable (bit_name number place) ∷ map new_variable (bit_names number i k)) f ∙ sym (ap (λ m. map new_variable (bit_names number place m)) e)

-- a bit that is pushed before others
pub pushed_first : {T E : Type 0} (j : Interner) (all : List NodeId) {u : PlainTerm} (us vs ts : List PlainTerm) (r : Result T E) → u ∷ us ≡ vs
    → OnOk r (AreBits j all ((ts ++ u ∷ []) ++ us)) → OnOk r (AreBits j all (ts ++ vs))
pushed_first j all {u = u} us vs ts r e h = subst (λ (l : List PlainTerm). OnOk r (AreBits j all l)) (append_assoc ts (u ∷ []) us ∙ ap (λ l. ts ++ l) e) h

-- ---- arguments

pub singles : (ids : List NodeId) (d : NodeId) → 1 ≤ length ids → length ids < 2 → ids ≡ get_or ids 0 d ∷ []
singles [] d p q = absurd (omega arith)
singles (x ∷ []) d p q = refl
singles (x ∷ (y ∷ ids)) d p q = absurd (omega arith)

pub pairs : (ids : List NodeId) (d : NodeId) → 2 ≤ length ids → length ids < 3 → ids ≡ get_or ids 0 d ∷ get_or ids 1 d ∷ []
pairs [] d p q = absurd (omega arith)
pairs (x ∷ []) d p q = absurd (omega arith)
pairs (x ∷ (y ∷ [])) d p q = refl
pairs (x ∷ (y ∷ (z ∷ ids))) d p q = absurd (omega arith)

pub triples : (ids : List NodeId) (d : NodeId) → 3 ≤ length ids → length ids < 4 → ids ≡ get_or ids 0 d ∷ get_or ids 1 d ∷ get_or ids 2 d ∷ []
triples [] d p q = absurd (omega arith)
triples (x ∷ []) d p q = absurd (omega arith)
triples (x ∷ (y ∷ [])) d p q = absurd (omega arith)
triples (x ∷ (y ∷ (z ∷ []))) d p q = refl
triples (x ∷ (y ∷ (z ∷ (w ∷ ids)))) d p q = absurd (omega arith)

pub unary : {i : Interner} {table : List IdList} {a : NodeId} (P : List (List PlainTerm) → Type 0) → ((us : List PlainTerm) → HasBits i table a us → P (us ∷ [])) → {uss : List (List PlainTerm)} → Related (HasBits i table) (a ∷ []) uss → P uss
unary P f (one {y = us} p none) = f us p

pub binary : {i : Interner} {table : List IdList} {a b : NodeId} (P : List (List PlainTerm) → Type 0) → ((us vs : List PlainTerm) → HasBits i table a us → HasBits i table b vs → P (us ∷ vs ∷ [])) → {uss : List (List PlainTerm)} → Related (HasBits i table) (a ∷ b ∷ []) uss → P uss
binary P f (one {y = us} p (one {y = vs} q none)) = f us vs p q

pub ternary : {i : Interner} {table : List IdList} {a b c : NodeId} (P : List (List PlainTerm) → Type 0) → ((us vs ws : List PlainTerm) → HasBits i table a us → HasBits i table b vs → HasBits i table c ws → P (us ∷ vs ∷ ws ∷ [])) → {uss : List (List PlainTerm)} → Related (HasBits i table) (a ∷ b ∷ c ∷ []) uss → P uss
ternary P f (one {y = us} p (one {y = vs} q (one {y = ws} r none))) = f us vs ws p q r

-- what is read from the table has these bits
pub read : {i : Interner} {table : List IdList} {a : NodeId} {us : List PlainTerm} {ids : List NodeId} → ids ≡ bits_in table (place_of a) → HasBits i table a us → AreBits i ids us
read {i} {us = us} e h = subst (λ (l : List NodeId). AreBits i l us) (sym e) h.bits

pub read_few : {i : Interner} {table : List IdList} {a : NodeId} {us : List PlainTerm} {ids : List NodeId} → ids ≡ bits_in table (place_of a) → HasBits i table a us → length ids ≤ 128
read_few e h = let n = same_length (read e h) in omega (arith, n, h.few)

-- ---- no circuit

pub without_arguments : (k : Circuit) → operator_circuit term_gates (operator_of k) [] ≡ []
without_arguments Choice = refl
without_arguments Equal = refl
without_arguments Negation = refl
without_arguments NegationOverflow = refl
without_arguments (Test x) = refl
without_arguments (ZeroExtension n) = refl
without_arguments (Logic And) = refl
without_arguments (Logic Not) = refl
without_arguments (Logic Or) = refl
without_arguments (Sum Carry) = refl
without_arguments (Sum Borrow) = refl
without_arguments (Overflow Carry) = refl
without_arguments (Overflow Borrow) = refl
without_arguments (Shift Up) = refl
without_arguments (Shift Down) = refl

pub with_many : (k : Circuit) (us vs ws xs : List PlainTerm) (uss : List (List PlainTerm)) → operator_circuit term_gates (operator_of k) (us ∷ vs ∷ ws ∷ xs ∷ uss) ≡ []
with_many Choice us vs ws xs uss = refl
with_many Equal us vs ws xs uss = refl
with_many Negation us vs ws xs uss = refl
with_many NegationOverflow us vs ws xs uss = refl
with_many (Test x) us vs ws xs uss = refl
with_many (ZeroExtension n) us vs ws xs uss = refl
with_many (Logic And) us vs ws xs uss = refl
with_many (Logic Not) us vs ws xs uss = refl
with_many (Logic Or) us vs ws xs uss = refl
with_many (Sum Carry) us vs ws xs uss = refl
with_many (Sum Borrow) us vs ws xs uss = refl
with_many (Overflow Carry) us vs ws xs uss = refl
with_many (Overflow Borrow) us vs ws xs uss = refl
with_many (Shift Up) us vs ws xs uss = refl
with_many (Shift Down) us vs ws xs uss = refl

pub no_circuit : (k : Circuit) (uss : List (List PlainTerm)) → 4 ≤ length uss → operator_circuit term_gates (operator_of k) uss ≡ []
no_circuit k [] h = absurd (omega arith)
no_circuit k (us ∷ []) h = absurd (omega arith)
no_circuit k (us ∷ (vs ∷ [])) h = absurd (omega arith)
no_circuit k (us ∷ (vs ∷ (ws ∷ []))) h = absurd (omega arith)
no_circuit k (us ∷ (vs ∷ (ws ∷ (xs ∷ uss)))) h = with_many k us vs ws xs uss

pub no_circuit_alone : (k : Circuit) (uss : List (List PlainTerm)) → length uss < 1 → operator_circuit term_gates (operator_of k) uss ≡ []
no_circuit_alone k [] h = without_arguments k
no_circuit_alone k (us ∷ uss) h = absurd (omega arith)
