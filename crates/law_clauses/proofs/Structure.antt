-- Clauses of Boolean structure are valid.
use Rattle.std.proofs.Common.{◌≡◌, Bool, true, false, ◌||◌, ap, refl, sym, ◌∙◌}
use Rattle.std.specs.Prelude.{cond}
use Rattle.law_terms.proofs.ValueOrder.{values_decided}
use Rattle.law_terms.specs.Meaning.{meaning}
use Rattle.law_terms.specs.Operators.{truth}
use Rattle.law_terms.specs.ValueOrder.{value_eq}
use Rattle.law_terms.specs.Values.{Value, BoolValue, BitVecValue, StringValue, EntityValue, ExtensionValue, NoneValue, SomeValue, RecordValue, SetValue}
use Rattle.law_clauses.specs.Applications.{not_term, and_term, or_term}
use Rattle.law_clauses.specs.Statements.{TruthOf}
use Rattle.law_clauses.specs.Structure.{StructureIsValid}
use Rattle.law_clauses.proofs.GateClauses.{gates_are_valid}
use Rattle.law_clauses.proofs.Sequents.{or_one}

-- equality of values, as a test and as a fact
pub same_value : (v w : Value) → value_eq v w ≡ true → v ≡ w
same_value v w e = (values_decided v w).0 e

pub is_same : (v w : Value) → v ≡ w → (value_eq v w || false) ≡ true
is_same v w e = or_one (value_eq v w) ((values_decided v w).1 e)

-- one of two conclusions: the second where the first is false
pub either : (b c : Bool) → (b ≡ false → c ≡ true) → (b || (c || false)) ≡ true
either true c f = refl
either false c f = or_one c (f refl)

-- the only true value
pub true_value : (v : Value) → truth v ≡ true → v ≡ BoolValue true
true_value (BoolValue b) e = ap BoolValue e
true_value (BitVecValue n a) e = cc
true_value (StringValue s) e = cc
true_value (EntityValue f i) e = cc
true_value (ExtensionValue x) e = cc
true_value NoneValue e = cc
true_value (SomeValue v) e = cc
true_value (RecordValue fs) e = cc
true_value (SetValue vs) e = cc

pub structure_is_valid : StructureIsValid
structure_is_valid = record {
  negation = λ t. gates_are_valid.negation (TruthOf (not_term t)) (TruthOf t) (λ I. refl);
  conjunction = λ t u. gates_are_valid.conjunction (TruthOf (and_term t u)) (TruthOf t) (TruthOf u) (λ I. refl);
  disjunction = λ t u. gates_are_valid.disjunction (TruthOf (or_term t u)) (TruthOf t) (TruthOf u) (λ I. refl);
  equality = λ t u. (λ I p. or_one (value_eq (meaning I t) (meaning I u)) p.0, (λ I p. or_one (value_eq (meaning I t) (meaning I u)) p.0, tt));
  choice = λ ty g t u. (
    λ I p. is_same (cond (truth (meaning I g)) (meaning I t) (meaning I u)) (meaning I t) (ap (λ c. cond c (meaning I t) (meaning I u)) p.0),
    (λ I p. either (truth (meaning I g)) (value_eq (cond (truth (meaning I g)) (meaning I t) (meaning I u)) (meaning I u)) (λ e. (values_decided (cond (truth (meaning I g)) (meaning I t) (meaning I u)) (meaning I u)).1 (ap (λ c. cond c (meaning I t) (meaning I u)) e)), tt),
  );
  truths = λ t u. (
    λ I p. or_one (truth (meaning I u)) (sym (ap truth (same_value (meaning I t) (meaning I u) p.0)) ∙ p.1.0),
    (λ I p. is_same (meaning I t) (meaning I u) (true_value (meaning I t) p.0 ∙ sym (true_value (meaning I u) p.1.0)), tt),
  );
}
