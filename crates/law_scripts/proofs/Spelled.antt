-- Operators are found by their names in scripts.
use Rattle.std.proofs.Common.{◌≡◌, ℕ, refl, List, [], ◌∷◌, map, sym, ap, ◌∙◌, inl, inr, Option, Some, rules}
use Rattle.std.specs.Prelude.{bytes_eq}
use Rattle.std.proofs.lemmas.Bool.{cond-true, cond-false, cases_Bool}
use Rattle.std.proofs.lemmas.Slice.Eq.{bytes_eq-Decides}
use Rattle.law_numbers.specs.BitOperators.{BitsOperator, TestOperator, OverflowOperator, bits_entry, test_entry, overflow_entry}
use Rattle.law_numbers.proofs.BitOperators.{each_bits, each_test, each_overflow}
use Rattle.law_terms.specs.Plain.{PlainOp, BitsOp, TestOp, OverflowOp}
use Rattle.law_scripts.specs.ScriptOperators.{script_name, theory_operators}
use Rattle.law_scripts.specs.Script.{look_up, operator_of}
use Rattle.law_scripts.specs.Meanings.{OperatorsAreFoundBySpelling}

-- what is found by a name in a list of operators has that name
spelled_in : (ops : List PlainOp) (n : List ℕ) (op : PlainOp) → look_up n (map (λ o. (script_name o, o)) ops) ≡ Some op → n ≡ script_name op
spelled_in [] n op h = absurd cc
spelled_in (o ∷ ops) n op h = elim (cases_Bool (bytes_eq n (script_name o))) [
  | inl e ↦ (bytes_eq-Decides n (script_name o)).0 e ∙ ap script_name (found o op (sym (cond-true (bytes_eq n (script_name o)) (Some o) rest e) ∙ h))
  | inr e ↦ spelled_in ops n op (sym (cond-false (bytes_eq n (script_name o)) (Some o) rest e) ∙ h)
]
  where
    rest : Option PlainOp
    rest = look_up n (map (λ p. (script_name p, p)) ops)

    found : (a b : PlainOp) → Some a ≡ Some b → a ≡ b
    found a b e = cc

pub operators_are_found_by_spelling : OperatorsAreFoundBySpelling
operators_are_found_by_spelling = record { found = search rules; spelled = spelled_in theory_operators }

-- each operator of two bitvectors is found by its name
pub bits_found : (o : BitsOperator) → operator_of (bits_entry o).name ≡ Some (BitsOp o)
bits_found = each_bits (λ o. operator_of (bits_entry o).name ≡ Some (BitsOp o)) (refl, (refl, (refl, (refl, (refl, (refl, (refl, (refl, (refl, (refl, tt))))))))))

pub test_found : (o : TestOperator) → operator_of (test_entry o).name ≡ Some (TestOp o)
test_found = each_test (λ o. operator_of (test_entry o).name ≡ Some (TestOp o)) (refl, (refl, (refl, (refl, tt))))

pub overflow_found : (o : OverflowOperator) → operator_of (overflow_entry o).name ≡ Some (OverflowOp o)
overflow_found = each_overflow (λ o. operator_of (overflow_entry o).name ≡ Some (OverflowOp o)) (refl, (refl, (refl, tt)))
