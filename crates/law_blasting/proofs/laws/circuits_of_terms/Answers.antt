use Rattle.law_blasting.proofs.Gates.{term_gates_pass, term_circuits_pass, operator_circuits_pass}
use Rattle.law_blasting.proofs.laws.circuits_of_terms.Goals as goal

pub returns : goal.returns
returns c = record { gates = term_gates_pass; circuits = term_circuits_pass; operators = operator_circuits_pass }
