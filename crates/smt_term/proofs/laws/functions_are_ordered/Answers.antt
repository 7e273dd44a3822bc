use Rattle.smt_term.proofs.FunctionOrders.{definitions_are_ordered, functions_are_ordered, term_tables_are_ordered}
use Rattle.smt_term.proofs.laws.functions_are_ordered.Goals as goal

pub returns : goal.returns
returns c = record { tables = term_tables_are_ordered; definitions = definitions_are_ordered; functions = functions_are_ordered }
