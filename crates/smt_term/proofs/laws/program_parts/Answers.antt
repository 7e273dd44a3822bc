use Rattle.smt_term.proofs.DerivedEquality.{equal_functions, equal_lists, equal_literals, equal_operators, equal_sets, equal_variables}
use Rattle.smt_term.proofs.DerivedOrder.{function_cmp-is, list_cmp-is, literal_cmp-is, op_cmp-is, set_cmp-is, variable_cmp-is}
use Rattle.smt_term.proofs.laws.program_parts.Goals as goal

pub returns : goal.returns
returns c = record {
  function_order = function_cmp-is;
  function_equality = equal_functions;
  op_order = op_cmp-is;
  op_equality = equal_operators;
  literal_order = literal_cmp-is;
  literal_equality = equal_literals;
  variable_order = variable_cmp-is;
  variable_equality = equal_variables;
  list_order = list_cmp-is;
  list_equality = equal_lists;
  set_order = set_cmp-is;
  set_equality = equal_sets;
}
