use Rattle.law_scripts.proofs.Apply as laws
use Rattle.law_scripts.proofs.evaluation.applications_have_values.Goals as goal

pub returns : goal.returns
returns c = record {
  operators = laws.operators_apply;
  constructors = laws.constructors_apply;
  standing = laws.bare_constructors_have_values;
  functions = laws.functions_apply;
  selectors = laws.selectors_apply;
  sorts = laws.applications_have_sorts;
  extensions = laws.extensions_apply;
  tests = laws.tests_apply;
  matching = laws.matches_apply;
  nones = laws.nones_have_values;
  sets = laws.sets_have_values;
}
