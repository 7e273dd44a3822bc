use Rattle.law_scripts.proofs.First as laws
use Rattle.law_scripts.proofs.scripts.first_lines_are_lines.Goals as goal

pub returns : goal.returns
returns c = record {
  declare_const = laws.declare_const_line;
  define_fun = laws.define_fun_line;
  assert = laws.assert_line;
  applied = laws.applied_text;
  option = laws.option_is_line;
}
