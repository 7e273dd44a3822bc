use Rattle.law_scripts.proofs.Laid as laws
use Rattle.law_scripts.proofs.scripts.texts_are_read.Goals as goal

pub returns : goal.returns
returns c = record {
  groups = laws.groups_write;
  bits = laws.bits_write;
  bit_sorts = laws.bit_sorts_write;
  bit_values = laws.bits_have_values;
  datatype = laws.datatype_line;
  selectors = laws.selectors_write;
  declare_fun = laws.declare_fun_line;
  set_logic = laws.set_logic_line;
  set_option = laws.set_option_line;
  plain = laws.plain_lines;
  extends = laws.commands_extend;
  sorted_lines = laws.sorted_lines_add;
  sorted_comments = laws.sorted_comments_add;
}
