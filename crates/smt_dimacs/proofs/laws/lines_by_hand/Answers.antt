use Rattle.std.proofs.Common.{refl}
use Rattle.smt_dimacs.proofs.laws.lines_by_hand.Goals as goal

pub returns : goal.returns
returns c = record {
  no_text = refl;
  empty_lines = refl;
  comment = refl;
  only_a_c = refl;
  c_behind_a_space = refl;
  spaces = refl;
  two_lines = refl;
  no_line_feed = refl;
}
