use Rattle.law_lines.proofs.Spelled as laws
use Rattle.law_lines.proofs.scripts.what_is_spelled_is_read.Goals as goal

pub returns : goal.returns
returns c = record { expressions = laws.expressions_write; lines = laws.lines_are_lines; all = laws.lines_hold }
