use Rattle.smt_sat_run.proofs.Spelling.{ended_ok}
use Rattle.smt_sat_run.proofs.value_lines.ValueLines.make_room.Goals as goal

pub returns-clause-keeps : goal.returns-clause-keeps
returns-clause-keeps c = ended_ok c.end_line.result c.args.self.now c.end_line.new.self c.end_line.ensures.text c.end_line.ensures.start
