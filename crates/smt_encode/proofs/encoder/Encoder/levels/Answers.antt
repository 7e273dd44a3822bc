use Rattle.std.proofs.Common.{◌∙◌}
use Rattle.smt_spelling.proofs.LevelTables.{levels_counted}
use Rattle.smt_encode.proofs.encoder.Encoder.levels.Goals as goal

pub returns-clause-stated : goal.returns-clause-stated
returns-clause-stated g c x has = c.level_count.ensures ∙ levels_counted c.args.self.now.writer.names x.below has.below
