use Rattle.std.proofs.Common.{rules}
use Rattle.smt_mini.proofs.RowBits.{lowest_bit}
use Rattle.smt_mini.proofs.search.least.Goals as goal

pub returns-clause-row : goal.returns-clause-row
returns-clause-row c = (lowest_bit c.args.rows c.from.result c.requires c.ranges.rows.fits (search rules)).0

pub returns-clause-among : goal.returns-clause-among
returns-clause-among c = (lowest_bit c.args.rows c.from.result c.requires c.ranges.rows.fits (search rules)).1

pub returns-clause-least : goal.returns-clause-least
returns-clause-least c r l = (lowest_bit c.args.rows c.from.result c.requires c.ranges.rows.fits (search rules)).2 r l
