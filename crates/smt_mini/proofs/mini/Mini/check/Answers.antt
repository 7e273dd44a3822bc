use Rattle.std.proofs.Common.{◌<◌, ◌≤◌, length, arith}
use Rattle.std.proofs.lemmas.List.{length-map}
use Rattle.std.specs.Rc.{rc_str_bytes}
use Rattle.law_verdicts.specs.Machine.{most_constants}
use Rattle.smt_mini.specs.Tables.{table_of}
use Rattle.smt_mini.proofs.Checking.{few_checked, many_checked}
use Rattle.smt_mini.proofs.Leveled.{stands_fits}
use Rattle.smt_mini.proofs.mini.Mini.check.Goals as goal

pub returns-then-len-gt-MOST_CONSTANTS-clause-answered : goal.returns-then-len-gt-MOST_CONSTANTS-clause-answered
returns-then-len-gt-MOST_CONSTANTS-clause-answered c s h e =
    let t = table_of c.args.self.now.levels.tables in
    let many : most_constants < length t.constants = omega (arith, c.if-len-gt-MOST_CONSTANTS.true, c.len.ensures, length-map c.args.self.now.levels.tables.constants.items rc_str_bytes) in
    many_checked c.args.self.now s t c.line.result (stands_fits c.args.self.now.levels s h) many c.requires.0 c.requires.1 e h c.line.ensures.replied

pub returns-clause-answered : goal.returns-clause-answered
returns-clause-answered c s h e =
    let t = table_of c.args.self.now.levels.tables in
    let few : length t.constants ≤ most_constants = omega (arith, c.if-len-gt-MOST_CONSTANTS.false, c.len.ensures, length-map c.args.self.now.levels.tables.constants.items rc_str_bytes) in
    few_checked (record { alloc = c.args.self.now.alloc; phase = c.args.self.now.phase; levels = c.args.self.now.levels; shown = c.in_ok-self.field-0 }) s t c.line-2.result c.word_for.result.now (stands_fits c.args.self.now.levels s h) few c.requires.0 (c.in_ok-self.ensures.found s h) e h c.word_for.ensures c.line-2.ensures.replied
