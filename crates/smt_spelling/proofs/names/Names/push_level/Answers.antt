use Rattle.std.proofs.Common.{arith}
use Rattle.smt_spelling.specs.NodeTexts.{kept_below, kept_now}
use Rattle.smt_spelling.specs.Names.{enums_under}
use Rattle.smt_spelling.proofs.LevelTables.{opens, same_kept, sound_stays, stays, tables_same}
use Rattle.smt_spelling.proofs.Whole.{either}
use mathlib.Core.Logic.{∥∥₁_map}
use Rattle.smt_spelling.proofs.names.Names.push_level.Goals as goal

pub invariant_of-self : goal.invariant_of-self
invariant_of-self c =
    let n = c.args.self.now in
    let new = c.push_level.new.self in
    record { sound = sound_stays (enums_under n) n.nodes n.texts new (omega (arith, c.push_level.ensures.room.places, n.sound.within)) (same_kept n.texts new c.push_level.ensures.now) n.sound; whole = ∥∥₁_map n.whole (either c.push_level.result n.nodes n.texts new c.push_level.ensures.now c.push_level.ensures.opened c.push_level.ensures.unopened) }

pub returns-clause-tables : goal.returns-clause-tables
returns-clause-tables c s are =
    let n = c.args.self.now in
    tables_same (enums_under n) n.nodes (kept_now n.texts) (kept_now c.push_level.new.self) s c.push_level.ensures.now are

pub returns-clause-levels : goal.returns-clause-levels
returns-clause-levels c s below are each =
    let n = c.args.self.now in
    opens (enums_under n) n.nodes c.push_level.result (kept_now n.texts) (kept_below n.texts) (kept_below c.push_level.new.self) s below c.push_level.ensures.opened are each

pub returns-clause-unlevelled : goal.returns-clause-unlevelled
returns-clause-unlevelled c below each =
    let n = c.args.self.now in
    stays (enums_under n) n.nodes c.push_level.result (kept_below n.texts) (kept_below c.push_level.new.self) below c.push_level.ensures.unopened each
