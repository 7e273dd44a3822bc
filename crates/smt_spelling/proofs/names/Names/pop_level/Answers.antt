use Rattle.std.proofs.Common.{◌≡◌, ◌∷◌, List, arith}
use Rattle.smt_spelling.specs.Names.{enums_under}
use Rattle.smt_spelling.specs.NodeTexts.{kept_below, Kept}
use Rattle.smt_spelling.specs.Whole.{AreWhole}
use Rattle.smt_spelling.proofs.LevelTables.{closed_kept, closes, last_kept, sound_stays}
use Rattle.smt_spelling.proofs.Whole.{whole_closed}
use mathlib.Core.Logic.{∥∥₁_map}
use Rattle.smt_spelling.proofs.names.Names.pop_level.Goals as goal

pub invariant_of-self : goal.invariant_of-self
invariant_of-self c =
    let n = c.args.self.now in
    let new = c.pop_level.new.self in
    record { sound = sound_stays (enums_under n) n.nodes n.texts new (omega (arith, c.pop_level.ensures.room.places, n.sound.within)) (closed_kept n.texts new c.requires c.pop_level.ensures.levels) n.sound; whole = ∥∥₁_map n.whole (closed (last_kept n.texts c.requires)) }
  where
    closed : (k : Kept) × (ks : List Kept) × (kept_below c.args.self.now.texts ≡ k ∷ ks) → AreWhole c.args.self.now.nodes c.args.self.now.texts → AreWhole c.args.self.now.nodes c.pop_level.new.self
    closed (k, ks, was) h = let e = c.pop_level.ensures.levels k ks was in whole_closed c.args.self.now.nodes c.args.self.now.texts c.pop_level.new.self k ks was e.0 e.1 h

pub returns-clause-tables : goal.returns-clause-tables
returns-clause-tables c s below are =
    let n = c.args.self.now in
    closes (enums_under n) n.nodes n.texts c.pop_level.new.self s below c.requires c.pop_level.ensures.levels are
