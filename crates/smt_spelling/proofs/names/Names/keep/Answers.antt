use Rattle.std.proofs.Common.{refl, arith}
use Rattle.smt_spelling.proofs.Named.{meant_within, still_sound, tables_kept}
use Rattle.smt_spelling.specs.Names.{enums_under}
use Rattle.smt_spelling.proofs.Whole.{whole_kept}
use mathlib.Core.Logic.{∥∥₁_map}
use Rattle.smt_spelling.proofs.names.Names.keep.Goals as goal

pub keep-requires-clause-room : goal.keep-requires-clause-room
keep-requires-clause-room c =
    let (m, meant) = c.requires.meant in
    let b = meant_within c.args.self.now.nodes c.args.id m meant in
    omega (arith, b, c.requires.room.places)

pub returns-clause-tables : goal.returns-clause-tables
returns-clause-tables c s m are meant none text = tables_kept c.args.self.now c.keep.new.self c.args.id m _ s c.keep.ensures.kept meant c.requires.unkept none text c.keep.ensures.terms c.keep.ensures.types c.keep.ensures.functions are

pub keep-requires-clause-order : goal.keep-requires-clause-order
keep-requires-clause-order c = c.requires.room.order

pub returns-clause-stands : goal.returns-clause-stands
returns-clause-stands c = record { enums = refl; nodes = refl; room = c.keep.ensures.room; levels = c.keep.ensures.levels }

pub invariant_of-self : goal.invariant_of-self
invariant_of-self c =
    let n = c.args.self.now in
    let (m, meant) = c.requires.meant in
    let is = c.keep.ensures.kept in
    record {
      sound = still_sound n c.args.id m _ c.keep.new.self is meant c.requires.unkept (enums_under n) (c.requires.sound m meant) n.sound;
      whole = ∥∥₁_map n.whole (whole_kept n.nodes n.texts c.keep.new.self c.args.id m _ is meant c.requires.parts c.keep.ensures.levels);
    }
