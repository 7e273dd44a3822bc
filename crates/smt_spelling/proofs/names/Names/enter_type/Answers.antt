use Rattle.std.proofs.Common.{refl, arith}
use Rattle.law_terms.specs.Nodes.{TypeMeaning}
use Rattle.smt_spelling.proofs.Named.{meant_within, still_sound, tables_entered, type_counted}
use Rattle.smt_spelling.specs.Names.{enums_under}
use Rattle.smt_spelling.proofs.Whole.{whole_kept}
use mathlib.Core.Logic.{∥∥₁_map}
use Rattle.smt_spelling.proofs.names.Names.enter_type.Goals as goal

pub enter_type-requires-clause-room : goal.enter_type-requires-clause-room
enter_type-requires-clause-room c =
    let (m, meant) = c.requires.meant in
    let b = meant_within c.args.self.now.nodes c.args.id m meant in
    omega (arith, b, c.requires.room.places)

pub returns-clause-tables : goal.returns-clause-tables
returns-clause-tables c s t are meant entry =
    tables_entered c.args.self.now c.enter_type.new.self c.args.id (TypeMeaning t) _ s c.enter_type.ensures.kept meant c.requires.unkept entry (type_counted c.args.self.now c.enter_type.new.self t _ s c.enter_type.ensures.terms c.enter_type.ensures.types c.enter_type.ensures.functions are) are

pub enter_type-requires-clause-order : goal.enter_type-requires-clause-order
enter_type-requires-clause-order c = c.requires.room.order

pub returns-clause-stands : goal.returns-clause-stands
returns-clause-stands c = record { enums = refl; nodes = refl; room = c.enter_type.ensures.room; levels = c.enter_type.ensures.levels }

pub invariant_of-self : goal.invariant_of-self
invariant_of-self c =
    let n = c.args.self.now in
    let (m, meant) = c.requires.meant in
    let is = c.enter_type.ensures.kept in
    record {
      sound = still_sound n c.args.id m _ c.enter_type.new.self is meant c.requires.unkept (enums_under n) (c.requires.sound m meant) n.sound;
      whole = ∥∥₁_map n.whole (whole_kept n.nodes n.texts c.enter_type.new.self c.args.id m _ is meant c.requires.parts c.enter_type.ensures.levels);
    }
