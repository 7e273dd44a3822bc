use Rattle.std.proofs.Common.{refl, arith}
use Rattle.law_terms.specs.Nodes.{FunctionMeaning}
use Rattle.smt_spelling.proofs.Named.{function_counted, meant_within, still_sound, tables_entered}
use Rattle.smt_spelling.specs.Names.{enums_under}
use Rattle.smt_spelling.proofs.Whole.{whole_kept}
use mathlib.Core.Logic.{∥∥₁_map}
use Rattle.smt_spelling.proofs.names.Names.enter_function.Goals as goal

pub enter_function-requires-clause-room : goal.enter_function-requires-clause-room
enter_function-requires-clause-room c =
    let (m, meant) = c.requires.meant in
    let b = meant_within c.args.self.now.nodes c.args.id m meant in
    omega (arith, b, c.requires.room.places)

pub returns-clause-tables : goal.returns-clause-tables
returns-clause-tables c s f are meant =
    tables_entered c.args.self.now c.enter_function.new.self c.args.id (FunctionMeaning f) _ s c.enter_function.ensures.kept meant c.requires.unkept refl (function_counted c.args.self.now c.enter_function.new.self f _ s c.enter_function.ensures.terms c.enter_function.ensures.types c.enter_function.ensures.functions are) are

pub enter_function-requires-clause-order : goal.enter_function-requires-clause-order
enter_function-requires-clause-order c = c.requires.room.order

pub returns-clause-stands : goal.returns-clause-stands
returns-clause-stands c = record { enums = refl; nodes = refl; room = c.enter_function.ensures.room; levels = c.enter_function.ensures.levels }

pub invariant_of-self : goal.invariant_of-self
invariant_of-self c =
    let n = c.args.self.now in
    let (m, meant) = c.requires.meant in
    let is = c.enter_function.ensures.kept in
    record {
      sound = still_sound n c.args.id m _ c.enter_function.new.self is meant c.requires.unkept (enums_under n) (c.requires.sound m meant) n.sound;
      whole = ∥∥₁_map n.whole (whole_kept n.nodes n.texts c.enter_function.new.self c.args.id m _ is meant c.requires.parts c.enter_function.ensures.levels);
    }
