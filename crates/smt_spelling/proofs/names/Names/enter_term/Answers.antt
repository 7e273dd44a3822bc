use Rattle.std.proofs.Common.{refl, arith}
use Rattle.law_terms.specs.Nodes.{TermMeaning}
use Rattle.smt_spelling.proofs.Named.{meant_within, still_sound, tables_entered, term_counted}
use Rattle.smt_spelling.specs.Names.{enums_under}
use Rattle.smt_spelling.proofs.Whole.{whole_kept}
use mathlib.Core.Logic.{∥∥₁_map}
use Rattle.smt_spelling.proofs.names.Names.enter_term.Goals as goal

pub enter_term-requires-clause-room : goal.enter_term-requires-clause-room
enter_term-requires-clause-room c =
    let (m, meant) = c.requires.meant in
    let b = meant_within c.args.self.now.nodes c.args.id m meant in
    omega (arith, b, c.requires.room.places)

pub returns-clause-tables : goal.returns-clause-tables
returns-clause-tables c s t are meant entry =
    tables_entered c.args.self.now c.enter_term.new.self c.args.id (TermMeaning t) _ s c.enter_term.ensures.kept meant c.requires.unkept entry (term_counted c.args.self.now c.enter_term.new.self t _ s c.enter_term.ensures.terms c.enter_term.ensures.types c.enter_term.ensures.functions are) are

pub enter_term-requires-clause-order : goal.enter_term-requires-clause-order
enter_term-requires-clause-order c = c.requires.room.order

pub returns-clause-stands : goal.returns-clause-stands
returns-clause-stands c = record { enums = refl; nodes = refl; room = c.enter_term.ensures.room; levels = c.enter_term.ensures.levels }

pub invariant_of-self : goal.invariant_of-self
invariant_of-self c =
    let n = c.args.self.now in
    let (m, meant) = c.requires.meant in
    let is = c.enter_term.ensures.kept in
    record {
      sound = still_sound n c.args.id m _ c.enter_term.new.self is meant c.requires.unkept (enums_under n) (c.requires.sound m meant) n.sound;
      whole = ∥∥₁_map n.whole (whole_kept n.nodes n.texts c.enter_term.new.self c.args.id m _ is meant c.requires.parts c.enter_term.ensures.levels);
    }
