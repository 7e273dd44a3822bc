use Rattle.std.proofs.Common.{◌≡◌, sym, ◌∙◌, arith}
use Rattle.smt_spelling.specs.NodeTexts.{kept_below, kept_now}
use Rattle.smt_spelling.specs.Names.{enums_under}
use Rattle.smt_spelling.proofs.LevelTables.{both_ok, levels_same, sound_stays, tables_same}
use Rattle.smt_spelling.proofs.Whole.{whole_same}
use mathlib.Core.Logic.{∥∥₁_map}
use Rattle.smt_spelling.proofs.names.Names.make_room.Goals as goal

pub invariant_of-self : goal.invariant_of-self
invariant_of-self c =
    let n = c.args.self.now in
    let new = c.make_room.new.self in
    let texts = c.make_room.ensures.texts in
    record { sound = sound_stays (enums_under n) n.nodes n.texts new (omega (arith, c.make_room.ensures.within, c.len.ensures)) (λ place x there. sym (texts place) ∙ there) n.sound; whole = ∥∥₁_map n.whole (whole_same n.nodes n.texts new (λ i. record { texts = λ place. texts place i; terms = c.make_room.ensures.terms i; types = c.make_room.ensures.types i; functions = c.make_room.ensures.functions i }) c.make_room.ensures.below) }

pub returns-clause-tables : goal.returns-clause-tables
returns-clause-tables c s are =
    let n = c.args.self.now in
    let is = c.make_room.ensures in
    let now : kept_now c.make_room.new.self ≡ kept_now n.texts = λ i. record { texts = λ place. is.texts place i; terms = is.terms i; types = is.types i; functions = is.functions i } in
    tables_same (enums_under n) n.nodes (kept_now n.texts) (kept_now c.make_room.new.self) s now are

pub returns-clause-levels : goal.returns-clause-levels
returns-clause-levels c below are =
    let n = c.args.self.now in
    levels_same (enums_under n) n.nodes (kept_below n.texts) (kept_below c.make_room.new.self) below c.make_room.ensures.below are

pub returns-clause-room : goal.returns-clause-room
returns-clause-room c = both_ok c.make_room.result _ _ _ (λ places order. record { places = places ∙ c.len.ensures; order = omega (arith, places, order) }) c.make_room.ensures.room c.make_room.ensures.order
