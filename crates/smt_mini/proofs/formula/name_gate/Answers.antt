use Rattle.std.proofs.Common.{ap, ◌∙◌, refl, codes, true, false, map, reverse}
use Rattle.law_scripts.specs.Script.{look_up}
use Rattle.smt_mini.proofs.Building.{flat, name_built, truth_built}
use Rattle.smt_mini.specs.Tables.{plain_name, table_of}
use Rattle.smt_mini.proofs.formula.name_gate.Goals as goal

pub returns-in_ok-add_gate-in-true : goal.returns-in_ok-add_gate-in-true
returns-in_ok-add_gate-in-true c s f h =
    truth_built (table_of c.args.tables.now) (table_of c.add_gate.new.self) s c.args.name.now (codes "true") true c.in_ok-add_gate-in-true.field-0 c.in-true.is refl (λ j. refl) c.in_ok-add_gate-in-true.ensures.0 c.in_ok-add_gate-in-true.ensures.1

pub returns-in_ok-add_gate-in-false : goal.returns-in_ok-add_gate-in-false
returns-in_ok-add_gate-in-false c s f h =
    truth_built (table_of c.args.tables.now) (table_of c.add_gate-in-false.new.self) s c.args.name.now (codes "false") false c.in_ok-add_gate-in-false.field-0 c.in-false.is refl (λ j. refl) c.in_ok-add_gate-in-false.ensures.0 c.in_ok-add_gate-in-false.ensures.1

pub returns-in_default : goal.returns-in_default
returns-in_default c s f h =
    name_built (table_of c.args.tables.now) (table_of c.args.tables.now) s c.args.name.now c.flatten.result f h c.in_default.not-true c.in_default.not-false
    (c.flatten.ensures ∙ ap flat (c.find.ensures ∙ ap (λ ns. look_up c.args.name.now (reverse (map plain_name ns))) c.as_slice.ensures.value)) refl
