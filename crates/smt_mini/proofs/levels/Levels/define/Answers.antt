use Rattle.std.proofs.Common.{ap, sym, ◌∙◌, refl, subst, ◌&&◌}
use Rattle.std.proofs.lemmas.Bool.{and_parts}
use Rattle.std.specs.Rc.{rc_str_bytes}
use Rattle.law_scripts.specs.Script.{is_taken}
use Rattle.law_scripts.specs.Sorts.{bool_sort, same_sort}
use Rattle.law_scripts.specs.Written.{is_name}
use Rattle.law_verdicts.specs.Fragment.{is_formula, is_truth_name}
use Rattle.smt_sexpr.specs.View.{plain}
use Rattle.smt_mini.specs.Building.{Built}
use Rattle.smt_mini.specs.Tables.{Fits, table_of}
use Rattle.smt_mini.proofs.Building.{fits_kept}
use Rattle.smt_mini.proofs.Leveled.{defined, definition_refused, stands_fits, unknown_refused}
use Rattle.smt_mini.proofs.levels.Levels.define.Goals as goal

pub returns-then-is_taken : goal.returns-then-is_taken
returns-then-is_taken c s h running inside =
    definition_refused s (rc_str_bytes c.args.name.now) (plain c.args.body.now) (ap (is_taken s) (sym c.as_str.ensures.value) ∙ sym (c.is_taken.ensures s (stands_fits c.args.self.now s h)) ∙ c.if-is_taken.true)

pub returns-in_default : goal.returns-in_default
returns-in_default c s h running inside =
    let p = and_parts (is_name (rc_str_bytes c.args.name.now)) (same_sort bool_sort bool_sort && is_formula (is_truth_name s) (plain c.args.body.now)) inside in
    unknown_refused s (rc_str_bytes c.args.name.now) (plain c.args.body.now)
    (subst (Built (table_of c.args.self.now.tables) (table_of c.build.new.tables) s (plain c.args.body.now)) c.in_default.is (c.in_ok-gate.ensures s (stands_fits c.args.self.now s h) p.1))

pub returns : goal.returns
returns c s h running inside =
    let p = and_parts (is_name (rc_str_bytes c.args.name.now)) (same_sort bool_sort bool_sort && is_formula (is_truth_name s) (plain c.args.body.now)) inside in
    let f = stands_fits c.args.self.now s h in
    let k = subst (Built (table_of c.args.self.now.tables) (table_of c.build.new.tables) s (plain c.args.body.now)) c.in-Some.is (c.in_ok-gate.ensures s f p.1) in
    defined c.args.self.now (record { tables = c.add_name.new.self; marks = c.args.self.now.marks }) (table_of c.build.new.tables) s (rc_str_bytes c.args.name.now) (plain c.args.body.now) k.0.0 c.in-Some.gate running h refl
    (ap (is_taken s) (sym c.as_str.ensures.value) ∙ sym (c.is_taken.ensures s f) ∙ c.if-is_taken.false) k.0.1 k.1 (subst (λ t. Fits t s) (sym k.0.1) (fits_kept (table_of c.args.self.now.tables) k.0.0 s f)) c.in_ok-add_name.ensures
