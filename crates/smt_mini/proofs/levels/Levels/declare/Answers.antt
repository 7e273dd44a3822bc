use Rattle.std.proofs.Common.{ap, sym, ◌∙◌, refl}
use Rattle.std.specs.Rc.{rc_str_bytes}
use Rattle.law_scripts.specs.Script.{is_taken}
use Rattle.smt_mini.proofs.Leveled.{constant_refused, declared, stands_fits}
use Rattle.smt_mini.proofs.levels.Levels.declare.Goals as goal

pub returns-then-is_taken : goal.returns-then-is_taken
returns-then-is_taken c s h running inside =
    constant_refused s (rc_str_bytes c.args.name.now) (ap (is_taken s) (sym c.as_str.ensures.value) ∙ sym (c.is_taken.ensures s (stands_fits c.args.self.now s h)) ∙ c.if-is_taken.true)

pub returns : goal.returns
returns c s h running inside =
    declared c.args.self.now (record { tables = c.add_constant.new.self; marks = c.args.self.now.marks }) s (rc_str_bytes c.args.name.now) running h refl
    (ap (is_taken s) (sym c.as_str.ensures.value) ∙ sym (c.is_taken.ensures s (stands_fits c.args.self.now s h)) ∙ c.if-is_taken.false) c.in_ok-add_constant.ensures
