use Rattle.std.proofs.Common.{sym, refl, subst}
use Rattle.smt_sexpr.specs.View.{plain}
use Rattle.smt_mini.specs.Building.{Built}
use Rattle.smt_mini.specs.Tables.{Fits, table_of}
use Rattle.smt_mini.proofs.Building.{fits_kept}
use Rattle.smt_mini.proofs.Leveled.{asserted, assertion_refused, stands_fits}
use Rattle.smt_mini.proofs.levels.Levels.assert.Goals as goal

pub returns-in_default : goal.returns-in_default
returns-in_default c s h running inside =
    assertion_refused s (plain c.args.formula.now)
    (subst (Built (table_of c.args.self.now.tables) (table_of c.build.new.tables) s (plain c.args.formula.now)) c.in_default.is (c.in_ok-gate.ensures s (stands_fits c.args.self.now s h) inside))

pub returns : goal.returns
returns c s h running inside =
    let f = stands_fits c.args.self.now s h in
    let k = subst (Built (table_of c.args.self.now.tables) (table_of c.build.new.tables) s (plain c.args.formula.now)) c.in-Some.is (c.in_ok-gate.ensures s f inside) in
    asserted c.args.self.now (record { tables = c.add_assertion.new.self; marks = c.args.self.now.marks }) (table_of c.build.new.tables) s (plain c.args.formula.now) k.0.0 c.in-Some.gate running h refl
    k.0.1 k.1 (subst (λ t. Fits t s) (sym k.0.1) (fits_kept (table_of c.args.self.now.tables) k.0.0 s f)) c.in_ok-add_assertion.ensures
