use Rattle.std.proofs.Common.{sym}
use Rattle.smt_sexpr.specs.View.{plain}
use Rattle.smt_mini.proofs.Turning.{none_blindly}
use Rattle.smt_mini.proofs.mini.Mini.take_blindly.Goals as goal

pub returns-in-Some : goal.returns-in-Some
returns-in-Some c = c.obey_blindly.ensures (plain c.args.command.now) (sym c.in-Some.ensures)

pub returns-in-None : goal.returns-in-None
returns-in-None c m h = none_blindly c.args.self.now m (plain c.args.command.now) c.requires (sym c.in-None.ensures) h
