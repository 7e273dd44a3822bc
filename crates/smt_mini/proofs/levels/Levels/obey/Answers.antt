use Rattle.std.proofs.Common.{sym, subst}
use Rattle.std.specs.Rc.{rc_str_bytes}
use Rattle.smt_sexpr.specs.View.{plain}
use Rattle.smt_mini.specs.Commands.{plain_command}
use Rattle.smt_mini.specs.Levels.{Obeys}
use Rattle.smt_mini.proofs.Leveled.{sorted_constant, sorted_definition}
use Rattle.smt_mini.proofs.levels.Levels.obey.Goals as goal

pub returns-in-DeclareConst : goal.returns-in-DeclareConst
returns-in-DeclareConst c silent =
    subst (λ x. Obeys c.args.self.now c.declare.new.self (plain_command x) c.declare.result) (sym c.in-DeclareConst.is)
    (sorted_constant c.args.self.now c.declare.new.self c.declare.result (rc_str_bytes c.in-DeclareConst.name.now) (plain c.in-DeclareConst.field-1.now) c.declare.ensures)

pub returns-in-DefineFun : goal.returns-in-DefineFun
returns-in-DefineFun c silent =
    subst (λ x. Obeys c.args.self.now c.define.new.self (plain_command x) c.define.result) (sym c.in-DefineFun.is)
    (sorted_definition c.args.self.now c.define.new.self c.define.result (rc_str_bytes c.in-DefineFun.name.now) (plain c.in-DefineFun.field-1.now) (plain c.in-DefineFun.body.now) c.define.ensures)
