use Rattle.std.proofs.Common.{ap, sym, ◌∙◌, option_map}
use Rattle.smt_sexpr.specs.View.{plain}
use Rattle.smt_mini.specs.Commands.{plain_command}
use Rattle.smt_mini.proofs.Leveled.{stands_fits}
use Rattle.smt_mini.proofs.Turning.{no_command, not_within, replies_turn}
use Rattle.smt_mini.proofs.mini.Mini.take.Goals as goal
use Rattle.smt_mini.proofs.mini.Mini.take.Goals.{in_default-via-in-Some+else-is_within, in_default-via-in_default}

pub returns-in-Some : goal.returns-in-Some
returns-in-Some c =
    replies_turn c.args.self.now c.obey.new.self (plain c.args.command.now) (plain_command c.in-Some.command) c.obey.result c.requires (sym c.in-Some.ensures)
    (λ s h. sym (c.is_within.ensures s (stands_fits c.args.self.now.levels s h)) ∙ c.if-is_within.true) c.obey.ensures

pub returns-in_default : goal.returns-in_default
returns-in_default c m h = elim c.in_default.branch [
  | in_default-via-in-Some+else-is_within w ↦ not_within c.args.self.now m (plain c.args.command.now) (plain_command w.in-Some.command) c.requires (sym w.in-Some.ensures)
      (λ s k. sym (w.is_within.ensures s (stands_fits c.args.self.now.levels s k)) ∙ w.if-is_within.false) h
  | in_default-via-in_default w ↦ no_command c.args.self.now m (plain c.args.command.now) c.requires (sym c.command_of.ensures ∙ ap (option_map plain_command) w.in_default.is) h
]
