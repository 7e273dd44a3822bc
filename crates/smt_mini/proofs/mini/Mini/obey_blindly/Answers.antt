use Rattle.std.proofs.Common.{ap, ◌∙◌, Some, codes, refl}
use Rattle.law_scripts.specs.Script as script
use Rattle.smt_mini.specs.Commands.{plain_command}
use Rattle.smt_mini.proofs.Turning.{exit_blindly, is_silent_else, line_blindly, silent_blindly}
use Rattle.smt_mini.proofs.mini.Mini.obey_blindly.Goals as goal

pub returns-in-CheckSat : goal.returns-in-CheckSat
returns-in-CheckSat c e f = line_blindly c.args.self.now c.line.result e script.CheckSat (codes "unknown") c.requires (f ∙ ap (λ x. Some (plain_command x)) c.in-CheckSat.is) (λ s. refl) c.line.ensures.replied c.line.ensures.refusal

pub returns-in-GetModel : goal.returns-in-GetModel
returns-in-GetModel c e f = line_blindly c.args.self.now c.line-in-GetModel.result e script.GetModel (codes "(error \"no model\")") c.requires (f ∙ ap (λ x. Some (plain_command x)) c.in-GetModel.is) (λ s. refl) c.line-in-GetModel.ensures.replied c.line-in-GetModel.ensures.refusal

pub returns-in-Exit : goal.returns-in-Exit
returns-in-Exit c e f m h = exit_blindly c.args.self.now m e c.requires (f ∙ ap (λ x. Some (plain_command x)) c.in-Exit.is) h

pub returns-in_default : goal.returns-in_default
returns-in_default c e f m h =
    silent_blindly c.args.self.now m e (plain_command c.args.command.now) c.requires f (is_silent_else c.args.command.now c.in_default.not-CheckSat c.in_default.not-GetModel c.in_default.not-Exit) h
