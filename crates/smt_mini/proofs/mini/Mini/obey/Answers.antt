use Rattle.std.proofs.Common.{◌≡◌, sym, subst, refl, Some, true}
use Rattle.law_scripts.specs.Script.{obey}
use Rattle.law_verdicts.specs.Machine as machine
use Rattle.law_verdicts.specs.Machine.{Machine, then_replied}
use Rattle.smt_mini.specs.Commands.{plain_command}
use Rattle.smt_mini.specs.Stands.{IsShown}
use Rattle.smt_mini.specs.declared.mini.Mini.{Mini}
use Rattle.smt_mini.specs.Turns.{Replies}
use Rattle.smt_mini.proofs.Turning.{exited, got_model, is_silent_else, silent_replied, stands_inside}
use Rattle.smt_mini.proofs.mini.Mini.obey.Goals as goal

pub returns-in-GetModel : goal.returns-in-GetModel
returns-in-GetModel c =
    let new : Mini = record { alloc = c.args.self.now.alloc; phase = c.args.self.now.phase; levels = c.args.self.now.levels; shown = c.take-shown.new.self } in
    subst (λ x. Replies c.args.self.now new (plain_command x) c.model.result) (sym c.in-GetModel.is)
    (got_model c.args.self.now new c.model.result c.requires c.requires refl c.take-shown.ensures.after (λ s was h k. c.model.ensures.answered s was h (subst (λ o. IsShown o was s) (sym c.take-shown.ensures.value) k)) c.model.ensures.refusal)

pub returns-in-Exit : goal.returns-in-Exit
returns-in-Exit c m h w = subst (λ y. (x : Machine) × (then_replied m.shown (plain_command y) (obey (plain_command y) m.state) ≡ Some (machine.Ended, x)) × (x.state.ended ≡ true)) (sym c.in-Exit.is) (exited m)

pub returns-in_ok-obey-in_default : goal.returns-in_ok-obey-in_default
returns-in_ok-obey-in_default c m h w =
    let new : Mini = record { alloc = c.args.self.now.alloc; phase = c.args.self.now.phase; levels = c.obey.new.self; shown = c.take-shown.new.self } in
    let i = stands_inside c.args.self.now m c.requires h in
    let silent = is_silent_else c.args.command.now c.in_default.not-CheckSat c.in_default.not-GetModel c.in_default.not-Exit in
    silent_replied new m.shown (plain_command c.args.command.now) (obey (plain_command c.args.command.now) m.state) silent c.requires c.take-shown.ensures.after (c.in_ok-obey-in_default.ensures silent m.state i.3 i.1 w)
