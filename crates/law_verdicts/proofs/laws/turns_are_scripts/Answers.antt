use Rattle.law_verdicts.proofs.Turns as laws
use Rattle.law_verdicts.proofs.laws.turns_are_scripts.Goals as goal

pub returns : goal.returns
returns c = record { scripts = laws.turns_are_scripts; checks = laws.checks_are_answered; models = laws.models_are_shown; refusals = laws.refusals_are_meant }
