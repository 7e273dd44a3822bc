use Rattle.law_scripts.proofs.Keeps as laws
use Rattle.law_scripts.proofs.Free as free
use Rattle.law_scripts.proofs.evaluation.commands_keep_values.Goals as goal

pub returns : goal.returns
returns c = record { kept = laws.steps_keep_values; named = laws.names_have_values; free = free.free_names_decide }
