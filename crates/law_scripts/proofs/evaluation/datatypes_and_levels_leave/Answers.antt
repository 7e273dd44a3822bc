use Rattle.law_scripts.proofs.Datatypes as laws
use Rattle.law_scripts.proofs.evaluation.datatypes_and_levels_leave.Goals as goal

pub returns : goal.returns
returns c = record { datatypes = laws.datatypes_leave; levels = laws.pops_give_back; within = laws.steps_keep_levels }
