use Rattle.law_verdicts.proofs.HandedOut as laws
use Rattle.law_verdicts.proofs.laws.hand_outs_are_blank.Goals as goal

pub returns : goal.returns
returns c = record { reset = laws.reset_leaves_nothing; holders = laws.hand_outs_are_blank; empty = laws.blank_scripts_are_empty; alone = laws.holders_stand_alone; ended = laws.exit_stays }
