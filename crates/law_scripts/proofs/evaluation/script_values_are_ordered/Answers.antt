use Rattle.law_scripts.proofs.Ranks as laws
use Rattle.law_scripts.proofs.evaluation.script_values_are_ordered.Goals as goal

pub returns : goal.returns
returns c = record { equal = laws.same_is_equal; total = laws.order_is_total; sets = laws.puts_keep_sets }
