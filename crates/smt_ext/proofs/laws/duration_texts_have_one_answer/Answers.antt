use Rattle.smt_ext.proofs.Durations.{one_duration, no_fault, one_fault}
use Rattle.smt_ext.proofs.laws.duration_texts_have_one_answer.Goals as goal

pub returns : goal.returns
returns c = record { value = one_duration; faulty = no_fault; fault = one_fault }
