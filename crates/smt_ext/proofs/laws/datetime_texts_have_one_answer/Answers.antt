use Rattle.smt_ext.proofs.Datetimes.{one_datetime, misshapen_is_none, unreal_is_none, one_refusal}
use Rattle.smt_ext.proofs.laws.datetime_texts_have_one_answer.Goals as goal

pub returns : goal.returns
returns c = record { value = one_datetime; misshapen = misshapen_is_none; unreal = unreal_is_none; refusal = one_refusal }
