use Rattle.smt_ext.proofs.Decimals.{one_value}
use Rattle.smt_ext.proofs.laws.decimal_texts_have_one_value.Goals as goal

pub returns : goal.returns
returns c = one_value
