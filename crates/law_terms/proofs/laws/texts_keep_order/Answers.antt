use Rattle.law_terms.proofs.Utf8Order.{utf8_order}
use Rattle.law_terms.proofs.laws.texts_keep_order.Goals as goal

pub returns : goal.returns
returns c s t u v = utf8_order s t u v
