use Rattle.law_cedar.proofs.Whole.{tables_say}
use Rattle.law_cedar.proofs.laws.tables_say_what_is_stored.Goals as goal

pub returns : goal.returns
returns c = tables_say
