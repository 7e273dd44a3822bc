use Rattle.law_cedar.proofs.Meanings.{terms_have_meanings}
use Rattle.law_cedar.proofs.laws.terms_have_meanings.Goals as goal

pub returns : goal.returns
returns c = terms_have_meanings
