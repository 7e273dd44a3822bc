use Rattle.law_blasting.proofs.Faithful.{forms_stay}
use Rattle.law_blasting.proofs.laws.forms_stay.Goals as goal

pub returns : goal.returns
returns c = forms_stay
