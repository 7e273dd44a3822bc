use Rattle.law_blasting.proofs.Faithful.{blast_is_faithful}
use Rattle.law_blasting.proofs.laws.blast_is_faithful.Goals as goal

pub returns : goal.returns
returns c = blast_is_faithful
