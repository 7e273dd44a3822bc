use Rattle.law_extensions.proofs.Decimals as decimals
use Rattle.law_extensions.proofs.laws.decimals_are_compared.Goals as goal

pub returns : goal.returns
returns c = decimals.decimals_are_compared
