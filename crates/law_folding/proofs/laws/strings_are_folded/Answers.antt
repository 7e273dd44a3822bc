use Rattle.law_folding.proofs.StringsStand.{stands_string_like}
use Rattle.law_folding.proofs.laws.strings_are_folded.Goals as goal

pub returns : goal.returns
returns c = stands_string_like
