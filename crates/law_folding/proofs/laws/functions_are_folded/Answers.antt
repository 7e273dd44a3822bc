use Rattle.law_folding.proofs.FunctionsStand.{app_valued, stands_app}
use Rattle.law_folding.proofs.laws.functions_are_folded.Goals as goal

pub returns : goal.returns
returns c = record { app = stands_app; value = app_valued }
