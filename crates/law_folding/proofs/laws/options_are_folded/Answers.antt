use Rattle.law_folding.proofs.CompositesStand.{stands_any_none, stands_if_all_some, stands_if_false, stands_if_some, stands_if_true, stands_is_some}
use Rattle.law_folding.proofs.OptionsStand.{stands_option_get, stands_is_none}
use Rattle.law_folding.proofs.laws.options_are_folded.Goals as goal

pub returns : goal.returns
returns c = record { option_get = stands_option_get; is_none = stands_is_none; is_some = stands_is_some; if_false = stands_if_false; if_true = stands_if_true; if_some = stands_if_some; any_none = stands_any_none; if_all_some = stands_if_all_some }
