use Rattle.law_scripts.proofs.SelectorsSampled as laws
use Rattle.law_scripts.proofs.samples.open_selectors.Goals as goal

pub returns : goal.returns
returns c = record { pairs = laws.pair_sample_is_script; either = laws.either_is_closed; rows = laws.open_selector_rows }
