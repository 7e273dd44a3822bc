use Rattle.law_scripts.proofs.Numbers.{numbered_names}
use Rattle.law_scripts.proofs.Numerals as laws
use Rattle.law_scripts.proofs.scripts.numbered_names_differ.Goals as goal

pub returns : goal.returns
returns c = record { numerals = laws.numerals_differ; printed = laws.numerals_are_printed; names = numbered_names }
