use Rattle.law_scripts.proofs.NoScripted as laws
use Rattle.law_scripts.proofs.samples.no_scripts.Goals as goal

pub returns : goal.returns
returns c = record { texts = laws.no_scripts; commands = laws.no_commands; whole = laws.whole_texts }
