use Rattle.law_scripts.proofs.Extend as laws
use Rattle.law_scripts.proofs.scripts.lines_extend.Goals as goal

pub returns : goal.returns
returns c = record { whole = laws.open_scripts_are_whole; definition = laws.definitions_extend; assertion = laws.assertions_extend; comment = laws.comments_extend }
