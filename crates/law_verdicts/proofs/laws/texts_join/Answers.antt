use Rattle.law_scripts.proofs.Append.{holds_append, script_append}
use Rattle.law_verdicts.proofs.laws.texts_join.Goals as goal

pub returns : goal.returns
returns c = record { commands = holds_append; scripts = script_append }
