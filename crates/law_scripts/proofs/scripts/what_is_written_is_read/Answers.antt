use Rattle.law_scripts.proofs.Lines as laws
use Rattle.law_scripts.proofs.scripts.what_is_written_is_read.Goals as goal

pub returns : goal.returns
returns c = record {
  names = laws.names_write;
  strings = laws.strings_write;
  numerals = laws.numerals_write;
  brackets = laws.brackets_write;
  commands = laws.commands_are_lines;
  comments = laws.comments_are_lines;
}
