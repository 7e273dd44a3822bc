use Rattle.law_lines.proofs.Stays as laws
use Rattle.law_lines.proofs.texts.texts_and_sorts_stay.Goals as goal

pub returns : goal.returns
returns c = record { lists = laws.term_lists_are_made; texts = laws.texts_stay; sorts = laws.sorts_stay; written = laws.sorts_stand }
