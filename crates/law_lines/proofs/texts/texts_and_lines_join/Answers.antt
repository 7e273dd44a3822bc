use Rattle.law_lines.proofs.Joined as laws
use Rattle.law_lines.proofs.texts.texts_and_lines_join.Goals as goal

pub returns : goal.returns
returns c = record { texts = laws.texts_stand; lines = laws.lines_join; calls = laws.calls_join }
