use Rattle.law_verdicts.proofs.InHand as laws
use Rattle.law_verdicts.proofs.laws.links_are_blank.Goals as goal

pub returns : goal.returns
returns c = record { unused = laws.unused_links_are_blank; preambles = laws.these_are_preambles; kept = laws.preambles_keep_blank }
