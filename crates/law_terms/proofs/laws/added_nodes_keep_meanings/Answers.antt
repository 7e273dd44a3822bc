use Rattle.law_terms.proofs.Places.{last_has, older_stay}
use Rattle.law_terms.proofs.laws.added_nodes_keep_meanings.Goals as goal

pub returns : goal.returns
returns c = record { kept = older_stay; last = last_has }
