use Rattle.law_blasting.proofs.Faithful.{blasted_terms_are_typed}
use Rattle.law_blasting.proofs.Keeping.{blast_keeps_values, roots_keep_values}
use Rattle.law_blasting.proofs.laws.blast_keeps_values.Goals as goal

pub returns : goal.returns
returns c = record { types = blasted_terms_are_typed; values = blast_keeps_values; roots = roots_keep_values }
