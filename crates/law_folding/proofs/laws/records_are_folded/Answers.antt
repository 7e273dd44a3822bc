use Rattle.law_folding.proofs.RecordsStand.{record_get_typed, record_get_valued, stands_record_get}
use Rattle.law_folding.proofs.laws.records_are_folded.Goals as goal

pub returns : goal.returns
returns c = record { record_get = stands_record_get; type = record_get_typed; value = record_get_valued }
