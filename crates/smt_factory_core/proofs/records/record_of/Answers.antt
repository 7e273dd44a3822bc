use Rattle.smt_factory_core.proofs.FoldingRecords.{record-has}
use Rattle.smt_factory_core.proofs.records.record_of.Goals as goal

pub returns-clause-record : goal.returns-clause-record
returns-clause-record c typed = record-has c.in_ok-fields.fields c.args.ats.now c.in_ok-fields.ensures typed
