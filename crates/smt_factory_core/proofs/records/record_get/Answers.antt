use Rattle.std.proofs.lemmas.Result.{IfOk-weaker}
use Rattle.smt_factory_core.proofs.FoldingRecords.{stands_for_record_get}
use Rattle.smt_factory_core.proofs.records.record_get.Goals as goal
use Rattle.std.specs.Rc.{rc_str_bytes}
use Rattle.smt_term.specs.View.{plain_term}

pub returns-clause-refines : goal.returns-clause-refines
returns-clause-refines c = IfOk-weaker c.folded_record_get.result _ _ (λ r h. stands_for_record_get (plain_term r) (plain_term c.args.t) (rc_str_bytes c.args.a.now) h) c.folded_record_get.ensures
