use Rattle.smt_encode.specs.Encoded.{is_spent}
use Rattle.smt_encode.proofs.Answered.{settled}
use Rattle.smt_encode.proofs.Applying.{put_applied}
use Rattle.smt_encode.proofs.encoder.Encoder.define_app.Goals as goal

pub returns-clause-put : goal.returns-clause-put
returns-clause-put g c s has = put_applied g.S.Sink.contents _ _ _ _ _ _ _ (c.put_application-outcome.ensures.lines s has) c.settle.ensures.answer

pub returns-clause-complete : goal.returns-clause-complete
returns-clause-complete g c s has = settled c.put_application-outcome.ensures.counted (c.put_application-outcome.ensures.finds s has) c.settle.ensures.answer (is_spent c.args.self.now)
