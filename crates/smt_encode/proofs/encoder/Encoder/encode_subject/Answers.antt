use Rattle.smt_encode.specs.Encoded.{is_spent}
use Rattle.smt_encode.proofs.Answered.{put_stated, settled}
use Rattle.smt_encode.proofs.encoder.Encoder.encode_subject.Goals as goal

pub returns-clause-put : goal.returns-clause-put
returns-clause-put g c s has = put_stated g.S.Sink.contents _ _ _ _ (c.put_subject-outcome.ensures.lines s has) c.settle.ensures.answer

pub returns-clause-complete : goal.returns-clause-complete
returns-clause-complete g c = settled c.put_subject-outcome.ensures.cause c.put_subject-outcome.ensures.fault c.settle.ensures.answer (is_spent c.args.self.now)
