use Rattle.smt_encode.specs.Encoded.{is_spent}
use Rattle.smt_encode.proofs.Answered.{complete}
use Rattle.smt_encode.proofs.encoder.Encoder.define_record.Goals as goal

pub returns-clause-complete : goal.returns-clause-complete
returns-clause-complete g c = complete c.put_record-outcome.ensures.alone c.settle.ensures.answer (is_spent c.args.self.now)
