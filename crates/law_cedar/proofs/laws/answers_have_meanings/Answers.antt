use Rattle.smt_values.specs.ValueView.{plain_value_of}
use Rattle.law_cedar.proofs.Answers.{answer_has_meaning}
use Rattle.law_cedar.proofs.laws.answers_have_meanings.Goals as goal

pub returns-clause-meaning : goal.returns-clause-meaning
returns-clause-meaning c = answer_has_meaning c.args.ty.now (plain_value_of c.args.v.now) c.from_value.result c.from_value.ensures.given c.from_value.ensures.refused
