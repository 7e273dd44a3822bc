use Rattle.law_extensions.proofs.OfAnswers.{answers_have_values, arguments_have_values}
use Rattle.law_extensions.proofs.laws.answers_have_values.Goals as goal

pub returns : goal.returns
returns c = record { answers = answers_have_values; arguments = arguments_have_values }
