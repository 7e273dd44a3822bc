use Rattle.smt_ext.specs.Milliseconds.{duration_value}
use Rattle.smt_values.proofs.ReadTexts.{sole_read}
use Rattle.law_extensions.specs.DurationTexts.{duration_in}
use Rattle.smt_values.proofs.reading.span_of.Goals as goal

pub returns-in-Some : goal.returns-in-Some
returns-in-Some c = sole_read duration_in duration_value c.args.args.now _ _ c.duration_in.result c.in-Some.ensures c.as_str.ensures.value c.duration_in.ensures
