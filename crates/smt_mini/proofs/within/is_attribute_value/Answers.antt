use Rattle.std.proofs.Common.{ap, ◌∙◌}
use Rattle.law_scripts.specs.Script.{is_simple_symbol}
use Rattle.smt_mini.proofs.Shapes.{attribute_name}
use Rattle.smt_mini.proofs.within.is_attribute_value.Goals as goal

pub returns-in-Some : goal.returns-in-Some
returns-in-Some c = c.is_simple_symbol.ensures ∙ ap is_simple_symbol (c.as_bytes.ensures.value ∙ c.as_str.ensures.value) ∙ attribute_name _ _ c.in-Some.ensures
