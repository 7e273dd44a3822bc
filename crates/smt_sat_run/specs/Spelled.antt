-- How far truths are spelled.
use Rattle.std.specs.Prelude.{ℕ, ◌≡◌, List, ◌++◌, length}
use Rattle.std.specs.List.{AllByRecursion, flat_map}
use Rattle.smt_sat_run.specs.Values.{IsShort, begun_line, value_line}
use Rattle.smt_sat_run.specs.declared.value_lines.ValueLines.{ValueLines}

-- These words are spelled, in lines that are ended and one that is not.
pub record HasSpelled (s : ValueLines) (words : List (List ℕ)) : Type 0 where
  pub ended : List (List (List ℕ))
  pub line : List (List ℕ)
  pub text_is : s.text.items ≡ flat_map value_line ended ++ begun_line line
  pub start_is : s.start ≡ length (flat_map value_line ended)
  pub short : AllByRecursion IsShort ended
  pub line_short : IsShort line
  pub all : flat_map (λ words. words) ended ++ line ≡ words
