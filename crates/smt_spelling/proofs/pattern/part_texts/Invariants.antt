use Rattle.std.proofs.Common.{◌≡◌, ◌++◌, drop, map}
use Rattle.std.specs.List.{list_all}
use Rattle.std.specs.Rc.{rc_str_bytes}
use Rattle.law_scripts.specs.WrittenStrings.{part_expr}
use Rattle.law_lines.specs.Spelling.{spelled}
use Rattle.law_terms.specs.Faults.{is_pattern_part}
use Rattle.smt_term.specs.PatternView.{plain_part}
use Rattle.smt_spelling.proofs.pattern.part_texts.Given as goal

-- what is written so far and what is left are all, and no character so far is refused
abbrev pub invariant-loop-elem : goal.invariant-loop-elem
invariant-loop-elem l = record {
  written : map rc_str_bytes l.parts.items ++ map spelled (map part_expr (map plain_part (drop l.elem-index l.elems))) ≡ map spelled (map part_expr (map plain_part l.elems));
  allowed : list_all is_pattern_part (map plain_part l.elems) ≡ list_all is_pattern_part (map plain_part (drop l.elem-index l.elems));
}
