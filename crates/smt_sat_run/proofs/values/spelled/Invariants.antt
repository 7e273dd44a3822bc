use Rattle.std.proofs.Common.{map}
use Rattle.std.specs.List.{range_with_len}
use Rattle.smt_search.specs.Given.{truths}
use Rattle.smt_sat_run.specs.Spelled.{HasSpelled}
use Rattle.smt_sat_run.specs.Values.{value_word}
use Rattle.smt_sat_run.proofs.values.spelled.Given as goal

-- the literals of the variables so far are spelled
abbrev pub invariant-loop-variable : goal.invariant-loop-variable
invariant-loop-variable l = HasSpelled l.lines (map (value_word (truths l.found)) (range_with_len 0 l.variable))
