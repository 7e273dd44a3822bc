-- What came of a step of the search.
use Rattle.std.specs.Prelude.{⊤}
use Rattle.smt_search.specs.declared.solving.Step.{Step}
use Rattle.smt_search.specs.declared.solving.Step.TheVariants.{Learned, Complete, Spent, Ended}

-- no conflict was left
abbrev pub IsSpent : Step → Type 0
IsSpent Spent = ⊤
IsSpent Learned = ⊥
IsSpent Complete = ⊥
IsSpent Ended = ⊥
