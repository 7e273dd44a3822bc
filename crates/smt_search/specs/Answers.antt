-- What an answer claims.
use Rattle.std.specs.Prelude.{◌≡◌, ℕ, List, ⊤}
use Rattle.law_clauses.specs.Clauses.{HaveNoSolution, Solves}
use Rattle.smt_search.specs.Given.{truths}
use Rattle.smt_search.specs.Limits.{left}
use Rattle.smt_search.specs.declared.answer.Answer.{Answer}
use Rattle.smt_search.specs.declared.answer.Answer.TheVariants.{Solved, Refuted, Undecided}
use Rattle.smt_search.specs.declared.limit.Limit.{Limit}

-- the truths that it gives make each clause true; where it is refuted there are none
abbrev pub IsRight : List (List ℕ) → Answer → Type 0
IsRight cs (Solved t) = Solves (truths t) cs
IsRight cs Refuted = HaveNoSolution cs
IsRight cs Undecided = ⊤

-- it leaves the clauses undecided
abbrev pub IsUndecided : Answer → Type 0
IsUndecided Undecided = ⊤
IsUndecided (Solved t) = ⊥
IsUndecided Refuted = ⊥

-- it leaves the clauses undecided only where no conflict is left
abbrev pub StopsAtLimit : Limit → Answer → Type 0
StopsAtLimit limit answer = IsUndecided answer → left limit ≡ 0
