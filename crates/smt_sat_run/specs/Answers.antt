-- The texts of answers, as SAT solvers print them.
use Rattle.std.specs.Prelude.{ℕ, ◌≡◌, codes, List, ◌++◌}
use Rattle.law_clauses.specs.Clauses.{Truths}
use Rattle.smt_search.specs.Given.{truths}
use Rattle.smt_search.specs.declared.answer.Answer.{Answer}
use Rattle.smt_search.specs.declared.answer.Answer.TheVariants.{Solved, Refuted, Undecided}
use Rattle.smt_sat_run.specs.Values.{SpellsTruths}
use Rattle.smt_sat_run.specs.declared.verdict.Verdict.{Verdict}
use Rattle.smt_sat_run.specs.declared.verdict.Verdict.TheVariants.{Satisfiable, Unsatisfiable, Unknown}

abbrev pub satisfiable_line : List ℕ
satisfiable_line = codes "s SATISFIABLE\n"

abbrev pub unsatisfiable_line : List ℕ
unsatisfiable_line = codes "s UNSATISFIABLE\n"

abbrev pub unknown_line : List ℕ
unknown_line = codes "s UNKNOWN\n"

-- The text says that truths of so many variables are found, and which.
pub record SaysTruths (v : Truths) (variables : ℕ) (text : List ℕ) : Type 0 where
  pub values : List ℕ
  pub said : text ≡ satisfiable_line ++ values
  pub spelled : SpellsTruths v variables values

-- the text says this answer
abbrev pub SaysAnswer : (variables : ℕ) → Answer → List ℕ → Type 0
SaysAnswer variables (Solved t) text = SaysTruths (truths t) variables text
SaysAnswer variables Refuted text = text ≡ unsatisfiable_line
SaysAnswer variables Undecided text = text ≡ unknown_line

-- what a run finds by an answer
abbrev pub verdict_of : Answer → Verdict
verdict_of (Solved t) = Satisfiable
verdict_of Refuted = Unsatisfiable
verdict_of Undecided = Unknown
