-- What words ask for.
use Rattle.std.specs.Prelude.{ℕ, codes, List, [], ◌∷◌, Option, Some, None}
use Rattle.smt_eval.specs.declared.command.Command.{Command}
use Rattle.smt_eval.specs.declared.command.Command.TheVariants.{Evaluate}

-- what words ask for: without words it is the truths of the terms of a job in an assignment
abbrev pub commanded : List (List ℕ) → Option Command
commanded [] = Some Evaluate
commanded (w ∷ words) = None

-- the line that is said of other words
abbrev pub usage_line : List ℕ
usage_line = codes "usage: smteval\n"
