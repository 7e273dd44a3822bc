-- What words ask for.
use Rattle.std.specs.Prelude.{ℕ, codes, List, [], ◌∷◌, Option, Some, None}
use Rattle.smt_blast.specs.declared.command.Command.{Command}
use Rattle.smt_blast.specs.declared.command.Command.TheVariants.{Blast}

-- what words ask for: without words it is the script of the blasted terms of a job
abbrev pub commanded : List (List ℕ) → Option Command
commanded [] = Some Blast
commanded (w ∷ words) = None

-- the line that is said of other words
abbrev pub usage_line : List ℕ
usage_line = codes "usage: smtblast\n"
