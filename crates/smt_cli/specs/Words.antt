-- What words ask for.
use Rattle.std.specs.Prelude.{ℕ, Bool, true, false, ◌^◌, if◌then◌else◌, ◌&&◌, bytes_eq, codes, nat_le, nat_lt}
use Rattle.std.specs.Prelude.{List, [], ◌∷◌, Option, Some, None}
use Rattle.law_texts.specs.Digits.{decimal_number, is_numeral}
use Rattle.law_texts.specs.Options.{◌>>=◌}
use Rattle.smt_solve.specs.Starter.{Command as SolverCall}
use Rattle.smt_cli.specs.declared.command.Command.{Command}
use Rattle.smt_cli.specs.declared.command.Command.TheVariants.{Script, Check, Generate}

-- the number below 2 to the 64 that digits write
abbrev pub number_named : List ℕ → Option ℕ
number_named digits = if is_numeral digits && nat_lt (decimal_number digits) (2 ^ 64) then Some (decimal_number digits) else None

-- the greatest number of terms that a generated job may have
abbrev pub greatest_count : ℕ
greatest_count = 100000

-- a number of terms, where a generated job may have so many
abbrev pub count_within : ℕ → Option ℕ
count_within n = if nat_le 1 n && nat_le n greatest_count then Some n else None

-- the seed and the number of terms that two words write
abbrev pub generation_in : (seed count : List ℕ) → Option (ℕ × ℕ)
generation_in seed count = number_named seed >>= λ s. number_named count >>= count_within >>= λ n. Some (s, n)

-- the seed and the number of terms that three words name, the first of which is `gen`
abbrev pub generation_named : List (List ℕ) → Option (ℕ × ℕ)
generation_named (w ∷ seed ∷ count ∷ []) = if bytes_eq w (codes "gen") then generation_in seed count else None
generation_named words = None

-- the command to generate a job, where a seed and a number of terms are named
abbrev pub generate_by : Option (ℕ × ℕ) → Option Command
generate_by (Some generation) = Some Generate
generate_by None = None

-- what words name: `check` has at least the path of a solver behind it, and `gen` a seed and a number of terms
abbrev pub commanded : List (List ℕ) → Option Command
commanded [] = None
commanded (w ∷ []) = if bytes_eq w (codes "script") then Some Script else None
commanded (w ∷ path ∷ args) = if bytes_eq w (codes "check") then Some Check else generate_by (generation_named (w ∷ path ∷ args))

-- the solver that stands behind the first word, with its arguments
abbrev pub solver_named : List (List ℕ) → SolverCall
solver_named (w ∷ path ∷ args) = record { program = path; args = args }
solver_named words = record { program = []; args = [] }

-- the line that is said of words that are no command
abbrev pub usage_line : List ℕ
usage_line = codes "usage: smtcli script or check PATH ARGS.. or gen SEED N\n"

-- whether a job is read
abbrev pub reads_job : Command → Bool
reads_job Script = true
reads_job Check = true
reads_job Generate = false

-- whether a solver is asked
abbrev pub asks_solver : Command → Bool
asks_solver Script = false
asks_solver Check = true
asks_solver Generate = false
