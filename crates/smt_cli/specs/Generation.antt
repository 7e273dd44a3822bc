-- The summary of a job's script.
use Rattle.std.specs.Prelude.{ℕ, ◌-◌, ◌^◌, ◌%◌, ◌≡◌, Bool, codes, count_by, decimal, is_some, length, min, sum, List, ◌++◌, Option, Some}
use Rattle.std.specs.Prelude.{None}
use Rattle.std.specs.Io.KnownBytes.{append_known}
use Rattle.law_terms.specs.Plain.{PlainType, VariableTerm}
use Rattle.law_lines.specs.NameTables.{Tables, name_of_term}
use Rattle.law_jobs.specs.Jobs.{PlainJob}
use Rattle.law_jobs.specs.Steps.{asserted}
use Rattle.smt_runs.specs.JobTexts.{names_of_job, text_of_job}
use Rattle.smt_cli.specs.Jobs.{job_generated}
use Rattle.smt_cli.specs.declared.summary.Summary.{Summary}

-- whether a variable has a name, so that the script declares it
abbrev pub is_declared : Tables → List ℕ × PlainType → Bool
is_declared s variable = is_some (name_of_term s (VariableTerm variable.0 variable.1))

-- how many variables the script declares
abbrev pub declared_among : Tables → List (List ℕ × PlainType) → ℕ
declared_among s variables = count_by (is_declared s) variables

-- What a script has, by its text, the names in it, its job's variables and how many terms the job has: of the names that terms
-- have, those of variables stand for declarations, and the others for definitions. Each term has an assertion.
abbrev pub summary_by : (script : List ℕ) → Tables → (variables : List (List ℕ × PlainType)) → (terms : ℕ) → Summary
summary_by script s variables terms = record {
  terms = terms;
  variables = declared_among s variables;
  definitions = length s.terms - declared_among s variables;
  assertions = terms;
  bytes = min (length script) (2 ^ 64 - 1);
  sum = sum script % 2 ^ 64;
}

-- what the script of a job has
unfoldable pub summary_of : PlainJob → Summary
summary_of job = summary_by (text_of_job job.enums job.steps) (names_of_job job.enums job.steps) job.variables (length (asserted job.steps))

-- a line of a word and a number
abbrev pub number_line : List ℕ → ℕ → List ℕ
number_line word n = word ++ codes " " ++ decimal n ++ codes "\n"

-- the six lines of a summary, each of a word and its number
abbrev pub summary_lines : Summary → List ℕ
summary_lines s =
    number_line (codes "terms") s.terms ++ number_line (codes "variables") s.variables ++ number_line (codes "definitions") s.definitions
    ++ number_line (codes "assertions") s.assertions ++ number_line (codes "bytes") s.bytes ++ number_line (codes "sum") s.sum

-- the summary of the script of a generated job
unfoldable pub summary_text : (seed count : ℕ) → List ℕ
summary_text seed count = summary_lines (summary_of (job_generated seed count))

-- The summary of the job of this seed, with so many terms, was put.
abbrev pub Summarizes : (old new : Option (List ℕ)) → Option (ℕ × ℕ) → Type 0
Summarizes old new (Some generation) = new ≡ append_known old (summary_text generation.0 generation.1)
Summarizes old new None = ⊥
