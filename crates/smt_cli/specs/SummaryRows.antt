-- Worked examples of summaries. The numbers were counted in scripts that another program wrote.
use Rattle.std.specs.Prelude.{◌≡◌}
use Rattle.smt_cli.specs.Jobs.{job_generated}
use Rattle.smt_cli.specs.Generation.{summary_of}

-- the summaries of the scripts of two generated jobs
pub record SummaryRows : Type 0 where
  -- one term, over two variables
  pub of_one :
      summary_of (job_generated 7 1) ≡ record { terms = 1; variables = 2; definitions = 2; assertions = 1; bytes = 268; sum = 19229 }
  -- nine terms; the last has the sum of the first
  pub of_nine :
      summary_of (job_generated 0 9) ≡ record { terms = 9; variables = 8; definitions = 17; assertions = 9; bytes = 1481; sum = 103923 }
