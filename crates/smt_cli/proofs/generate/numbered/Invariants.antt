use Rattle.std.proofs.Common.{◌≡◌}
use Rattle.smt_jobs.specs.Numbered.{terms_begun}
use Rattle.smt_cli.specs.Generated.{generated_terms, number_after}
use Rattle.smt_cli.proofs.generate.numbered.Given as goal

abbrev pub invariant-loop-place : goal.invariant-loop-place
invariant-loop-place l = record {
  numbered : terms_begun l.terms ≡ generated_terms l.fn.seed l.place;
  reached : l.number ≡ number_after l.fn.seed l.place;
}
