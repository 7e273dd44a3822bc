use Rattle.std.proofs.Common.{◌≡◌, drop}
use Rattle.law_assignments.specs.Entries.{assigned_variable}
use Rattle.law_jobs.specs.Declarations.{Declared}
use Rattle.smt_eval.specs.AssignmentView.{plain_assignment}
use Rattle.smt_eval.specs.ReaderView.{ReadsFor}
use Rattle.smt_eval.specs.WrittenView.{plain_named}
use Rattle.smt_eval.proofs.InputReading.{Giving}
use Rattle.smt_eval.proofs.values.Reader.enter_variables.Given as goal

abbrev pub invariant-loop-id : goal.invariant-loop-id
invariant-loop-id l = record {
  same : plain_assignment l.given ≡ record (plain_assignment l.initial.given) { variables = (plain_assignment l.given).variables };
  given : (ds : Declared) → ReadsFor l.self ds → Giving (assigned_variable ds) plain_named (plain_assignment l.initial.given).variables (plain_assignment l.given).variables (drop l.id-index l.entries) l.entries;
}
