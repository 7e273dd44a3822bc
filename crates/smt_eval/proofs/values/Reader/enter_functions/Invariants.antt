use Rattle.std.proofs.Common.{◌≡◌, drop}
use Rattle.law_assignments.specs.Entries.{assigned_function}
use Rattle.law_jobs.specs.Declarations.{Declared}
use Rattle.smt_eval.specs.AssignmentView.{plain_assignment}
use Rattle.smt_eval.specs.ReaderView.{ReadsFor}
use Rattle.smt_eval.specs.WrittenView.{plain_written_table}
use Rattle.smt_eval.proofs.InputReading.{Giving}
use Rattle.smt_eval.proofs.values.Reader.enter_functions.Given as goal

abbrev pub invariant-loop-written : goal.invariant-loop-written
invariant-loop-written l = record {
  same : plain_assignment l.given ≡ record (plain_assignment l.initial.given) { functions = (plain_assignment l.given).functions };
  given : (ds : Declared) → ReadsFor l.self ds → Giving (assigned_function ds) plain_written_table (plain_assignment l.initial.given).functions (plain_assignment l.given).functions (drop l.written-index l.entries) l.entries;
}
