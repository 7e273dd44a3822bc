use Rattle.std.proofs.Common.{◌≡◌, drop}
use Rattle.law_assignments.specs.Entries.{get_of}
use Rattle.law_jobs.specs.Declarations.{Declared}
use Rattle.smt_eval.specs.AssignmentView.{plain_assignment}
use Rattle.smt_eval.specs.ReaderView.{ReadsFor}
use Rattle.smt_eval.specs.WrittenView.{plain_typed}
use Rattle.smt_eval.proofs.InputReading.{Giving}
use Rattle.smt_eval.proofs.values.Reader.enter_gets.Given as goal

abbrev pub invariant-loop-inside : goal.invariant-loop-inside
invariant-loop-inside l = record {
  same : plain_assignment l.given ≡ record (plain_assignment l.initial.given) { gets = (plain_assignment l.given).gets };
  given : (ds : Declared) → ReadsFor l.self ds → Giving (get_of ds) plain_typed (plain_assignment l.initial.given).gets (plain_assignment l.given).gets (drop l.inside-index l.entries) l.entries;
}
