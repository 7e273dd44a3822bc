use Rattle.std.proofs.Common.{[], drop, map, option_map}
use Rattle.std.specs.Rc.{rc_str_bytes}
use Rattle.law_assignments.specs.Entries.{pair_of}
use Rattle.law_jobs.specs.Declarations.{Declared}
use Rattle.smt_term.specs.Tables.{plain_entry}
use Rattle.smt_term.specs.View.{plain_type}
use Rattle.smt_term.specs.ExtensionView.{plain_extension_op}
use Rattle.smt_eval.specs.ReaderView.{HasKeys, ReadsFor, takes_key}
use Rattle.smt_eval.specs.WrittenView.{plain_pair}
use Rattle.smt_eval.proofs.InputReading.{Giving}
use Rattle.smt_eval.proofs.values.Reader.pairs.Given as goal

abbrev pub invariant-loop-key : goal.invariant-loop-key
invariant-loop-key l = record {
  keys : HasKeys l.keys (map plain_entry l.pairs.items);
  given : (ds : Declared) → ReadsFor l.self ds → Giving (pair_of ds (rc_str_bytes l.name) (plain_type l.form.arg.now) (plain_type l.form.out.now) (takes_key (option_map plain_extension_op l.form.selector))) plain_pair [] (map plain_entry l.pairs.items) (drop l.key-index l.entries) l.entries;
}
