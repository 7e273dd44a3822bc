use Rattle.std.proofs.Common.{ap, false, true}
use Rattle.smt_nodes.proofs.Growing.{bool_there}
use Rattle.smt_nodes.specs.Kinds.{is_bool_at}
use Rattle.smt_nodes.specs.Interned.{meaning_in}
use Rattle.smt_blast.specs.Standing.{is_truth_at}
use Rattle.smt_blast.proofs.Gating.{truth_there}
use Rattle.smt_blast.proofs.gates.Gates.enter.Goals as goal

pub invariant_of-self : goal.invariant_of-self
invariant_of-self c =
    let s = c.args.self.now in
    record {
      type_known = ap is_bool_at (c.enter.ensures.kept s.bool_type _ (bool_there (meaning_in s.nodes s.bool_type) s.type_known));
      no_known = ap (is_truth_at false) (c.enter.ensures.kept s.no _ (truth_there false (meaning_in s.nodes s.no) s.no_known));
      yes_known = ap (is_truth_at true) (c.enter.ensures.kept s.yes _ (truth_there true (meaning_in s.nodes s.yes) s.yes_known));
    }
