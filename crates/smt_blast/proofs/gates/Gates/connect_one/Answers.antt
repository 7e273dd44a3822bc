use Rattle.smt_blast.proofs.Operating.{not_of_one, nothing_stands}
use Rattle.smt_blast.proofs.Standing.{not_grown}
use Rattle.smt_blast.proofs.gates.Gates.connect_one.Goals as goal

pub returns-in-And : goal.returns-in-And
returns-in-And c = record {
  bits = λ us p. nothing_stands c.args.self.now.nodes c.new.result.items _ c.new.ensures.items (not_of_one c.args.connective us c.in-And.is);
  grows = not_grown c.args.self.now.nodes 1;
}
