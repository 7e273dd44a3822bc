-- What is put at the buffer's front is the next part of the list.
use Rattle.std.proofs.Common.{ap, Some, refl, arith, length-take}
use Rattle.std.proofs.lemmas.Grind.{common_steps}
use Rattle.smt_script.proofs.ReadsLemmas.{front_and_rest}
use Rattle.smt_script.proofs.source.MemorySourceSource.read.Goals as goal

pub returns-clause-reads : goal.returns-clause-reads
returns-clause-reads c = record {
  bound = grind (arith, common_steps);
  bytes = ap Some (front_and_rest c.args.self.now.bytes.items c.args.buffer.now c.copy_from_slice.new.self c.args.self.now.at c.min-count.result
      (grind (arith, common_steps))
      (omega (arith, c.copy_from_slice.ensures.len, c.min-count.ensures, length-take c.min-count.result c.args.buffer.now)));
  end = λ e. grind (arith, common_steps, e);
  kept = tt;
  later = omega arith;
  no_fault = refl;
  cause = tt;
  certain = grind (arith, common_steps);
  same_place = refl;
}
