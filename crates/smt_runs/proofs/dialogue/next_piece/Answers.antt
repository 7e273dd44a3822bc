use Rattle.std.proofs.Common.{refl}
use Rattle.law_terms.specs.Faults.{first_fault}
use Rattle.law_jobs.specs.Steps.{asserted}
use Rattle.smt_encode.specs.Encoded.{enums_in, nodes_in}
use Rattle.smt_jobs.specs.Numbers.{steps_by}
use Rattle.smt_runs.proofs.Printing.{memory_cause}
use Rattle.smt_runs.proofs.dialogue.next_piece.Goals as goal

pub returns-clause-refused : goal.returns-clause-refused
returns-clause-refused g c =
    memory_cause 0 0 (first_fault (enums_in c.args.encoder) (asserted (steps_by (nodes_in c.args.encoder) c.args.steps.now))) c.put_piece-encoder.result.1 c.in-Err.error c.of.result refl refl c.in-Err.is c.of.ensures
    (c.put_piece-encoder.ensures.refused c.requires.balanced.0 c.requires.balanced.1 c.requires.balanced.2)
