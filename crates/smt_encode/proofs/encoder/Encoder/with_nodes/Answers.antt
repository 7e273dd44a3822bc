use Rattle.std.proofs.Common.{refl}
use Rattle.smt_encode.proofs.OneCall.{empty_fits}
use Rattle.smt_encode.proofs.encoder.Encoder.with_nodes.Goals as goal

pub returns-clause-fresh : goal.returns-clause-fresh
returns-clause-fresh g c = record { unwritten = c.new.ensures.unwritten; bottom = c.new.ensures.bottom; unbegun = refl }

pub returns-clause-stands : goal.returns-clause-stands
returns-clause-stands g c = record { tables = c.new.ensures.none; below = c.new.ensures.levels; begun = refl }

pub returns-clause-fits : goal.returns-clause-fits
returns-clause-fits g c = empty_fits _ c.args.enums.now c.new.ensures.enums (returns-clause-stands g c)
