use Rattle.law_blasting.specs.Blasted.{Variables}
use Rattle.law_blasting.specs.Passing.{Related}
use Rattle.smt_blast.specs.Marks.{IsVariable}
use Rattle.smt_blast.proofs.Listing.{Listing}
use Rattle.smt_blast.proofs.blasting.variables_at.Given as goal

abbrev pub invariant-loop-id : goal.invariant-loop-id
invariant-loop-id l = (vs : Variables) → Related (IsVariable l.old) l.ids vs → Listing l.old l.ids vs l.vars l.id-index
