use Rattle.std.proofs.Common.{[], ◌∷◌, refl}
use Rattle.std.proofs.lemmas.Bool.{false≢true}
use Rattle.law_texts.specs.Lexicon.{End}
use Rattle.law_texts.proofs.Spans.{joined}
use Rattle.smt_jobs.proofs.Walking.{closes, does_not_close}
use Rattle.smt_jobs.proofs.walk.finish.Goals as goal

pub returns-in_default-clause-stated : goal.returns-in_default-clause-stated
returns-in_default-clause-stated c es i = does_not_close 511 es c.args.src.now [] i c.in_default.ensures.none

pub returns-then-is_blank-clause-read : goal.returns-then-is_blank-clause-read
returns-then-is_blank-clause-read c = joined c.args.src.now c.in-Some.after.now [] (End ∷ []) [] c.in-Some.ensures.found (c.if-is_blank.ensures.0 refl)

pub returns-then-is_blank-clause-stated : goal.returns-then-is_blank-clause-stated
returns-then-is_blank-clause-stated c es i = (closes 511 es c.args.src.now c.in-Some.after.now [] i c.in-Some.ensures.found).0

pub returns-else-is_blank-clause-stated : goal.returns-else-is_blank-clause-stated
returns-else-is_blank-clause-stated c es i = absurd (false≢true (c.if-is_blank.ensures.1 (closes 511 es c.args.src.now c.in-Some.after.now [] i c.in-Some.ensures.found).1))
