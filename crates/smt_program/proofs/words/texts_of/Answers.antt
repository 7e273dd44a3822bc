-- The arguments are those that the loop was given.
use Rattle.std.proofs.Common.{subst}
use Rattle.smt_program.specs.Words.{AreArguments}
use Rattle.smt_program.proofs.words.texts_of.Goals as goal

pub returns : goal.returns
returns c = (c.loop-argument.yielded, subst (λ s. AreArguments s c.loop-argument.yielded) c.into_iter-argument-iterator.ensures.into_iter_gives (c.next.new.self, (c.loop-argument.argument-iterator, c.loop-argument.yielded_by, c.in-None.ensures.steps)), c.loop-argument.invariant)
