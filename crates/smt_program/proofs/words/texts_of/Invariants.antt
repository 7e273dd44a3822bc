-- What the loop over the arguments keeps true.
use Rattle.std.proofs.Common.{◌≡◌, map}
use Rattle.std.specs.String.{string_bytes}
use Rattle.law_texts.specs.SharedTexts.{texts}
use Rattle.smt_program.proofs.words.texts_of.Given as goal

-- each argument so far is a text
abbrev pub invariant-loop-argument : goal.invariant-loop-argument
invariant-loop-argument l = texts l.words.items ≡ map string_bytes l.yielded
