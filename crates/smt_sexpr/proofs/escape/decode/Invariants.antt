use Rattle.std.proofs.Common.{◌≡◌, ◌++◌, List, ℕ, length, true}
use Rattle.std.specs.Prelude.{encode_utf8_all}
use Rattle.std.specs.String.{string_bytes}
use Rattle.std.proofs.Math.Utf8.{scalars}
use Rattle.law_texts.specs.Escapes.{decoded}
use Rattle.smt_sexpr.proofs.escape.decode.Given as goal

abbrev pub invariant-loop-point : goal.invariant-loop-point
invariant-loop-point l =
    (done : List ℕ) × (string_bytes l.characters ≡ encode_utf8_all done) × (scalars done ≡ true) × (decoded 0 l.text ≡ done ++ decoded 0 l.rest)

abbrev pub decreases-loop-point : goal.decreases-loop-point
decreases-loop-point l = length l.rest
