use Rattle.std.proofs.Common.{◌<◌, ◌^◌, ◌∙◌, ap, arith, sym}
use Rattle.std.specs.Prelude.{codes, decimal}
use Rattle.law_scripts.proofs.Numerals.{numerals_are_printed}
use Rattle.law_scripts.specs.Numerals.{numeral}
use Rattle.std.proofs.lemmas.Result.{IfOk-weaker}
use Rattle.std.proofs.Common.{◌++◌}
use Rattle.smt_blast.proofs.names.bit_name.Goals as goal

pub returns : goal.returns
returns c =
    let k = c.args.number in
    let i = c.args.place in
    let few : k < 10 ^ 64 = omega (arith, c.ranges.number.fits) in
    let low : i < 10 ^ 64 = omega (arith, c.ranges.place.fits) in
    IfOk-weaker c.from_string.result _ _ (λ name e. e ∙ c.in_ok-format.ensures.ok ∙ sym (ap (λ n. (codes "v" ++ n) ++ (codes "_" ++ numeral i)) (numerals_are_printed k few) ∙ ap (λ n. (codes "v" ++ decimal k) ++ (codes "_" ++ n)) (numerals_are_printed i low))) c.from_string.ensures.ok
