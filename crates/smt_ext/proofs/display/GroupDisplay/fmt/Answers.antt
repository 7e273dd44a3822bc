use Rattle.std.proofs.Common.{◌≡◌, ◌/◌, ◌%◌, ◌<◌, false, Some, [], ◌∷◌, refl, arith}
use Rattle.std.specs.Fmt.{styled_digits_output, digit_glyph}
use Rattle.std.proofs.lemmas.Fmt.{hex_byte}
use Rattle.smt_ext.proofs.display.GroupDisplay.fmt.Goals as goal

pub returns-clause-writes : goal.returns-clause-writes
returns-clause-writes g c =
    let n = c.args.self.now.0 in
    let small : n < 65536 = omega arith in
    let high : styled_digits_output c.in_radix.result c.laid_out.result ≡ Some (digit_glyph false (n / 256 / 16) ∷ digit_glyph false (n / 256 % 16) ∷ []) =
    rw (c.laid_out.ensures, c.in_radix.ensures, hex_byte false (n / 256) (omega arith)) refl in
    let low : styled_digits_output c.in_radix-2.result c.laid_out-2.result ≡ Some (digit_glyph false (n % 256 / 16) ∷ digit_glyph false (n % 256 % 16) ∷ []) =
    rw (c.laid_out-2.ensures, c.in_radix-2.ensures, hex_byte false (n % 256) (omega arith)) refl in
    let first : n / 256 / 16 ≡ n / 4096 = omega arith in
    let third : n % 256 / 16 ≡ n / 16 % 16 = omega arith in
    let fourth : n % 256 % 16 ≡ n % 16 = omega arith in
    rw (high, low, first, third, fourth) at c.write.ensures.writes
