use Rattle.std.proofs.Common.{◌≡◌, [], ◌∷◌, w64, FitsSigned, refl, ap, ◌∙◌, arith}
use Rattle.std.specs.Int.{w128}
use Rattle.std.proofs.lemmas.Int.{ints, to_z-of_z}
use mir.Val.{of_z, to_z}
use Rattle.std.specs.Rc.{rc_str_bytes}
use Rattle.std.proofs.lemmas.Result.{IfOk-weaker}
use Rattle.law_numbers.specs.BitVectors.{bits_of}
use Rattle.law_scripts.specs.Script.{name}
use Rattle.law_lines.specs.Lines.{bits}
use Rattle.law_lines.specs.Spelling.{spelled}
use Rattle.smt_spelling.proofs.Bracketed.{bracketed}
use Rattle.smt_spelling.proofs.extension.long_text.Goals as goal

pub returns : goal.returns
returns c =
    let own : c.from.result ≡ c.args.number = c.from.ensures ∙ to_z-of_z w64 c.args.number c.ranges.number in
    let wide : FitsSigned w128 c.args.number = omega (arith, ints, c.ranges.number) in
    let number = c.of_int-bits.ensures.value ∙ ap (bits_of 64) (ap (λ z. to_z w128 (of_z w128 z)) own ∙ to_z-of_z w128 c.args.number wide) in
    let literal : rc_str_bytes c.in_ok-literal.literal ≡ spelled (bits 64 (bits_of 64 c.args.number)) =
    c.in_ok-literal.ensures ∙ (λ i. spelled (bits (c.of_int-bits.ensures.width i) (number i))) in
    IfOk-weaker c.application_text.result _ _ (λ t e. e ∙ bracketed c.args.constructor.now (name c.args.constructor.now) (rc_str_bytes c.in_ok-literal.literal ∷ []) (bits 64 (bits_of 64 c.args.number) ∷ []) refl (ap (λ l. l ∷ []) literal)) c.application_text.ensures
