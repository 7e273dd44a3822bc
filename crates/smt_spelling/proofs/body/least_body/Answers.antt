use Rattle.std.proofs.Common.{◌-◌, ◌^◌, [], ◌∷◌, ◌++◌, refl, ◌∙◌}
use Rattle.std.proofs.lemmas.Result.{IfOk-weaker}
use Rattle.std.specs.Prelude.{codes}
use Rattle.law_scripts.specs.Script.{name}
use Rattle.law_lines.specs.Lines.{bits}
use Rattle.law_lines.specs.Spelling.{spelled}
use Rattle.law_texts.specs.SharedTexts.{texts}
use Rattle.smt_bits.specs.Width.{bits_in}
use Rattle.smt_spelling.proofs.Bracketed.{bracketed}
use Rattle.smt_spelling.proofs.Patterned.{spelled_more}
use Rattle.smt_spelling.proofs.body.least_body.Goals as goal

pub returns : goal.returns
returns c es shown =
    let n = bits_in c.args.width in
    let least = c.in_ok-bits_literal.ensures ∙ (λ i. spelled (bits (c.int_min.ensures.width i) (c.int_min.ensures.value i))) in
    let all = spelled_more es (bits n (2 ^ (n - 1))) _ _ _ shown (c.as_slice.ensures.value ∙ c.in_ok-push.ensures.items) least in
    IfOk-weaker c.application_text.result _ _ (λ text e. e ∙ bracketed _ (name (codes "=")) (texts c.as_slice.result.now) (es ++ bits n (2 ^ (n - 1)) ∷ []) refl all) c.application_text.ensures
