use Rattle.std.proofs.Common.{◌∷◌, [], ap, ◌∙◌, sym}
use Rattle.std.proofs.lemmas.Result.{IfOk-weaker}
use Rattle.smt_factory_core.proofs.Folding.{zero_extend-bits, zero_extend-literal, zero_extend-other}
use Rattle.smt_factory_core.proofs.bits.folded_zero_extend.Goals as goal
use Rattle.law_terms.specs.Plain.{Application, terms, ZeroExtendOp}
use Rattle.smt_term.specs.View.{plain_term, plain_type-Bitvec}

pub returns-in-Some : goal.returns-in-Some
returns-in-Some c = c.from.ensures ∙ zero_extend-literal c.args.n _ _ _ _ _ c.in-Some.ensures c.extended.ensures.width c.extended.ensures.value

pub returns-in-Some-2 : goal.returns-in-Some-2
returns-in-Some-2 c =
    let wide = ap (λ ty. Application (ZeroExtendOp c.args.n) (terms (plain_term c.args.t.now ∷ [])) ty) (plain_type-Bitvec c.wider.result) in
    let width = rw c.in-Some-2.is at c.in_ok-width.ensures in
    IfOk-weaker c.unary_application.result _ _ (λ r h. h ∙ (wide ∙ sym (zero_extend-bits c.args.n _ _ _ c.in_default.ensures width c.wider.ensures))) c.unary_application.ensures

pub returns-in-None : goal.returns-in-None
returns-in-None c =
    let width = rw c.in-None.is at c.in_ok-width.ensures in
    IfOk-weaker c.share.result _ _ (λ r h. h ∙ sym (zero_extend-other c.args.n _ c.in_default.ensures width)) c.share.ensures
