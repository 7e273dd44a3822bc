use Rattle.std.proofs.Common.{◌∙◌, ap, length, nat_eq, sym}
use Rattle.law_texts.proofs.Blanks.{empty_from}
use Rattle.smt_sexpr.proofs.Fronts.{blank_from, blank_text}
use Rattle.smt_sexpr.proofs.front.is_blank.Goals as goal

pub returns : goal.returns
returns c = (
  λ h. blank_text c.args.src.now c.without_blanks.result.now c.without_blanks.ensures.blank (empty_from c.without_blanks.result.now (sym c.is_empty.ensures ∙ h)),
  λ h. c.is_empty.ensures ∙ ap (λ v. nat_eq (length v) 0) (blank_from c.args.src.now c.without_blanks.result.now c.without_blanks.ensures.blank c.without_blanks.ensures.first h),
)
