use Rattle.std.proofs.Common.{sym, ◌∙◌}
use Rattle.std.specs.Rc.{rc_str_bytes}
use Rattle.smt_sexpr.specs.View.{plain_list}
use Rattle.smt_job_terms.specs.TermView.{plain_form}
use Rattle.smt_job_terms.proofs.FormsRead.{other_form}
use Rattle.smt_job_terms.proofs.Reading.{read_of}
use Rattle.smt_job_terms.proofs.form.form_from.Goals as goal

pub returns-in_default : goal.returns-in_default
returns-in_default c ds has =
    let d = c.in_default in
    let e = sym c.as_str.ensures.value in
    read_of plain_form c.operator_form.result _ _
    (other_form ds (rc_str_bytes c.args.head.now) (plain_list c.args.operands.now) (λ h. d.not-var (sym e ∙ h)) (λ h. d.not-bv (sym e ∙ h)) (λ h. d.not-long (sym e ∙ h)) (λ h. d.not-entity (sym e ∙ h)) (λ h. d.not-decimal (sym e ∙ h)) (λ h. d.not-ip (sym e ∙ h)) (λ h. d.not-datetime (sym e ∙ h)) (λ h. d.not-duration (sym e ∙ h)) (λ h. d.not-none (sym e ∙ h)) (λ h. d.not-some (sym e ∙ h)) (λ h. d.not-set (sym e ∙ h))
    (λ h. d.not-record (sym e ∙ h)) (λ h. d.not-zero_extend (sym e ∙ h)) (λ h. d.not-text (sym e ∙ h)) (λ h. d.not-text-2 (sym e ∙ h)) (λ h. d.not-uuf (sym e ∙ h)))
    c.operator_form.ensures
