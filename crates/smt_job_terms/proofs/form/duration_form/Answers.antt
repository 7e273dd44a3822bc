use Rattle.std.proofs.Common.{◌≡◌, Some, rules}
use Rattle.std.specs.Rc.{rc_str_bytes}
use Rattle.law_texts.specs.Parts.{sole_text}
use Rattle.law_jobs.specs.Terms.{duration_literal}
use Rattle.smt_sexpr.specs.View.{plain_list}
use Rattle.smt_job_terms.proofs.ExtensionsRead.{refusal_stated, value_stated}
use Rattle.smt_job_terms.proofs.form.duration_form.Goals as goal

pub returns-in-Some : goal.returns-in-Some
returns-in-Some c =
    let sole : sole_text (plain_list c.args.operands.now) ≡ Some (rc_str_bytes c.in_ok-text.text.now) = search rules in
    value_stated duration_literal (plain_list c.args.operands.now) (rc_str_bytes c.in_ok-text.text.now) c.as_str.result.now c.in_ok-value.field-0 sole c.as_str.ensures.value c.in_ok-value.ensures c.in-Some.value _ c.in-Some.is c.from.ensures

pub returns-in-None : goal.returns-in-None
returns-in-None c =
    let sole : sole_text (plain_list c.args.operands.now) ≡ Some (rc_str_bytes c.in_ok-text.text.now) = search rules in
    refusal_stated duration_literal (plain_list c.args.operands.now) (rc_str_bytes c.in_ok-text.text.now) c.as_str.result.now c.in_ok-value.field-0 sole c.as_str.ensures.value c.in_ok-value.ensures c.bad_literal.result c.in-None.is c.bad_literal.ensures
