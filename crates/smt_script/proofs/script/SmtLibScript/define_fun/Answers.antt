-- The line is its head, the arguments, and their sort and value.
use Rattle.law_texts.specs.LineTexts.{sorted_names}
use Rattle.law_texts.specs.SharedTexts.{text_pairs}
use Rattle.law_texts.proofs.LineTexts.{define_fun_text-parts}
use Rattle.smt_script.proofs.PutsLemmas.{exits, along, then, stops}
use Rattle.smt_script.proofs.script.SmtLibScript.define_fun.Goals as goal

pub returns-in_err-put_all : goal.returns-in_err-put_all
returns-in_err-put_all g c =
    let args = sorted_names (text_pairs c.args.args.now) in
    exits c.from_residual.ensures.1 (along (define_fun_text-parts c.args.id.now args c.args.ty.now c.args.expr.now) (stops _ c.in_err-put_all.ensures))

pub returns-in_err-put_variables : goal.returns-in_err-put_variables
returns-in_err-put_variables g c =
    let args = sorted_names (text_pairs c.args.args.now) in
    exits c.from_residual-in_err-put_variables.ensures.1 (along (define_fun_text-parts c.args.id.now args c.args.ty.now c.args.expr.now) (then _ c.in_ok-put_all.ensures (stops _ c.in_err-put_variables.ensures)))

pub returns : goal.returns
returns g c =
    let args = sorted_names (text_pairs c.args.args.now) in
    along (define_fun_text-parts c.args.id.now args c.args.ty.now c.args.expr.now) (then _ c.in_ok-put_all.ensures (then _ c.in_ok-put_variables.ensures c.put_all-2.ensures))
