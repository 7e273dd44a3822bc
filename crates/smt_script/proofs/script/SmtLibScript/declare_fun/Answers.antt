-- The line is its head, the sorts of the arguments, and the sort of the values.
use Rattle.law_texts.specs.LineTexts.{spaced}
use Rattle.law_texts.specs.SharedTexts.{texts}
use Rattle.law_texts.proofs.LineTexts.{declare_fun_text-parts}
use Rattle.smt_script.proofs.PutsLemmas.{exits, along, then, stops}
use Rattle.smt_script.proofs.script.SmtLibScript.declare_fun.Goals as goal

pub returns-in_err-put_all : goal.returns-in_err-put_all
returns-in_err-put_all g c =
    let args = spaced (texts c.args.args.now) in
    exits c.from_residual.ensures.1 (along (declare_fun_text-parts c.args.id.now args c.args.ty.now) (stops _ c.in_err-put_all.ensures))

pub returns-in_err-put_joined : goal.returns-in_err-put_joined
returns-in_err-put_joined g c =
    let args = spaced (texts c.args.args.now) in
    exits c.from_residual-in_err-put_joined.ensures.1 (along (declare_fun_text-parts c.args.id.now args c.args.ty.now) (then _ c.in_ok-put_all.ensures (stops _ c.in_err-put_joined.ensures)))

pub returns : goal.returns
returns g c =
    let args = spaced (texts c.args.args.now) in
    along (declare_fun_text-parts c.args.id.now args c.args.ty.now) (then _ c.in_ok-put_all.ensures (then _ c.in_ok-put_joined.ensures c.put_all-2.ensures))
