-- The line is its head, the datatype and its end.
use Rattle.law_texts.specs.LineTexts.{spaced, constructor_lines, datatype_body}
use Rattle.law_texts.specs.SharedTexts.{texts}
use Rattle.law_texts.proofs.LineTexts.{declare_datatype_text-parts}
use Rattle.smt_script.proofs.PutsLemmas.{exits, along, then, stops}
use Rattle.smt_script.proofs.script.SmtLibScript.declare_datatype.Goals as goal

pub returns-in_err-put_all : goal.returns-in_err-put_all
returns-in_err-put_all g c =
    let body = datatype_body (spaced (texts c.args.params.now)) (constructor_lines (texts c.args.constructors.now)) in
    exits c.from_residual.ensures.1 (along (declare_datatype_text-parts c.args.id.now body) (stops _ c.in_err-put_all.ensures))

pub returns-in_err-put_datatype : goal.returns-in_err-put_datatype
returns-in_err-put_datatype g c =
    let body = datatype_body (spaced (texts c.args.params.now)) (constructor_lines (texts c.args.constructors.now)) in
    exits c.from_residual-in_err-put_datatype.ensures.1 (along (declare_datatype_text-parts c.args.id.now body) (then _ c.in_ok-put_all.ensures (stops _ c.in_err-put_datatype.ensures)))

pub returns : goal.returns
returns g c =
    let body = datatype_body (spaced (texts c.args.params.now)) (constructor_lines (texts c.args.constructors.now)) in
    along (declare_datatype_text-parts c.args.id.now body) (then _ c.in_ok-put_all.ensures (then _ c.in_ok-put_datatype.ensures c.put.ensures))
