use Rattle.smt_sexpr.proofs.Shapes.{text_of_string}
use Rattle.smt_sexpr.proofs.parts.text_in.Goals as goal

pub returns-in-String : goal.returns-in-String
returns-in-String c = text_of_string c.args.expression.now c.in-String.text c.in-String.is
