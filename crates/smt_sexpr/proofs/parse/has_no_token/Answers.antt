use Rattle.smt_sexpr.proofs.TokenLists.{atom_some}
use Rattle.smt_sexpr.proofs.parse.has_no_token.Goals as goal

pub returns-in-Atom-clause-token : goal.returns-in-Atom-clause-token
returns-in-Atom-clause-token c = λ h. atom_some c.args.lexeme.now _ c.in-Atom.is
