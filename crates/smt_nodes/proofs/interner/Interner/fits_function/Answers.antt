use Rattle.law_terms.specs.Meanings.{meanings}
use Rattle.smt_nodes.specs.Interned.{nodes_of}
use Rattle.smt_nodes.proofs.Fitting.{function_of_more, function_of_one}
use Rattle.smt_nodes.proofs.interner.Interner.fits_function.Goals as goal

pub returns-in-len1 : goal.returns-in-len1
returns-in-len1 c id = function_of_one id (meanings (nodes_of c.args.self.now)) c.args.parts.now c.in-len1.len_at_least c.in-len1.len_below

pub returns-in-len3-up : goal.returns-in-len3-up
returns-in-len3-up c id = function_of_more id (meanings (nodes_of c.args.self.now)) c.args.parts.now c.in-len3-up.len_at_least
