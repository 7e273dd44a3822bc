use Rattle.std.proofs.Common.{◌∙◌}
use Rattle.law_terms.specs.Meanings.{meanings}
use Rattle.smt_nodes.specs.Interned.{nodes_of}
use Rattle.smt_nodes.proofs.Fitting.{variable_of_more, variable_of_one}
use Rattle.smt_nodes.proofs.interner.Interner.fits_variable.Goals as goal

pub returns-in-len1 : goal.returns-in-len1
returns-in-len1 c id = c.is_type.ensures ∙ variable_of_one id (meanings (nodes_of c.args.self.now)) c.args.parts.now _ c.in-len1.len_at_least c.in-len1.len_below

pub returns-in-len2-up : goal.returns-in-len2-up
returns-in-len2-up c id = variable_of_more id (meanings (nodes_of c.args.self.now)) c.args.parts.now c.in-len2-up.len_at_least
