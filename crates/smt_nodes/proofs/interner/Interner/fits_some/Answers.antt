use Rattle.std.proofs.Common.{◌∙◌}
use Rattle.law_terms.specs.Meanings.{meanings}
use Rattle.smt_nodes.specs.Interned.{nodes_of}
use Rattle.smt_nodes.proofs.Fitting.{some_of_more, some_of_one, some_of_two}
use Rattle.smt_nodes.proofs.interner.Interner.fits_some.Goals as goal

pub returns-in-len1 : goal.returns-in-len1
returns-in-len1 c = some_of_one (meanings (nodes_of c.args.self.now)) c.args.parts.now c.in-len1.len_at_least c.in-len1.len_below

pub returns-in-len2 : goal.returns-in-len2
returns-in-len2 c = c.is_option_of.ensures ∙ some_of_two (meanings (nodes_of c.args.self.now)) c.args.parts.now _ _ c.in-len2.len_at_least c.in-len2.len_below

pub returns-in-len3-up : goal.returns-in-len3-up
returns-in-len3-up c = some_of_more (meanings (nodes_of c.args.self.now)) c.args.parts.now c.in-len3-up.len_at_least
