use Rattle.std.proofs.Common.{◌∙◌}
use Rattle.law_terms.specs.Meanings.{meanings}
use Rattle.smt_nodes.specs.Interned.{nodes_of}
use Rattle.smt_nodes.proofs.Fitting.{none_of_more, none_of_one}
use Rattle.smt_nodes.proofs.interner.Interner.fits_none.Goals as goal

pub returns-in-len1 : goal.returns-in-len1
returns-in-len1 c = c.is_option.ensures ∙ none_of_one (meanings (nodes_of c.args.self.now)) c.args.parts.now _ c.in-len1.len_at_least c.in-len1.len_below

pub returns-in-len2-up : goal.returns-in-len2-up
returns-in-len2-up c = none_of_more (meanings (nodes_of c.args.self.now)) c.args.parts.now c.in-len2-up.len_at_least
