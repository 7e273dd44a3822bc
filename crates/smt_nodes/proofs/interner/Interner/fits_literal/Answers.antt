use Rattle.std.proofs.Common.{◌∙◌}
use Rattle.law_terms.specs.Meanings.{meanings}
use Rattle.smt_term.specs.View.{plain_literal}
use Rattle.smt_nodes.specs.Interned.{nodes_of}
use Rattle.smt_nodes.proofs.Fitting.{literal_of_more, literal_of_one}
use Rattle.smt_nodes.proofs.interner.Interner.fits_literal.Goals as goal

pub returns-in-len1 : goal.returns-in-len1
returns-in-len1 c = c.is_type_of.ensures ∙ literal_of_one (plain_literal c.args.literal.now) (meanings (nodes_of c.args.self.now)) c.args.parts.now _ c.in-len1.len_at_least c.in-len1.len_below

pub returns-in-len2-up : goal.returns-in-len2-up
returns-in-len2-up c = literal_of_more (plain_literal c.args.literal.now) (meanings (nodes_of c.args.self.now)) c.args.parts.now c.in-len2-up.len_at_least
