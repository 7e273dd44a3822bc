use Rattle.std.proofs.Common.{◌∙◌, rules}
use Rattle.smt_nodes.proofs.Fitting.{option_held}
use Rattle.smt_nodes.specs.Interned.{meaning_in, nodes_of}
use Rattle.smt_nodes.proofs.interner.Interner.is_option_of.Goals as goal

pub returns : goal.returns
returns c =
    let s = c.args.self.now in
    c.eq.ensures ∙ option_held (nodes_of s) s.graph (meaning_in s c.args.ty) (meaning_in s c.args.term) c.parts.result.now c.parts-2.result.now _ (search rules) (search rules) c.parts.ensures.found c.parts-2.ensures.found
