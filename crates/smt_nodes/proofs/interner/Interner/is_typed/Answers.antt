use Rattle.std.proofs.Common.{◌∙◌, rules}
use Rattle.smt_nodes.proofs.RecordFitting.{typed_held}
use Rattle.smt_nodes.specs.Interned.{meaning_in, nodes_of}
use Rattle.smt_nodes.specs.View.{place_of}
use Rattle.smt_nodes.proofs.interner.Interner.is_typed.Goals as goal

pub returns-in-len1-up : goal.returns-in-len1-up
returns-in-len1-up c u h =
    let s = c.args.self.now in
    c.eq.ensures ∙ typed_held (nodes_of s) s.graph (meaning_in s c.args.term) c.parts.result.now _ (place_of c.args.ty) u (search rules) h c.parts.ensures.found
