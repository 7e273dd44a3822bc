use Rattle.std.proofs.Common.{◌∙◌, ap, sym}
use Rattle.law_terms.specs.Meanings.{meanings}
use Rattle.smt_nodes.specs.Interned.{nodes_of}
use Rattle.smt_nodes.specs.View.{place_of, places_of}
use Rattle.law_terms.specs.Nodes.{SetOfLabel}
use Rattle.smt_nodes.proofs.Fitting.{set_then, Fits}
use Rattle.smt_nodes.proofs.interner.Interner.fits_set.Goals as goal

pub returns-then-is_set : goal.returns-then-is_set
returns-then-is_set c =
    c.are_elements.ensures ∙ (set_then (meanings (nodes_of c.args.self.now)) (place_of c.in-Some.ty.now) (places_of c.in-Some.elements.now) (sym c.is_set.ensures ∙ c.if-is_set.true) ∙ sym (ap (Fits SetOfLabel (meanings (nodes_of c.args.self.now))) c.in-Some.ensures.cases.0))
