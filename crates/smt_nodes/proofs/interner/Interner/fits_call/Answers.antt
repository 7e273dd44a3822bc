use Rattle.std.proofs.Common.{◌∙◌, ap, sym}
use Rattle.law_terms.specs.Meanings.{meanings}
use Rattle.law_terms.specs.Nodes.{CallLabel}
use Rattle.smt_nodes.specs.Interned.{nodes_of}
use Rattle.smt_nodes.specs.View.{place_of, places_of}
use Rattle.smt_nodes.proofs.Fitting.{call_fits, rest_decides, Fits}
use Rattle.smt_nodes.proofs.interner.Interner.fits_call.Goals as goal

pub returns-then-is_type : goal.returns-then-is_type
returns-then-is_type c =
    c.are_called.ensures ∙ (rest_decides _ _ _ (sym c.is_type.ensures ∙ c.if-is_type.true) (call_fits (meanings (nodes_of c.args.self.now)) (place_of c.in-Some.ty.now) (places_of c.in-Some.called.now)) ∙ sym (ap (Fits CallLabel (meanings (nodes_of c.args.self.now))) c.in-Some.ensures.cases.0))
