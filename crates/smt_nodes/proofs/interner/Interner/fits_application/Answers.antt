use Rattle.std.proofs.Common.{◌∙◌, ap, sym}
use Rattle.law_terms.specs.Meanings.{meanings}
use Rattle.smt_nodes.specs.Interned.{nodes_of}
use Rattle.smt_nodes.specs.View.{place_of, places_of}
use Rattle.law_terms.specs.Nodes.{ApplicationLabel}
use Rattle.smt_nodes.proofs.Fitting.{app_then, Fits}
use Rattle.smt_nodes.proofs.interner.Interner.fits_application.Goals as goal

pub returns-then-is_type : goal.returns-then-is_type
returns-then-is_type c o n =
    c.are_terms.ensures ∙ (app_then (meanings (nodes_of c.args.self.now)) o n (place_of c.in-Some.ty.now) (places_of c.in-Some.args.now) (sym c.is_type.ensures ∙ c.if-is_type.true) ∙ sym (ap (Fits (ApplicationLabel o) (meanings (nodes_of c.args.self.now))) c.in-Some.ensures.cases.0))
