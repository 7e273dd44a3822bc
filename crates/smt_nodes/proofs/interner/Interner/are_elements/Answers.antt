use Rattle.std.proofs.Common.{◌∙◌, sym}
use Rattle.law_terms.specs.Meanings.{meanings}
use Rattle.smt_nodes.specs.Interned.{nodes_of}
use Rattle.smt_nodes.specs.View.{places_of}
use Rattle.smt_nodes.proofs.Fitting.{elements_else, elements_then}
use Rattle.smt_nodes.proofs.interner.Interner.are_elements.Goals as goal

pub returns-then-are_terms : goal.returns-then-are_terms
returns-then-are_terms c = elements_then (meanings (nodes_of c.args.self.now)) (places_of c.args.ids.now) c.ascend.result (sym c.are_terms.ensures ∙ c.if-are_terms.true) c.ascend.ensures

pub returns-else-are_terms : goal.returns-else-are_terms
returns-else-are_terms c = c.if-are_terms.false ∙ elements_else (meanings (nodes_of c.args.self.now)) (places_of c.args.ids.now) (sym c.are_terms.ensures ∙ c.if-are_terms.false)
