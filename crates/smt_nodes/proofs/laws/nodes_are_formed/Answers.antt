use Rattle.law_terms.specs.Nodes.{TermMeaning}
use Rattle.smt_term.proofs.FormedTerms.{both_formed}
use Rattle.smt_nodes.specs.View.{place_of}
use Rattle.smt_nodes.proofs.Formed.{nodes_formed}
use Rattle.smt_nodes.proofs.laws.nodes_are_formed.Goals as goal

pub returns : goal.returns
returns c = λ i id t h. both_formed t (nodes_formed i.table.nodes.items i.graph (place_of id) (TermMeaning t) h)
