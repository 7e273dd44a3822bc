use Rattle.law_terms.proofs.Distinct.{places_differ, places_mean}
use Rattle.smt_nodes.specs.Interned.{nodes_of}
use Rattle.smt_nodes.specs.View.{place_of}
use Rattle.smt_nodes.proofs.laws.numbers_differ_in_meaning.Goals as goal

pub returns : goal.returns
returns c = record {
  meant = λ i id h. places_mean (nodes_of i) i.graph (place_of id) h;
  differ = λ i a b m e f. let same = places_differ (nodes_of i) i.graph (place_of a) (place_of b) m e f in λ k. record { place = same k };
}
