use Rattle.std.proofs.Common.{◌≡◌, ◌+◌, ◌*◌, IsTrue, Some, map}
use Rattle.law_blasting.specs.Blasted.{Variables}
use Rattle.law_terms.specs.Meanings.{all_found, meanings}
use Rattle.law_terms.specs.Nodes.{TermMeaning}
use Rattle.law_terms.specs.Plain.{PlainTerms, list_of_terms}
use Rattle.law_terms.specs.Typing.{typed_all}
use Rattle.smt_nodes.specs.Interned.{nodes_of}
use Rattle.smt_blast.specs.Walks.{IsWalk}
use Rattle.smt_blast.proofs.Visiting.{Walking}
use Rattle.smt_nodes.specs.View.{place_of, places_of}
use Rattle.smt_blast.proofs.visit.Walk.+walk.Given as goal

abbrev pub decreases-visit : goal.decreases-visit
decreases-visit l = 4 * place_of l.id + 3

abbrev pub decreases-visit_new : goal.decreases-visit_new
decreases-visit_new l = 4 * place_of l.id + 2

abbrev pub decreases-refuse_call : goal.decreases-refuse_call
decreases-refuse_call l = 4 * l.before + 1

abbrev pub decreases-visit_all : goal.decreases-visit_all
decreases-visit_all l = 4 * l.before

abbrev pub invariant-visit_all-loop-id : goal.invariant-visit_all-loop-id
invariant-visit_all-loop-id l =
    (ts : PlainTerms) (vs : Variables) → all_found (meanings (nodes_of l.old)) (places_of l.ids) ≡ Some (map TermMeaning (list_of_terms ts)) → IsTrue (typed_all ts) → IsWalk l.old l.initial.self vs → Walking l.old l.initial.self l.self vs ts l.ids l.id-index
