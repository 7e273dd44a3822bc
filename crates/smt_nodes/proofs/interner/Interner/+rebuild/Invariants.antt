use Rattle.std.proofs.Common.{◌≡◌, ◌+◌, ◌*◌, Some, take}
use Rattle.law_texts.specs.SharedTexts.{texts}
use Rattle.law_terms.specs.Meanings.{all_found, meanings}
use Rattle.smt_term.specs.Pairs.{attributes_in}
use Rattle.smt_nodes.proofs.RecordParts.{types_meant}
use Rattle.smt_nodes.specs.Interned.{nodes_of}
use Rattle.smt_nodes.specs.View.{place_of, places_of}
use Rattle.smt_nodes.proofs.interner.Interner.+rebuild.Given as goal

abbrev pub decreases-type_at : goal.decreases-type_at
decreases-type_at l = 2 * place_of l.id + 1

abbrev pub decreases-record_type_at : goal.decreases-record_type_at
decreases-record_type_at l = 2 * place_of l.id

-- the attributes and the types so far
abbrev pub invariant-record_type_at-loop-i : goal.invariant-record_type_at-loop-i
invariant-record_type_at-loop-i l =
    (attributes_in l.pairs.items ≡ texts (take l.i l.names)) × (all_found (meanings (nodes_of l.self)) (places_of (take l.i l.parts)) ≡ Some (types_meant l.pairs.items))
