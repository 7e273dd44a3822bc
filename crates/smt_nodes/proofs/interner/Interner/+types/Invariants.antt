use Rattle.std.proofs.Common.{◌≡◌, ◌↔◌, Some, length}
use Rattle.std.specs.Iterator.Adapters.{zip_first, zip_second}
use Rattle.std.specs.Slice.Iter.{iter_rest}
use Rattle.law_terms.specs.Meanings.{all_found, meanings}
use Rattle.law_terms.specs.Parts.{types_in}
use Rattle.smt_term.specs.View.{plain_attributes}
use Rattle.law_terms.specs.Plain.{attribute_types}
use Rattle.smt_nodes.proofs.RecordParts.{types_meant}
use Rattle.smt_nodes.specs.Interned.{nodes_of}
use Rattle.smt_nodes.specs.View.{places_of}
use Rattle.smt_nodes.proofs.interner.Interner.+types.Given as goal

-- as many numbers as attributes are left, and whether they stand for the types of these decides it of all
abbrev pub invariant-stand_for_types-loop-id : goal.invariant-stand_for_types-loop-id
invariant-stand_for_types-loop-id l =
    let ids = iter_rest (zip_first l.id-iterator) in
    let attributes = iter_rest (zip_second l.id-iterator) in
    let ms = meanings (nodes_of l.self) in
    (length ids ≡ length attributes) × ((all_found ms (places_of ids) ≡ Some (types_meant attributes)) ↔ (all_found ms (places_of l.ids) ≡ Some (types_in (attribute_types (plain_attributes l.types)))))
