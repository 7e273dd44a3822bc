use Rattle.std.proofs.Common.{◌≡◌, ◌↔◌, Some, length, map}
use Rattle.std.specs.Iterator.Adapters.{zip_first, zip_second}
use Rattle.std.specs.Slice.Iter.{iter_rest}
use Rattle.law_terms.specs.Meanings.{all_found, meanings}
use Rattle.law_terms.specs.Nodes.{TermMeaning}
use Rattle.law_terms.specs.Parts.{field_terms}
use Rattle.smt_nodes.proofs.RecordParts.{fields_meant}
use Rattle.smt_term.specs.View.{plain_fields, plain_term}
use Rattle.law_terms.specs.Plain.{record_fields}
use Rattle.smt_nodes.specs.Interned.{nodes_of}
use Rattle.smt_nodes.specs.View.{places_of}
use Rattle.smt_nodes.proofs.interner.Interner.+find.Given as goal

-- as many numbers as terms are left, and whether they stand for these decides it of all
abbrev pub invariant-stand_for_terms-loop-id : goal.invariant-stand_for_terms-loop-id
invariant-stand_for_terms-loop-id l =
    let ids = iter_rest (zip_first l.id-iterator) in
    let terms = iter_rest (zip_second l.id-iterator) in
    let ms = meanings (nodes_of l.self) in
    (length ids ≡ length terms) × ((all_found ms (places_of ids) ≡ Some (map TermMeaning (map plain_term terms))) ↔ (all_found ms (places_of l.ids) ≡ Some (map TermMeaning (map plain_term l.terms))))

-- as many numbers as fields are left, and whether they stand for the terms of these decides it of all
abbrev pub invariant-stand_for_fields-loop-id : goal.invariant-stand_for_fields-loop-id
invariant-stand_for_fields-loop-id l =
    let ids = iter_rest (zip_first l.id-iterator) in
    let fields = iter_rest (zip_second l.id-iterator) in
    let ms = meanings (nodes_of l.self) in
    (length ids ≡ length fields) × ((all_found ms (places_of ids) ≡ Some (fields_meant fields)) ↔ (all_found ms (places_of l.ids) ≡ Some (field_terms (record_fields (plain_fields l.fields)))))
