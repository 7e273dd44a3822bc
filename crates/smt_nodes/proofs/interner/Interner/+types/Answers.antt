use Rattle.std.proofs.Common.{◌≡◌, ◌↔◌, ◌∷◌, [], Some, length, rules, sym, ap, ◌∙◌, arith}
use Rattle.std.specs.Iterator.Adapters.{zip_first, zip_second}
use Rattle.std.specs.Slice.Iter.{iter_rest}
use Rattle.std.proofs.lemmas.Iterator.{empty_from_Zip}
use Rattle.law_terms.specs.Meanings.{all_found, meanings}
use Rattle.law_terms.specs.Nodes.{TypeMeaning}
use Rattle.law_terms.specs.Parts.{type_parts, types_in}
use Rattle.smt_term.specs.View.{plain_type, plain_type-Record, plain_type-Option, plain_type-Bitvec, plain_type-Bool, plain_type-Entity, plain_type-Ext, plain_type-String, plain_type-Set}
use Rattle.law_terms.specs.Plain.{attribute_types}
use Rattle.smt_nodes.proofs.Finding.{all_right, at_parts, decided_by_parts, next_right, next_wrong, none_left, other_count}
use Rattle.smt_nodes.proofs.RecordParts.{listed-length, types_listing, types_meant}
use Rattle.smt_nodes.specs.Interned.{nodes_of}
use Rattle.smt_nodes.specs.View.{place_of, places_of, plain_label}
use Rattle.smt_nodes.proofs.interner.Interner.+types.Goals as goal

pub are_parts_of_type-returns-in-Option : goal.are_parts_of_type-returns-in-Option
are_parts_of_type-returns-in-Option t c =
    at_parts (meanings (nodes_of c.args.self.now)) c.args.parts.now c.are_one_type.result _ _ (ap (λ t. TypeMeaning (plain_type t) ∷ []) c.deref.ensures ∙ sym (ap type_parts (ap plain_type c.in-Option.is ∙ plain_type-Option c.in-Option.ty))) c.are_one_type.ensures

pub are_parts_of_type-returns-in-Bitvec : goal.are_parts_of_type-returns-in-Bitvec
are_parts_of_type-returns-in-Bitvec t c = none_left (meanings (nodes_of c.args.self.now)) c.args.parts.now _ c.is_empty.result c.is_empty.ensures (ap type_parts (ap plain_type c.in-Bitvec.is ∙ plain_type-Bitvec c.in-Bitvec.n))

pub are_parts_of_type-returns-in-Bool : goal.are_parts_of_type-returns-in-Bool
are_parts_of_type-returns-in-Bool t c = none_left (meanings (nodes_of c.args.self.now)) c.args.parts.now _ c.is_empty-in-Bool.result c.is_empty-in-Bool.ensures (ap type_parts (ap plain_type c.in-Bool.is ∙ plain_type-Bool))

pub are_parts_of_type-returns-in-Entity : goal.are_parts_of_type-returns-in-Entity
are_parts_of_type-returns-in-Entity t c = none_left (meanings (nodes_of c.args.self.now)) c.args.parts.now _ c.is_empty-in-Entity.result c.is_empty-in-Entity.ensures (ap type_parts (ap plain_type c.in-Entity.is ∙ plain_type-Entity c.in-Entity.ety))

pub are_parts_of_type-returns-in-Ext : goal.are_parts_of_type-returns-in-Ext
are_parts_of_type-returns-in-Ext t c = none_left (meanings (nodes_of c.args.self.now)) c.args.parts.now _ c.is_empty-in-Ext.result c.is_empty-in-Ext.ensures (ap type_parts (ap plain_type c.in-Ext.is ∙ plain_type-Ext c.in-Ext.xty))

pub are_parts_of_type-returns-in-String : goal.are_parts_of_type-returns-in-String
are_parts_of_type-returns-in-String t c = none_left (meanings (nodes_of c.args.self.now)) c.args.parts.now _ c.is_empty-in-String.result c.is_empty-in-String.ensures (ap type_parts (ap plain_type c.in-String.is ∙ plain_type-String))

pub are_parts_of_type-returns-in-Set : goal.are_parts_of_type-returns-in-Set
are_parts_of_type-returns-in-Set t c =
    at_parts (meanings (nodes_of c.args.self.now)) c.args.parts.now c.are_one_type-in-Set.result _ _ (ap (λ t. TypeMeaning (plain_type t) ∷ []) c.deref-in-Set.ensures ∙ sym (ap type_parts (ap plain_type c.in-Set.is ∙ plain_type-Set c.in-Set.ty))) c.are_one_type-in-Set.ensures

pub are_one_type-returns-in-len2-up : goal.are_one_type-returns-in-len2-up
are_one_type-returns-in-len2-up t c = other_count (meanings (nodes_of c.args.self.now)) c.args.ids.now _ (λ h. (let l = c.in-len2-up.len_at_least in absurd (omega arith)))

pub stands_for_type-returns-then-is_of_type : goal.stands_for_type-returns-then-is_of_type
stands_for_type-returns-then-is_of_type t c =
    let s = c.args.self.now in
    decided_by_parts (nodes_of s) s.graph (place_of c.args.id) (plain_label c.in-Some.label.now) c.parts.result.now (TypeMeaning (plain_type c.args.ty.now)) c.are_parts_of_type.result c.in-Some.ensures (c.is_of_type.ensures.0 c.if-is_of_type.true) c.parts.ensures.found c.are_parts_of_type.ensures

pub are_parts_of_type-returns-in-Record : goal.are_parts_of_type-returns-in-Record
are_parts_of_type-returns-in-Record t c =
    at_parts (meanings (nodes_of c.args.self.now)) c.args.parts.now c.stand_for_types.result _ _ (sym (ap type_parts (ap plain_type c.in-Record.is ∙ plain_type-Record c.in-Record.rty))) c.stand_for_types.ensures

pub stand_for_types-returns-then-ids-attributes : goal.stand_for_types-returns-then-ids-attributes
stand_for_types-returns-then-ids-attributes t c =
    other_count (meanings (nodes_of c.args.self.now)) c.args.ids.now _
    (λ h. c.if-ids-attributes.true (h ∙ (ap (λ ps. length (types_in (attribute_types ps))) (sym c.items-attributes.ensures.plain) ∙ listed-length types_listing c.items-attributes.result.now)))

pub stand_for_types-loop-id-init : goal.stand_for_types-loop-id-init
stand_for_types-loop-id-init t c =
    let it = c.into_iter-id-iterator.result in
    let ms = meanings (nodes_of c.args.self.now) in
    let same : (length (iter_rest (zip_first it)) ≡ length (iter_rest (zip_second it))) × ((all_found ms (places_of (iter_rest (zip_first it))) ≡ Some (types_meant (iter_rest (zip_second it)))) ↔ (all_found ms (places_of c.args.ids.now) ≡ Some (types_meant c.items-attributes.result.now))) = search rules in
    let e = ap (λ ps. Some (types_in (attribute_types ps))) c.items-attributes.ensures.plain in
    (same.0, (λ h. same.1.0 h ∙ e, λ h. same.1.1 (h ∙ sym e)))

pub stand_for_types-returns-then-not-stands_for_type : goal.stand_for_types-returns-then-not-stands_for_type
stand_for_types-returns-then-not-stands_for_type t c =
    next_wrong types_listing (meanings (nodes_of c.args.self.now)) _ _ c.in-Some.id.now _ _ _ _ c.stands_for_type.result c.in-Some.ensures.steps.0 c.in-Some.ensures.steps.1 c.stands_for_type.ensures c.if-not-stands_for_type.true c.loop-id.invariant.1

pub stand_for_types-loop-id-preserved : goal.stand_for_types-loop-id-preserved
stand_for_types-loop-id-preserved t c =
    let ids = ap length c.in-Some.ensures.steps.0 in
    let types = ap length c.in-Some.ensures.steps.1 in
    let same = c.loop-id.invariant.0 in (
      omega arith,
      next_right types_listing (meanings (nodes_of c.args.self.now)) _ _ c.in-Some.id.now _ _ _ _ c.stands_for_type.result c.in-Some.ensures.steps.0 c.in-Some.ensures.steps.1 c.stands_for_type.ensures c.if-not-stands_for_type.false c.loop-id.invariant.1,
    )

pub stand_for_types-returns : goal.stand_for_types-returns
stand_for_types-returns t c =
    let spent = empty_from_Zip _ c.next.new.self _ c.in-None.is c.next.ensures.steps (c.loop-id.invariant.0) in
    all_right types_listing (meanings (nodes_of c.args.self.now)) _ _ _ spent.0 spent.1 c.loop-id.invariant.1
