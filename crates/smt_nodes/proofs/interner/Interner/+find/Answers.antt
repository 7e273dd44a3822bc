use Rattle.std.proofs.Common.{◌≡◌, ◌∷◌, ◌↔◌, [], Some, List, map, rules, true, refl, sym, ap, ◌∙◌, arith, subst, length}
use Rattle.std.proofs.lemmas.Iterator.{empty_from_Zip}
use Rattle.std.proofs.lemmas.List.{length-map}
use Rattle.std.specs.Iterator.Adapters.{zip_first, zip_second}
use Rattle.std.specs.Slice.Iter.{iter_rest}
use Rattle.law_terms.specs.Meanings.{all_found, meanings}
use Rattle.law_terms.specs.Nodes.{FunctionMeaning, TermMeaning, TypeMeaning}
use Rattle.law_terms.proofs.Whole.{round}
use Rattle.law_terms.specs.Parts.{field_terms, parts_in, term_parts}
use Rattle.law_terms.specs.Plain.{SetType, PlainTerm, Application, NoneTerm, LiteralTerm, RecordTerm, SetTerm, SomeTerm, VariableTerm, terms, record_fields}
use Rattle.std.specs.Rc.{rc_str_bytes}
use Rattle.smt_term.specs.View.{plain_elements, plain_fields, plain_function, plain_items, plain_literal, plain_op, plain_term, plain_type, plain_term-App, plain_term-None, plain_term-Prim, plain_term-Record, plain_term-Set, plain_term-Some, plain_term-Var}
use Rattle.smt_nodes.proofs.Finding.{all_right, app_parts, at_parts, call_parts, decided_by_parts, first_behind, first_right, first_wrong, literal_typed, next_right, next_wrong, none_left, other_count, others_wrong, parts_applied, some_count, some_right, some_wrong}
use Rattle.smt_nodes.proofs.RecordParts.{fields_listed, fields_meant, listed-length, terms_listed}
use Rattle.smt_nodes.specs.Interned.{meaning_in, nodes_of}
use Rattle.smt_nodes.specs.View.{place_of, places_of, plain_label}
use Rattle.smt_nodes.proofs.interner.Interner.+find.Goals as goal

pub are_parts_of_term-returns-then-stands_for_type : goal.are_parts_of_term-returns-then-stands_for_type
are_parts_of_term-returns-then-stands_for_type t c =
    let whole : plain_term c.args.term.now ≡ Application (plain_op c.in-App.op) (terms (plain_items c.in-App.args)) (plain_type c.in-App.ret_ty) = ap plain_term c.in-App.is ∙ plain_term-App c.in-App.op c.in-App.args c.in-App.ret_ty in
    let ms = meanings (nodes_of c.args.self.now) in
    let T : List PlainTerm → Type 0 = λ us. (c.are_applied.result ≡ true) ↔ (all_found ms (places_of c.in-Some.inner.now) ≡ Some (term_parts (Application (plain_op c.in-App.op) (terms us) (plain_type c.in-App.ret_ty)))) in
    first_right ms c.args.parts.now c.in-Some.inner.now c.in-Some.ty.now _ _ _ c.stands_for_type.result c.are_applied.result c.in-Some.ensures.cases.0 (parts_applied c.in-App.op (terms (plain_items c.in-App.args)) (plain_type c.in-App.ret_ty) _ whole) c.stands_for_type.ensures c.if-stands_for_type.true (subst T c.items.ensures.plain (c.are_applied.ensures (plain_type c.in-App.ret_ty)))

pub are_parts_of_term-returns-else-stands_for_type : goal.are_parts_of_term-returns-else-stands_for_type
are_parts_of_term-returns-else-stands_for_type t c =
    let whole : plain_term c.args.term.now ≡ Application (plain_op c.in-App.op) (terms (plain_items c.in-App.args)) (plain_type c.in-App.ret_ty) = ap plain_term c.in-App.is ∙ plain_term-App c.in-App.op c.in-App.args c.in-App.ret_ty in
    first_wrong (meanings (nodes_of c.args.self.now)) c.args.parts.now c.in-Some.inner.now c.in-Some.ty.now _ _ _ c.stands_for_type.result c.in-Some.ensures.cases.0 (parts_applied c.in-App.op (terms (plain_items c.in-App.args)) (plain_type c.in-App.ret_ty) _ whole) c.stands_for_type.ensures c.if-stands_for_type.false

pub are_applied-returns-then-stands_for_function : goal.are_applied-returns-then-stands_for_function
are_applied-returns-then-stands_for_function t c ty =
    let parts : term_parts (Application (plain_op c.args.op.now) (terms (map plain_term c.args.args.now)) ty) ≡ FunctionMeaning (plain_function c.deref.result.now) ∷ map TermMeaning (map plain_term c.args.args.now) =
    call_parts c.args.op.now c.in-Uuf.function (map plain_term c.args.args.now) ty c.in-Uuf.is ∙ ap (λ f. FunctionMeaning (plain_function f) ∷ map TermMeaning (map plain_term c.args.args.now)) (sym c.deref.ensures) in
    first_right (meanings (nodes_of c.args.self.now)) c.args.ids.now c.in-Some.inner.now c.in-Some.id.now _ _ _ c.stands_for_function.result c.stand_for_terms.result c.in-Some.ensures.cases.0 parts c.stands_for_function.ensures c.if-stands_for_function.true c.stand_for_terms.ensures

pub are_applied-returns-in_default : goal.are_applied-returns-in_default
are_applied-returns-in_default t c ty =
    at_parts (meanings (nodes_of c.args.self.now)) c.args.ids.now c.stand_for_terms-in_default.result _ _ (sym (app_parts c.args.op.now c.in_default.not-Uuf (map plain_term c.args.args.now) ty)) c.stand_for_terms-in_default.ensures

pub are_parts_of_term-returns-then-stands_for_option : goal.are_parts_of_term-returns-then-stands_for_option
are_parts_of_term-returns-then-stands_for_option t c =
    let ms = meanings (nodes_of c.args.self.now) in
    let whole : plain_term c.args.term.now ≡ NoneTerm (plain_type c.in-None.held) = ap plain_term c.in-None.is ∙ plain_term-None c.in-None.held in
    first_right ms c.args.parts.now c.in-Some.inner.now c.in-Some.ty.now _ [] _ c.stands_for_option.result c.is_empty.result c.in-Some.ensures.cases.0 (ap (λ u. parts_in (TermMeaning u)) whole) c.stands_for_option.ensures c.if-stands_for_option.true (none_left ms c.in-Some.inner.now [] c.is_empty.result c.is_empty.ensures refl)

pub are_parts_of_term-returns-else-stands_for_option : goal.are_parts_of_term-returns-else-stands_for_option
are_parts_of_term-returns-else-stands_for_option t c =
    let whole : plain_term c.args.term.now ≡ NoneTerm (plain_type c.in-None.held) = ap plain_term c.in-None.is ∙ plain_term-None c.in-None.held in
    first_wrong (meanings (nodes_of c.args.self.now)) c.args.parts.now c.in-Some.inner.now c.in-Some.ty.now _ [] _ c.stands_for_option.result c.in-Some.ensures.cases.0 (ap (λ u. parts_in (TermMeaning u)) whole) c.stands_for_option.ensures c.if-stands_for_option.false

pub are_parts_of_term-returns-then-is_type_of : goal.are_parts_of_term-returns-then-is_type_of
are_parts_of_term-returns-then-is_type_of t c =
    let ms = meanings (nodes_of c.args.self.now) in
    let whole : plain_term c.args.term.now ≡ LiteralTerm (plain_literal c.in-Prim.literal) = ap plain_term c.in-Prim.is ∙ plain_term-Prim c.in-Prim.literal in
    first_right ms c.args.parts.now c.in-Some.inner.now c.in-Some.ty.now _ [] _ c.is_type_of.result c.is_empty-then-is_type_of.result c.in-Some.ensures.cases.0 (ap (λ u. parts_in (TermMeaning u)) whole) (literal_typed (meaning_in c.args.self.now c.in-Some.ty.now) (plain_literal c.in-Prim.literal) c.is_type_of.result c.is_type_of.ensures) c.if-is_type_of.true (none_left ms c.in-Some.inner.now [] c.is_empty-then-is_type_of.result c.is_empty-then-is_type_of.ensures refl)

pub are_parts_of_term-returns-else-is_type_of : goal.are_parts_of_term-returns-else-is_type_of
are_parts_of_term-returns-else-is_type_of t c =
    let whole : plain_term c.args.term.now ≡ LiteralTerm (plain_literal c.in-Prim.literal) = ap plain_term c.in-Prim.is ∙ plain_term-Prim c.in-Prim.literal in
    first_wrong (meanings (nodes_of c.args.self.now)) c.args.parts.now c.in-Some.inner.now c.in-Some.ty.now _ [] _ c.is_type_of.result c.in-Some.ensures.cases.0 (ap (λ u. parts_in (TermMeaning u)) whole) (literal_typed (meaning_in c.args.self.now c.in-Some.ty.now) (plain_literal c.in-Prim.literal) c.is_type_of.result c.is_type_of.ensures) c.if-is_type_of.false

pub are_parts_of_term-returns-then-stands_for_set : goal.are_parts_of_term-returns-then-stands_for_set
are_parts_of_term-returns-then-stands_for_set t c =
    let ms = meanings (nodes_of c.args.self.now) in
    let whole : plain_term c.args.term.now ≡ SetTerm (plain_type c.in-Set.elts_ty) (terms (plain_elements c.in-Set.elts)) = ap plain_term c.in-Set.is ∙ plain_term-Set c.in-Set.elts_ty c.in-Set.elts in
    let parts : parts_in (TermMeaning (plain_term c.args.term.now)) ≡ TypeMeaning (SetType (plain_type c.in-Set.elts_ty)) ∷ map TermMeaning (plain_elements c.in-Set.elts) =
    ap (λ u. parts_in (TermMeaning u)) whole ∙ ap (λ us. TypeMeaning (SetType (plain_type c.in-Set.elts_ty)) ∷ map TermMeaning us) (round (plain_elements c.in-Set.elts)) in
    let T : List PlainTerm → Type 0 = λ us. (c.stand_for_terms.result ≡ true) ↔ (all_found ms (places_of c.in-Some.inner.now) ≡ Some (map TermMeaning us)) in
    first_right ms c.args.parts.now c.in-Some.inner.now c.in-Some.ty.now _ _ _ c.stands_for_set.result c.stand_for_terms.result c.in-Some.ensures.cases.0 parts c.stands_for_set.ensures c.if-stands_for_set.true (subst T c.items-then-stands_for_set.ensures.plain c.stand_for_terms.ensures)

pub are_parts_of_term-returns-else-stands_for_set : goal.are_parts_of_term-returns-else-stands_for_set
are_parts_of_term-returns-else-stands_for_set t c =
    let whole : plain_term c.args.term.now ≡ SetTerm (plain_type c.in-Set.elts_ty) (terms (plain_elements c.in-Set.elts)) = ap plain_term c.in-Set.is ∙ plain_term-Set c.in-Set.elts_ty c.in-Set.elts in
    first_wrong (meanings (nodes_of c.args.self.now)) c.args.parts.now c.in-Some.inner.now c.in-Some.ty.now _ _ _ c.stands_for_set.result c.in-Some.ensures.cases.0 (ap (λ u. parts_in (TermMeaning u)) whole) c.stands_for_set.ensures c.if-stands_for_set.false

pub are_parts_of_term-returns-then-stands_for_term : goal.are_parts_of_term-returns-then-stands_for_term
are_parts_of_term-returns-then-stands_for_term t c =
    let whole : plain_term c.args.term.now ≡ SomeTerm (plain_term c.deref.result.now) = ap plain_term c.in-Some-term.is ∙ (plain_term-Some c.in-Some-term.held ∙ ap (λ t. SomeTerm (plain_term t)) (sym c.deref.ensures)) in
    some_right (meanings (nodes_of c.args.self.now)) c.args.parts.now c.in-Some.inner.now c.in-Some.ty.now _ (plain_term c.deref.result.now) _ c.stands_for_term.result c.is_option_of.result c.in-Some.ensures.cases.0 (ap (λ u. parts_in (TermMeaning u)) whole) c.in-len1.len_at_least c.in-len1.len_below c.stands_for_term.ensures c.if-stands_for_term.true c.is_option_of.ensures

pub are_parts_of_term-returns-else-stands_for_term : goal.are_parts_of_term-returns-else-stands_for_term
are_parts_of_term-returns-else-stands_for_term t c =
    let whole : plain_term c.args.term.now ≡ SomeTerm (plain_term c.deref.result.now) = ap plain_term c.in-Some-term.is ∙ (plain_term-Some c.in-Some-term.held ∙ ap (λ t. SomeTerm (plain_term t)) (sym c.deref.ensures)) in
    some_wrong (meanings (nodes_of c.args.self.now)) c.args.parts.now c.in-Some.inner.now c.in-Some.ty.now _ (plain_term c.deref.result.now) _ c.stands_for_term.result c.in-Some.ensures.cases.0 (ap (λ u. parts_in (TermMeaning u)) whole) c.in-len1.len_at_least c.in-len1.len_below c.stands_for_term.ensures c.if-stands_for_term.false

pub are_parts_of_term-returns-in-empty : goal.are_parts_of_term-returns-in-empty
are_parts_of_term-returns-in-empty t c =
    let whole : plain_term c.args.term.now ≡ SomeTerm (plain_term c.in-Some-term.held.value) = ap plain_term c.in-Some-term.is ∙ plain_term-Some c.in-Some-term.held in
    some_count (meanings (nodes_of c.args.self.now)) c.args.parts.now c.in-Some.inner.now c.in-Some.ty.now _ _ _ c.in-Some.ensures.cases.0 (ap (λ u. parts_in (TermMeaning u)) whole) (λ h. (let l = c.in-empty.len_below in absurd (omega arith)))

pub are_parts_of_term-returns-in-len2-up : goal.are_parts_of_term-returns-in-len2-up
are_parts_of_term-returns-in-len2-up t c =
    let whole : plain_term c.args.term.now ≡ SomeTerm (plain_term c.in-Some-term.held.value) = ap plain_term c.in-Some-term.is ∙ plain_term-Some c.in-Some-term.held in
    some_count (meanings (nodes_of c.args.self.now)) c.args.parts.now c.in-Some.inner.now c.in-Some.ty.now _ _ _ c.in-Some.ensures.cases.0 (ap (λ u. parts_in (TermMeaning u)) whole) (λ h. (let l = c.in-len2-up.len_at_least in absurd (omega arith)))

pub are_parts_of_term-returns-then-stands_for_type-2 : goal.are_parts_of_term-returns-then-stands_for_type-2
are_parts_of_term-returns-then-stands_for_type-2 t c =
    let ms = meanings (nodes_of c.args.self.now) in
    let whole : plain_term c.args.term.now ≡ VariableTerm (rc_str_bytes c.in-Var.variable.id) (plain_type c.in-Var.variable.ty) = ap plain_term c.in-Var.is ∙ plain_term-Var c.in-Var.variable in
    first_right ms c.args.parts.now c.in-Some.inner.now c.in-Some.ty.now _ [] _ c.stands_for_type-in-Var.result c.is_empty-then-stands_for_type-2.result c.in-Some.ensures.cases.0 (ap (λ u. parts_in (TermMeaning u)) whole) c.stands_for_type-in-Var.ensures c.if-stands_for_type-2.true (none_left ms c.in-Some.inner.now [] c.is_empty-then-stands_for_type-2.result c.is_empty-then-stands_for_type-2.ensures refl)

pub are_parts_of_term-returns-else-stands_for_type-2 : goal.are_parts_of_term-returns-else-stands_for_type-2
are_parts_of_term-returns-else-stands_for_type-2 t c =
    let whole : plain_term c.args.term.now ≡ VariableTerm (rc_str_bytes c.in-Var.variable.id) (plain_type c.in-Var.variable.ty) = ap plain_term c.in-Var.is ∙ plain_term-Var c.in-Var.variable in
    first_wrong (meanings (nodes_of c.args.self.now)) c.args.parts.now c.in-Some.inner.now c.in-Some.ty.now _ [] _ c.stands_for_type-in-Var.result c.in-Some.ensures.cases.0 (ap (λ u. parts_in (TermMeaning u)) whole) c.stands_for_type-in-Var.ensures c.if-stands_for_type-2.false

pub stand_for_terms-returns-then-ids-terms : goal.stand_for_terms-returns-then-ids-terms
stand_for_terms-returns-then-ids-terms t c =
    other_count (meanings (nodes_of c.args.self.now)) c.args.ids.now _ (λ h. c.if-ids-terms.true (h ∙ (length-map (map plain_term c.args.terms.now) TermMeaning ∙ length-map c.args.terms.now plain_term)))

pub stand_for_terms-loop-id-init : goal.stand_for_terms-loop-id-init
stand_for_terms-loop-id-init t c = search rules

pub stand_for_terms-returns-then-not-stands_for_term : goal.stand_for_terms-returns-then-not-stands_for_term
stand_for_terms-returns-then-not-stands_for_term t c =
    next_wrong terms_listed (meanings (nodes_of c.args.self.now)) _ _ c.in-Some.id.now _ _ c.in-Some.term.now _ c.stands_for_term.result c.in-Some.ensures.steps.0 c.in-Some.ensures.steps.1 c.stands_for_term.ensures c.if-not-stands_for_term.true c.loop-id.invariant.1

pub stand_for_terms-loop-id-preserved : goal.stand_for_terms-loop-id-preserved
stand_for_terms-loop-id-preserved t c =
    let ids : length (iter_rest (zip_first c.loop-id.id-iterator)) ≡ length (c.in-Some.id.now ∷ iter_rest (zip_first c.next.new.self)) = ap length c.in-Some.ensures.steps.0 in
    let terms : length (iter_rest (zip_second c.loop-id.id-iterator)) ≡ length (c.in-Some.term.now ∷ iter_rest (zip_second c.next.new.self)) = ap length c.in-Some.ensures.steps.1 in
    let same = c.loop-id.invariant.0 in (
      omega arith,
      next_right terms_listed (meanings (nodes_of c.args.self.now)) _ _ c.in-Some.id.now _ _ c.in-Some.term.now _ c.stands_for_term.result c.in-Some.ensures.steps.0 c.in-Some.ensures.steps.1 c.stands_for_term.ensures c.if-not-stands_for_term.false c.loop-id.invariant.1,
    )

pub stand_for_terms-returns : goal.stand_for_terms-returns
stand_for_terms-returns t c =
    let spent = empty_from_Zip _ c.next.new.self _ c.in-None.is c.next.ensures.steps (c.loop-id.invariant.0) in
    all_right terms_listed (meanings (nodes_of c.args.self.now)) _ _ _ spent.0 spent.1 c.loop-id.invariant.1

pub stands_for_term-returns-then-is_of_term : goal.stands_for_term-returns-then-is_of_term
stands_for_term-returns-then-is_of_term t c =
    let s = c.args.self.now in
    decided_by_parts (nodes_of s) s.graph (place_of c.args.id) (plain_label c.in-Some.label.now) c.parts.result.now (TermMeaning (plain_term c.args.term.now)) c.are_parts_of_term.result c.in-Some.ensures (c.is_of_term.ensures.0 c.if-is_of_term.true) c.parts.ensures.found c.are_parts_of_term.ensures

pub are_parts_of_term-returns-then-stand_for_fields : goal.are_parts_of_term-returns-then-stand_for_fields
are_parts_of_term-returns-then-stand_for_fields t c =
    let whole : plain_term c.args.term.now ≡ RecordTerm (record_fields (plain_fields c.in-Record.fields)) = ap plain_term c.in-Record.is ∙ plain_term-Record c.in-Record.fields in
    first_behind (meanings (nodes_of c.args.self.now)) c.args.parts.now c.in-Some.inner.now c.in-Some.ty.now _ _ _ c.stand_for_fields.result c.is_type_of_record.result c.in-Some.ensures.cases.0 (ap (λ u. parts_in (TermMeaning u)) whole) c.stand_for_fields.ensures c.if-stand_for_fields.true (c.is_type_of_record.ensures (c.stand_for_fields.ensures.0 c.if-stand_for_fields.true))

pub are_parts_of_term-returns-else-stand_for_fields : goal.are_parts_of_term-returns-else-stand_for_fields
are_parts_of_term-returns-else-stand_for_fields t c =
    let whole : plain_term c.args.term.now ≡ RecordTerm (record_fields (plain_fields c.in-Record.fields)) = ap plain_term c.in-Record.is ∙ plain_term-Record c.in-Record.fields in
    others_wrong (meanings (nodes_of c.args.self.now)) c.args.parts.now c.in-Some.inner.now c.in-Some.ty.now _ _ _ c.stand_for_fields.result c.in-Some.ensures.cases.0 (ap (λ u. parts_in (TermMeaning u)) whole) c.stand_for_fields.ensures c.if-stand_for_fields.false

pub stand_for_fields-returns-then-ids-fields : goal.stand_for_fields-returns-then-ids-fields
stand_for_fields-returns-then-ids-fields t c =
    other_count (meanings (nodes_of c.args.self.now)) c.args.ids.now _
    (λ h. c.if-ids-fields.true (h ∙ (ap (λ ps. length (field_terms (record_fields ps))) (sym c.items-fields.ensures.plain) ∙ listed-length fields_listed c.items-fields.result.now)))

pub stand_for_fields-loop-id-init : goal.stand_for_fields-loop-id-init
stand_for_fields-loop-id-init t c =
    let it = c.into_iter-id-iterator.result in
    let ms = meanings (nodes_of c.args.self.now) in
    let same : (length (iter_rest (zip_first it)) ≡ length (iter_rest (zip_second it))) × ((all_found ms (places_of (iter_rest (zip_first it))) ≡ Some (fields_meant (iter_rest (zip_second it)))) ↔ (all_found ms (places_of c.args.ids.now) ≡ Some (fields_meant c.items-fields.result.now))) = search rules in
    let e = ap (λ ps. Some (field_terms (record_fields ps))) c.items-fields.ensures.plain in
    (same.0, (λ h. same.1.0 h ∙ e, λ h. same.1.1 (h ∙ sym e)))

pub stand_for_fields-returns-then-not-stands_for_term : goal.stand_for_fields-returns-then-not-stands_for_term
stand_for_fields-returns-then-not-stands_for_term t c =
    next_wrong fields_listed (meanings (nodes_of c.args.self.now)) _ _ c.in-Some.id.now _ _ _ _ c.stands_for_term.result c.in-Some.ensures.steps.0 c.in-Some.ensures.steps.1 c.stands_for_term.ensures c.if-not-stands_for_term.true c.loop-id.invariant.1

pub stand_for_fields-loop-id-preserved : goal.stand_for_fields-loop-id-preserved
stand_for_fields-loop-id-preserved t c =
    let ids = ap length c.in-Some.ensures.steps.0 in
    let fields = ap length c.in-Some.ensures.steps.1 in
    let same = c.loop-id.invariant.0 in (
      omega arith,
      next_right fields_listed (meanings (nodes_of c.args.self.now)) _ _ c.in-Some.id.now _ _ _ _ c.stands_for_term.result c.in-Some.ensures.steps.0 c.in-Some.ensures.steps.1 c.stands_for_term.ensures c.if-not-stands_for_term.false c.loop-id.invariant.1,
    )

pub stand_for_fields-returns : goal.stand_for_fields-returns
stand_for_fields-returns t c =
    let spent = empty_from_Zip _ c.next.new.self _ c.in-None.is c.next.ensures.steps (c.loop-id.invariant.0) in
    all_right fields_listed (meanings (nodes_of c.args.self.now)) _ _ _ spent.0 spent.1 c.loop-id.invariant.1
