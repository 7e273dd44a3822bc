use Rattle.std.proofs.Common.{◌≡◌, ◌∷◌, [], Some, refl, sym, ap, ◌∙◌, arith}
use Rattle.std.proofs.lemmas.List.{take_all}
use Rattle.law_texts.specs.SharedTexts.{texts}
use Rattle.law_terms.specs.Meanings.{all_found, meanings, stands_for}
use Rattle.law_terms.specs.Parts.{types_in, attribute_names}
use Rattle.smt_term.specs.Pairs.{attributes_in}
use Rattle.smt_nodes.proofs.MapNames.{type_names}
use Rattle.smt_nodes.proofs.RecordParts.{types_ascend, types_listing, types_meant}
use Rattle.smt_nodes.specs.Attributes.{attributes_of}
use Rattle.smt_nodes.specs.View.{places_of}
use Rattle.std.proofs.lemmas.Result.{IfOk-weaker}
use Rattle.law_terms.specs.Plain.{EntityType, OptionType, RecordType, SetType, attribute_types}
use Rattle.law_terms.specs.Nodes.{RecordLabel, TypeMeaning}
use Rattle.smt_term.specs.Entities.{bytes_of_type}
use Rattle.smt_term.specs.View.{attributes_held, plain_attributes, plain_type, plain_type-Record, plain_type-Option, plain_type-Bitvec, plain_type-Bool, plain_type-Entity, plain_type-Ext, plain_type-String, plain_type-Set}
use Rattle.smt_nodes.proofs.Interning.{all_kept, one_found, pushed, record_type_means}
use Rattle.smt_nodes.specs.Interned.{nodes_of}
use Rattle.smt_nodes.proofs.interner.Interner.+intern_types.Goals as goal

pub intern_type-returns-in_ok-inner-in-Option-clause-meaning : goal.intern_type-returns-in_ok-inner-in-Option-clause-meaning
intern_type-returns-in_ok-inner-in-Option-clause-meaning t c =
    let same : plain_type c.args.ty.now ≡ OptionType (plain_type c.deref.result.now) = ap plain_type c.in-Option.is ∙ (plain_type-Option c.in-Option.ty ∙ ap (λ t. OptionType (plain_type t)) (sym c.deref.ensures)) in
    IfOk-weaker c.enter.result _ _ (λ id h. h ∙ ap (λ t. Some (TypeMeaning t)) (sym same)) (c.enter.ensures.meaning (TypeMeaning (plain_type c.deref.result.now) ∷ []) (one_found (nodes_of c.intern_type.new.self) c.in_ok-inner-in-Option.inner _ c.in_ok-inner-in-Option.ensures.meaning))

pub intern_type-returns-in-Bitvec-clause-meaning : goal.intern_type-returns-in-Bitvec-clause-meaning
intern_type-returns-in-Bitvec-clause-meaning t c =
    IfOk-weaker c.enter-in-Bitvec.result _ _ (λ id h. h ∙ ap (λ t. Some (TypeMeaning t)) (sym (ap plain_type c.in-Bitvec.is ∙ plain_type-Bitvec c.in-Bitvec.n))) (c.enter-in-Bitvec.ensures.meaning [] refl)

pub intern_type-returns-in-Bool-clause-meaning : goal.intern_type-returns-in-Bool-clause-meaning
intern_type-returns-in-Bool-clause-meaning t c =
    IfOk-weaker c.intern_bool_type.result _ _ (λ id h. h ∙ ap (λ t. Some (TypeMeaning t)) (sym (ap plain_type c.in-Bool.is ∙ plain_type-Bool))) c.intern_bool_type.ensures.meaning

pub intern_type-returns-in_ok-share-in-Entity-clause-meaning : goal.intern_type-returns-in_ok-share-in-Entity-clause-meaning
intern_type-returns-in_ok-share-in-Entity-clause-meaning t c =
    let name : bytes_of_type c.in_ok-share-in-Entity.field-0 ≡ bytes_of_type c.in-Entity.ety = c.in_ok-share-in-Entity.ensures in
    let same : EntityType (bytes_of_type c.in_ok-share-in-Entity.field-0) ≡ plain_type c.args.ty.now = ap EntityType name ∙ sym (ap plain_type c.in-Entity.is ∙ plain_type-Entity c.in-Entity.ety) in
    IfOk-weaker c.enter-in-Entity.result _ _ (λ id h. h ∙ ap (λ t. Some (TypeMeaning t)) same) (c.enter-in-Entity.ensures.meaning [] refl)

pub intern_type-returns-in-Ext-clause-meaning : goal.intern_type-returns-in-Ext-clause-meaning
intern_type-returns-in-Ext-clause-meaning t c =
    IfOk-weaker c.enter-in-Ext.result _ _ (λ id h. h ∙ ap (λ t. Some (TypeMeaning t)) (sym (ap plain_type c.in-Ext.is ∙ plain_type-Ext c.in-Ext.xty))) (c.enter-in-Ext.ensures.meaning [] refl)

pub intern_type-returns-in-String-clause-meaning : goal.intern_type-returns-in-String-clause-meaning
intern_type-returns-in-String-clause-meaning t c =
    IfOk-weaker c.enter-in-String.result _ _ (λ id h. h ∙ ap (λ t. Some (TypeMeaning t)) (sym (ap plain_type c.in-String.is ∙ plain_type-String))) (c.enter-in-String.ensures.meaning [] refl)

pub intern_type-returns-in_ok-inner-in-Set-clause-meaning : goal.intern_type-returns-in_ok-inner-in-Set-clause-meaning
intern_type-returns-in_ok-inner-in-Set-clause-meaning t c =
    let same : plain_type c.args.ty.now ≡ SetType (plain_type c.deref-in-Set.result.now) = ap plain_type c.in-Set.is ∙ (plain_type-Set c.in-Set.ty ∙ ap (λ t. SetType (plain_type t)) (sym c.deref-in-Set.ensures)) in
    IfOk-weaker c.enter-in-Set.result _ _ (λ id h. h ∙ ap (λ t. Some (TypeMeaning t)) (sym same)) (c.enter-in-Set.ensures.meaning (TypeMeaning (plain_type c.deref-in-Set.result.now) ∷ []) (one_found (nodes_of c.intern_type-in-Set.new.self) c.in_ok-inner-in-Set.inner _ c.in_ok-inner-in-Set.ensures.meaning))

pub intern_types-loop-ty-preserved : goal.intern_types-loop-ty-preserved
intern_types-loop-ty-preserved t c = (
  pushed types_listing (nodes_of c.intern_type.new.self) c.loop-ty.parts.items c.push.new.self.items c.in_ok-part.part [] c.items-attributes.result.now c.loop-ty.ty-index c.loop-ty-item.result c.in_ok-push.ensures.items (all_kept (nodes_of c.loop-ty.self) (nodes_of c.intern_type.new.self) c.intern_type.ensures.kept c.loop-ty.parts.items _ c.loop-ty.invariant.0) c.in_ok-part.ensures.meaning c.loop-ty-test.true c.loop-ty-item.is,
  λ id m h. c.intern_type.ensures.kept id m (c.loop-ty.invariant.1 id m h),
)

pub intern_types-returns-clause-meanings : goal.intern_types-returns-clause-meanings
intern_types-returns-clause-meanings t c =
    c.loop-ty.invariant.0 ∙ (ap (λ l. Some (types_meant l)) (take_all c.loop-ty.ty-index c.items-attributes.result.now (omega (arith, c.loop-ty-test.false))) ∙ ap (λ ps. Some (types_in (attribute_types ps))) c.items-attributes.ensures.plain)

pub intern_type-returns-in_ok-parts-in-Record-clause-meaning : goal.intern_type-returns-in_ok-parts-in-Record-clause-meaning
intern_type-returns-in_ok-parts-in-Record-clause-meaning t c =
    let m = c.in-Record.rty in
    let x = attribute_types (plain_attributes m) in
    let same : plain_type c.args.ty.now ≡ RecordType x = ap plain_type c.in-Record.is ∙ plain_type-Record m in
    let names : texts (attributes_of c.in_ok-names-in-Record.names) ≡ attribute_names x = c.in_ok-names-in-Record.ensures ∙ (ap attributes_in c.items.ensures.same ∙ type_names (attributes_held m)) in
    IfOk-weaker c.enter-in-Record.result _ _ (λ id h. h ∙ (ap (λ l. stands_for (RecordLabel l) (types_in x)) names ∙ (record_type_means x (types_ascend m) ∙ ap (λ t. Some (TypeMeaning t)) (sym same))))
    (c.enter-in-Record.ensures.meaning (types_in x) (ap (λ l. all_found (meanings (nodes_of c.intern_types.new.self)) (places_of l)) c.as_slice.ensures.value ∙ c.in_ok-parts-in-Record.ensures.meanings))
