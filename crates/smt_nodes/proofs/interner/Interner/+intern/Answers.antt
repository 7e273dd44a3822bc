use Rattle.std.proofs.Common.{◌≡◌, ◌∷◌, ◌++◌, [], Some, map, sym, ap, ◌∙◌, arith}
use Rattle.std.proofs.lemmas.List.{take_all}
use Rattle.law_texts.specs.SharedTexts.{texts}
use Rattle.law_terms.specs.Parts.{field_names, field_terms}
use Rattle.smt_term.specs.Pairs.{attributes_in}
use Rattle.smt_nodes.specs.Attributes.{attributes_of}
use Rattle.std.proofs.lemmas.Result.{IfOk-weaker}
use Rattle.std.specs.Rc.{rc_str_bytes}
use Rattle.law_terms.specs.Plain.{OptionType, RecordType, SetType, PlainTerm, Application, NoneTerm, LiteralTerm, RecordTerm, SetTerm, SomeTerm, UufOp, VariableTerm, terms, record_fields}
use Rattle.law_terms.specs.Types.{field_types, literal_type, type_of}
use Rattle.law_terms.specs.Meanings.{all_found, meanings, stands_for}
use Rattle.law_terms.specs.Nodes.{ApplicationLabel, LiteralLabel, NoneLabel, RecordOfLabel, SetOfLabel, SomeLabel, VariableLabel, FunctionMeaning, TermMeaning, TypeMeaning}
use Rattle.smt_term.specs.View.{fields_of, plain_fields, plain_function, plain_literal, plain_op, plain_term, plain_type, plain_term-App, plain_term-None, plain_term-Prim, plain_term-Record, plain_term-Set, plain_term-Some, plain_term-Var}
use Rattle.smt_nodes.proofs.Interning.{app_means, both_ok, call_means, literal_means, none_means, one_found, pushed, all_kept, record_means, set_means, some_means, two_found, variable_means}
use Rattle.smt_nodes.proofs.MapNames.{term_names}
use Rattle.smt_nodes.proofs.RecordParts.{fields_ascend, fields_listed, fields_meant, terms_listed}
use Rattle.smt_nodes.specs.Interned.{nodes_of, IsMeant}
use Rattle.smt_nodes.specs.View.{places_of}
use Rattle.smt_nodes.proofs.interner.Interner.+intern.Goals as goal

pub intern-returns-in-App-clause-meaning : goal.intern-returns-in-App-clause-meaning
intern-returns-in-App-clause-meaning t c =
    let args = map plain_term c.items.result.now in
    let whole : plain_term c.args.term.now ≡ Application (plain_op c.in-App.op) (terms args) (plain_type c.in-App.ret_ty) =
    ap plain_term c.in-App.is ∙ (plain_term-App c.in-App.op c.in-App.args c.in-App.ret_ty ∙ ap (λ ts. Application (plain_op c.in-App.op) (terms ts) (plain_type c.in-App.ret_ty)) (sym c.items.ensures.plain)) in
    let type : type_of (plain_term c.args.term.now) ≡ plain_type c.in-App.ret_ty = ap type_of whole in
    IfOk-weaker c.intern_application.result _ _ (λ id h. h ∙ ap (λ u. Some (TermMeaning u)) (ap (Application (plain_op c.in-App.op) (terms args)) type ∙ sym whole))
    (c.intern_application.ensures.meaning (type_of (plain_term c.args.term.now)) c.in_ok-ty.ensures.meaning)

pub intern-returns-in-None-clause-meaning : goal.intern-returns-in-None-clause-meaning
intern-returns-in-None-clause-meaning t c =
    let whole : plain_term c.args.term.now ≡ NoneTerm (plain_type c.in-None.field-0) = ap plain_term c.in-None.is ∙ plain_term-None c.in-None.field-0 in
    let type : type_of (plain_term c.args.term.now) ≡ OptionType (plain_type c.in-None.field-0) = ap type_of whole in
    IfOk-weaker c.enter.result _ _ (λ id h. h ∙ (ap (λ t. stands_for NoneLabel (TypeMeaning t ∷ [])) type ∙ (none_means (plain_type c.in-None.field-0) ∙ ap (λ u. Some (TermMeaning u)) (sym whole))))
    (c.enter.ensures.meaning (TypeMeaning (type_of (plain_term c.args.term.now)) ∷ []) (one_found (nodes_of c.intern_type_of.new.self) c.in_ok-ty.ty _ c.in_ok-ty.ensures.meaning))

pub intern-returns-in_ok-share-in-Prim-clause-meaning : goal.intern-returns-in_ok-share-in-Prim-clause-meaning
intern-returns-in_ok-share-in-Prim-clause-meaning t c =
    let whole : plain_term c.args.term.now ≡ LiteralTerm (plain_literal c.in-Prim.literal) = ap plain_term c.in-Prim.is ∙ plain_term-Prim c.in-Prim.literal in
    let type : type_of (plain_term c.args.term.now) ≡ literal_type (plain_literal c.in-Prim.literal) = ap type_of whole in
    IfOk-weaker c.enter-in-Prim.result _ _ (λ id h. h ∙ (ap (λ l. stands_for (LiteralLabel l) (TypeMeaning (type_of (plain_term c.args.term.now)) ∷ [])) c.in_ok-share-in-Prim.ensures ∙ (ap (λ t. stands_for (LiteralLabel (plain_literal c.in-Prim.literal)) (TypeMeaning t ∷ [])) type ∙ (literal_means (plain_literal c.in-Prim.literal) ∙ ap (λ u. Some (TermMeaning u)) (sym whole)))))
    (c.enter-in-Prim.ensures.meaning (TypeMeaning (type_of (plain_term c.args.term.now)) ∷ []) (one_found (nodes_of c.intern_type_of.new.self) c.in_ok-ty.ty _ c.in_ok-ty.ensures.meaning))

pub intern-returns-in_ok-parts-in-Set-clause-meaning : goal.intern-returns-in_ok-parts-in-Set-clause-meaning
intern-returns-in_ok-parts-in-Set-clause-meaning t c =
    let items = map plain_term c.items-in-Set.result.now in
    let whole : plain_term c.args.term.now ≡ SetTerm (plain_type c.in-Set.elts_ty) (terms items) =
    ap plain_term c.in-Set.is ∙ (plain_term-Set c.in-Set.elts_ty c.in-Set.elts ∙ ap (λ ts. SetTerm (plain_type c.in-Set.elts_ty) (terms ts)) (sym c.items-in-Set.ensures.plain)) in
    let type : type_of (plain_term c.args.term.now) ≡ SetType (plain_type c.in-Set.elts_ty) = ap type_of whole in
    both_ok _ (IsMeant c.enter-in-Set.new.self) _ c.enter-in-Set.result
    (λ id h (m, e). (let made : stands_for SetOfLabel (TypeMeaning (SetType (plain_type c.in-Set.elts_ty)) ∷ map TermMeaning items) ≡ Some m = ap (λ t. stands_for SetOfLabel (TypeMeaning t ∷ map TermMeaning items)) (sym type) ∙ (sym h ∙ e) in
    e ∙ (sym (set_means (plain_type c.in-Set.elts_ty) items m made) ∙ ap (λ u. Some (TermMeaning u)) (sym whole))))
    (c.enter-in-Set.ensures.meaning (TypeMeaning (type_of (plain_term c.args.term.now)) ∷ map TermMeaning items) (ap (λ l. all_found (meanings (nodes_of c.intern_all.new.self)) (places_of l)) c.as_slice-in-Set.ensures.value ∙ c.in_ok-parts-in-Set.ensures.meanings (TypeMeaning (type_of (plain_term c.args.term.now)) ∷ []) (one_found (nodes_of c.intern_type_of.new.self) c.in_ok-ty.ty _ c.in_ok-ty.ensures.meaning)))
    c.enter-in-Set.ensures.meant

pub intern-returns-in_ok-part-in-Some-clause-meaning : goal.intern-returns-in_ok-part-in-Some-clause-meaning
intern-returns-in_ok-part-in-Some-clause-meaning t c =
    let inner : PlainTerm = plain_term c.deref.result.now in
    let whole : plain_term c.args.term.now ≡ SomeTerm inner = ap plain_term c.in-Some.is ∙ (plain_term-Some c.in-Some.inner ∙ ap (λ t. SomeTerm (plain_term t)) (sym c.deref.ensures)) in
    let type : type_of (plain_term c.args.term.now) ≡ OptionType (type_of inner) = ap type_of whole in
    IfOk-weaker c.enter-in-Some.result _ _ (λ id h. h ∙ (ap (λ t. stands_for SomeLabel (TypeMeaning t ∷ TermMeaning inner ∷ [])) type ∙ (some_means inner ∙ ap (λ u. Some (TermMeaning u)) (sym whole))))
    (c.enter-in-Some.ensures.meaning (TypeMeaning (type_of (plain_term c.args.term.now)) ∷ TermMeaning inner ∷ []) (two_found (nodes_of c.intern.new.self) c.in_ok-ty.ty c.in_ok-part-in-Some.part _ _ (c.intern.ensures.kept c.in_ok-ty.ty _ c.in_ok-ty.ensures.meaning) c.in_ok-part-in-Some.ensures.meaning))

pub intern-returns-in_ok-clone-in-Var-clause-meaning : goal.intern-returns-in_ok-clone-in-Var-clause-meaning
intern-returns-in_ok-clone-in-Var-clause-meaning t c =
    let whole : plain_term c.args.term.now ≡ VariableTerm (rc_str_bytes c.in-Var.variable.id) (plain_type c.in-Var.variable.ty) = ap plain_term c.in-Var.is ∙ plain_term-Var c.in-Var.variable in
    let type : type_of (plain_term c.args.term.now) ≡ plain_type c.in-Var.variable.ty = ap type_of whole in
    let id_is : rc_str_bytes c.in_ok-clone-in-Var.field-0 ≡ rc_str_bytes c.in-Var.variable.id = c.in_ok-clone-in-Var.ensures.cases in
    IfOk-weaker c.enter-in-Var.result _ _ (λ id h. h ∙ (ap (λ s. stands_for (VariableLabel s) (TypeMeaning (type_of (plain_term c.args.term.now)) ∷ [])) id_is ∙ (variable_means (rc_str_bytes c.in-Var.variable.id) (type_of (plain_term c.args.term.now)) ∙ ap (λ u. Some (TermMeaning u)) (ap (VariableTerm (rc_str_bytes c.in-Var.variable.id)) type ∙ sym whole))))
    (c.enter-in-Var.ensures.meaning (TypeMeaning (type_of (plain_term c.args.term.now)) ∷ []) (one_found (nodes_of c.intern_type_of.new.self) c.in_ok-ty.ty _ c.in_ok-ty.ensures.meaning))

pub intern_application-returns-in_ok-parts-in-Uuf-clause-meaning : goal.intern_application-returns-in_ok-parts-in-Uuf-clause-meaning
intern_application-returns-in_ok-parts-in-Uuf-clause-meaning t c ty h =
    let args = map plain_term c.args.args.now in
    let f = plain_function c.deref.result.now in
    let op : plain_op c.args.op.now ≡ UufOp f = ap plain_op c.in-Uuf.is ∙ ap (λ f. UufOp (plain_function f)) (sym c.deref.ensures) in
    let ms = TypeMeaning ty ∷ FunctionMeaning f ∷ [] in
    let first = two_found (nodes_of c.intern_function.new.self) c.args.ty c.in_ok-function-in-Uuf.function (TypeMeaning ty) (FunctionMeaning f) (c.intern_function.ensures.kept c.args.ty (TypeMeaning ty) h) c.in_ok-function-in-Uuf.ensures.meaning in
    IfOk-weaker c.enter.result _ _ (λ id e. e ∙ (call_means f ty args ∙ ap (λ o. Some (TermMeaning (Application o (terms args) ty))) (sym op)))
    (c.enter.ensures.meaning (TypeMeaning ty ∷ FunctionMeaning f ∷ map TermMeaning args) (ap (λ l. all_found (meanings (nodes_of c.intern_all.new.self)) (places_of l)) c.as_slice.ensures.value ∙ c.in_ok-parts-in-Uuf.ensures.meanings ms first))

pub intern_application-returns-in_ok-share-in_default-clause-meaning : goal.intern_application-returns-in_ok-share-in_default-clause-meaning
intern_application-returns-in_ok-share-in_default-clause-meaning t c ty h =
    let args = map plain_term c.args.args.now in
    IfOk-weaker c.enter-in_default.result _ _ (λ id e. e ∙ (ap (λ o. stands_for (ApplicationLabel o) (TypeMeaning ty ∷ map TermMeaning args)) c.in_ok-share-in_default.ensures ∙ app_means c.args.op.now c.in_default.not-Uuf ty args))
    (c.enter-in_default.ensures.meaning (TypeMeaning ty ∷ map TermMeaning args) (ap (λ l. all_found (meanings (nodes_of c.intern_all-in_default.new.self)) (places_of l)) c.as_slice-in_default.ensures.value ∙ c.in_ok-parts-in_default.ensures.meanings (TypeMeaning ty ∷ []) (one_found (nodes_of c.args.self.now) c.args.ty (TypeMeaning ty) h)))

pub intern_all-loop-term-preserved : goal.intern_all-loop-term-preserved
intern_all-loop-term-preserved t c = (
  λ ms h. pushed terms_listed (nodes_of c.intern.new.self) c.loop-term.parts.items c.push.new.self.items c.in_ok-part.part ms c.args.terms.now c.loop-term.term-index c.term-item.result c.in_ok-push.ensures.items (all_kept (nodes_of c.loop-term.self) (nodes_of c.intern.new.self) c.intern.ensures.kept c.loop-term.parts.items _ (c.loop-term.invariant.0 ms h)) c.in_ok-part.ensures.meaning c.loop-term-test.true c.term-item.is,
  λ id m h. c.intern.ensures.kept id m (c.loop-term.invariant.1 id m h),
)

pub intern_fields-loop-term-init : goal.intern_fields-loop-term-init
intern_fields-loop-term-init t c = (
  λ m h. ap (λ l. all_found (meanings (nodes_of c.args.self.now)) (places_of l)) (c.in_ok-push.ensures.items ∙ ap (λ l. l ++ c.args.ty ∷ []) c.new-parts.ensures.items) ∙ one_found (nodes_of c.args.self.now) c.args.ty m h,
  λ id m h. h,
)

pub intern_fields-loop-term-preserved : goal.intern_fields-loop-term-preserved
intern_fields-loop-term-preserved t c = (
  λ m h. pushed fields_listed (nodes_of c.intern.new.self) c.loop-term.parts.items c.push-in-loop-term.new.self.items c.in_ok-part.part (m ∷ []) c.items-fields.result.now c.loop-term.term-index c.loop-term-item.result c.in_ok-push-2.ensures.items (all_kept (nodes_of c.loop-term.self) (nodes_of c.intern.new.self) c.intern.ensures.kept c.loop-term.parts.items _ (c.loop-term.invariant.0 m h)) c.in_ok-part.ensures.meaning c.loop-term-test.true c.loop-term-item.is,
  λ id m h. c.intern.ensures.kept id m (c.loop-term.invariant.1 id m h),
)

pub intern_fields-returns-clause-meanings : goal.intern_fields-returns-clause-meanings
intern_fields-returns-clause-meanings t c m h =
    c.loop-term.invariant.0 m h ∙ (ap (λ l. Some (m ∷ fields_meant l)) (take_all c.loop-term.term-index c.items-fields.result.now (omega (arith, c.loop-term-test.false))) ∙ ap (λ ps. Some (m ∷ field_terms (record_fields ps))) c.items-fields.ensures.plain)

pub intern-returns-in_ok-parts-in-Record-clause-meaning : goal.intern-returns-in_ok-parts-in-Record-clause-meaning
intern-returns-in_ok-parts-in-Record-clause-meaning t c =
    let fields = c.in-Record.fields in
    let x = record_fields (plain_fields fields) in
    let whole : plain_term c.args.term.now ≡ RecordTerm x = ap plain_term c.in-Record.is ∙ plain_term-Record fields in
    let type : type_of (plain_term c.args.term.now) ≡ RecordType (field_types x) = ap type_of whole in
    let names : texts (attributes_of c.in_ok-names-in-Record.names) ≡ field_names x = c.in_ok-names-in-Record.ensures ∙ (ap attributes_in c.items-in-Record.ensures.same ∙ term_names (fields_of fields)) in
    IfOk-weaker c.enter-in-Record.result _ _ (λ id h. h ∙ (ap (λ t. stands_for (RecordOfLabel (texts (attributes_of c.in_ok-names-in-Record.names))) (TypeMeaning t ∷ field_terms x)) type ∙ (ap (λ l. stands_for (RecordOfLabel l) (TypeMeaning (RecordType (field_types x)) ∷ field_terms x)) names ∙ (record_means x (fields_ascend fields) ∙ ap (λ u. Some (TermMeaning u)) (sym whole)))))
    (c.enter-in-Record.ensures.meaning (TypeMeaning (type_of (plain_term c.args.term.now)) ∷ field_terms x) (ap (λ l. all_found (meanings (nodes_of c.intern_fields.new.self)) (places_of l)) c.as_slice.ensures.value ∙ c.in_ok-parts-in-Record.ensures.meanings (TypeMeaning (type_of (plain_term c.args.term.now))) c.in_ok-ty.ensures.meaning))

pub intern-returns-in_ok-parts-in-Record-clause-kept : goal.intern-returns-in_ok-parts-in-Record-clause-kept
intern-returns-in_ok-parts-in-Record-clause-kept t c id m h = c.enter-in-Record.ensures.kept id m (c.intern_fields.ensures.kept id m (c.intern_type_of.ensures.kept id m h))
