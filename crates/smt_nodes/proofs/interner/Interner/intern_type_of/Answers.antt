use Rattle.std.proofs.Common.{◌≡◌, ◌∷◌, [], Some, sym, ap, ◌∙◌}
use Rattle.std.proofs.lemmas.Result.{IfOk-weaker}
use Rattle.law_terms.specs.Nodes.{TypeMeaning}
use Rattle.law_terms.specs.Plain.{OptionType, SetType}
use Rattle.law_terms.specs.Types.{literal_type, type_of}
use Rattle.smt_term.specs.View.{plain_literal, plain_term, plain_type, plain_term-App, plain_term-None, plain_term-Prim, plain_term-Set, plain_term-Var}
use Rattle.smt_nodes.proofs.Interning.{one_found}
use Rattle.smt_nodes.specs.Interned.{nodes_of}
use Rattle.smt_nodes.proofs.interner.Interner.intern_type_of.Goals as goal

pub returns-in-App-clause-meaning : goal.returns-in-App-clause-meaning
returns-in-App-clause-meaning c =
    let type : type_of (plain_term c.args.term.now) ≡ plain_type c.in-App.ret_ty = ap type_of (ap plain_term c.in-App.is ∙ plain_term-App c.in-App.op c.in-App.args c.in-App.ret_ty) in
    IfOk-weaker c.intern_type.result _ _ (λ id h. h ∙ ap (λ t. Some (TypeMeaning t)) (sym type)) c.intern_type.ensures.meaning

pub returns-in_ok-inner-in-None-clause-meaning : goal.returns-in_ok-inner-in-None-clause-meaning
returns-in_ok-inner-in-None-clause-meaning c =
    let type : type_of (plain_term c.args.term.now) ≡ OptionType (plain_type c.in-None.held) = ap type_of (ap plain_term c.in-None.is ∙ plain_term-None c.in-None.held) in
    IfOk-weaker c.enter.result _ _ (λ id h. h ∙ ap (λ t. Some (TypeMeaning t)) (sym type)) (c.enter.ensures.meaning (TypeMeaning (plain_type c.in-None.held) ∷ []) (one_found (nodes_of c.intern_type-in-None.new.self) c.in_ok-inner-in-None.inner _ c.in_ok-inner-in-None.ensures.meaning))

pub returns-in_ok-type_of-in-Prim-clause-meaning : goal.returns-in_ok-type_of-in-Prim-clause-meaning
returns-in_ok-type_of-in-Prim-clause-meaning c =
    let type : type_of (plain_term c.args.term.now) ≡ literal_type (plain_literal c.in-Prim.literal) = ap type_of (ap plain_term c.in-Prim.is ∙ plain_term-Prim c.in-Prim.literal) in
    IfOk-weaker c.intern_type-in-Prim.result _ _ (λ id h. h ∙ ap (λ t. Some (TypeMeaning t)) (c.in_ok-type_of-in-Prim.ensures ∙ sym type)) c.intern_type-in-Prim.ensures.meaning

pub returns-in_ok-inner-in-Set-clause-meaning : goal.returns-in_ok-inner-in-Set-clause-meaning
returns-in_ok-inner-in-Set-clause-meaning c =
    let type : type_of (plain_term c.args.term.now) ≡ SetType (plain_type c.in-Set.elts_ty) = ap type_of (ap plain_term c.in-Set.is ∙ plain_term-Set c.in-Set.elts_ty c.in-Set.elts) in
    IfOk-weaker c.enter-in-Set.result _ _ (λ id h. h ∙ ap (λ t. Some (TypeMeaning t)) (sym type)) (c.enter-in-Set.ensures.meaning (TypeMeaning (plain_type c.in-Set.elts_ty) ∷ []) (one_found (nodes_of c.intern_type-in-Set.new.self) c.in_ok-inner-in-Set.inner _ c.in_ok-inner-in-Set.ensures.meaning))

pub returns-in-Var-clause-meaning : goal.returns-in-Var-clause-meaning
returns-in-Var-clause-meaning c =
    let type : type_of (plain_term c.args.term.now) ≡ plain_type c.in-Var.variable.ty = ap type_of (ap plain_term c.in-Var.is ∙ plain_term-Var c.in-Var.variable) in
    IfOk-weaker c.intern_type-in-Var.result _ _ (λ id h. h ∙ ap (λ t. Some (TypeMeaning t)) (sym type)) c.intern_type-in-Var.ensures.meaning
