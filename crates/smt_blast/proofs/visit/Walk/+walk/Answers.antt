use Rattle.std.proofs.Common.{◌≡◌, ◌<◌, ◌∙◌, ◌∷◌, [], List, Some, Err, ap, arith, length, map, not, refl, rules, subst, sym, true, ℕ}
use Rattle.std.proofs.lemmas.Bool.{and_parts}
use Rattle.std.specs.List.{AllByRecursion}
use Rattle.law_blasting.specs.Numbering.{walked, walked_all}
use Rattle.law_blasting.specs.Refusals.{UnsupportedOperator, UnsupportedType, type_refusal}
use Rattle.law_blasting.proofs.Numbering.{walks_add_nothing}
use Rattle.law_terms.specs.Meanings.{all_found, meanings}
use Rattle.law_terms.specs.Nodes.{FunctionMeaning, TermMeaning, TypeMeaning}
use Rattle.law_terms.specs.Parts.{term_parts}
use Rattle.law_terms.specs.Plain.{Application, PlainFunction, PlainOp, PlainTerm, PlainTerms, PlainType, UufOp, list_of_terms}
use Rattle.law_terms.specs.Reached.{reached_variable}
use Rattle.law_terms.specs.Types.{is_type, result_type, type_of, types_of}
use Rattle.law_terms.specs.Typing.{typed, typed_all}
use Rattle.smt_nodes.specs.Interned.{meaning_in, nodes_of}
use Rattle.smt_nodes.specs.View.{place_of, places_of, plain_label}
use Rattle.smt_nodes.specs.declared.id.NodeId.{NodeId}
use Rattle.smt_nodes.specs.declared.interner.Interner.{Interner}
use Rattle.smt_term.specs.View.{plain_op}
use Rattle.smt_blast.specs.Marks.{mark_in, HasMark}
use Rattle.smt_blast.specs.Walks.{behind_parts, Refuses}
use Rattle.smt_blast.proofs.Entries.{one_term}
use Rattle.smt_blast.proofs.Nodes.{application_of, call_of, earlier_at, label_is, other_is_literal, parts_are, split_found, variable_named}
use Rattle.smt_blast.proofs.Visiting.{application_walked, call_refused, is_taken, met_variable, next_at, next_typed, no_memory, a_circuit, literal_walked, no_circuit, none_so, none_there, not_supported, refused_by_type, refused_inside, refuses, some_there, sort_taken, terms_marked, visited, walking_begins, walking_ends, walking_on, walking_refused}
use Rattle.smt_blast.proofs.visit.Walk.+walk.Goals as goal

-- the types of a node's first part, and what is found of the others
record Split (old : Interner) (ty : NodeId) (ids : List NodeId) (t : PlainTerm) : Type 0 where
  type : meaning_in old ty ≡ Some (TypeMeaning (type_of t))
  found : all_found (meanings (nodes_of old)) (places_of ids) ≡ Some (term_parts t)

split : (old : Interner) (id ty : NodeId) (all ids : List NodeId) (t : PlainTerm) → all ≡ ty ∷ ids → meaning_in old id ≡ Some (TermMeaning t) → all_found (meanings (nodes_of old)) (places_of all) ≡ Some (TypeMeaning (type_of t) ∷ term_parts t) → Split old ty ids t
split old id ty all ids t e means h =
    let both = split_found (meanings (nodes_of old)) (place_of ty) (places_of ids) (TypeMeaning (type_of t)) (term_parts t) (subst (λ (l : List NodeId). all_found (meanings (nodes_of old)) (places_of l) ≡ Some (TypeMeaning (type_of t) ∷ term_parts t)) e h) in
    record { type = both.0; found = both.1 }

inner_typed : (t : PlainTerm) (o : PlainOp) (ts : PlainTerms) (ty : PlainType) → t ≡ Application o ts ty → typed t ≡ true → typed_all ts ≡ true
inner_typed t o ts ty e h = (and_parts (typed_all ts) (is_type (result_type o (types_of ts)) ty) (sym (ap typed e) ∙ h)).0

rest_earlier : (place : ℕ) (ty : NodeId) (all ids : List NodeId) → all ≡ ty ∷ ids → AllByRecursion (λ p. p < place) (places_of all) → AllByRecursion (λ p. p < place) (places_of ids)
rest_earlier place ty all ids e h = (subst (λ (l : List NodeId). AllByRecursion (λ p. p < place) (places_of l)) e h).1

function_split : (old : Interner) (parts ids : List NodeId) (function : NodeId) (f : PlainFunction) (ts : PlainTerms) → parts ≡ function ∷ ids → all_found (meanings (nodes_of old)) (places_of parts) ≡ Some (FunctionMeaning f ∷ map TermMeaning (list_of_terms ts)) → (meaning_in old function ≡ Some (FunctionMeaning f)) × (all_found (meanings (nodes_of old)) (places_of ids) ≡ Some (map TermMeaning (list_of_terms ts)))
function_split old parts ids function f ts e h = split_found (meanings (nodes_of old)) (place_of function) (places_of ids) (FunctionMeaning f) (map TermMeaning (list_of_terms ts)) (subst (λ (l : List NodeId). all_found (meanings (nodes_of old)) (places_of l) ≡ Some (FunctionMeaning f ∷ map TermMeaning (list_of_terms ts))) e h)

pub refuse_call-returns-in_err-visit_all : goal.refuse_call-returns-in_err-visit_all
refuse_call-returns-in_err-visit_all t c f ts vs h ty w =
    let old = c.args.old.now in
    let e = c.in_err-visit_all.field-0.0 in
    let (here, found) = function_split old c.args.parts.now c.in-Some.arguments.now c.in-Some.function.now f ts c.in-Some.ensures.cases.0 h in
    refuses old c.args.self.now c.visit_all.new.self (behind_parts (UufOp f) (walked_all vs ts)) [] c.from_residual.result e c.from_residual.ensures.1 (refused_inside (UufOp f) (walked_all vs ts) e (c.in_err-visit_all.ensures ts vs found ty w))

pub refuse_call-returns-in_err-made_function : goal.refuse_call-returns-in_err-made_function
refuse_call-returns-in_err-made_function t c f ts vs h ty w =
    no_memory c.args.old.now c.args.self.now c.visit_all.new.self (behind_parts (UufOp f) (walked_all vs ts)) [] c.from_residual-in_err-made_function.result c.from_residual-in_err-made_function.ensures.1

pub refuse_call-returns : goal.refuse_call-returns
refuse_call-returns t c f ts vs h ty w =
    let (here, found) = function_split c.args.old.now c.args.parts.now c.in-Some.arguments.now c.in-Some.function.now f ts c.in-Some.ensures.cases.0 h in
    let (ws, e, walk, kept, marks) = c.in_ok-visit_all.ensures ts vs found ty w in
    not_supported (UufOp f) ws (walked_all vs ts) e refl ∙ ap (λ o. Err (UnsupportedOperator o)) (sym (c.in_ok-made_function.ensures f here))

pub visit-returns-then-is_seen : goal.visit-returns-then-is_seen
visit-returns-then-is_seen t c u vs means ty w =
    let (s, m) = some_there (mark_in c.args.self.now.marks.items (place_of c.args.id)) (sym c.is_seen.ensures ∙ c.if-is_seen.true) in
    let k = w.sound c.args.id s m in
    let same = one_term c.args.old.now c.args.id u k.term means k.means in
    (vs, ap (walked vs) same ∙ walks_add_nothing vs k.term k.taken k.numbered, w, (λ id h. h), ((s, m), tt))

pub visit-returns-else-is_seen : goal.visit-returns-else-is_seen
visit-returns-else-is_seen t c u vs means ty w = c.visit_new.ensures u vs (none_there (mark_in c.args.self.now.marks.items (place_of c.args.id)) (sym c.is_seen.ensures ∙ c.if-is_seen.false)) means ty w

pub visit_all-visit-requires : goal.visit_all-visit-requires
visit_all-visit-requires t c =
    let below = earlier_at c.args.before c.args.ids.now c.loop-id.id-index (record { place = 0 }) c.requires c.loop-id-test.true in
    let d = c.decreases in
    (omega (arith, below, d), tt)

pub visit_all-loop-id-init : goal.visit_all-loop-id-init
visit_all-loop-id-init t c ts vs e ty w = walking_begins c.args.old.now c.args.self.now vs ts c.args.ids.now e ty w

pub visit_all-loop-id-preserved : goal.visit_all-loop-id-preserved
visit_all-loop-id-preserved t c ts vs e ty w =
    let old = c.args.old.now in
    let d : NodeId = record { place = 0 } in
    let h = c.loop-id.invariant ts vs e ty w in
    let n = next_at old c.args.self.now c.loop-id.self vs ts c.args.ids.now c.loop-id.id-index d c.loop-id-test.true h in
    walking_on old c.args.self.now c.loop-id.self c.visit.new.self vs ts c.args.ids.now c.loop-id.id-index d c.loop-id-test.true h n (c.in_ok-visit.ensures n.term h.now n.means (next_typed old h.left _ _ h.typed n).0 h.walk)

pub visit_all-returns-in_err-visit : goal.visit_all-returns-in_err-visit
visit_all-returns-in_err-visit t c ts vs e ty w =
    let old = c.args.old.now in
    let d : NodeId = record { place = 0 } in
    let h = c.loop-id.invariant ts vs e ty w in
    let n = next_at old c.args.self.now c.loop-id.self vs ts c.args.ids.now c.loop-id.id-index d c.loop-id-test.true h in
    let error = c.in_err-visit.field-0.0 in
    refuses old c.args.self.now c.visit.new.self (walked_all vs ts) c.args.ids.now c.from_residual.result error c.from_residual.ensures.1
    (walking_refused old c.args.self.now c.loop-id.self vs ts c.args.ids.now _ c.loop-id.id-index _ h n error (c.in_err-visit.ensures n.term h.now n.means (next_typed old h.left _ _ h.typed n).0 h.walk))

pub visit_all-returns : goal.visit_all-returns
visit_all-returns t c ts vs e ty w = walking_ends c.args.old.now c.args.self.now c.loop-id.self vs ts c.args.ids.now c.loop-id.id-index c.loop-id-test.false (c.loop-id.invariant ts vs e ty w)

pub visit_new-returns-in_err-made_type : goal.visit_new-returns-in_err-made_type
visit_new-returns-in_err-made_type t c u vs m means ty w = no_memory c.args.old.now c.args.self.now c.args.self.now (walked vs u) (c.args.id ∷ []) c.from_residual.result c.from_residual.ensures.1

pub visit_new-returns-then-is_none : goal.visit_new-returns-then-is_none
visit_new-returns-then-is_none t c u vs m means ty w =
    let old = c.args.old.now in
    let s = split old c.args.id c.in-Some.ty.now c.parts.result.now c.in-Some.parts.now u c.in-Some.ensures.cases.0 means (parts_are old c.args.id c.parts.result.now u means c.parts.ensures.found) in
    let refused = none_so c.sort_at.result (c.is_none.ensures ∙ ap not c.if-is_none.true) (c.sort_at.ensures.none (type_of u) s.type) in
    refused_by_type vs u (UnsupportedType (type_of u)) refused ∙ ap (λ x. Err (UnsupportedType x)) (sym (c.in_ok-made_type.ensures (type_of u) s.type))

pub visit_new-visit_all-requires : goal.visit_new-visit_all-requires
visit_new-visit_all-requires t c =
    let d = c.decreases in
    (omega (arith, d, c.place.ensures), subst (λ n. AllByRecursion (λ p. p < n) (places_of c.in-Some.parts.now)) (sym c.place.ensures) (rest_earlier (place_of c.args.id) c.in-Some.ty.now c.parts.result.now c.in-Some.parts.now c.in-Some.ensures.cases.0 c.parts.ensures.earlier))

pub visit_new-refuse_call-requires : goal.visit_new-refuse_call-requires
visit_new-refuse_call-requires t c =
    let d = c.decreases in
    (omega (arith, d, c.place-in-Call.ensures), subst (λ n. AllByRecursion (λ p. p < n) (places_of c.in-Some.parts.now)) (sym c.place-in-Call.ensures) (rest_earlier (place_of c.args.id) c.in-Some.ty.now c.parts.result.now c.in-Some.parts.now c.in-Some.ensures.cases.0 c.parts.ensures.earlier))

pub visit_new-returns-in_err-visit_all-in-App : goal.visit_new-returns-in_err-visit_all-in-App
visit_new-returns-in_err-visit_all-in-App t c u vs m means ty w =
    let old = c.args.old.now in
    let s = split old c.args.id c.in-Some.ty.now c.parts.result.now c.in-Some.parts.now u c.in-Some.ensures.cases.0 means (parts_are old c.args.id c.parts.result.now u means c.parts.ensures.found) in
    let o = plain_op c.in-App.op in
    let (ts, type, is, inner) = application_of o u (ap plain_label (sym c.in-App.is) ∙ label_is old c.args.id _ u means c.in-Some-label.ensures) in
    let taken = sort_taken (type_of u) c.sort_at.result (c.is_none.ensures ∙ ap not c.if-is_none.false) (c.sort_at.ensures.found (type_of u) s.type) in
    let e = c.in_err-visit_all-in-App.field-0.0 in
    let answer : walked vs u ≡ behind_parts o (walked_all vs ts) = ap (walked vs) is ∙ application_walked vs o ts type (ap type_refusal (sym (ap type_of is)) ∙ taken) in
    refuses old c.args.self.now c.visit_all.new.self (walked vs u) (c.args.id ∷ []) c.from_residual-in_err-visit_all-in-App.result e c.from_residual-in_err-visit_all-in-App.ensures.1
    (subst (λ z. Refuses z e) (sym answer) (refused_inside o (walked_all vs ts) e (c.in_err-visit_all-in-App.ensures ts vs (s.found ∙ ap Some inner) (inner_typed u o ts type is ty) w)))

pub visit_new-returns-in_err-share-in-App : goal.visit_new-returns-in_err-share-in-App
visit_new-returns-in_err-share-in-App t c u vs m means ty w = no_memory c.args.old.now c.args.self.now c.visit_all.new.self (walked vs u) (c.args.id ∷ []) c.from_residual-in_err-share-in-App.result c.from_residual-in_err-share-in-App.ensures.1

pub visit_new-returns-then-is_none-2 : goal.visit_new-returns-then-is_none-2
visit_new-returns-then-is_none-2 t c u vs m means ty w =
    let old = c.args.old.now in
    let s = split old c.args.id c.in-Some.ty.now c.parts.result.now c.in-Some.parts.now u c.in-Some.ensures.cases.0 means (parts_are old c.args.id c.parts.result.now u means c.parts.ensures.found) in
    let o = plain_op c.in-App.op in
    let (ts, type, is, inner) = application_of o u (ap plain_label (sym c.in-App.is) ∙ label_is old c.args.id _ u means c.in-Some-label.ensures) in
    let taken = sort_taken (type_of u) c.sort_at.result (c.is_none.ensures ∙ ap not c.if-is_none.false) (c.sort_at.ensures.found (type_of u) s.type) in
    let answer : walked vs u ≡ behind_parts o (walked_all vs ts) = ap (walked vs) is ∙ application_walked vs o ts type (ap type_refusal (sym (ap type_of is)) ∙ taken) in
    let (ws, e, walk, kept, marks) = c.in_ok-visit_all-in-App.ensures ts vs (s.found ∙ ap Some inner) (inner_typed u o ts type is ty) w in
    let refused = no_circuit c.circuit_of.result (c.is_none-in-App.ensures ∙ ap not c.if-is_none-2.true) c.circuit_of.ensures.none in
    answer ∙ not_supported o ws (walked_all vs ts) e refused ∙ ap (λ x. Err (UnsupportedOperator x)) (sym c.in_ok-share-in-App.ensures)

pub visit_new-returns-in_err-push-in-Var : goal.visit_new-returns-in_err-push-in-Var
visit_new-returns-in_err-push-in-Var t c u vs m means ty w = no_memory c.args.old.now c.args.self.now (record c.args.self.now { variables = c.push.new.self }) (walked vs u) (c.args.id ∷ []) c.from_residual-in_err-push-in-Var.result c.from_residual-in_err-push-in-Var.ensures.1

pub visit_new-returns-else-is_none-2 : goal.visit_new-returns-else-is_none-2
visit_new-returns-else-is_none-2 t c u vs m means ty w =
    let old = c.args.old.now in
    let s = split old c.args.id c.in-Some.ty.now c.parts.result.now c.in-Some.parts.now u c.in-Some.ensures.cases.0 means (parts_are old c.args.id c.parts.result.now u means c.parts.ensures.found) in
    let o = plain_op c.in-App.op in
    let (ts, type, is, inner) = application_of o u (ap plain_label (sym c.in-App.is) ∙ label_is old c.args.id _ u means c.in-Some-label.ensures) in
    let taken = sort_taken (type_of u) c.sort_at.result (c.is_none.ensures ∙ ap not c.if-is_none.false) (c.sort_at.ensures.found (type_of u) s.type) in
    let answer : walked vs u ≡ behind_parts o (walked_all vs ts) = ap (walked vs) is ∙ application_walked vs o ts type (ap type_refusal (sym (ap type_of is)) ∙ taken) in
    let found = s.found ∙ ap Some inner in
    let (ws, e, walk, kept, marks) = c.in_ok-visit_all-in-App.ensures ts vs found (inner_typed u o ts type is ty) w in
    let supported = a_circuit o c.circuit_of.result (c.is_none-in-App.ensures ∙ ap not c.if-is_none-2.false) c.circuit_of.ensures.found in
    visited old c.args.self.now c.visit_all.new.self c.mark.new.self vs ws u c.args.id 0 (answer ∙ is_taken o ws (walked_all vs ts) e supported) walk kept means ty
    (λ v k. let clash = sym (ap reached_variable is) ∙ k in absurd (cc))
    (λ p us y k. subst (λ xs. AllByRecursion (HasMark old c.visit_all.new.self.marks.items) (list_of_terms xs)) (let both = sym is ∙ k in cc) (terms_marked old c.visit_all.new.self.marks.items c.in-Some.parts.now (list_of_terms ts) found marks))
    c.mark.ensures.marks c.mark.ensures.variables

pub visit_new-returns-in-Call : goal.visit_new-returns-in-Call
visit_new-returns-in-Call t c u vs m means ty w =
    let old = c.args.old.now in
    let s = split old c.args.id c.in-Some.ty.now c.parts.result.now c.in-Some.parts.now u c.in-Some.ensures.cases.0 means (parts_are old c.args.id c.parts.result.now u means c.parts.ensures.found) in
    let (f, ts, type, is, inner) = call_of u (ap plain_label (sym c.in-Call.is) ∙ label_is old c.args.id _ u means c.in-Some-label.ensures) in
    let taken = sort_taken (type_of u) c.sort_at.result (c.is_none.ensures ∙ ap not c.if-is_none.false) (c.sort_at.ensures.found (type_of u) s.type) in
    let answer : walked vs u ≡ behind_parts (UufOp f) (walked_all vs ts) = ap (walked vs) is ∙ application_walked vs (UufOp f) ts type (ap type_refusal (sym (ap type_of is)) ∙ taken) in
    call_refused old c.args.self.now c.refuse_call.new.self f (walked_all vs ts) (walked vs u) (c.args.id ∷ []) c.refuse_call.result answer (c.refuse_call.ensures f ts vs (s.found ∙ ap Some inner) (inner_typed u (UufOp f) ts type is ty) w)

pub visit_new-returns-in_ok-push-in-Var : goal.visit_new-returns-in_ok-push-in-Var
visit_new-returns-in_ok-push-in-Var t c u vs m means ty w =
    let old = c.args.old.now in
    let s = split old c.args.id c.in-Some.ty.now c.parts.result.now c.in-Some.parts.now u c.in-Some.ensures.cases.0 means (parts_are old c.args.id c.parts.result.now u means c.parts.ensures.found) in
    let (type, is) = variable_named _ u (ap plain_label (sym c.in-Var.is) ∙ label_is old c.args.id _ u means c.in-Some-label.ensures) in
    let taken = sort_taken (type_of u) c.sort_at.result (c.is_none.ensures ∙ ap not c.if-is_none.false) (c.sort_at.ensures.found (type_of u) s.type) in
    let number : c.len-number.result ≡ length c.args.self.now.variables.items = search rules in
    met_variable old c.args.self.now c.mark-in-Var.new.self vs u _ type c.args.id c.len-number.result c.push.new.self.items is (ap type_refusal (sym (ap type_of is)) ∙ taken) w m means number c.in_ok-push-in-Var.ensures.items c.mark-in-Var.ensures.marks c.mark-in-Var.ensures.variables

pub visit_new-returns-in_default-label-2 : goal.visit_new-returns-in_default-label-2
visit_new-returns-in_default-label-2 t c u vs m means ty w =
    let old = c.args.old.now in
    let s = split old c.args.id c.in-Some.ty.now c.parts.result.now c.in-Some.parts.now u c.in-Some.ensures.cases.0 means (parts_are old c.args.id c.parts.result.now u means c.parts.ensures.found) in
    let taken = sort_taken (type_of u) c.sort_at.result (c.is_none.ensures ∙ ap not c.if-is_none.false) (c.sort_at.ensures.found (type_of u) s.type) in
    let (l, is) = other_is_literal c.in-Some-label.label.now u (label_is old c.args.id _ u means c.in-Some-label.ensures) c.in_default-label-2.not-App c.in_default-label-2.not-Call c.in_default-label-2.not-Var taken in
    visited old c.args.self.now c.args.self.now c.mark-in_default-label-2.new.self vs vs u c.args.id 0 (ap (walked vs) is ∙ literal_walked vs l (ap type_refusal (sym (ap type_of is)) ∙ taken)) w (λ id k. k) means ty
    (λ v k. let clash = sym (ap reached_variable is) ∙ k in absurd (cc)) (λ p us y k. let clash = sym is ∙ k in absurd (cc))
    c.mark-in_default-label-2.ensures.marks c.mark-in_default-label-2.ensures.variables
