use Rattle.std.proofs.Common.{◌≡◌, ◌∙◌, ◌∷◌, [], List, Option, Some, ap, get_or, subst, sym, ℕ}
use Rattle.std.specs.Prelude.{IfSome, option_map}
use Rattle.std.specs.Rc.{rc_str_bytes}
use Rattle.law_terms.specs.Meanings.{all_found, meanings}
use Rattle.law_terms.specs.Nodes.{FunctionLabel, Meaning, TypeMeaning}
use Rattle.law_terms.specs.Parts.{label_in, parts_in}
use Rattle.law_terms.specs.Plain.{PlainFunction, PlainType, UufOp}
use Rattle.law_terms.proofs.Places.{some_same}
use Rattle.smt_nodes.specs.Interned.{nodes_of}
use Rattle.smt_nodes.specs.View.{place_of, places_of, plain_label}
use Rattle.smt_nodes.specs.declared.id.NodeId.{NodeId}
use Rattle.smt_term.specs.View.{plain_function}
use Rattle.smt_blast.proofs.Nodes.{split_found}
use Rattle.smt_blast.proofs.Tabling.{pairs}
use Rattle.smt_blast.proofs.visit.made_function.Goals as goal

function_is : (f : PlainFunction) (id : List ℕ) (t u : PlainType) → id ≡ f.id → t ≡ f.argument → u ≡ f.output → ◌≡◌ {A = PlainFunction} (record { id = id; argument = t; output = u }) f
function_is f id t u e g h = ap (λ x. record { id = x; argument = t; output = u }) e ∙ ap (λ x. record { id = f.id; argument = x; output = u }) g ∙ ap (λ x. record { id = f.id; argument = f.argument; output = x }) h

pub returns-in_ok-new-in-len2 : goal.returns-in_ok-new-in-len2
returns-in_ok-new-in-len2 c f h =
    let old = c.args.old.now in
    let d : NodeId = record { place = 0 } in
    let ids = c.parts.result.now in
    let ms = meanings (nodes_of old) in
    let found = subst (λ (o : Option Meaning). IfSome o (λ m. all_found ms (places_of ids) ≡ Some (parts_in m))) h c.parts.ensures.found in
    let two = subst (λ (l : List NodeId). all_found ms (places_of l) ≡ Some (TypeMeaning f.argument ∷ TypeMeaning f.output ∷ [])) (pairs ids d c.in-len2.len_at_least c.in-len2.len_below) found in
    let (first, rest) = split_found ms (place_of (get_or ids 0 d)) (places_of (get_or ids 1 d ∷ [])) (TypeMeaning f.argument) (TypeMeaning f.output ∷ []) two in
    let (second, nothing) = split_found ms (place_of (get_or ids 1 d)) [] (TypeMeaning f.output) [] rest in
    let label = some_same (FunctionLabel (rc_str_bytes c.in-Some-Fun.name)) (FunctionLabel f.id) (ap (λ l. Some (plain_label l)) (sym c.in-Some-Fun.field-0-is) ∙ (c.in-Some-Fun.ensures ∙ ap (option_map label_in) h)) in
    let name : rc_str_bytes c.in-Some-Fun.name ≡ f.id = (cc) in
    ap (λ x. UufOp (plain_function x)) c.in_ok-new-in-len2.ensures.ok
    ∙ ap UufOp (function_is f _ _ _ (c.in_ok-share_text-in-len2.ensures ∙ name) (c.in_ok-made_type-in-len2.ensures f.argument first) (c.in_ok-made_type-in-len2-2.ensures f.output second))
