use Rattle.smt_term.specs.View.{plain_type}
use Rattle.std.proofs.Common.{◌≡◌, ◌∙◌, ◌∷◌, [], List, Some, ap, subst, sym, ℕ}
use Rattle.std.specs.Prelude.{option_map}
use Rattle.std.specs.Rc.{rc_str_bytes}
use Rattle.law_terms.specs.Meanings.{all_found, meanings}
use Rattle.law_terms.specs.Nodes.{TypeMeaning, VariableLabel}
use Rattle.law_terms.specs.Parts.{label_in}
use Rattle.law_terms.specs.Plain.{PlainType, VariableTerm}
use Rattle.law_terms.proofs.Places.{some_same}
use Rattle.smt_nodes.specs.Interned.{nodes_of}
use Rattle.smt_nodes.specs.View.{place_of, places_of, plain_label}
use Rattle.smt_nodes.specs.declared.id.NodeId.{NodeId}
use Rattle.smt_blast.proofs.Nodes.{parts_are, split_found}
use Rattle.smt_blast.proofs.blasting.variable_at.Goals as goal

pub returns : goal.returns
returns c v h =
    let old = c.args.old.now in
    let ids = c.parts.result.now in
    let ms = meanings (nodes_of old) in
    let found = subst (λ (l : List NodeId). all_found ms (places_of l) ≡ Some (TypeMeaning v.1 ∷ [])) c.in-Some.ensures.cases.0 (parts_are old c.args.id ids (VariableTerm v.0 v.1) h c.parts.ensures.found) in
    let (type, nothing) = split_found ms (place_of c.in-Some.ty.now) (places_of c.in-Some.field-0-1.now) (TypeMeaning v.1) [] found in
    let label = some_same (VariableLabel (rc_str_bytes c.in-Some-Var.name)) (VariableLabel v.0) (ap (λ l. Some (plain_label l)) (sym c.in-Some-Var.field-0-is) ∙ (c.in-Some-Var.ensures ∙ ap (option_map label_in) h)) in
    let name : rc_str_bytes c.in-Some-Var.name ≡ v.0 = (cc) in
    ap (λ (x : List ℕ). record { variable = (x, plain_type c.in_ok-made_type.field-0); number = c.args.number }) (c.in_ok-share_text.ensures ∙ name) ∙ ap (λ (x : PlainType). record { variable = (v.0, x); number = c.args.number }) (c.in_ok-made_type.ensures v.1 type)
