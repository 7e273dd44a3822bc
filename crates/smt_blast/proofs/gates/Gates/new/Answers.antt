use Rattle.std.proofs.Common.{ap, ◌∷◌, [], false, refl, true}
use Rattle.law_terms.specs.Nodes.{TypeMeaning}
use Rattle.law_terms.specs.Plain.{BoolType}
use Rattle.smt_nodes.specs.Kinds.{is_bool_at}
use Rattle.smt_blast.specs.Standing.{is_truth_at}
use Rattle.smt_blast.proofs.Gating.{type_found}
use Rattle.smt_blast.proofs.gates.Gates.new.Goals as goal

pub invariant_of-result : goal.invariant_of-result
invariant_of-result c =
    let ty = c.in_ok-bool_type.ensures.meaning [] refl in
    let ty_then = c.enter-2.ensures.kept c.in_ok-bool_type.bool_type _ ty in
    let no = c.in_ok-no.ensures.meaning (TypeMeaning BoolType ∷ []) (type_found c.enter.new.nodes c.in_ok-bool_type.bool_type [] [] (ap is_bool_at ty) refl) in
    let yes = c.in_ok-yes.ensures.meaning (TypeMeaning BoolType ∷ []) (type_found c.enter-2.new.nodes c.in_ok-bool_type.bool_type [] [] (ap is_bool_at ty_then) refl) in
    record {
      type_known = ap is_bool_at (c.enter-3.ensures.kept c.in_ok-bool_type.bool_type _ ty_then);
      no_known = ap (is_truth_at false) (c.enter-3.ensures.kept c.in_ok-no.no _ no);
      yes_known = ap (is_truth_at true) yes;
    }
