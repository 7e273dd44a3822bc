use Rattle.std.proofs.Common.{◌≡◌, List, ℕ, Some, false, ap, ◌∙◌, subst}
use Rattle.std.specs.Map.{lookup}
use Rattle.std.specs.Prelude.{is_some}
use Rattle.law_assignments.specs.Entries.{get_of, value_of}
use Rattle.law_assignments.specs.Outcomes.{DuplicateEntry}
use Rattle.law_terms.specs.Names.{op_name}
use Rattle.law_terms.specs.Plain.{OptionGetOp}
use Rattle.law_terms.specs.Types.{type_eq}
use Rattle.smt_sexpr.specs.View.{plain}
use Rattle.smt_term.specs.View.{plain_term, plain_type}
use Rattle.smt_eval.specs.AssignmentView.{plain_assignment}
use Rattle.smt_eval.specs.InputRefused.{IsInputReadAs}
use Rattle.smt_eval.proofs.Entered.{found_so, got_fault, got_so, got_twice}
use Rattle.smt_eval.proofs.InputReading.{read_on}
use Rattle.smt_eval.proofs.values.Reader.get_value.Goals as goal

pub returns-then-is_some : goal.returns-then-is_some
returns-then-is_some c ds reads =
    let ty = plain_type c.args.inside.now in
    let gets = (plain_assignment c.args.given.now).gets in
    let name = op_name OptionGetOp in (
      DuplicateEntry name,
      ap (λ n. Some (DuplicateEntry n)) (c.in_ok-name.ensures.ok ∙ c.mk_name.ensures),
      got_twice (lookup (type_eq ty) gets) name (λ n. value_of ds n ty (plain c.args.value.now)) (λ v. (ty, v)) (found_so _ c.get.result _ c.is_some.result c.get.ensures c.is_some.ensures ∙ c.if-is_some.true),
    )

pub returns : goal.returns
returns c ds reads =
    let ty = plain_type c.args.inside.now in
    let gets = (plain_assignment c.args.given.now).gets in
    let name = op_name OptionGetOp in
    let once : is_some (lookup (type_eq ty) gets) ≡ false = found_so _ c.get.result _ c.is_some.result c.get.ensures c.is_some.ensures ∙ c.if-is_some.false in
    let value = subst (λ (n : List ℕ). IsInputReadAs plain_term c.value.result (value_of ds n ty (plain c.args.value.now))) (c.in_ok-name.ensures.ok ∙ c.mk_name.ensures) (c.value.ensures ds reads) in
    read_on plain_term (λ term. (ty, plain_term term)) c.value.result (value_of ds name ty (plain c.args.value.now)) (get_of ds gets (ty, plain c.args.value.now)) value
    (got_fault (lookup (type_eq ty) gets) name (λ n. value_of ds n ty (plain c.args.value.now)) (λ v. (ty, v)) once)
    (λ x h. got_so (lookup (type_eq ty) gets) name (λ n. value_of ds n ty (plain c.args.value.now)) (λ v. (ty, v)) once (plain_term x) h)
