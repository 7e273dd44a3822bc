use Rattle.std.proofs.Common.{rules, ap, sym, ◌∙◌}
use Rattle.smt_term.specs.View.{plain_type}
use Rattle.std.specs.Rc.{rc_str_bytes}
use Rattle.std.specs.declared.alloc.Global.{Global}
use Rattle.std.specs.declared.rc.RcStr.{RcStr}
use Rattle.std.proofs.Common.{Bor, [], option_map, refl}
use Rattle.law_texts.specs.Reading.{Node}
use Rattle.smt_job_terms.proofs.Reading.{passes_on, read_of}
use Rattle.smt_sexpr.proofs.Shapes.{bracketed, first_and_rest, is_atom, others, nothing_listed, two_listed}
use Rattle.smt_job_terms.proofs.TypesRead.{attribute_fault, few_parts, many_parts, name_fault, names_of, one_more, sole_few, sole_many, sole_one, type_headed, unformed}
use Rattle.smt_sexpr.specs.View.{plain, plain_list}
use Rattle.law_jobs.specs.Types.{attributes_of, headed_type, new_attribute, sole_type, type_of_expression}
use Rattle.smt_job_terms.proofs.types.+types.Goals as goal
use Rattle.smt_job_terms.proofs.types.+types.Goals.{attributes_from-in_default-via-then-parts-lt2, attributes_from-in_default-via-else-parts-lt2+else-parts-lt3, sole_type-in_default-via-then-operands-lt1, sole_type-in_default-via-else-operands-lt1+else-operands-lt2}

pub attributes_from-returns-in-BitVec : goal.attributes_from-returns-in-BitVec
attributes_from-returns-in-BitVec t c = unformed _ c.args.items.now c.loop-item.item-index c.item-item.result c.loop-item.invariant c.loop-item-test.true c.item-item.is _ (is_atom c.item-item.result c.in-BitVec.is).1 (λ given es. refl)

pub attributes_from-returns-in_default : goal.attributes_from-returns-in_default
attributes_from-returns-in_default t c =
    let shape = bracketed _ c.in-App.inside _ c.in-App.is c.items-parts.ensures in
    unformed _ c.args.items.now c.loop-item.item-index c.item-item.result c.loop-item.invariant c.loop-item-test.true c.item-item.is _ shape (elim c.in_default.branch [
      | attributes_from-in_default-via-then-parts-lt2 w ↦ few_parts _ (search rules)
      | attributes_from-in_default-via-else-parts-lt2+else-parts-lt3 w ↦ many_parts _ (search rules)
    ])

pub attributes_from-returns-in_err-name : goal.attributes_from-returns-in_err-name
attributes_from-returns-in_err-name t c =
    let shape = bracketed _ c.in-App.inside _ c.in-App.is c.items-parts.ensures ∙ ap Node (two_listed _ c.name-item.result c.ty-item.result c.in-len2.len_at_least c.in-len2.len_below c.name-item.is c.ty-item.is) in
    passes_on _ c.from_residual.result c.in_err-name.field-0.0 _ _ c.from_residual.ensures.1 c.in_err-name.ensures
    (λ f h. name_fault _ c.args.items.now c.loop-item.item-index c.item-item.result c.loop-item.invariant c.loop-item-test.true c.item-item.is (plain c.name-item.result) (plain c.ty-item.result) shape f (ap (λ ps. new_attribute (names_of ps) (plain c.name-item.result)) (sym c.as_slice.ensures.value) ∙ h))

pub attributes_from-returns-in_err-ty : goal.attributes_from-returns-in_err-ty
attributes_from-returns-in_err-ty t c =
    let shape = bracketed _ c.in-App.inside _ c.in-App.is c.items-parts.ensures ∙ ap Node (two_listed _ c.name-item.result c.ty-item.result c.in-len2.len_at_least c.in-len2.len_below c.name-item.is c.ty-item.is) in
    passes_on _ c.from_residual-in_err-ty.result c.in_err-ty.field-0.0 _ _ c.from_residual-in_err-ty.ensures.1 c.in_err-ty.ensures
    (attribute_fault _ c.args.items.now c.loop-item.item-index c.item-item.result c.loop-item.invariant c.loop-item-test.true c.item-item.is (plain c.name-item.result) (plain c.ty-item.result) shape c.in_ok-name.name (ap (λ ps. new_attribute (names_of ps) (plain c.name-item.result)) (sym c.as_slice.ensures.value) ∙ c.in_ok-name.ensures))

pub attributes_from-loop-item-preserved : goal.attributes_from-loop-item-preserved
attributes_from-loop-item-preserved t c =
    let shape = bracketed _ c.in-App.inside _ c.in-App.is c.items-parts.ensures ∙ ap Node (two_listed _ c.name-item.result c.ty-item.result c.in-len2.len_at_least c.in-len2.len_below c.name-item.is c.ty-item.is) in
    one_more _ c.args.items.now c.loop-item.item-index c.item-item.result c.loop-item.invariant c.loop-item-test.true c.item-item.is (plain c.name-item.result) (plain c.ty-item.result) shape c.in_ok-name.name (ap (λ ps. new_attribute (names_of ps) (plain c.name-item.result)) (sym c.as_slice.ensures.value) ∙ c.in_ok-name.ensures) c.in_ok-ty.ty _ c.in_ok-ty.ensures c.in_ok-push.ensures.items

pub sole_type-returns-in-len1 : goal.sole_type-returns-in-len1
sole_type-returns-in-len1 t c = read_of plain_type c.type_from.result _ _ (sole_one c.args.operands.now c.operand-item.result c.in-len1.len_at_least c.in-len1.len_below c.operand-item.is) c.type_from.ensures

pub sole_type-returns-in_default : goal.sole_type-returns-in_default
sole_type-returns-in_default t c = elim c.in_default.branch [
  | sole_type-in_default-via-then-operands-lt1 w ↦ sole_few _ (search rules)
  | sole_type-in_default-via-else-operands-lt1+else-operands-lt2 w ↦ sole_many _ (search rules)
]

pub type_from-returns-in_default : goal.type_from-returns-in_default
type_from-returns-in_default t c =
    ap type_of_expression (bracketed _ c.in-App.inside _ c.in-App.is c.items-items.ensures ∙ ap Node (nothing_listed c.items-items.result.now c.in_default.len_below))

pub type_from-returns : goal.type_from-returns
type_from-returns t c =
    let shape = bracketed _ c.in-App.inside _ c.in-App.is c.items-items.ensures ∙ ap Node (first_and_rest c.items-items.result.now c.first-item.result c.in-len1-up.len_at_least c.first-item.is) in
    let named = ap (option_map (λ (name : Bor (RcStr Global)). rc_str_bytes name.now)) (sym c.in_ok-head.ensures.ok_part) ∙ c.name_in.ensures in
    read_of plain_type c.headed_type.result _ _ (type_headed _ _ _ _ shape (sym named) ∙ ap (λ n. headed_type n (plain_list (others c.items-items.result.now)) (sole_type (plain_list (others c.items-items.result.now))) (attributes_of [] (plain_list (others c.items-items.result.now)))) (sym c.as_str-2.ensures.value)) c.headed_type.ensures
