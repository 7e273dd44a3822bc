use Rattle.std.proofs.Common.{◌∙◌}
use Rattle.smt_values.proofs.TypesGiven.{all_types, one_more, one_refused, passes_on, whole_of}
use Rattle.smt_values.proofs.of_type.+of_type.Goals as goal

pub attribute_types-returns-in_err-ty-clause-typed : goal.attribute_types-returns-in_err-ty-clause-typed
attribute_types-returns-in_err-ty-clause-typed t c =
    passes_on _ c.from_residual.result c.in_err-ty.field-0.0 _ _ c.from_residual.ensures.1 c.in_err-ty.ensures
    (λ f h. whole_of c.args.attrs.now c.items-items.result.now c.items-items.ensures.same
    ∙ one_refused _ c.items-items.result.now c.loop-name.name-index c.loop-name-item.result c.loop-name.invariant c.loop-name-test.true c.loop-name-item.is f h)

pub attribute_types-loop-name-preserved : goal.attribute_types-loop-name-preserved
attribute_types-loop-name-preserved t c =
    one_more _ c.items-items.result.now c.loop-name.name-index c.loop-name-item.result c.loop-name.invariant c.loop-name-test.true c.loop-name-item.is c.in_ok-share_text.field-0 c.in_ok-ty.ty c.push.new.self.items c.in_ok-share_text.ensures
    c.in_ok-ty.ensures c.in_ok-push.ensures.items

pub attribute_types-returns-clause-typed : goal.attribute_types-returns-clause-typed
attribute_types-returns-clause-typed t c =
    whole_of c.args.attrs.now c.items-items.result.now c.items-items.ensures.same ∙ all_types c.loop-name.pairs.items c.items-items.result.now c.loop-name.name-index c.loop-name-test.false c.loop-name.invariant
