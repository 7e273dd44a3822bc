use Rattle.std.proofs.Common.{◌≡◌, ◌+◌, ◌||◌, true, false, drop, map, ap, ◌∙◌, sym, arith}
use Rattle.std.proofs.lemmas.Grind.{common_steps}
use Rattle.law_folding.specs.FoldSets.{is_among}
use Rattle.smt_factory_core.proofs.FoldingSets.{among_more}
use Rattle.smt_factory_core.proofs.sets.is_among.Goals as goal
use Rattle.smt_term.proofs.DerivedEquality.{eq-is}
use Rattle.law_terms.specs.TermOrder.{term_eq}
use Rattle.smt_term.specs.View.{plain_term}

pub returns-then-eq : goal.returns-then-eq
returns-then-eq c =
    let same : term_eq (plain_term c.args.t.now) (plain_term c.element-item.result) ≡ true = grind (arith, common_steps, eq-is) in
    let rest = is_among (map plain_term (drop (c.loop-element.element-index + 1) c.args.ts.now)) (plain_term c.args.t.now) in
    let left = among_more c.args.ts.now c.loop-element.element-index c.element-item.result c.loop-element-test.true c.element-item.is (plain_term c.args.t.now) in
    sym (sym c.loop-element.invariant ∙ (left ∙ ap (λ b. b || rest) same))

pub loop-element-preserved : goal.loop-element-preserved
loop-element-preserved c =
    let other : term_eq (plain_term c.args.t.now) (plain_term c.element-item.result) ≡ false = grind (arith, common_steps, eq-is) in
    let rest = is_among (map plain_term (drop (c.loop-element.element-index + 1) c.args.ts.now)) (plain_term c.args.t.now) in
    let left = among_more c.args.ts.now c.loop-element.element-index c.element-item.result c.loop-element-test.true c.element-item.is (plain_term c.args.t.now) in
    sym (left ∙ ap (λ b. b || rest) other) ∙ c.loop-element.invariant
