use Rattle.std.proofs.Common.{◌≡◌, ◌∷◌, List, ap, sym, ◌∙◌, length, map, reverse, arith}
use Rattle.smt_spelling.specs.NodeTexts.{kept_at_mark, kept_below, kept_now}
use Rattle.smt_spelling.specs.declared.node_names.Mark.{Mark}
use Rattle.smt_spelling.proofs.Levels.{first_two}
use Rattle.smt_spelling.proofs.Marks.{each_same, last_first, last_opened, more_kept}
use Rattle.smt_spelling.proofs.node_names.NodeNames.pop_level.Goals as goal

pub invariant_of-self : goal.invariant_of-self
invariant_of-self c =
    let names = c.args.self.now in
    let mark = c.take_last-mark.result in
    let rest = c.take_last-mark.new.self.items in
    let are = last_opened (length names.order.items) names.marks.items rest mark c.take_last-mark.ensures.items names.marked in
    record { named = omega (arith, are.0, are.1); ordered = names.ordered; marked = more_kept mark.kept (length names.order.items) (reverse rest) are.0 are.2 }

pub returns-clause-levels : goal.returns-clause-levels
returns-clause-levels c k ks below =
    let names = c.args.self.now in
    let mark = c.take_last-mark.result in
    let rest = c.take_last-mark.new.self.items in
    let are = last_opened (length names.order.items) names.marks.items rest mark c.take_last-mark.ensures.items names.marked in
    let split : kept_at_mark names mark ∷ map (kept_at_mark names) (reverse rest) ≡ k ∷ ks = ap (map (kept_at_mark names)) (sym (last_first names.marks.items rest mark c.take_last-mark.ensures.items)) ∙ below in
    let (first, lower) = first_two (kept_at_mark names mark) k (map (kept_at_mark names) (reverse rest)) ks split in
    let now : kept_now c.cut.new.self ≡ kept_at_mark names mark = λ i. record { texts = λ place. c.cut.ensures.texts place i; terms = c.cut.ensures.terms i; types = c.cut.ensures.types i; functions = c.cut.ensures.functions i } in
    let same : kept_below c.cut.new.self ≡ map (kept_at_mark names) (reverse rest) = ap (λ (marks : List Mark). map (kept_at_mark c.cut.new.self) (reverse marks)) c.cut.ensures.marks ∙ each_same (kept_at_mark c.cut.new.self) (kept_at_mark names) mark.kept (reverse rest) are.2 c.cut.ensures.levels in
    (now ∙ first, same ∙ lower)
