use Rattle.std.proofs.Common.{◌≡◌, ◌+◌, true, false, Some, cond, drop, map, sym, ap, ◌∙◌}
use Rattle.std.specs.Map.{lookup}
use Rattle.law_terms.specs.TermOrder.{term_eq}
use Rattle.smt_term.specs.Tables.{plain_entry}
use Rattle.smt_term.specs.View.{plain_term}
use Rattle.smt_term.proofs.DerivedEquality.{eq-is}
use Rattle.smt_term.proofs.PutTerms.{entry_next}
use Rattle.smt_term.proofs.table.TermTable.get.Goals as goal

pub returns-then-eq : goal.returns-then-eq
returns-then-eq c =
    let items = c.as_slice-argument-items.result.now in
    let x = c.loop-argument-item.result in
    let equal : term_eq (plain_term c.args.key.now) (plain_term x.0) ≡ true = sym (eq-is c.args.key.now x.0) ∙ (sym c.eq.ensures ∙ c.if-eq.true) in
    let next = entry_next c.args.key.now items c.loop-argument.argument-index x c.loop-argument-test.true c.loop-argument-item.is in
    let whole : items ≡ c.args.self.now.items.value.items = c.as_slice-argument-items.ensures.value ∙ ap (λ v. v.items) c.deref.ensures in
    sym (next ∙ ap (λ b. cond b (Some (plain_term x.1)) (lookup (term_eq (plain_term c.args.key.now)) (map plain_entry (drop (c.loop-argument.argument-index + 1) items)))) equal)
    ∙ (c.loop-argument.invariant ∙ ap (λ ps. lookup (term_eq (plain_term c.args.key.now)) (map plain_entry ps)) whole)

pub loop-argument-preserved : goal.loop-argument-preserved
loop-argument-preserved c =
    let items = c.as_slice-argument-items.result.now in
    let x = c.loop-argument-item.result in
    let other : term_eq (plain_term c.args.key.now) (plain_term x.0) ≡ false = sym (eq-is c.args.key.now x.0) ∙ (sym c.eq.ensures ∙ c.if-eq.false) in
    let next = entry_next c.args.key.now items c.loop-argument.argument-index x c.loop-argument-test.true c.loop-argument-item.is in
    sym (next ∙ ap (λ b. cond b (Some (plain_term x.1)) (lookup (term_eq (plain_term c.args.key.now)) (map plain_entry (drop (c.loop-argument.argument-index + 1) items)))) other)
    ∙ c.loop-argument.invariant
