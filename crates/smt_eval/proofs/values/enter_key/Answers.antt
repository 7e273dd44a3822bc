use Rattle.std.proofs.Common.{◌≡◌, Bool, true, false, not, refl, sym, ap, ◌∙◌}
use Rattle.std.specs.Map.{lookup}
use Rattle.std.specs.Prelude.{is_some}
use Rattle.std.specs.Rc.{rc_str_bytes}
use Rattle.law_terms.specs.TermOrder.{term_eq}
use Rattle.smt_term.specs.View.{plain_term}
use Rattle.smt_term.proofs.DerivedOrder.{derived_term_cmp, term_cmp-is}
use Rattle.smt_eval.proofs.ReadValues.{keys_more, unless_none}
use Rattle.smt_eval.proofs.values.enter_key.Goals as goal

was_new : (b added : Bool) → added ≡ not b → added ≡ true → b ≡ false
was_new true added h g = absurd (cc)
was_new false added h g = refl

pub returns-then-branch : goal.returns-then-branch
returns-then-branch c pairs has =
    let k = c.in_ok-share.field-0 in
    let key = plain_term c.args.key.now in
    let name = rc_str_bytes c.args.name.now in
    let fresh = was_new _ _ c.in_ok-insert.ensures.added c.if-branch.true in
    let once : is_some (lookup (term_eq key) pairs) ≡ false = ap (λ t. is_some (lookup (term_eq t) pairs)) (sym c.in_ok-share.ensures) ∙ sym (has k) ∙ fresh in
    (name, unless_none (lookup (term_eq key) pairs) name once, λ v. keys_more derived_term_cmp plain_term term_cmp-is c.args.keys.now c.insert.new.self pairs k key v c.in_ok-share.ensures c.in_ok-insert.ensures.updates.0 has)
