use Rattle.std.proofs.Common.{◌≡◌, refl, rules, sym, subst, ◌∙◌}
use Rattle.smt_nodes.proofs.Levels.{app_first, either, label_cmp-is}
use Rattle.smt_nodes.specs.LabelOrder.{first_cmp, label_cmp}
use Rattle.smt_nodes.specs.View.{plain_label}
use Rattle.smt_nodes.specs.declared.node.Label.{Label}
use Rattle.smt_nodes.proofs.label_order.compare_labels.Goals as goal

pub returns-in_default : goal.returns-in_default
returns-in_default c =
    let e : c.cmp.result ≡ label_cmp (plain_label c.args.first.now) (plain_label c.args.second.now) = (search rules) ∙ label_cmp-is c.args.first.now c.args.second.now in
    e ∙ app_first c.args.first.now c.args.second.now c.in-App.op c.in-App.is c.in_default.not-Call

pub returns-in-TOption : goal.returns-in-TOption
returns-in-TOption c =
    let k = plain_label c.args.second.now in
    let P : Label → Type 0 = λ l. label_cmp (plain_label l) k ≡ first_cmp (plain_label l) k in
    let e : c.cmp-in-TOption.result ≡ label_cmp (plain_label c.args.first.now) k = (search rules) ∙ label_cmp-is c.args.first.now c.args.second.now in
    e ∙ either (λ h. subst P (sym h) refl) (either (λ h. subst P (sym h.1) refl) (either (λ h. subst P (sym h) refl) (either (λ h. subst P (sym h.1) refl) (either (λ h. subst P (sym h.1) refl) (either (λ h. subst P (sym h) refl) (either (λ h. subst P (sym h) refl) (either (λ h. subst P (sym h.1) refl) (either (λ h. subst P (sym h) refl) (either (λ h. subst P (sym h.1) refl) (either (λ h. subst P (sym h) refl) (either (λ h. subst P (sym h) refl) (λ h. subst P (sym h.1) refl)))))))))))) c.in-TOption.is
