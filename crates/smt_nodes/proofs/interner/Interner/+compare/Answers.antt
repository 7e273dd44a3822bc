use Rattle.std.proofs.Common.{◌≡◌, ◌<◌, List, None, Some, refl, sym, ◌∙◌, arith, rules}
use Rattle.law_terms.specs.Nodes.{Meaning, PlainLabel}
use Rattle.law_terms.specs.Meanings.{meanings}
use Rattle.law_terms.proofs.Distinct.{nothing_past}
use Rattle.smt_nodes.proofs.Comparing.{at_length, at_nowhere, at_pair, compared, parts_earlier, Compared}
use Rattle.smt_nodes.proofs.Labels.{parts_before}
use Rattle.std.specs.declared.cmp.Ordering.TheVariants.{Equal}
use Rattle.smt_nodes.specs.Interned.{nodes_of}
use Rattle.smt_nodes.specs.LabelOrder.{first_cmp, parts_apart}
use Rattle.smt_nodes.specs.Order.{meaning_cmp}
use Rattle.smt_nodes.specs.View.{ids_of, place_of, plain_label, plain_node}
use Rattle.smt_nodes.specs.declared.id.NodeId.{NodeId}
use Rattle.smt_nodes.specs.declared.label_order.Difference.{Difference}
use Rattle.smt_nodes.proofs.interner.Interner.+compare.Goals as goal

none_some : (m : Meaning) → None ≡ Some m → ⊥
none_some m e = cc

-- what a search in equal lists found
of_parts : (l k : PlainLabel) (xs zs ys ws : List NodeId) (d : Difference) → d ≡ parts_apart l k xs ys → xs ≡ zs → ys ≡ ws → d ≡ parts_apart l k zs ws
of_parts l k xs zs ys ws d e f g = e ∙ (λ i. parts_apart l k (f i) (g i))

pub compare-requires : goal.compare-requires
compare-requires t c =
    let s = c.args.self.now in
    let l = c.in-Some.first.now.label in
    let k = c.in-Some-node.second.now.label in
    let e = of_parts (plain_label l) (plain_label k) c.items.result.now _ c.items-in-Equal.result.now _ _ c.in-At.ensures c.items.ensures refl in
    let lower : place_of c.in-At.x < place_of c.args.a = parts_earlier l k (ids_of c.in-Some.first.now.parts) c.items-in-Equal.result.now (place_of c.args.a) (parts_before (nodes_of s) s.graph (place_of c.args.a) (plain_node c.in-Some.first.now) (sym c.in-Some.ensures)) c.in-At.x c.in-At.y e in
    let d = c.decreases in (omega (arith, lower, d), tt)

pub returns-in-Nowhere : goal.returns-in-Nowhere
returns-in-Nowhere t c m n p q a =
    let s = c.args.self.now in
    let k : first_cmp (plain_label c.in-Some.first.now.label) (plain_label c.in-Some-node.second.now.label) ≡ Equal = search rules in
    let r : Compared (nodes_of s) c.in-Some.first.now c.in-Some-node.second.now m n = compared (nodes_of s) s.graph (place_of c.args.a) (place_of c.args.b) c.in-Some.first.now c.in-Some-node.second.now (sym c.in-Some.ensures) (sym c.in-Some-node.ensures) m n p q a in
    at_nowhere (meanings (nodes_of s)) _ (meaning_cmp m n) (r.same k) (of_parts (plain_label c.in-Some.first.now.label) (plain_label c.in-Some-node.second.now.label) c.items.result.now _ c.items-in-Equal.result.now _ _ c.in-Nowhere.ensures c.items.ensures c.items-in-Equal.ensures)

pub returns-in-At : goal.returns-in-At
returns-in-At t c m n p q a =
    let s = c.args.self.now in
    let k : first_cmp (plain_label c.in-Some.first.now.label) (plain_label c.in-Some-node.second.now.label) ≡ Equal = search rules in
    let r : Compared (nodes_of s) c.in-Some.first.now c.in-Some-node.second.now m n = compared (nodes_of s) s.graph (place_of c.args.a) (place_of c.args.b) c.in-Some.first.now c.in-Some-node.second.now (sym c.in-Some.ensures) (sym c.in-Some-node.ensures) m n p q a in
    at_pair (meanings (nodes_of s)) _ (meaning_cmp m n) c.in-At.x c.in-At.y c.compare.result (r.same k) (of_parts (plain_label c.in-Some.first.now.label) (plain_label c.in-Some-node.second.now.label) c.items.result.now _ c.items-in-Equal.result.now _ _ c.in-At.ensures c.items.ensures c.items-in-Equal.ensures) c.compare.ensures

pub returns-in-Length : goal.returns-in-Length
returns-in-Length t c m n p q a =
    let s = c.args.self.now in
    let k : first_cmp (plain_label c.in-Some.first.now.label) (plain_label c.in-Some-node.second.now.label) ≡ Equal = search rules in
    let r : Compared (nodes_of s) c.in-Some.first.now c.in-Some-node.second.now m n = compared (nodes_of s) s.graph (place_of c.args.a) (place_of c.args.b) c.in-Some.first.now c.in-Some-node.second.now (sym c.in-Some.ensures) (sym c.in-Some-node.ensures) m n p q a in
    at_length (meanings (nodes_of s)) _ (meaning_cmp m n) c.in-Length.longer (r.same k) (of_parts (plain_label c.in-Some.first.now.label) (plain_label c.in-Some-node.second.now.label) c.items.result.now _ c.items-in-Equal.result.now _ _ c.in-Length.ensures c.items.ensures c.items-in-Equal.ensures)

pub returns-in_default : goal.returns-in_default
returns-in_default t c m n p q a =
    let s = c.args.self.now in
    let e : c.compare_labels.result ≡ first_cmp (plain_label c.in-Some.first.now.label) (plain_label c.in-Some-node.second.now.label) = c.compare_labels.ensures in
    let r : Compared (nodes_of s) c.in-Some.first.now c.in-Some-node.second.now m n = compared (nodes_of s) s.graph (place_of c.args.a) (place_of c.args.b) c.in-Some.first.now c.in-Some-node.second.now (sym c.in-Some.ensures) (sym c.in-Some-node.ensures) m n p q a in
    e ∙ r.apart (λ h. c.in_default.not-Equal (e ∙ h))

pub returns-in-None-node : goal.returns-in-None-node
returns-in-None-node t c m n p q a = absurd (none_some n (sym (nothing_past (nodes_of c.args.self.now) (place_of c.args.b) (sym c.in-None-node.ensures)) ∙ q))

pub returns-in-None : goal.returns-in-None
returns-in-None t c m n p q a = absurd (none_some m (sym (nothing_past (nodes_of c.args.self.now) (place_of c.args.a) (sym c.in-None.ensures)) ∙ p))
