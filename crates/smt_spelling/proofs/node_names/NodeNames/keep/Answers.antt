use Rattle.std.proofs.Common.{◌≡◌, ◌∷◌, [], ℕ, ◌<◌, Some, None, ap, sym, subst, arith, length, length-append, reverse, set as placed, ◌∙◌}
use Rattle.std.specs.Rc.{rc_str_bytes}
use Rattle.smt_nodes.specs.View.{place_of}
use Rattle.smt_spelling.specs.Texts.{kept_at, IsKept}
use Rattle.smt_spelling.proofs.Kept.{set, spare}
use Rattle.smt_spelling.proofs.Levels.{levels_kept}
use Rattle.smt_spelling.proofs.Marks.{more_kept}
use Rattle.smt_spelling.proofs.node_names.NodeNames.keep.Goals as goal

pub push_reserved-requires : goal.push_reserved-requires
push_reserved-requires c =
    let names = c.args.self.now in
    omega (arith, names.ordered, spare names.texts.items (place_of c.args.id) c.requires.room c.requires.unkept, c.requires.order, names.order.ok)

pub invariant_of-self : goal.invariant_of-self
invariant_of-self c =
    let names = c.args.self.now in
    let texts = names.texts.items in
    let room : c.place.result < length texts = omega (arith, c.place.ensures, c.requires.room) in
    let unkept : kept_at texts c.place.result ≡ None = ap (kept_at texts) c.place.ensures ∙ c.requires.unkept in
    let k : IsKept texts (placed texts c.place.result (Some c.args.text)) c.place.result (rc_str_bytes c.args.text) = set texts c.place.result c.args.text room unkept in
    let order = ap length c.push_reserved.ensures.items in
    let longer = length-append names.order.items (c.args.id ∷ []) in
    record {
      named = omega (arith, order, longer, names.named);
      ordered = omega (arith, order, longer, k.one_more, names.ordered);
      marked = more_kept (length names.order.items) (length c.push_reserved.new.self.items) (reverse names.marks.items) (omega (arith, order, longer)) names.marked;
    }

pub returns-clause-kept : goal.returns-clause-kept
returns-clause-kept c =
    let texts = c.args.self.now.texts.items in
    let P : ℕ → Type 0 = λ i. IsKept texts (placed texts i (Some c.args.text)) (place_of c.args.id) (rc_str_bytes c.args.text) in
    subst P (sym c.place.ensures) (set texts (place_of c.args.id) c.args.text c.requires.room c.requires.unkept)

pub returns-clause-levels : goal.returns-clause-levels
returns-clause-levels c =
    let names = c.args.self.now in
    levels_kept names.texts.items _ names.order.items _ names.marks.items c.args.id names.marked c.requires.unkept (returns-clause-kept c).others c.push_reserved.ensures.items
