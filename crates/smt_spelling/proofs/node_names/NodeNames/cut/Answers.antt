use Rattle.std.proofs.Common.{◌≤◌, ◌∷◌, List, [], ap, sym, subst, ◌∙◌, length, length-append, reverse, arith}
use Rattle.std.proofs.lemmas.Bool.{false≢true}
use Rattle.smt_spelling.specs.Marks.{AreMarks}
use Rattle.smt_spelling.specs.declared.node_names.Mark.{Mark}
use Rattle.smt_spelling.proofs.Kept.{as_many, cleared, cleared_count, none_past, not_below}
use Rattle.smt_spelling.proofs.Levels.{one_left}
use Rattle.smt_spelling.proofs.Marks.{more_kept}
use Rattle.smt_spelling.proofs.node_names.NodeNames.cut.Goals as goal

pub invariant_of-self : goal.invariant_of-self
invariant_of-self c =
    let texts = c.loop-self.self.texts.items in
    let order = c.take_last-id.new.self.items in
    let is = c.loop-self.invariant in
    let within : c.args.kept ≤ length order = omega (arith, ap length c.take_last-id.ensures.items, length-append order (c.take_last-id.result ∷ []), c.loop-self-test.true, c.len.ensures, c.loop-self.self.order.ok) in
    record {
      named = omega (arith, within, is.terms, is.types, is.functions, c.requires.named);
      ordered = omega (arith, ap length c.take_last-id.ensures.items, length-append order (c.take_last-id.result ∷ []), cleared_count texts c.place.result, c.loop-self.self.ordered);
      marked = subst (λ (marks : List Mark). AreMarks (length order) (reverse marks)) (sym is.marks) (more_kept c.args.kept (length order) (reverse c.args.self.now.marks.items) within c.requires.marked);
    }

pub invariant_of-self-in_default : goal.invariant_of-self-in_default
invariant_of-self-in_default c =
    let texts = c.loop-self.self.texts.items in
    let order = c.take_last-id.new.self.items in
    let is = c.loop-self.invariant in
    let within : c.args.kept ≤ length order = omega (arith, ap length c.take_last-id.ensures.items, length-append order (c.take_last-id.result ∷ []), c.loop-self-test.true, c.len.ensures, c.loop-self.self.order.ok) in
    record {
      named = omega (arith, within, is.terms, is.types, is.functions, c.requires.named);
      ordered = omega (arith, ap length c.take_last-id.ensures.items, length-append order (c.take_last-id.result ∷ []), c.loop-self.self.ordered);
      marked = subst (λ (marks : List Mark). AreMarks (length order) (reverse marks)) (sym is.marks) (more_kept c.args.kept (length order) (reverse c.args.self.now.marks.items) within c.requires.marked);
    }

pub loop-self-preserved-in-Some : goal.loop-self-preserved-in-Some
loop-self-preserved-in-Some c =
    let texts = c.loop-self.self.texts.items in
    let order = c.take_last-id.new.self.items in
    let is = c.loop-self.invariant in
    let within : c.args.kept ≤ length order = omega (arith, ap length c.take_last-id.ensures.items, length-append order (c.take_last-id.result ∷ []), c.loop-self-test.true, c.len.ensures, c.loop-self.self.order.ok) in
    record {
      within = within;
      left = one_left c.args.self.now.texts.items texts _ c.args.self.now.order.items c.loop-self.self.order.items order c.take_last-id.result c.place.result is.left c.take_last-id.ensures.items c.place.ensures (cleared texts c.place.result);
      marks = is.marks;
      places = as_many texts c.place.result _ ∙ is.places;
      order = c.take_last-id.ensures.capacity ∙ is.order;
      terms = is.terms;
      types = is.types;
      functions = is.functions;
    }

pub loop-self-preserved-in-Some-2 : goal.loop-self-preserved-in-Some-2
loop-self-preserved-in-Some-2 c =
    let texts = c.loop-self.self.texts.items in
    let order = c.take_last-id.new.self.items in
    let is = c.loop-self.invariant in
    let within : c.args.kept ≤ length order = omega (arith, ap length c.take_last-id.ensures.items, length-append order (c.take_last-id.result ∷ []), c.loop-self-test.true, c.len.ensures, c.loop-self.self.order.ok) in
    record {
      within = within;
      left = one_left c.args.self.now.texts.items texts _ c.args.self.now.order.items c.loop-self.self.order.items order c.take_last-id.result c.place.result is.left c.take_last-id.ensures.items c.place.ensures (cleared texts c.place.result);
      marks = is.marks;
      places = as_many texts c.place.result _ ∙ is.places;
      order = c.take_last-id.ensures.capacity ∙ is.order;
      terms = is.terms;
      types = is.types;
      functions = is.functions;
    }

pub loop-self-preserved : goal.loop-self-preserved
loop-self-preserved c =
    let texts = c.loop-self.self.texts.items in
    let order = c.take_last-id.new.self.items in
    let is = c.loop-self.invariant in
    let within : c.args.kept ≤ length order = omega (arith, ap length c.take_last-id.ensures.items, length-append order (c.take_last-id.result ∷ []), c.loop-self-test.true, c.len.ensures, c.loop-self.self.order.ok) in
    let out : length texts ≤ c.place.result = not_below c.place.result (length texts) (λ h. false≢true (c.in_default.ensures.variant.1 (omega (arith, h, c.loop-self.self.texts.ok)))) in
    record {
      within = within;
      left = one_left c.args.self.now.texts.items texts _ c.args.self.now.order.items c.loop-self.self.order.items order c.take_last-id.result c.place.result is.left c.take_last-id.ensures.items c.place.ensures (λ place. none_past texts c.place.result place out);
      marks = is.marks;
      places = is.places;
      order = c.take_last-id.ensures.capacity ∙ is.order;
      terms = is.terms;
      types = is.types;
      functions = is.functions;
    }
