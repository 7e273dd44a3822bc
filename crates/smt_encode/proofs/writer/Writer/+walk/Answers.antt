use Rattle.std.proofs.Common.{◌≡◌, ◌<◌, ◌+◌, ◌∷◌, [], IsTrue, List, suc, drop, get_or, length, length-append, map, None, Some, ap, append-nil, arith, rules, sym, subst, refl, ◌∙◌, Ok}
use Rattle.law_terms.specs.Meanings.{all_found, meanings}
use Rattle.law_terms.specs.Parts.{parts_in}
use Rattle.smt_nodes.specs.declared.interner.Interner.{Interner}
use Rattle.std.specs.Io.KnownBytes.{append_known}
use Rattle.law_terms.specs.Parts.{label_in}
use Rattle.law_lines.specs.Fit.{AreObeyable}
use Rattle.law_lines.specs.Line.{Line, spelled_lines}
use Rattle.law_texts.specs.Reading.{Expression}
use Rattle.law_lines.specs.NameTables.{Tables}
use Rattle.law_lines.specs.Lines.{Written, ◌>>=◌}
use Rattle.smt_spelling.specs.NodeEntries.{heading, own_lines, rendering_in, written_parts}
use Rattle.smt_spelling.specs.Renderings.{plain_rendering}
use Rattle.smt_spelling.specs.Whole.{is_typed}
use Rattle.smt_spelling.specs.LookUps.{selections, IsClosed}
use Rattle.law_lines.specs.Lines.{Enums}
use Rattle.smt_encode.specs.Refusals.{write_fault}
use Rattle.smt_encode.specs.Steps.{look_ups_in}
use Rattle.smt_encode.specs.Stopped.{WritesOrStopsHere, WritesOwn}
use Rattle.smt_spelling.specs.TextFaults.{Finds}
use Rattle.smt_spelling.specs.Spelled.{AreSpelled, IsSpelled}
use Rattle.smt_nodes.specs.Interned.{meaning_in, nodes_of}
use Rattle.smt_nodes.specs.View.{place_of, places_of, plain_label, plain_node}
use Rattle.smt_spelling.specs.Names.{enums_under, nodes_under, texts_under}
use Rattle.std.specs.Option.{option_or}
use Rattle.std.specs.Prelude.{is_some, slice_get}
use Rattle.std.specs.Rc.{rc_str_bytes}
use Rattle.smt_spelling.specs.NodeLines.{encode_meaning, encode_meanings, meaning_fault, meanings_fault}
use Rattle.smt_spelling.specs.NodeTexts.{text_at, IsNodeOf}
use Rattle.smt_encode.proofs.Completing.{typed_at}
use Rattle.smt_encode.proofs.Counted.{node_counted}
use Rattle.smt_encode.proofs.Handed.{handed_over}
use Rattle.smt_spelling.proofs.Faulting.{none_is, parts_first}
use Rattle.law_lines.proofs.Single.{no_step}
use Rattle.smt_encode.proofs.Going.{at_found, ends, goes_on, none_left, one_passed, same_enums, starts, stops_at, stops_behind}
use Rattle.smt_encode.proofs.Stepping.{all_formed, formed, heading_steps, meaning_steps, meanings_steps}
use Rattle.smt_encode.proofs.Stopping.{inside_lines, node_written, part_along, stopped_behind, stops_with, unput}
use Rattle.smt_encode.proofs.Walking.{earlier_at, found_written, holds_at, kept_more, parts_back, parts_count, parts_earlier, parts_fewer, parts_found, parts_hold, walks_then, written_all}
use Rattle.smt_spelling.proofs.Built.{built_meaning}
use Rattle.smt_spelling.proofs.LevelTables.{room_stays}
use Rattle.smt_spelling.proofs.Stated.{all_stated}
use Rattle.smt_encode.proofs.Typed.{all_written, parts_typed}
use Rattle.smt_encode.proofs.Writing.{kept_texts, kept_written, unnamed}
use Rattle.smt_encode.proofs.writer.Writer.+walk.Goals as goal

pub encode_all-loop-id-init : goal.encode_all-loop-id-init
encode_all-loop-id-init g t c = record {
  walks = record { counted = search rules; stands = record { enums = refl; nodes = refl; room = record { places = refl; order = omega (arith) }; levels = refl }; kept = λ id x h. h; later = λ id h. refl };
  going = λ ms h s has. starts c.args.self.now ms s c.in_ok-texts.ensures.items has;
  fault = λ ms h. refl;
  kept = ap (map (λ text. Some (rc_str_bytes text))) (sym c.in_ok-texts.ensures.items);
  count = ap length c.in_ok-texts.ensures.items;
  steps = λ has closed all. omega (arith);
}

pub encode_all-encode_node-requires : goal.encode_all-encode_node-requires
encode_all-encode_node-requires g t c κs lives =
    let (ms, h) = c.requires.meant in
    let ns = meanings (nodes_of (nodes_under c.args.self.now.names)) in
    let b : place_of (get_or c.args.ids.now c.loop-id.id-index (record { place = 0 })) < c.args.before = earlier_at c.args.before c.args.ids.now c.loop-id.id-index (record { place = 0 }) c.requires.earlier c.loop-id-test.true in
    let (m, left, meant) = at_found ns c.args.ids.now ms c.loop-id.id-index (record { place = 0 }) h c.loop-id-test.true in
    let d = c.decreases in
    (omega (arith, b, d), (lives.0, (lives.1, ((m, ap (λ i. meaning_in i (get_or c.args.ids.now c.loop-id.id-index (record { place = 0 }))) c.loop-id.invariant.walks.stands.nodes ∙ meant), room_stays c.loop-id.invariant.walks.stands c.requires.room))))

pub encode_all-returns-in_err-push-clause-walks : goal.encode_all-returns-in_err-push-clause-walks
encode_all-returns-in_err-push-clause-walks g t c =
    let b : place_of (get_or c.args.ids.now c.loop-id.id-index (record { place = 0 })) < c.args.before = earlier_at c.args.before c.args.ids.now c.loop-id.id-index (record { place = 0 }) c.requires.earlier c.loop-id-test.true in
    walks_then c.args.before (suc (place_of (get_or c.args.ids.now c.loop-id.id-index (record { place = 0 })))) c.from_residual-in_err-push.result b c.loop-id.invariant.walks c.in_ok-encode_node.ensures.walks (search rules)

pub encode_all-returns-in_err-encode_node-clause-walks : goal.encode_all-returns-in_err-encode_node-clause-walks
encode_all-returns-in_err-encode_node-clause-walks g t c =
    let b : place_of (get_or c.args.ids.now c.loop-id.id-index (record { place = 0 })) < c.args.before = earlier_at c.args.before c.args.ids.now c.loop-id.id-index (record { place = 0 }) c.requires.earlier c.loop-id-test.true in
    walks_then c.args.before (suc (place_of (get_or c.args.ids.now c.loop-id.id-index (record { place = 0 })))) c.from_residual-in_err-encode_node.result b c.loop-id.invariant.walks c.encode_node.ensures.walks (search rules)

pub encode_all-returns-in_err-texts-clause-lines : goal.encode_all-returns-in_err-texts-clause-lines
encode_all-returns-in_err-texts-clause-lines g t c ms h s has = stops_with (encode_meanings (enums_under c.args.self.now.names) ms s) (λ es texts. AreSpelled es texts.items) _ c.from_residual.result c.from_residual.ensures.1 (unput c.args.self.now c.args.self.now _ _ refl has)

pub encode_all-returns-in_err-encode_node-clause-lines : goal.encode_all-returns-in_err-encode_node-clause-lines
encode_all-returns-in_err-encode_node-clause-lines g t c ms h s has =
    let (m, left, meant) = at_found (meanings (nodes_of (nodes_under c.args.self.now.names))) c.args.ids.now ms c.loop-id.id-index (record { place = 0 }) h c.loop-id-test.true in
    let there = ap (λ i. meaning_in i (get_or c.args.ids.now c.loop-id.id-index (record { place = 0 }))) c.loop-id.invariant.walks.stands.nodes ∙ meant in
    let going = c.loop-id.invariant.going ms h s has in
    stops_with (encode_meanings (enums_under c.args.self.now.names) ms s) (λ es texts. AreSpelled es texts.items) c.in_err-encode_node.field-0.0 c.from_residual-in_err-encode_node.result c.from_residual-in_err-encode_node.ensures.1
    (stops_at m c.in_err-encode_node.field-0.0 left going c.loop-id.invariant.walks.stands.enums (typed_at ms c.loop-id.id-index m _ left) (c.in_err-encode_node.ensures.lines m there going.tables going.wrote.names))

pub encode_all-returns-in_err-push-clause-lines : goal.encode_all-returns-in_err-push-clause-lines
encode_all-returns-in_err-push-clause-lines g t c ms h s has =
    let enums = enums_under c.args.self.now.names in
    let (m, left, meant) = at_found (meanings (nodes_of (nodes_under c.args.self.now.names))) c.args.ids.now ms c.loop-id.id-index (record { place = 0 }) h c.loop-id-test.true in
    let there = ap (λ i. meaning_in i (get_or c.args.ids.now c.loop-id.id-index (record { place = 0 }))) c.loop-id.invariant.walks.stands.nodes ∙ meant in
    let going = c.loop-id.invariant.going ms h s has in
    let none = ap (λ e. meaning_fault e m) (sym c.loop-id.invariant.walks.stands.enums) ∙ c.in_ok-encode_node.ensures.fault m there in
    let (wrote, shows) = same_enums m c.in_ok-encode_node.field-0 going.tables c.loop-id.invariant.walks.stands.enums (c.in_ok-encode_node.ensures.lines m there going.tables going.wrote.names) in
    stops_with (encode_meanings (enums_under c.args.self.now.names) ms s) (λ es texts. AreSpelled es texts.items) _ c.from_residual-in_err-push.result c.from_residual-in_err-push.ensures.1
    (stops_behind m _ left going wrote
    (λ typed. meaning_steps enums m going.tables (typed_at ms c.loop-id.id-index m _ left typed) (formed (nodes_under c.args.self.now.names) (get_or c.args.ids.now c.loop-id.id-index (record { place = 0 })) m meant) none))

pub encode_all-returns-in_err-encode_node-clause-fault : goal.encode_all-returns-in_err-encode_node-clause-fault
encode_all-returns-in_err-encode_node-clause-fault g t c ms h =
    let enums = enums_under c.args.self.now.names in
    let (m, left, meant) = at_found (meanings (nodes_of (nodes_under c.args.self.now.names))) c.args.ids.now ms c.loop-id.id-index (record { place = 0 }) h c.loop-id-test.true in
    let there = ap (λ i. meaning_in i (get_or c.args.ids.now c.loop-id.id-index (record { place = 0 }))) c.loop-id.invariant.walks.stands.nodes ∙ meant in
    handed_over _ c.in_err-encode_node.field-0.0 c.from_residual-in_err-encode_node.result c.from_residual-in_err-encode_node.ensures.1
    (λ f k. c.loop-id.invariant.fault ms h ∙ ap (meanings_fault enums) left ∙ ap (λ o. option_or o (meanings_fault enums (drop (c.loop-id.id-index + 1) ms)))
    (ap (λ e. meaning_fault e m) (sym c.loop-id.invariant.walks.stands.enums) ∙ c.in_err-encode_node.ensures.fault m there f k))

pub encode_all-loop-id-preserved : goal.encode_all-loop-id-preserved
encode_all-loop-id-preserved g t c =
    let enums = enums_under c.args.self.now.names in
    let b : place_of (get_or c.args.ids.now c.loop-id.id-index (record { place = 0 })) < c.args.before = earlier_at c.args.before c.args.ids.now c.loop-id.id-index (record { place = 0 }) c.requires.earlier c.loop-id-test.true in
    record {
      walks = walks_then c.args.before (suc (place_of (get_or c.args.ids.now c.loop-id.id-index (record { place = 0 })))) (Ok tt) b c.loop-id.invariant.walks c.in_ok-encode_node.ensures.walks (search rules);
      going = λ ms h s has.
          let (m, left, meant) = at_found (meanings (nodes_of (nodes_under c.args.self.now.names))) c.args.ids.now ms c.loop-id.id-index (record { place = 0 }) h c.loop-id-test.true in
          let there = ap (λ i. meaning_in i (get_or c.args.ids.now c.loop-id.id-index (record { place = 0 }))) c.loop-id.invariant.walks.stands.nodes ∙ meant in
          let going = c.loop-id.invariant.going ms h s has in
          let none = ap (λ e. meaning_fault e m) (sym c.loop-id.invariant.walks.stands.enums) ∙ c.in_ok-encode_node.ensures.fault m there in
          goes_on m c.in_ok-encode_node.field-0 left c.in_ok-push.ensures.items going
          (same_enums m c.in_ok-encode_node.field-0 going.tables c.loop-id.invariant.walks.stands.enums (c.in_ok-encode_node.ensures.lines m there going.tables going.wrote.names))
          (λ typed. meaning_steps enums m going.tables (typed_at ms c.loop-id.id-index m _ left typed) (formed (nodes_under c.args.self.now.names) (get_or c.args.ids.now c.loop-id.id-index (record { place = 0 })) m meant) none);
      fault = λ ms h.
          let (m, left, meant) = at_found (meanings (nodes_of (nodes_under c.args.self.now.names))) c.args.ids.now ms c.loop-id.id-index (record { place = 0 }) h c.loop-id-test.true in
          let there = ap (λ i. meaning_in i (get_or c.args.ids.now c.loop-id.id-index (record { place = 0 }))) c.loop-id.invariant.walks.stands.nodes ∙ meant in
          one_passed enums _ _ ms m left (ap (λ e. meaning_fault e m) (sym c.loop-id.invariant.walks.stands.enums) ∙ c.in_ok-encode_node.ensures.fault m there) (c.loop-id.invariant.fault ms h);
      kept = kept_more c.loop-id.self c.encode_node.new.self c.args.ids.now c.loop-id.id-index (record { place = 0 }) c.loop-id.texts.items c.push.new.self.items c.in_ok-encode_node.field-0 c.loop-id-test.true c.in_ok-encode_node.ensures.walks.kept c.loop-id.invariant.kept c.in_ok-encode_node.ensures.kept c.in_ok-push.ensures.items;
      steps = λ has closed all.
          let here : IsTrue (has (place_of (get_or c.args.ids.now c.loop-id.id-index (record { place = 0 })))) = holds_at (λ place. IsTrue (has place)) c.args.ids.now c.loop-id.id-index (record { place = 0 }) all c.loop-id-test.true in
          let one = c.in_ok-encode_node.ensures.steps has (subst (λ (i : Interner). IsClosed (nodes_of i) has) (sym c.loop-id.invariant.walks.stands.nodes) closed) here in
          let so = c.loop-id.invariant.steps has closed all in
          omega (arith, one, so);
      count = ap length c.in_ok-push.ensures.items ∙ length-append c.loop-id.texts.items (c.in_ok-encode_node.field-0 ∷ []) ∙ ap (λ n. n + 1) c.loop-id.invariant.count;
    }

pub encode_all-returns-clause-lines : goal.encode_all-returns-clause-lines
encode_all-returns-clause-lines g t c ms h s has =
    let none = none_left (meanings (nodes_of (nodes_under c.args.self.now.names))) c.args.ids.now ms c.loop-id.id-index h (omega (arith, c.loop-id-test.false)) in
    let done = ends none (c.loop-id.invariant.going ms h s has) in
    (done.wrote, done.shown)

pub encode_all-returns-clause-fault : goal.encode_all-returns-clause-fault
encode_all-returns-clause-fault g t c ms h =
    c.loop-id.invariant.fault ms h ∙ ap (meanings_fault (enums_under c.args.self.now.names)) (none_left (meanings (nodes_of (nodes_under c.args.self.now.names))) c.args.ids.now ms c.loop-id.id-index h (omega (arith, c.loop-id-test.false)))

pub encode_all-returns-clause-steps : goal.encode_all-returns-clause-steps
encode_all-returns-clause-steps g t c has closed all =
    let so = c.loop-id.invariant.steps has closed all in
    omega (arith, so, c.loop-id.auto.id-index-end, c.loop-id-test.false)

pub encode_new-encode_all-requires : goal.encode_new-encode_all-requires
encode_new-encode_all-requires g t c κs lives =
    let (m, meant) = c.requires.meant in
    let nodes = nodes_under c.args.self.now.names in
    let is : IsNodeOf nodes c.args.id c.in_ok-node.node = c.in_ok-node.ensures in
    let how = c.rendering_of-rendering.ensures c.args.id m (ap (λ i. meaning_in i c.args.id) c.nodes.ensures ∙ meant) (subst (λ (i : Interner). IsNodeOf i c.args.id c.in_ok-node.node) (sym c.nodes.ensures) is) in
    let found = parts_found nodes c.args.id c.in_ok-node.node is m meant (plain_rendering c.rendering_of-rendering.result) how c.items.result.now c.items-2.result.now c.items.ensures (c.items-2.ensures ∙ c.in_ok-parts.ensures) in
    let earlier = parts_earlier nodes c.args.id c.in_ok-node.node is m meant (plain_rendering c.rendering_of-rendering.result) how c.items.result.now c.items-2.result.now c.items.ensures (c.items-2.ensures ∙ c.in_ok-parts.ensures) c.place.result c.place.ensures in
    let d = c.decreases in
    (omega (arith, d, c.place.ensures), (lives.0, (lives.1, (earlier, ((_, found), c.requires.room)))))

pub encode_new-returns-in_err-texts-clause-fault : goal.encode_new-returns-in_err-texts-clause-fault
encode_new-returns-in_err-texts-clause-fault g t c m meant =
    let nodes = nodes_under c.args.self.now.names in
    let is : IsNodeOf nodes c.args.id c.in_ok-node.node = c.in_ok-node.ensures in
    let how = c.rendering_of-rendering.ensures c.args.id m (ap (λ i. meaning_in i c.args.id) c.nodes.ensures ∙ meant) (subst (λ (i : Interner). IsNodeOf i c.args.id c.in_ok-node.node) (sym c.nodes.ensures) is) in
    let found = parts_found nodes c.args.id c.in_ok-node.node is m meant (plain_rendering c.rendering_of-rendering.result) how c.items.result.now c.items-2.result.now c.items.ensures (c.items-2.ensures ∙ c.in_ok-parts.ensures) in
    handed_over _ c.in_err-texts.field-0.0 c.from_residual-in_err-texts.result c.from_residual-in_err-texts.ensures.1
    (λ f k. parts_first (enums_under c.args.self.now.names) m (built_meaning nodes c.args.id m meant) f (c.in_err-texts.ensures.fault _ found f k))

pub encode_new-finish-requires-clause-count : goal.encode_new-finish-requires-clause-count
encode_new-finish-requires-clause-count g t c m there =
    let meant : meaning_in (nodes_under c.args.self.now.names) c.args.id ≡ Some m = ap (λ i. meaning_in i c.args.id) (sym c.in_ok-texts.ensures.walks.stands.nodes) ∙ there in
    let nodes = nodes_under c.args.self.now.names in
    let is : IsNodeOf nodes c.args.id c.in_ok-node.node = c.in_ok-node.ensures in
    let how = c.rendering_of-rendering.ensures c.args.id m (ap (λ i. meaning_in i c.args.id) c.nodes.ensures ∙ meant) (subst (λ (i : Interner). IsNodeOf i c.args.id c.in_ok-node.node) (sym c.nodes.ensures) is) in
    c.in_ok-texts.ensures.count ∙ parts_count nodes c.args.id c.in_ok-node.node is m meant (plain_rendering c.rendering_of-rendering.result) how c.items.result.now c.items-2.result.now c.items.ensures (c.items-2.ensures ∙ c.in_ok-parts.ensures)

pub encode_new-finish-requires-clause-sound : goal.encode_new-finish-requires-clause-sound
encode_new-finish-requires-clause-sound g t c m there =
    let stands = c.in_ok-texts.ensures.walks.stands in
    let meant : meaning_in (nodes_under c.args.self.now.names) c.args.id ≡ Some m = ap (λ i. meaning_in i c.args.id) (sym stands.nodes) ∙ there in
    let nodes = nodes_under c.args.self.now.names in
    let is : IsNodeOf nodes c.args.id c.in_ok-node.node = c.in_ok-node.ensures in
    let how = c.rendering_of-rendering.ensures c.args.id m (ap (λ i. meaning_in i c.args.id) c.nodes.ensures ∙ meant) (subst (λ (i : Interner). IsNodeOf i c.args.id c.in_ok-node.node) (sym c.nodes.ensures) is) in
    let found = parts_found nodes c.args.id c.in_ok-node.node is m meant (plain_rendering c.rendering_of-rendering.result) how c.items.result.now c.items-2.result.now c.items.ensures (c.items-2.ensures ∙ c.in_ok-parts.ensures) in
    ap (λ (e : Enums). meanings_fault e (written_parts (rendering_in m) (parts_in m))) stands.enums ∙ c.in_ok-texts.ensures.fault (written_parts (rendering_in m) (parts_in m)) found

pub encode_new-finish-requires-clause-written : goal.encode_new-finish-requires-clause-written
encode_new-finish-requires-clause-written g t c m s there has =
    let same = c.in_ok-texts.ensures.walks.stands.nodes in
    let meant : meaning_in (nodes_under c.args.self.now.names) c.args.id ≡ Some m = ap (λ i. meaning_in i c.args.id) (sym same) ∙ there in
    let nodes = nodes_under c.args.self.now.names in
    let is : IsNodeOf nodes c.args.id c.in_ok-node.node = c.in_ok-node.ensures in
    let how = c.rendering_of-rendering.ensures c.args.id m (ap (λ i. meaning_in i c.args.id) c.nodes.ensures ∙ meant) (subst (λ (i : Interner). IsNodeOf i c.args.id c.in_ok-node.node) (sym c.nodes.ensures) is) in
    let found = parts_found nodes c.args.id c.in_ok-node.node is m meant (plain_rendering c.rendering_of-rendering.result) how c.items.result.now c.items-2.result.now c.items.ensures (c.items-2.ensures ∙ c.in_ok-parts.ensures) in
    let r = kept_texts c.encode_all.new.self.names s has c.items-2.result.now _ c.in_ok-texts.texts.items (ap (λ i. all_found (meanings (nodes_of i)) (places_of c.items-2.result.now)) same ∙ found) c.in_ok-texts.ensures.kept in
    (r.made, r.shown, r.stated)

pub encode_new-returns-in_err-node-clause-lines : goal.encode_new-returns-in_err-node-clause-lines
encode_new-returns-in_err-node-clause-lines g t c m meant s has = stops_with (encode_meaning (enums_under c.args.self.now.names) m s) IsSpelled _ c.from_residual.result c.from_residual.ensures.1 (unput c.args.self.now c.args.self.now _ _ refl has)

pub encode_new-returns-in_err-parts-clause-lines : goal.encode_new-returns-in_err-parts-clause-lines
encode_new-returns-in_err-parts-clause-lines g t c m meant s has = stops_with (encode_meaning (enums_under c.args.self.now.names) m s) IsSpelled _ c.from_residual-in_err-parts.result c.from_residual-in_err-parts.ensures.1 (unput c.args.self.now c.args.self.now _ _ refl has)

pub encode_new-returns-in_err-put_heading-clause-lines : goal.encode_new-returns-in_err-put_heading-clause-lines
encode_new-returns-in_err-put_heading-clause-lines g t c m meant s has =
    let enums = enums_under c.args.self.now.names in
    let nodes = nodes_under c.args.self.now.names in
    let is : IsNodeOf nodes c.args.id c.in_ok-node.node = c.in_ok-node.ensures in
    let parts = written_parts (rendering_in m) (parts_in m) in
    let stated = all_stated enums m s (built_meaning nodes c.args.id m meant) (unnamed c.args.self.now.names s has c.args.id m meant c.requires.unkept) in
    let w = encode_meanings enums parts s in
    let own : List Expression → Tables → Written Expression = λ es u. own_lines enums m es u in
    let mid = record c.args.self.now { script = c.put_heading.new.script } in
    let part = part_along _ _ _ _ (ap (λ l. spelled_lines (heading l)) (is.label m meant)) c.in_err-put_heading.ensures.err in
    stops_with (encode_meaning (enums_under c.args.self.now.names) m s) IsSpelled _ c.from_residual-in_err-put_heading.result c.from_residual-in_err-put_heading.ensures.1
    (inside_lines c.args.self.now mid (heading (label_in m)) (w >>= own).lines _ s s _ (ap (λ (v : Written Expression). v.lines) (sym stated)) refl part has
    (λ typed. subst (λ (l : List Line). AreObeyable enums s l s) (append-nil (heading (label_in m))) (heading_steps enums (label_in m) s [] s (no_step enums s))))

pub encode_new-returns-in_err-texts-clause-lines : goal.encode_new-returns-in_err-texts-clause-lines
encode_new-returns-in_err-texts-clause-lines g t c m meant s has =
    let enums = enums_under c.args.self.now.names in
    let nodes = nodes_under c.args.self.now.names in
    let is : IsNodeOf nodes c.args.id c.in_ok-node.node = c.in_ok-node.ensures in
    let how = c.rendering_of-rendering.ensures c.args.id m (ap (λ i. meaning_in i c.args.id) c.nodes.ensures ∙ meant) (subst (λ (i : Interner). IsNodeOf i c.args.id c.in_ok-node.node) (sym c.nodes.ensures) is) in
    let found = parts_found nodes c.args.id c.in_ok-node.node is m meant (plain_rendering c.rendering_of-rendering.result) how c.items.result.now c.items-2.result.now c.items.ensures (c.items-2.ensures ∙ c.in_ok-parts.ensures) in
    let parts = written_parts (rendering_in m) (parts_in m) in
    let stated = all_stated enums m s (built_meaning nodes c.args.id m meant) (unnamed c.args.self.now.names s has c.args.id m meant c.requires.unkept) in
    let w = encode_meanings enums parts s in
    let own : List Expression → Tables → Written Expression = λ es u. own_lines enums m es u in
    let mid = record c.args.self.now { script = c.put_heading.new.script } in
    let put = c.in_ok-put_heading.ensures.ok ∙ ap (λ l. append_known (g.S.Sink.contents c.args.self.now.script) (spelled_lines (heading l))) (is.label m meant) in
    let inside = λ (typed : IsTrue (is_typed m)). written_all (λ m. IsTrue (is_typed m)) (rendering_in m) (parts_in m) (parts_typed m typed) in
    stops_with (encode_meaning (enums_under c.args.self.now.names) m s) IsSpelled c.in_err-texts.field-0.0 c.from_residual-in_err-texts.result c.from_residual-in_err-texts.ensures.1
    (stopped_behind c.args.self.now mid c.encode_all.new.self (heading (label_in m)) w.lines (own w.made w.tables).lines _ s c.in_err-texts.field-0.0 (ap (λ (v : Written Expression). v.lines) (sym stated)) put
    (λ typed. subst (λ (l : List Line). AreObeyable enums s l s) (append-nil (heading (label_in m))) (heading_steps enums (label_in m) s [] s (no_step enums s))) inside (c.in_err-texts.ensures.lines parts found s has))

pub encode_new-returns-clause-lines : goal.encode_new-returns-clause-lines
encode_new-returns-clause-lines g t c m meant s has =
    let enums = enums_under c.args.self.now.names in
    let nodes = nodes_under c.args.self.now.names in
    let is : IsNodeOf nodes c.args.id c.in_ok-node.node = c.in_ok-node.ensures in
    let how = c.rendering_of-rendering.ensures c.args.id m (ap (λ i. meaning_in i c.args.id) c.nodes.ensures ∙ meant) (subst (λ (i : Interner). IsNodeOf i c.args.id c.in_ok-node.node) (sym c.nodes.ensures) is) in
    let found = parts_found nodes c.args.id c.in_ok-node.node is m meant (plain_rendering c.rendering_of-rendering.result) how c.items.result.now c.items-2.result.now c.items.ensures (c.items-2.ensures ∙ c.in_ok-parts.ensures) in
    let parts = written_parts (rendering_in m) (parts_in m) in
    let stated = all_stated enums m s (built_meaning nodes c.args.id m meant) (unnamed c.args.self.now.names s has c.args.id m meant c.requires.unkept) in
    let w = encode_meanings enums parts s in
    let own : List Expression → Tables → Written Expression = λ es u. own_lines enums m es u in
    let mid = record c.args.self.now { script = c.put_heading.new.script } in
    let wrote = c.in_ok-texts.ensures.lines parts found s has in
    let walked = c.in_ok-texts.ensures.walks.stands in
    let there : meaning_in (nodes_under c.encode_all.new.self.names) c.args.id ≡ Some m = ap (λ i. meaning_in i c.args.id) walked.nodes ∙ meant in
    let put = c.in_ok-put_heading.ensures.ok ∙ ap (λ l. append_known (g.S.Sink.contents c.args.self.now.script) (spelled_lines (heading l))) (is.label m meant) in
    let finished : WritesOwn g.S.Sink.contents (meaning_fault enums m) c.encode_all.new.self c.finish.new.self (own w.made w.tables) IsSpelled c.finish.result =
    subst (λ (e : Enums). WritesOwn g.S.Sink.contents (meaning_fault e m) c.encode_all.new.self c.finish.new.self (own_lines e m w.made w.tables) IsSpelled c.finish.result) walked.enums (c.finish.ensures.lines m w.made w.tables there wrote.1 wrote.0.names) in
    let finds = subst (λ (e : Enums). Finds write_fault (meaning_fault e m) c.finish.result) walked.enums (c.finish.ensures.fault m there) in
    let front = λ (typed : IsTrue (is_typed m)). heading_steps enums (label_in m) s w.lines w.tables
    (meanings_steps enums parts s (written_all (λ m. IsTrue (is_typed m)) (rendering_in m) (parts_in m) (parts_typed m typed)) (all_formed nodes (places_of c.items-2.result.now) parts found) (c.in_ok-texts.ensures.fault parts found)) in
    let whole = λ (typed : IsTrue (is_typed m)) (none : meaning_fault enums m ≡ None). subst (λ (v : Written Expression). AreObeyable enums s v.lines v.tables) stated (meaning_steps enums m s typed (formed nodes c.args.id m meant) none) in
    subst (λ (v : Written Expression). WritesOrStopsHere g.S.Sink.contents enums (IsTrue (is_typed m)) s c.args.self.now c.finish.new.self v IsSpelled c.finish.result) (sym stated)
    (node_written c.args.self.now mid c.encode_all.new.self c.finish.new.self (heading (label_in m)) w own IsSpelled (meaning_fault enums m) c.finish.result put wrote.0 finished finds front whole)

pub encode_new-finish-requires-clause-parts : goal.encode_new-finish-requires-clause-parts
encode_new-finish-requires-clause-parts g t c m there typed =
    let same = c.in_ok-texts.ensures.walks.stands.nodes in
    let meant : meaning_in (nodes_under c.args.self.now.names) c.args.id ≡ Some m = ap (λ i. meaning_in i c.args.id) (sym same) ∙ there in
    let nodes = nodes_under c.args.self.now.names in
    let is : IsNodeOf nodes c.args.id c.in_ok-node.node = c.in_ok-node.ensures in
    let how = c.rendering_of-rendering.ensures c.args.id m (ap (λ i. meaning_in i c.args.id) c.nodes.ensures ∙ meant) (subst (λ (i : Interner). IsNodeOf i c.args.id c.in_ok-node.node) (sym c.nodes.ensures) is) in
    let found = parts_found nodes c.args.id c.in_ok-node.node is m meant (plain_rendering c.rendering_of-rendering.result) how c.items.result.now c.items-2.result.now c.items.ensures (c.items-2.ensures ∙ c.in_ok-parts.ensures) in
    parts_back _ (rendering_in m) (parts_in m) (all_written m typed (parts_in m))
    (found_written (nodes_under c.encode_all.new.self.names) (texts_under c.encode_all.new.self.names) c.items-2.result.now (written_parts (rendering_in m) (parts_in m)) c.in_ok-texts.texts.items (ap (λ i. all_found (meanings (nodes_of i)) (places_of c.items-2.result.now)) same ∙ found) c.in_ok-texts.ensures.kept)

pub encode_new-returns-clause-steps : goal.encode_new-returns-clause-steps
encode_new-returns-clause-steps g t c has closed here =
    let (m, meant) = c.requires.meant in
    let nodes = nodes_under c.args.self.now.names in
    let is : IsNodeOf nodes c.args.id c.in_ok-node.node = c.in_ok-node.ensures in
    let how = c.rendering_of-rendering.ensures c.args.id m (ap (λ i. meaning_in i c.args.id) c.nodes.ensures ∙ meant) (subst (λ (i : Interner). IsNodeOf i c.args.id c.in_ok-node.node) (sym c.nodes.ensures) is) in
    let inside = parts_hold nodes c.args.id c.in_ok-node.node is m meant (plain_rendering c.rendering_of-rendering.result) how c.items.result.now c.items-2.result.now c.items.ensures (c.items-2.ensures ∙ c.in_ok-parts.ensures) (λ place. IsTrue (has place)) (closed (place_of c.args.id) (plain_node c.in_ok-node.node) is.there here) in
    let fewer = parts_fewer nodes c.args.id c.in_ok-node.node is m meant (plain_rendering c.rendering_of-rendering.result) how c.items.result.now c.items-2.result.now c.items.ensures (c.items-2.ensures ∙ c.in_ok-parts.ensures) in
    let walked = c.in_ok-texts.ensures.walks in
    let there = ap (λ i. slice_get (nodes_of i) (place_of c.args.id)) walked.stands.nodes ∙ is.there in
    let none = walked.later c.args.id (omega (arith, c.place.ensures)) ∙ c.requires.unkept in
    let walked_steps = c.in_ok-texts.ensures.steps has closed inside in
    node_counted has c.encode_all.new.self c.finish.new.self c.args.id (plain_node c.in_ok-node.node) c.finish.result c.args.steps.now c.finish.new.steps (length c.items-2.result.now + selections (plain_label c.in_ok-node.node.label)) (look_ups_in has c.args.self.now)
    c.finish.ensures.walks.stands.nodes there here none c.finish.ensures.walks.kept c.finish.ensures.kept (omega (arith, fewer)) (omega (arith, walked_steps, c.finish.ensures.steps))

pub encode_node-returns-in_err-clone-in-Some-clause-lines : goal.encode_node-returns-in_err-clone-in-Some-clause-lines
encode_node-returns-in_err-clone-in-Some-clause-lines g t c m meant s has = stops_with (encode_meaning (enums_under c.args.self.now.names) m s) IsSpelled _ c.from_residual.result c.from_residual.ensures.1 (unput c.args.self.now c.args.self.now _ _ refl has)

pub encode_node-returns-in_ok-clone-in-Some-clause-lines : goal.encode_node-returns-in_ok-clone-in-Some-clause-lines
encode_node-returns-in_ok-clone-in-Some-clause-lines g t c m meant s has =
    let there : text_at c.args.self.now.names.texts c.args.id ≡ Some (rc_str_bytes c.in_ok-clone-in-Some.field-0) = sym c.in-Some.ensures.text ∙ ap Some (sym c.in_ok-clone-in-Some.ensures.cases) in
    kept_written c.args.self.now s c.args.id m c.in_ok-clone-in-Some.field-0 has meant there

pub encode_node-returns-in_ok-clone-in-Some-clause-fault : goal.encode_node-returns-in_ok-clone-in-Some-clause-fault
encode_node-returns-in_ok-clone-in-Some-clause-fault g t c m meant =
    none_is (meaning_fault (enums_under c.args.self.now.names) m) (c.args.self.now.names.sound.sound c.args.id m meant (ap is_some (sym c.in-Some.ensures.text)))
