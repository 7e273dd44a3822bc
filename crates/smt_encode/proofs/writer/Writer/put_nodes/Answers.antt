use Rattle.std.proofs.Common.{◌≡◌, List, arith, length, map, refl, ap, sym, subst, ◌∙◌}
use Rattle.std.specs.Rc.{rc_str_bytes}
use Rattle.law_terms.specs.Meanings.{all_found, meanings}
use Rattle.law_terms.specs.Nodes.{TermMeaning}
use Rattle.smt_nodes.specs.Interned.{nodes_of}
use Rattle.smt_nodes.specs.declared.interner.Interner.{Interner}
use Rattle.smt_nodes.specs.View.{places_of}
use Rattle.law_terms.specs.Plain.{terms}
use Rattle.law_lines.specs.Lines.{Enums, Written, beginning, encode_terms}
use Rattle.law_texts.specs.Reading.{Expression}
use Rattle.smt_encode.specs.Complete.{AreWritten}
use Rattle.smt_spelling.specs.NodeTexts.{kept_below, kept_now}
use Rattle.smt_spelling.specs.Whole.{IsWritten}
use mathlib.Core.Logic.{∥∥₁_map}
use Rattle.smt_spelling.specs.Names.{enums_under, nodes_under, texts_under, KeepTables}
use Rattle.smt_spelling.specs.LookUps.{look_ups, IsClosed}
use Rattle.smt_spelling.specs.NodeLines.{encode_meanings, meanings_fault}
use Rattle.smt_spelling.specs.declared.names.Names.{Names}
use Rattle.smt_encode.specs.Steps.{Wrote}
use Rattle.smt_spelling.specs.Spelled.{AreSpelled}
use Rattle.smt_encode.proofs.Walking.{found_written, of_terms}
use Rattle.smt_encode.proofs.Counted.{left_within}
use Rattle.smt_encode.proofs.Handed.{handed_over}
use Rattle.smt_spelling.proofs.Listing.{all_within, terms_fault_is, terms_stated}
use Rattle.smt_encode.specs.Complete.{AreTypedMeanings}
use Rattle.smt_encode.specs.Stopped.{AreObeyed, Stopped}
use Rattle.smt_encode.proofs.Conditions.{stand_formed}
use Rattle.smt_encode.proofs.OneCall.{if_err_is}
use Rattle.smt_encode.proofs.Cut.{on_err, script_in_assertions, script_in_terms, script_unput}
use Rattle.smt_encode.proofs.Lines.{wrote_then}
use Rattle.smt_encode.proofs.Scripted.{scripted}
use Rattle.smt_encode.proofs.Stopping.{never, none_of_it}
use Rattle.smt_encode.proofs.writer.Writer.put_nodes.Goals as goal

pub encode_all-requires-clause-earlier : goal.encode_all-requires-clause-earlier
encode_all-requires-clause-earlier g c =
    let (ts, stand) = c.requires.stand in
    let same : nodes_under c.begin.new.self.names ≡ nodes_under c.args.self.now.names = ap (λ (n : Names). n.nodes) c.in_ok-begin.ensures.lines.same_names ∙ c.in_ok-make_room.ensures.nodes in
    all_within (nodes_of (nodes_under c.args.self.now.names)) (places_of c.args.ids.now) _ c.len-nodes.result (c.len-nodes.ensures ∙ ap (λ i. length (nodes_of i)) (c.nodes.ensures ∙ same)) stand

pub encode_all-requires-clause-meant : goal.encode_all-requires-clause-meant
encode_all-requires-clause-meant g c =
    let (ts, stand) = c.requires.stand in
    let same : nodes_under c.begin.new.self.names ≡ nodes_under c.args.self.now.names = ap (λ (n : Names). n.nodes) c.in_ok-begin.ensures.lines.same_names ∙ c.in_ok-make_room.ensures.nodes in
    (map TermMeaning ts, ap (λ i. all_found (meanings (nodes_of i)) (places_of c.args.ids.now)) same ∙ stand)

pub returns-in_err-texts-clause-fault : goal.returns-in_err-texts-clause-fault
returns-in_err-texts-clause-fault g c ts stand =
    let same : nodes_under c.begin.new.self.names ≡ nodes_under c.args.self.now.names = ap (λ (n : Names). n.nodes) c.in_ok-begin.ensures.lines.same_names ∙ c.in_ok-make_room.ensures.nodes in
    let there = ap (λ i. all_found (meanings (nodes_of i)) (places_of c.args.ids.now)) same ∙ stand in
    let enums : enums_under c.begin.new.self.names ≡ enums_under c.args.self.now.names = ap (λ (n : Names). enums_under n) c.in_ok-begin.ensures.lines.same_names ∙ c.in_ok-make_room.ensures.enums in
    handed_over _ c.in_err-texts.field-0.0 c.from_residual-in_err-texts.result c.from_residual-in_err-texts.ensures.1
    (λ f k. sym (terms_fault_is (enums_under c.args.self.now.names) ts) ∙ ap (λ e. meanings_fault e (map TermMeaning ts)) (sym enums) ∙ c.in_err-texts.ensures.fault (map TermMeaning ts) there f k)

pub returns-clause-lines : goal.returns-clause-lines
returns-clause-lines g c ts stand s has =
    let mine = enums_under c.args.self.now.names in
    let same : nodes_under c.begin.new.self.names ≡ nodes_under c.args.self.now.names = ap (λ (n : Names). n.nodes) c.in_ok-begin.ensures.lines.same_names ∙ c.in_ok-make_room.ensures.nodes in
    let there = ap (λ i. all_found (meanings (nodes_of i)) (places_of c.args.ids.now)) same ∙ stand in
    let enums : enums_under c.begin.new.self.names ≡ mine = ap (λ (n : Names). enums_under n) c.in_ok-begin.ensures.lines.same_names ∙ c.in_ok-make_room.ensures.enums in
    let roomy = c.in_ok-make_room.ensures.tables s has in
    let head : Wrote g.S.Sink.contents c.args.self.now c.begin.new.self (beginning c.args.begun) s = record { names = subst (λ (n : Names). KeepTables n s) (sym c.in_ok-begin.ensures.lines.same_names) roomy; contents_are = c.in_ok-begin.ensures.lines.got } in
    let lines = subst (λ (w : Written (List Expression)). Wrote g.S.Sink.contents c.begin.new.self c.encode_all.new.self w.lines w.tables × AreSpelled w.made c.in_ok-texts.texts.items)
    (ap (λ (e : Enums). encode_meanings e (map TermMeaning ts) s) enums ∙ terms_stated mine ts s) (c.in_ok-texts.ensures.lines (map TermMeaning ts) there s head.names) in
    let u = encode_terms mine (terms ts) s in
    scripted _ c.args.begun mine ts s head lines.0 (c.in_ok-put_assertions.ensures.lines u.tables u.made lines.0.names (ap (map rc_str_bytes) c.as_slice.ensures.value ∙ lines.1))

pub returns-clause-written : goal.returns-clause-written
returns-clause-written g c ts stand =
    let same : nodes_under c.begin.new.self.names ≡ nodes_under c.args.self.now.names = ap (λ (n : Names). n.nodes) c.in_ok-begin.ensures.lines.same_names ∙ c.in_ok-make_room.ensures.nodes in
    let there = ap (λ i. all_found (meanings (nodes_of i)) (places_of c.args.ids.now)) (c.in_ok-texts.ensures.walks.stands.nodes ∙ same) ∙ stand in
    let names = c.encode_all.new.self.names in
    let given = of_terms (IsWritten names.nodes (kept_now names.texts).texts) ts (found_written names.nodes names.texts c.args.ids.now (map TermMeaning ts) c.in_ok-texts.texts.items there c.in_ok-texts.ensures.kept) in
    subst (λ (n : Names). AreWritten n.nodes n.texts ts) (sym c.put_assertions.ensures.names) (record { given = given; closed = ∥∥₁_map names.whole (λ h. h.0) })

pub returns-clause-levels : goal.returns-clause-levels
returns-clause-levels g c =
    ap (λ (n : Names). kept_below n.texts) c.put_assertions.ensures.names ∙ c.in_ok-texts.ensures.walks.stands.levels ∙ ap (λ (n : Names). kept_below n.texts) c.in_ok-begin.ensures.lines.same_names ∙ c.in_ok-make_room.ensures.below

pub returns-clause-steps : goal.returns-clause-steps
returns-clause-steps g c has closed all =
    let same : nodes_under c.begin.new.self.names ≡ nodes_under c.args.self.now.names = ap (λ (n : Names). n.nodes) c.in_ok-begin.ensures.lines.same_names ∙ c.in_ok-make_room.ensures.nodes in
    let walked = c.in_ok-texts.ensures.steps has (subst (λ (i : Interner). IsClosed (nodes_of i) has) (sym same) closed) all in
    let within = left_within has (nodes_under c.begin.new.self.names) (texts_under c.begin.new.self.names) in
    let e = ap (λ (i : Interner). look_ups has (nodes_of i)) same in
    omega (arith, walked, within, e)

pub returns-clause-fault : goal.returns-clause-fault
returns-clause-fault g c ts stand =
    let same : nodes_under c.begin.new.self.names ≡ nodes_under c.args.self.now.names = ap (λ (n : Names). n.nodes) c.in_ok-begin.ensures.lines.same_names ∙ c.in_ok-make_room.ensures.nodes in
    let there = ap (λ i. all_found (meanings (nodes_of i)) (places_of c.args.ids.now)) same ∙ stand in
    let enums : enums_under c.begin.new.self.names ≡ enums_under c.args.self.now.names = ap (λ (n : Names). enums_under n) c.in_ok-begin.ensures.lines.same_names ∙ c.in_ok-make_room.ensures.enums in
    sym (terms_fault_is (enums_under c.args.self.now.names) ts) ∙ ap (λ e. meanings_fault e (map TermMeaning ts)) (sym enums) ∙ c.in_ok-texts.ensures.fault (map TermMeaning ts) there

pub returns-in_err-make_room-clause-stopped : goal.returns-in_err-make_room-clause-stopped
returns-in_err-make_room-clause-stopped g c ts s stand has =
    if_err_is _ c.from_residual.result _ c.from_residual.ensures.1
    (script_unput (enums_under c.args.self.now.names) c.args.begun s ts c.args.self.now _ _ s (none_of_it (g.S.Sink.contents c.args.self.now.script) _ _ refl) never (c.make_room.ensures.tables s has))

pub returns-in_err-begin-clause-stopped : goal.returns-in_err-begin-clause-stopped
returns-in_err-begin-clause-stopped g c ts s stand has =
    if_err_is _ c.from_residual-in_err-begin.result _ c.from_residual-in_err-begin.ensures.1
    (script_unput (enums_under c.args.self.now.names) c.args.begun s ts c.args.self.now c.begin.new.self _ s c.in_err-begin.ensures.part (λ f h. never f (c.in_err-begin.ensures.fault f h))
    (subst (λ (n : Names). KeepTables n s) (sym c.in_err-begin.ensures.lines.same_names) (c.make_room.ensures.tables s has)))

pub returns-in_err-texts-clause-stopped : goal.returns-in_err-texts-clause-stopped
returns-in_err-texts-clause-stopped g c ts s stand has =
    let mine = enums_under c.args.self.now.names in
    let same : nodes_under c.begin.new.self.names ≡ nodes_under c.args.self.now.names = ap (λ (n : Names). n.nodes) c.in_ok-begin.ensures.lines.same_names ∙ c.in_ok-make_room.ensures.nodes in
    let there = ap (λ i. all_found (meanings (nodes_of i)) (places_of c.args.ids.now)) same ∙ stand in
    let enums : enums_under c.begin.new.self.names ≡ mine = ap (λ (n : Names). enums_under n) c.in_ok-begin.ensures.lines.same_names ∙ c.in_ok-make_room.ensures.enums in
    let roomy = subst (λ (n : Names). KeepTables n s) (sym c.in_ok-begin.ensures.lines.same_names) (c.in_ok-make_room.ensures.tables s has) in
    let st = c.in_err-texts.ensures.lines (map TermMeaning ts) there s roomy in
    let there_stopped = subst (λ (w : Written (List Expression)). Stopped g.S.Sink.contents (AreObeyed mine (AreTypedMeanings (map TermMeaning ts)) s) c.begin.new.self c.encode_all.new.self w.lines c.in_err-texts.field-0.0) (terms_stated mine ts s)
    (subst (λ (e : Enums). Stopped g.S.Sink.contents (AreObeyed e (AreTypedMeanings (map TermMeaning ts)) s) c.begin.new.self c.encode_all.new.self (encode_meanings e (map TermMeaning ts) s).lines c.in_err-texts.field-0.0) enums st) in
    if_err_is _ c.from_residual-in_err-texts.result _ c.from_residual-in_err-texts.ensures.1
    (script_in_terms mine c.args.begun s ts c.args.self.now c.begin.new.self c.encode_all.new.self c.in_err-texts.field-0.0 c.in_ok-begin.ensures.lines.got there_stopped)

pub returns-in_err-put_assertions-clause-stopped : goal.returns-in_err-put_assertions-clause-stopped
returns-in_err-put_assertions-clause-stopped g c ts s stand has =
    let mine = enums_under c.args.self.now.names in
    let same : nodes_under c.begin.new.self.names ≡ nodes_under c.args.self.now.names = ap (λ (n : Names). n.nodes) c.in_ok-begin.ensures.lines.same_names ∙ c.in_ok-make_room.ensures.nodes in
    let there = ap (λ i. all_found (meanings (nodes_of i)) (places_of c.args.ids.now)) same ∙ stand in
    let enums : enums_under c.begin.new.self.names ≡ mine = ap (λ (n : Names). enums_under n) c.in_ok-begin.ensures.lines.same_names ∙ c.in_ok-make_room.ensures.enums in
    let roomy = subst (λ (n : Names). KeepTables n s) (sym c.in_ok-begin.ensures.lines.same_names) (c.in_ok-make_room.ensures.tables s has) in
    let head : Wrote g.S.Sink.contents c.args.self.now c.begin.new.self (beginning c.args.begun) s = record { names = roomy; contents_are = c.in_ok-begin.ensures.lines.got } in
    let lines = subst (λ (w : Written (List Expression)). Wrote g.S.Sink.contents c.begin.new.self c.encode_all.new.self w.lines w.tables × AreSpelled w.made c.in_ok-texts.texts.items)
    (ap (λ (e : Enums). encode_meanings e (map TermMeaning ts) s) enums ∙ terms_stated mine ts s) (c.in_ok-texts.ensures.lines (map TermMeaning ts) there s roomy) in
    let u = encode_terms mine (terms ts) s in
    let none = sym (terms_fault_is mine ts) ∙ ap (λ e. meanings_fault e (map TermMeaning ts)) (sym enums) ∙ c.in_ok-texts.ensures.fault (map TermMeaning ts) there in
    let part = on_err c.put_assertions.result c.in_err-put_assertions.field-0.0 c.in_err-put_assertions.was (c.put_assertions.ensures.part u.tables u.made lines.0.names (ap (map rc_str_bytes) c.as_slice.ensures.value ∙ lines.1)) in
    if_err_is _ c.from_residual-in_err-put_assertions.result _ c.from_residual-in_err-put_assertions.ensures.1
    (script_in_assertions mine c.args.begun s ts c.args.self.now c.encode_all.new.self c.put_assertions.new.self _ u.tables (stand_formed (nodes_under c.args.self.now.names) c.args.ids.now ts stand) none (wrote_then head lines.0).contents_are part never
    (subst (λ (n : Names). KeepTables n u.tables) (sym c.put_assertions.ensures.names) lines.0.names))
