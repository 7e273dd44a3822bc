use Rattle.std.proofs.Common.{◌≡◌, ℕ, true, List, Option, Some, None, length, map, ap, refl, sym, subst, ◌∙◌}
use Rattle.std.specs.Prelude.{is_some}
use Rattle.law_terms.specs.Nodes.{PlainLabel}
use Rattle.law_terms.specs.Parts.{label_in}
use Rattle.smt_nodes.specs.View.{plain_label}
use Rattle.smt_spelling.specs.Names.{enums_under, nodes_under, KeepTables}
use Rattle.smt_spelling.specs.NodeEntries.{entry_fault, has_inline, inline_by, inline_fault, own_lines, rendering_in}
use Rattle.smt_spelling.specs.Entries.{SaysInline}
use Rattle.smt_spelling.specs.NodeTexts.{IsText}
use Rattle.smt_spelling.specs.Spelled.{AreSpelled, IsSpelled}
use Rattle.law_texts.specs.Reading.{Expression}
use Rattle.smt_script.proofs.PutsLemmas.{appends_nothing}
use Rattle.std.specs.Rc.{rc_str_bytes}
use Rattle.std.specs.declared.alloc.Global.{Global}
use Rattle.std.specs.declared.rc.RcStr.{RcStr}
use Rattle.smt_spelling.proofs.Built.{built_meaning, no_entry, no_entry_fault, no_selection}
use Rattle.smt_encode.proofs.Handed.{handed_on}
use Rattle.smt_spelling.proofs.Faulting.{entry_last, inline_first}
use Rattle.smt_encode.proofs.Finishing.{inline_lines, inline_stated, says_none, says_some}
use Rattle.smt_encode.proofs.Stopping.{own_stops, own_unput}
use Rattle.smt_encode.proofs.Writing.{unnamed}
use Rattle.smt_encode.proofs.writer.Writer.finish.Goals as goal

pub returns-in_err-text-clause-fault : goal.returns-in_err-text-clause-fault
returns-in_err-text-clause-fault g c m meant =
    let built = built_meaning (nodes_under c.args.self.now.names) c.args.id m meant in
    handed_on _ c.in_err-text.field-0.0 c.from_residual.result c.from_residual.ensures.1
    (λ f h. inline_first (enums_under c.args.self.now.names) m built (c.requires.sound m meant) f (ap inline_fault (sym (c.requires.is_node.label m meant)) ∙ c.in_err-text.ensures.fault f h))

pub returns-in_err-text-clause-lines : goal.returns-in_err-text-clause-lines
returns-in_err-text-clause-lines g c m es s meant shown has = own_stops (own_lines (enums_under c.args.self.now.names) m es s) IsSpelled _ c.from_residual.result c.from_residual.ensures.1 (own_unput c.args.self.now c.args.self.now _ s refl has)

pub returns-in_err-clone-in-Some-clause-lines : goal.returns-in_err-clone-in-Some-clause-lines
returns-in_err-clone-in-Some-clause-lines g c m es s meant shown has = own_stops (own_lines (enums_under c.args.self.now.names) m es s) IsSpelled _ c.from_residual-in_err-clone-in-Some.result c.from_residual-in_err-clone-in-Some.ensures.1 (own_unput c.args.self.now c.args.self.now _ s refl has)

pub keep-requires-clause-sound : goal.keep-requires-clause-sound
keep-requires-clause-sound g c m meant =
    let built = built_meaning (nodes_under c.args.self.now.names) c.args.id m meant in
    let label = c.requires.is_node.label m meant in
    let there : has_inline (plain_label c.args.node.now.label) (length c.as_slice.result.now) ≡ true = sym c.in_ok-text.ensures.some ∙ ap is_some c.in-Some.is in
    entry_last (enums_under c.args.self.now.names) m built (c.requires.sound m meant) (ap inline_fault (sym label) ∙ c.in_ok-text.ensures.fault) (no_selection m (length c.as_slice.result.now) (ap (λ l. has_inline l (length c.as_slice.result.now)) (sym label) ∙ there))
    ∙ ap (λ l. entry_fault (enums_under c.args.self.now.names) l (rendering_in m)) (sym label) ∙ no_entry_fault (enums_under c.args.self.now.names) (plain_label c.args.node.now.label) (rendering_in m) (length c.as_slice.result.now) there

pub returns-in_ok-clone-in-Some-clause-fault : goal.returns-in_ok-clone-in-Some-clause-fault
returns-in_ok-clone-in-Some-clause-fault g c m meant =
    let built = built_meaning (nodes_under c.args.self.now.names) c.args.id m meant in
    let label = c.requires.is_node.label m meant in
    let there : has_inline (plain_label c.args.node.now.label) (length c.as_slice.result.now) ≡ true = sym c.in_ok-text.ensures.some ∙ ap is_some c.in-Some.is in
    entry_last (enums_under c.args.self.now.names) m built (c.requires.sound m meant) (ap inline_fault (sym label) ∙ c.in_ok-text.ensures.fault) (no_selection m (length c.as_slice.result.now) (ap (λ l. has_inline l (length c.as_slice.result.now)) (sym label) ∙ there))
    ∙ ap (λ l. entry_fault (enums_under c.args.self.now.names) l (rendering_in m)) (sym label) ∙ no_entry_fault (enums_under c.args.self.now.names) (plain_label c.args.node.now.label) (rendering_in m) (length c.as_slice.result.now) there

pub returns-in_ok-clone-in-Some-clause-lines : goal.returns-in_ok-clone-in-Some-clause-lines
returns-in_ok-clone-in-Some-clause-lines g c m es s meant shown has =
    let enums = enums_under c.args.self.now.names in
    let built = built_meaning (nodes_under c.args.self.now.names) c.args.id m meant in
    let label = c.requires.is_node.label m meant in
    let there : has_inline (label_in m) (length c.as_slice.result.now) ≡ true = ap (λ l. has_inline l (length c.as_slice.result.now)) (sym label) ∙ sym c.in_ok-text.ensures.some ∙ ap is_some c.in-Some.is in
    let says : (xs : List Expression) → AreSpelled xs c.args.texts.items → SaysInline (inline_by (label_in m) xs) (Some c.in-Some.text) =
    λ xs h. subst (λ (l : PlainLabel). SaysInline (inline_by l xs) (Some c.in-Some.text)) label
    (subst (λ (o : Option (RcStr Global)). SaysInline (inline_by (plain_label c.args.node.now.label) xs) o) c.in-Some.is (c.in_ok-text.ensures.text xs (ap (map rc_str_bytes) c.as_slice.ensures.value ∙ h))) in
    let (parts, parts_shown, parts_stated) = c.requires.written m s meant has in
    let text = inline_stated enums m s c.in-Some.text parts built (unnamed c.args.self.now.names s has c.args.id m meant c.requires.unkept) parts_stated (says parts parts_shown) in
    let names : KeepTables c.keep.new.self s = c.keep.ensures.tables s m has meant (no_entry m (length c.as_slice.result.now) there) (subst (λ (b : List ℕ). IsText enums s m b) (sym c.in_ok-clone-in-Some.ensures.cases) text) in
    let (e, is, spells) = says_some (inline_by (label_in m) es) c.in-Some.text (says es shown) in
    rw (inline_lines enums m s es e is) (record { names = names; contents_are = appends_nothing (g.S.Sink.contents c.args.self.now.script) }, spells)

pub name-requires-clause-plain : goal.name-requires-clause-plain
name-requires-clause-plain g c =
    ap (has_inline (plain_label c.args.node.now.label)) (ap length (sym c.as_slice.ensures.value)) ∙ sym c.in_ok-text.ensures.some ∙ ap is_some c.in-None.is

pub returns-in-None-clause-lines : goal.returns-in-None-clause-lines
returns-in-None-clause-lines g c m es s meant shown has =
    let label = c.requires.is_node.label m meant in
    let plain : inline_by (label_in m) es ≡ None = ap (λ l. inline_by l es) (sym label) ∙ says_none (inline_by (plain_label c.args.node.now.label) es)
    (subst (λ (o : Option (RcStr Global)). SaysInline (inline_by (plain_label c.args.node.now.label) es) o) c.in-None.is (c.in_ok-text.ensures.text es (ap (map rc_str_bytes) c.as_slice.ensures.value ∙ shown))) in
    c.name.ensures.lines m es s meant shown has plain
