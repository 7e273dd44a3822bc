use Rattle.std.proofs.Common.{◌≡◌, ℕ, List, false, ◌∷◌, Some, None, Option, length, map, ap, refl, sym, subst, arith, ◌∙◌}
use Rattle.std.specs.Rc.{rc_str_bytes}
use Rattle.law_texts.specs.SharedTexts.{texts}
use Rattle.law_terms.specs.Nodes.{Meaning, PlainLabel, RecordLabel, TypeMeaning}
use Rattle.smt_nodes.specs.Attributes.{attributes_of}
use Rattle.law_terms.specs.Parts.{label_in, parts_in}
use Rattle.smt_term.specs.Entities.{bytes_of_type}
use Rattle.smt_term.specs.Enums.{enums_of}
use Rattle.smt_term.specs.ExtensionView.{plain_kind}
use Rattle.law_lines.specs.Lines.{Enums}
use Rattle.law_terms.specs.Faults.{Fault}
use Rattle.law_terms.specs.Plain.{EntityType, ExtensionType, RecordType}
use Rattle.smt_nodes.specs.View.{plain_label}
use Rattle.smt_spelling.specs.Entries.{SaysEntry}
use Rattle.smt_spelling.specs.Spelled.{AreSpelled, IsSpelled}
use Rattle.smt_spelling.specs.TextFaults.{Finds}
use Rattle.smt_spelling.specs.NodeEntries.{NodeRendering, declare_by, entry_by, entry_fault, has_inline, head_in, inline_fault, is_declared, is_entered, own_lines, rendering_in, selection_fault, written_parts}
use Rattle.smt_spelling.specs.Names.{enums_under, nodes_under}
use Rattle.smt_spelling.specs.NodeLines.{meaning_fault}
use Rattle.smt_encode.specs.Refusals.{write_fault}
use Rattle.smt_spelling.specs.Renderings.{plain_rendering}
use Rattle.smt_encode.specs.Stopped.{WritesOwn}
use Rattle.smt_spelling.proofs.Built.{built_meaning, call_parts, entered_has_entry, enters, entity_meant, extension_meant, function_meant, record_meant, undeclared}
use Rattle.smt_spelling.proofs.Named.{names_alone}
use Rattle.smt_encode.proofs.Handed.{handed_from, handed_on}
use Rattle.smt_spelling.proofs.Faulting.{entry_last, selection_second}
use Rattle.smt_encode.proofs.Finishing.{entry_written, taken_off}
use Rattle.smt_encode.proofs.Stopping.{own_faultless, own_stops, own_unput}
use Rattle.smt_encode.proofs.writer.Writer.name.Goals as goal

-- ---- an entity type

pub declare-requires-clause-meant : goal.declare-requires-clause-meant
declare-requires-clause-meant g c =
    let (m, meant) = c.requires.meant in
    meant ∙ ap Some (entity_meant m (bytes_of_type c.in-TEntity.ety) (sym (c.requires.is_node.label m meant) ∙ ap plain_label c.in-TEntity.is))

pub returns-in-TEntity-clause-fault : goal.returns-in-TEntity-clause-fault
returns-in-TEntity-clause-fault g c m meant =
    let e = bytes_of_type c.in-TEntity.ety in
    let is : m ≡ TypeMeaning (EntityType e) = entity_meant m e (sym (c.requires.is_node.label m meant) ∙ ap plain_label c.in-TEntity.is) in
    subst (λ (k : Meaning). Finds write_fault (meaning_fault (enums_under c.args.self.now.names) k) c.declare.result) (sym is) c.declare.ensures.fault

pub returns-in-TEntity-clause-lines : goal.returns-in-TEntity-clause-lines
returns-in-TEntity-clause-lines g c m es s meant shown has plain =
    let e = bytes_of_type c.in-TEntity.ety in
    let is : m ≡ TypeMeaning (EntityType e) = entity_meant m e (sym (c.requires.is_node.label m meant) ∙ ap plain_label c.in-TEntity.is) in
    subst (λ (k : Meaning). WritesOwn g.S.Sink.contents (meaning_fault (enums_under c.args.self.now.names) k) c.args.self.now c.declare.new.self (own_lines (enums_under c.args.self.now.names) k es s) IsSpelled c.declare.result) (sym is) (c.declare.ensures.lines s has)

-- ---- an extension type

pub declare_extension-requires-clause-meant : goal.declare_extension-requires-clause-meant
declare_extension-requires-clause-meant g c =
    let (m, meant) = c.requires.meant in
    meant ∙ ap Some (extension_meant m (plain_kind c.in-TExt.xty) (sym (c.requires.is_node.label m meant) ∙ ap plain_label c.in-TExt.is))

pub returns-in-TExt-clause-fault : goal.returns-in-TExt-clause-fault
returns-in-TExt-clause-fault g c m meant =
    let k = plain_kind c.in-TExt.xty in
    let is : m ≡ TypeMeaning (ExtensionType k) = extension_meant m k (sym (c.requires.is_node.label m meant) ∙ ap plain_label c.in-TExt.is) in
    subst (λ (n : Meaning). Finds write_fault (meaning_fault (enums_under c.args.self.now.names) n) c.declare_extension.result) (sym is) c.declare_extension.ensures.fault

pub returns-in-TExt-clause-lines : goal.returns-in-TExt-clause-lines
returns-in-TExt-clause-lines g c m es s meant shown has plain =
    let k = plain_kind c.in-TExt.xty in
    let is : m ≡ TypeMeaning (ExtensionType k) = extension_meant m k (sym (c.requires.is_node.label m meant) ∙ ap plain_label c.in-TExt.is) in
    subst (λ (n : Meaning). WritesOwn g.S.Sink.contents (meaning_fault (enums_under c.args.self.now.names) n) c.args.self.now c.declare_extension.new.self (own_lines (enums_under c.args.self.now.names) n es s) IsSpelled c.declare_extension.result) (sym is) (c.declare_extension.ensures.lines s has)

-- ---- a function

pub declare_function-requires-clause-two : goal.declare_function-requires-clause-two
declare_function-requires-clause-two g c =
    let (m, meant) = c.requires.meant in
    let (f, is) = function_meant m (rc_str_bytes c.in-Fun.field-0) (sym (c.requires.is_node.label m meant) ∙ ap plain_label c.in-Fun.is) in
    ap length c.as_slice-in-Fun.ensures.value ∙ c.requires.count m meant ∙ ap (λ k. length (written_parts (rendering_in k) (parts_in k))) is

pub declare_function-requires-clause-sound : goal.declare_function-requires-clause-sound
declare_function-requires-clause-sound g c m meant =
    let enums = enums_under c.args.self.now.names in
    let built = built_meaning (nodes_under c.args.self.now.names) c.args.id m meant in
    let label = c.requires.is_node.label m meant in
    let (f, is) = function_meant m (rc_str_bytes c.in-Fun.field-0) (sym label ∙ ap plain_label c.in-Fun.is) in
    entry_last enums m built (c.requires.sound m meant) (ap inline_fault (sym label) ∙ c.requires.faultless) (ap selection_fault is)
    ∙ ap (λ l. entry_fault enums l (rendering_in m)) (sym label ∙ ap plain_label c.in-Fun.is)

pub returns-in-Fun-clause-fault : goal.returns-in-Fun-clause-fault
returns-in-Fun-clause-fault g c m meant =
    let enums = enums_under c.args.self.now.names in
    let built = built_meaning (nodes_under c.args.self.now.names) c.args.id m meant in
    let label = c.requires.is_node.label m meant in
    let (f, is) = function_meant m (rc_str_bytes c.in-Fun.field-0) (sym label ∙ ap plain_label c.in-Fun.is) in
    let none : meaning_fault enums m ≡ None =
    entry_last enums m built (c.requires.sound m meant) (ap inline_fault (sym label) ∙ c.requires.faultless) (ap selection_fault is)
    ∙ ap (λ l. entry_fault enums l (rendering_in m)) (sym label ∙ ap plain_label c.in-Fun.is) in
    subst (λ (o : Option Fault). Finds write_fault o c.declare_function.result) (sym none) c.declare_function.ensures.fault

pub returns-in-Fun-clause-lines : goal.returns-in-Fun-clause-lines
returns-in-Fun-clause-lines g c m es s meant shown has plain =
    let enums = enums_under c.args.self.now.names in
    let built = built_meaning (nodes_under c.args.self.now.names) c.args.id m meant in
    let label = c.requires.is_node.label m meant in
    let (f, is) = function_meant m (rc_str_bytes c.in-Fun.field-0) (sym label ∙ ap plain_label c.in-Fun.is) in
    let none : meaning_fault enums m ≡ None =
    entry_last enums m built (c.requires.sound m meant) (ap inline_fault (sym label) ∙ c.requires.faultless) (ap selection_fault is)
    ∙ ap (λ l. entry_fault enums l (rendering_in m)) (sym label ∙ ap plain_label c.in-Fun.is) in
    own_faultless g.S.Sink.contents (meaning_fault enums m) c.args.self.now c.declare_function.new.self (own_lines enums m es s) IsSpelled c.declare_function.result none
    (subst (λ (k : Meaning). WritesOwn g.S.Sink.contents None c.args.self.now c.declare_function.new.self (own_lines enums k es s) IsSpelled c.declare_function.result) (sym is)
    (c.declare_function.ensures.lines f es s (meant ∙ ap Some is) (ap (map rc_str_bytes) c.as_slice-in-Fun.ensures.value ∙ shown) has))

-- ---- a record type

pub declare_record-requires-clause-sound : goal.declare_record-requires-clause-sound
declare_record-requires-clause-sound g c m meant =
    let enums = enums_under c.args.self.now.names in
    let built = built_meaning (nodes_under c.args.self.now.names) c.args.id m meant in
    let label = c.requires.is_node.label m meant in
    let (x, is, same) = record_meant m (texts (attributes_of c.in-TRecord.names)) (sym label ∙ ap plain_label c.in-TRecord.is) in
    entry_last enums m built (c.requires.sound m meant) (ap inline_fault (sym label) ∙ c.requires.faultless) (ap selection_fault is)
    ∙ ap (λ l. entry_fault enums l (rendering_in m)) (sym label ∙ ap plain_label c.in-TRecord.is)

pub returns-in-TRecord-clause-fault : goal.returns-in-TRecord-clause-fault
returns-in-TRecord-clause-fault g c m meant =
    let enums = enums_under c.args.self.now.names in
    let built = built_meaning (nodes_under c.args.self.now.names) c.args.id m meant in
    let label = c.requires.is_node.label m meant in
    let (x, is, same) = record_meant m (texts (attributes_of c.in-TRecord.names)) (sym label ∙ ap plain_label c.in-TRecord.is) in
    let none : meaning_fault enums m ≡ None =
    entry_last enums m built (c.requires.sound m meant) (ap inline_fault (sym label) ∙ c.requires.faultless) (ap selection_fault is)
    ∙ ap (λ l. entry_fault enums l (rendering_in m)) (sym label ∙ ap plain_label c.in-TRecord.is) in
    subst (λ (o : Option Fault). Finds write_fault o c.declare_record.result) (sym none) c.declare_record.ensures.fault

pub returns-in-TRecord-clause-lines : goal.returns-in-TRecord-clause-lines
returns-in-TRecord-clause-lines g c m es s meant shown has plain =
    let enums = enums_under c.args.self.now.names in
    let built = built_meaning (nodes_under c.args.self.now.names) c.args.id m meant in
    let label = c.requires.is_node.label m meant in
    let (x, is, same) = record_meant m (texts (attributes_of c.in-TRecord.names)) (sym label ∙ ap plain_label c.in-TRecord.is) in
    let none : meaning_fault enums m ≡ None =
    entry_last enums m built (c.requires.sound m meant) (ap inline_fault (sym label) ∙ c.requires.faultless) (ap selection_fault is)
    ∙ ap (λ l. entry_fault enums l (rendering_in m)) (sym label ∙ ap plain_label c.in-TRecord.is) in
    own_faultless g.S.Sink.contents (meaning_fault enums m) c.args.self.now c.declare_record.new.self (own_lines enums m es s) IsSpelled c.declare_record.result none
    (subst (λ (k : Meaning). WritesOwn g.S.Sink.contents None c.args.self.now c.declare_record.new.self (own_lines enums k es s) IsSpelled c.declare_record.result) (sym is)
    (subst (λ (l : List (List ℕ)). WritesOwn g.S.Sink.contents None c.args.self.now c.declare_record.new.self (declare_by enums (RecordLabel l) (RecordType x) es s) IsSpelled c.declare_record.result) same
    (c.declare_record.ensures.lines x es s (meant ∙ ap Some is) (ap (map rc_str_bytes) c.as_slice.ensures.value ∙ shown) has)))

-- ---- a term

pub remove-sort-requires : goal.remove-sort-requires
remove-sort-requires g c =
    let (m, meant) = c.requires.meant in
    let built = built_meaning (nodes_under c.args.self.now.names) c.args.id m meant in
    let label = c.requires.is_node.label m meant in
    let none : has_inline (label_in m) (length c.args.texts.items) ≡ false = ap (λ l. has_inline l (length c.args.texts.items)) (sym label) ∙ c.requires.plain in
    let (t, is, entered, some) = enters m (length c.args.texts.items) built (ap is_declared (sym label) ∙ undeclared c.args.node.now.label c.in_default.not-TEntity c.in_default.not-TExt c.in_default.not-TRecord c.in_default.not-Fun) (c.requires.count m meant) none in
    omega (arith, some, c.args.texts.ok)

pub returns-in_err-selector-in_default-clause-fault : goal.returns-in_err-selector-in_default-clause-fault
returns-in_err-selector-in_default-clause-fault g c m meant =
    let enums = enums_under c.args.self.now.names in
    let built = built_meaning (nodes_under c.args.self.now.names) c.args.id m meant in
    let label = c.requires.is_node.label m meant in
    handed_from _ c.in_err-selector-in_default.field-0.0 c.from_residual.result c.from_residual.ensures.1
    (λ f h. selection_second enums m built (c.requires.sound m meant) (ap inline_fault (sym label) ∙ c.requires.faultless) f (c.in_err-selector-in_default.ensures.fault c.args.id m c.requires.is_node meant f h))

pub returns-in_err-selector-in_default-clause-lines : goal.returns-in_err-selector-in_default-clause-lines
returns-in_err-selector-in_default-clause-lines g c m es s meant shown has plain = own_stops (own_lines (enums_under c.args.self.now.names) m es s) IsSpelled _ c.from_residual.result c.from_residual.ensures.1 (own_unput c.args.self.now c.args.self.now _ s refl has)

pub entry_from-requires-clause-entered : goal.entry_from-requires-clause-entered
entry_from-requires-clause-entered g c =
    let (m, meant) = c.requires.meant in
    let built = built_meaning (nodes_under c.args.self.now.names) c.args.id m meant in
    let label = c.requires.is_node.label m meant in
    let none : has_inline (label_in m) (length c.args.texts.items) ≡ false = ap (λ l. has_inline l (length c.args.texts.items)) (sym label) ∙ c.requires.plain in
    let (t, is, entered, some) = enters m (length c.args.texts.items) built (ap is_declared (sym label) ∙ undeclared c.args.node.now.label c.in_default.not-TEntity c.in_default.not-TExt c.in_default.not-TRecord c.in_default.not-Fun) (c.requires.count m meant) none in
    ap is_entered label ∙ entered

pub entry_from-requires-clause-called : goal.entry_from-requires-clause-called
entry_from-requires-clause-called g c is =
    let (m, meant) = c.requires.meant in
    let two = call_parts m (length c.args.texts.items) (sym (c.requires.is_node.label m meant) ∙ is) (c.requires.count m meant) in
    let texts : c.args.texts.items ≡ c.remove-sort.result ∷ c.remove-sort.new.self.items = taken_off c.args.texts.items c.remove-sort.new.self.items c.remove-sort.result (omega (arith, two)) c.remove-sort.ensures.value c.remove-sort.ensures.items in
    let count = ap length texts in
    omega (arith, two, count)

pub returns-in_err-entry-in_default-clause-fault : goal.returns-in_err-entry-in_default-clause-fault
returns-in_err-entry-in_default-clause-fault g c m meant =
    let enums = enums_under c.args.self.now.names in
    let built = built_meaning (nodes_under c.args.self.now.names) c.args.id m meant in
    let label = c.requires.is_node.label m meant in
    handed_on _ c.in_err-entry-in_default.field-0.0 c.from_residual-in_err-entry-in_default.result c.from_residual-in_err-entry-in_default.ensures.1
    (λ f h. entry_last enums m built (c.requires.sound m meant) (ap inline_fault (sym label) ∙ c.requires.faultless) (c.in_ok-selector-in_default.ensures.fault c.args.id m c.requires.is_node meant)
    ∙ ap (λ l. entry_fault enums l (rendering_in m)) (sym label)
    ∙ ap (entry_fault enums (plain_label c.args.node.now.label)) (sym (c.requires.rendered m meant))
    ∙ ap (λ x. entry_fault x (plain_label c.args.node.now.label) (plain_rendering c.args.rendering)) (sym c.enums-enums.ensures)
    ∙ c.in_err-entry-in_default.ensures.fault f h)

pub returns-in_err-entry-in_default-clause-lines : goal.returns-in_err-entry-in_default-clause-lines
returns-in_err-entry-in_default-clause-lines g c m es s meant shown has plain =
    own_stops (own_lines (enums_under c.args.self.now.names) m es s) IsSpelled _ c.from_residual-in_err-entry-in_default.result c.from_residual-in_err-entry-in_default.ensures.1 (own_unput c.args.self.now c.args.self.now _ s refl has)

pub enter-requires-clause-sound : goal.enter-requires-clause-sound
enter-requires-clause-sound g c m meant =
    let enums = enums_under c.args.self.now.names in
    let built = built_meaning (nodes_under c.args.self.now.names) c.args.id m meant in
    let label = c.requires.is_node.label m meant in
    entry_last enums m built (c.requires.sound m meant) (ap inline_fault (sym label) ∙ c.requires.faultless) (c.in_ok-selector-in_default.ensures.fault c.args.id m c.requires.is_node meant)
    ∙ ap (λ l. entry_fault enums l (rendering_in m)) (sym label)
    ∙ ap (entry_fault enums (plain_label c.args.node.now.label)) (sym (c.requires.rendered m meant))
    ∙ ap (λ x. entry_fault x (plain_label c.args.node.now.label) (plain_rendering c.args.rendering)) (sym c.enums-enums.ensures)
    ∙ c.in_ok-entry-in_default.ensures.fault

pub returns-in_ok-entry-in_default-clause-fault : goal.returns-in_ok-entry-in_default-clause-fault
returns-in_ok-entry-in_default-clause-fault g c m meant =
    let enums = enums_under c.args.self.now.names in
    let built = built_meaning (nodes_under c.args.self.now.names) c.args.id m meant in
    let label = c.requires.is_node.label m meant in
    let none : meaning_fault enums m ≡ None =
    entry_last enums m built (c.requires.sound m meant) (ap inline_fault (sym label) ∙ c.requires.faultless) (c.in_ok-selector-in_default.ensures.fault c.args.id m c.requires.is_node meant)
    ∙ ap (λ l. entry_fault enums l (rendering_in m)) (sym label)
    ∙ ap (entry_fault enums (plain_label c.args.node.now.label)) (sym (c.requires.rendered m meant))
    ∙ ap (λ x. entry_fault x (plain_label c.args.node.now.label) (plain_rendering c.args.rendering)) (sym c.enums-enums.ensures)
    ∙ c.in_ok-entry-in_default.ensures.fault in
    subst (λ (o : Option Fault). Finds write_fault o c.enter.result) (sym none) c.enter.ensures.fault

pub returns-in_ok-entry-in_default-clause-lines : goal.returns-in_ok-entry-in_default-clause-lines
returns-in_ok-entry-in_default-clause-lines g c m es s meant shown has plain =
    let enums = enums_under c.args.self.now.names in
    let built = built_meaning (nodes_under c.args.self.now.names) c.args.id m meant in
    let label = c.requires.is_node.label m meant in
    let none : has_inline (label_in m) (length c.args.texts.items) ≡ false = ap (λ l. has_inline l (length c.args.texts.items)) (sym label) ∙ c.requires.plain in
    let (t, is, entered, some) = enters m (length c.args.texts.items) built (ap is_declared (sym label) ∙ undeclared c.args.node.now.label c.in_default.not-TEntity c.in_default.not-TExt c.in_default.not-TRecord c.in_default.not-Fun) (c.requires.count m meant) none in
    let texts : c.args.texts.items ≡ c.remove-sort.result ∷ c.remove-sort.new.self.items = taken_off c.args.texts.items c.remove-sort.new.self.items c.remove-sort.result (omega (arith, some)) c.remove-sort.ensures.value c.remove-sort.ensures.items in
    let shown' : AreSpelled es (c.remove-sort.result ∷ c.remove-sort.new.self.items) = ap (λ l. map rc_str_bytes l) (sym texts) ∙ shown in
    let faultless : meaning_fault enums m ≡ None =
    entry_last enums m built (c.requires.sound m meant) (ap inline_fault (sym label) ∙ c.requires.faultless) (c.in_ok-selector-in_default.ensures.fault c.args.id m c.requires.is_node meant)
    ∙ ap (λ l. entry_fault enums l (rendering_in m)) (sym label)
    ∙ ap (entry_fault enums (plain_label c.args.node.now.label)) (sym (c.requires.rendered m meant))
    ∙ ap (λ x. entry_fault x (plain_label c.args.node.now.label) (plain_rendering c.args.rendering)) (sym c.enums-enums.ensures)
    ∙ c.in_ok-entry-in_default.ensures.fault in
    own_faultless g.S.Sink.contents (meaning_fault enums m) c.args.self.now c.enter.new.self (own_lines enums m es s) IsSpelled c.enter.result faultless
    (entry_written g.S.Sink.contents c.args.self.now c.enter.new.self enums m t es s c.remove-sort.result c.remove-sort.new.self.items c.enter.result is shown' plain
    (λ e rest sort others.
    let h = head_in t s in
    let begins = c.in_ok-selector-in_default.ensures.head c.args.id t s c.requires.is_node (meant ∙ ap Some is) (names_alone c.args.self.now.names s has) in
    let says : SaysEntry (entry_by enums (label_in m) (rendering_in m) h e rest) c.in_ok-entry-in_default.entry =
    subst (λ (x : Enums). SaysEntry (entry_by x (label_in m) (rendering_in m) h e rest) c.in_ok-entry-in_default.entry) c.enums-enums.ensures
    (subst (λ (l : PlainLabel). SaysEntry (entry_by (enums_of c.enums-enums.result.now) l (rendering_in m) h e rest) c.in_ok-entry-in_default.entry) label
    (subst (λ (how : NodeRendering). SaysEntry (entry_by (enums_of c.enums-enums.result.now) (plain_label c.args.node.now.label) how h e rest) c.in_ok-entry-in_default.entry) (c.requires.rendered m meant) (c.in_ok-entry-in_default.ensures.text h e rest begins (c.as_str.ensures.value ∙ sort) others))) in
    c.enter.ensures.lines t s e (entry_by enums (label_in m) (rendering_in m) h e rest) (meant ∙ ap Some is) (entered_has_entry t (ap (λ k. is_entered (label_in k)) (sym is) ∙ entered)) has (c.as_str-in_default.ensures.value ∙ sort) says))

pub selector_of-requires : goal.selector_of-requires
selector_of-requires g c = record { meant = (c.args.id, c.requires.is_node, c.requires.meant) }
