use Rattle.std.proofs.Common.{◌≡◌, ℕ, List, ◌<◌, Some, length, map, sym, ap, subst, ◌∙◌, arith}
use Rattle.std.proofs.lemmas.List.{take_all}
use Rattle.std.specs.Prelude.{IsTrue}
use Rattle.law_texts.specs.SharedTexts.{texts}
use Rattle.law_terms.specs.Meanings.{all_found, meanings}
use Rattle.law_terms.specs.Nodes.{TypeMeaning}
use Rattle.law_terms.specs.Parts.{types_in, attribute_names}
use Rattle.law_terms.proofs.Places.{some_same}
use Rattle.smt_term.specs.Entities.{bytes_of_type}
use Rattle.smt_term.specs.ExtensionView.{plain_kind}
use Rattle.law_terms.specs.Plain.{EntityType, RecordType, attribute_types}
use Rattle.law_terms.specs.ValueOrder.{ascends, text_cmp}
use Rattle.smt_bits.specs.Width.{bits_in}
use Rattle.smt_term.specs.View.{plain_attribute, plain_type-Bitvec, plain_type-Bool, plain_type-Entity, plain_type-Ext, plain_type-Record, plain_type-String}
use Rattle.smt_nodes.proofs.Rebuilding.{a_type, as_many_types, by_names, found_parts, holds_at, labelled, of_bits, of_entity, of_extension, of_record, of_text, of_truth, pushed_names, pushed_types, type_of_part}
use Rattle.smt_nodes.proofs.RecordFitting.{record_ascends}
use Rattle.smt_nodes.proofs.MapNames.{type_names}
use Rattle.smt_nodes.proofs.RecordParts.{types_meant}
use Rattle.smt_nodes.specs.Attributes.{attributes_of}
use Rattle.smt_nodes.specs.Interned.{meaning_in, nodes_of}
use Rattle.smt_nodes.specs.View.{place_of, places_of, plain_label}
use Rattle.smt_nodes.proofs.interner.Interner.+rebuild.Goals as goal

-- ---- a record type

pub record_type_at-bounds-parts-i : goal.record_type_at-bounds-parts-i
record_type_at-bounds-parts-i t c =
    let (x, e, h) = c.requires.types in
    let n = as_many_types (meanings (nodes_of c.args.self.now)) c.args.parts.now c.args.names.now x e h in
    omega (arith, n, c.loop-i-test.true)

pub record_type_at-type_at-requires : goal.record_type_at-type_at-requires
record_type_at-type_at-requires t c =
    let (x, e, h) = c.requires.types in
    let ms = meanings (nodes_of c.args.self.now) in
    let n = as_many_types ms c.args.parts.now c.args.names.now x e h in
    let b : c.loop-i.i < length c.args.parts.now = omega (arith, n, c.loop-i-test.true) in
    let earlier = holds_at (λ p. p < place_of c.args.id) c.args.parts.now c.loop-i.i (record { place = 0 }) c.requires.earlier b in
    (omega (arith, earlier, c.decreases), type_of_part ms c.args.parts.now x c.loop-i.i (record { place = 0 }) h b)

pub record_type_at-loop-i-preserved : goal.record_type_at-loop-i-preserved
record_type_at-loop-i-preserved t c =
    let (x, e, h) = c.requires.types in
    let ms = meanings (nodes_of c.args.self.now) in
    let n = as_many_types ms c.args.parts.now c.args.names.now x e h in
    let b : c.loop-i.i < length c.args.parts.now = omega (arith, n, c.loop-i-test.true) in (
      pushed_names c.args.names.now c.loop-i.pairs.items c.push.new.self.items c.loop-i.i c.in_ok-share_text.field-0 c.index-names-i.result c.in_ok-type_at.field-0 c.in_ok-push.ensures.items c.loop-i-test.true c.in_ok-share_text.ensures c.index-names-i.is c.loop-i.invariant.0,
      pushed_types ms c.args.parts.now c.loop-i.pairs.items c.push.new.self.items c.loop-i.i c.in_ok-share_text.field-0 c.in_ok-type_at.field-0 (record { place = 0 }) c.in_ok-push.ensures.items b c.in_ok-type_at.ensures c.loop-i.invariant.1,
    )

pub record_type_at-returns : goal.record_type_at-returns
record_type_at-returns t c x e h =
    let ms = meanings (nodes_of c.args.self.now) in
    let n = as_many_types ms c.args.parts.now c.args.names.now x e h in
    let ps = c.loop-i.pairs.items in
    let names : attribute_names (attribute_types (map plain_attribute ps)) ≡ attribute_names x =
    sym (type_names ps) ∙ (c.loop-i.invariant.0 ∙ (ap texts (take_all c.loop-i.i c.args.names.now (omega (arith, c.loop-i-test.false))) ∙ e)) in
    let types : types_meant ps ≡ types_in x =
    some_same (types_meant ps) (types_in x) (sym c.loop-i.invariant.1 ∙ (ap (λ l. all_found ms (places_of l)) (take_all c.loop-i.i c.args.parts.now (omega (arith, n, c.loop-i-test.false))) ∙ h)) in
    plain_type-Record c.in_ok-of_ascending.field-0 ∙ (ap (λ l. RecordType (attribute_types l)) c.in_ok-of_ascending.ensures ∙ ap RecordType (by_names (attribute_types (map plain_attribute ps)) x names types))

-- ---- any type

pub type_at-record_type_at-requires : goal.type_at-record_type_at-requires
type_at-record_type_at-requires t c =
    let s = c.args.self.now in
    let o = meaning_in s c.args.id in
    let own = attributes_of c.in-Some-TRecord.names in
    let (u, is) = a_type o c.requires in
    let (x, e, names) = of_record u (texts own) (labelled o u _ is (ap (λ l. Some (plain_label l)) (sym c.in-Some-TRecord.field-0-is) ∙ c.in-Some-TRecord.ensures)) in
    let held : texts c.items.result.now ≡ attribute_names x = ap texts c.items.ensures ∙ names in
    let P = λ (l : List (List ℕ)). IsTrue (ascends text_cmp l) in
    (omega (arith, c.decreases), (c.parts-parts.ensures.earlier, (subst P (sym held) (record_ascends (nodes_of s) s.graph (place_of c.args.id) x (is ∙ ap (λ t. Some (TypeMeaning t)) e)), (x, held, found_parts (meanings (nodes_of s)) o u (RecordType x) c.parts-parts.result.now is e c.parts-parts.ensures.found))))

pub type_at-returns-in-Some-TBitvec : goal.type_at-returns-in-Some-TBitvec
type_at-returns-in-Some-TBitvec t c =
    let o = meaning_in c.args.self.now c.args.id in
    let (u, is) = a_type o c.requires in
    let type = of_bits u (bits_in c.in-Some-TBitvec.width) (labelled o u _ is (ap (λ l. Some (plain_label l)) (sym c.in-Some-TBitvec.field-0-is) ∙ c.in-Some-TBitvec.ensures)) in
    is ∙ ap (λ t. Some (TypeMeaning t)) (type ∙ sym (plain_type-Bitvec c.in-Some-TBitvec.width))

pub type_at-returns-in-Some-TBool : goal.type_at-returns-in-Some-TBool
type_at-returns-in-Some-TBool t c =
    let o = meaning_in c.args.self.now c.args.id in
    let (u, is) = a_type o c.requires in
    let type = of_truth u (labelled o u _ is (ap (λ l. Some (plain_label l)) (sym c.in-Some-TBool.field-0-is) ∙ c.in-Some-TBool.ensures)) in
    is ∙ ap (λ t. Some (TypeMeaning t)) (type ∙ sym plain_type-Bool)

pub type_at-returns-in_ok-share-in-Some-TEntity : goal.type_at-returns-in_ok-share-in-Some-TEntity
type_at-returns-in_ok-share-in-Some-TEntity t c =
    let o = meaning_in c.args.self.now c.args.id in
    let (u, is) = a_type o c.requires in
    let type = of_entity u (bytes_of_type c.in-Some-TEntity.ety) (labelled o u _ is (ap (λ l. Some (plain_label l)) (sym c.in-Some-TEntity.field-0-is) ∙ c.in-Some-TEntity.ensures)) in
    is ∙ ap (λ t. Some (TypeMeaning t)) (type ∙ (ap EntityType (sym c.in_ok-share-in-Some-TEntity.ensures) ∙ sym (plain_type-Entity c.in_ok-share-in-Some-TEntity.field-0)))

pub type_at-returns-in-Some-TExt : goal.type_at-returns-in-Some-TExt
type_at-returns-in-Some-TExt t c =
    let o = meaning_in c.args.self.now c.args.id in
    let (u, is) = a_type o c.requires in
    let type = of_extension u (plain_kind c.in-Some-TExt.xty) (labelled o u _ is (ap (λ l. Some (plain_label l)) (sym c.in-Some-TExt.field-0-is) ∙ c.in-Some-TExt.ensures)) in
    is ∙ ap (λ t. Some (TypeMeaning t)) (type ∙ sym (plain_type-Ext c.in-Some-TExt.xty))

pub type_at-returns-in-Some-TString : goal.type_at-returns-in-Some-TString
type_at-returns-in-Some-TString t c =
    let o = meaning_in c.args.self.now c.args.id in
    let (u, is) = a_type o c.requires in
    let type = of_text u (labelled o u _ is (ap (λ l. Some (plain_label l)) (sym c.in-Some-TString.field-0-is) ∙ c.in-Some-TString.ensures)) in
    is ∙ ap (λ t. Some (TypeMeaning t)) (type ∙ sym plain_type-String)
