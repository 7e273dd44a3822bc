-- What the tables of a type give at a stored entity.
use Rattle.std.proofs.Common.{◌≡◌, true, false, List, [], ◌∷◌, Option, Some, Ok, cond, map, refl, sym, ap, ◌∙◌, subst}
use Rattle.std.proofs.lemmas.Map.Keys.{IsDistinct-head, IsDistinct-tail}
use Rattle.std.proofs.lemmas.Cmp.{nat_list_cmp_total}
use Rattle.std.proofs.lemmas.Map.Text.{is_eq-slice_cmp}
use Rattle.std.proofs.lemmas.Slice.Eq.{bytes_eq-Decides}
use Rattle.std.specs.Cmp.Derive.{both_true}
use Rattle.std.specs.List.{IsDistinct, flat_map}
use Rattle.std.specs.Map.{keys_of, lookup}
use Rattle.std.specs.Option.{unwrap_or}
use Rattle.std.specs.Prelude.{ℕ, bytes_eq, IsTrue}
use mathlib.Core.Logic.{⊎_elim}
use Rattle.law_folding.specs.Builder.{folding}
use Rattle.law_folding.specs.FoldFunctions.{choice_by, entry_at, folded_app}
use Rattle.law_folding.specs.FoldRecords.{tag_record}
use Rattle.smt_term.proofs.LastPairs.{last_pairs}
use Rattle.smt_term.specs.SortedPairs.{sorted_pairs}
use Rattle.law_terms.proofs.SameTerm.{term_same}
use Rattle.law_terms.proofs.Sorted.{IsIn}
use Rattle.law_terms.proofs.TermTotal.{terms_decided, terms_total}
use Rattle.law_terms.proofs.ValueOrder.{text_same}
use Rattle.law_terms.specs.Functions.{PlainDefinition, PlainUnary}
use Rattle.law_terms.specs.Literals.{is_literal}
use Rattle.law_terms.specs.Plain.{PlainType, EntityType, StringType, SetType, PlainTerm, LiteralTerm, RecordTerm, one_field, EntityLiteral, StringLiteral}
use Rattle.law_terms.specs.TermOrder.{term_cmp, term_eq}
use Rattle.law_terms.specs.TermSets.{set_term}
use Rattle.law_terms.specs.ValueOrder.{ascends, text_cmp}
use Rattle.smt_term.specs.TypeKinds.{tag_type}
use Rattle.smt_values.specs.Cedar.{PlainCedar, ClosedRecordType, CedarAttributes}
use Rattle.smt_values.specs.TypeOfCedar.{type_of_cedar}
use Rattle.smt_values.specs.PlainValues.{PlainValue}
use Rattle.smt_values.specs.Plain.{PlainEntity}
use Rattle.smt_values.specs.Uids.{Uid, same_uid}
use Rattle.smt_values.specs.Outcomes.{◌>>=◌, converted, each}
use Rattle.smt_values.specs.TermOfValue.{term_of_value}
use Rattle.law_cedar.specs.Laws.{IsStore, HasTagsOf}
use Rattle.law_cedar.specs.Plain.{PlainTags}
use Rattle.law_cedar.specs.Tables.{ancestors_entry, ancestors_table, attributes_entry, attributes_table, entity_term, fields_term, keys_entry, known_value, set_of_type, stored_of, table_of, tag_entries, tag_entry, tags_tables, text_term}
use Rattle.law_cedar.proofs.Members.{HasOne, found, from_contains, found_last, in_filter, in_flat, in_map, of_all, one_value, out_filter, out_flat, out_map}
use Rattle.law_cedar.proofs.Outcomes.{each_in, each_out, same_ok, stated_first}

-- ---- names

pub bytes_itself : (s : List ℕ) → bytes_eq s s ≡ true
bytes_itself s = (bytes_eq-Decides s s).1 refl

pub bytes_same : (s t : List ℕ) → s ≡ t → bytes_eq s t ≡ true
bytes_same s t e = (bytes_eq-Decides s t).1 e

pub uid_itself : (a : Uid) → same_uid a a ≡ true
uid_itself a = both_true (bytes_itself a.0) (bytes_itself a.1)

abbrev uid_of : PlainTerm → Uid
uid_of (LiteralTerm (EntityLiteral type id)) = (type, id)
uid_of t = ([], [])

abbrev text_of : PlainTerm → List ℕ
text_of (LiteralTerm (StringLiteral text)) = text
text_of t = []

-- entities that have one term are one, and tags that have one record
pub one_uid : (a b : Uid) → entity_term a ≡ entity_term b → a ≡ b
one_uid a b h = ap uid_of h

abbrev first_field : PlainTerm → PlainTerm
first_field (RecordTerm (one_field name t fs)) = t
first_field t = t

abbrev second_field : PlainTerm → PlainTerm
second_field (RecordTerm (one_field name t (one_field other u fs))) = u
second_field t = t

tag_uid : (a b : Uid) (s t : List ℕ) → tag_record (entity_term a) (text_term s) ≡ tag_record (entity_term b) (text_term t) → a ≡ b
tag_uid a b s t h = ap (λ r. uid_of (first_field r)) h

tag_key : (a b : Uid) (s t : List ℕ) → tag_record (entity_term a) (text_term s) ≡ tag_record (entity_term b) (text_term t) → s ≡ t
tag_key a b s t h = ap (λ r. text_of (second_field r)) h

-- ---- a table at a literal

pub given_at : (default : PlainType → PlainTerm) (argument output : PlainType) (ps : List (PlainTerm × PlainTerm)) (k v : PlainTerm)
    → is_literal k ≡ true → lookup (term_eq k) (sorted_pairs term_cmp ps) ≡ Some v → folded_app (table_of default argument output ps) k ≡ v
given_at default argument output ps k v literal h =
    let f : PlainDefinition = record { argument = argument; output = output; entries = sorted_pairs term_cmp ps; elsewhere = default output } in
    ap (λ b. cond b (entry_at f k) (choice_by folding f k)) literal ∙ ap (λ o. unwrap_or o (default output)) h

terms_same : (k l : PlainTerm) → term_eq k l ≡ true → l ≡ k
terms_same k l h = sym ((terms_decided k l).0 h)

pub sorted_at : (ps : List (PlainTerm × PlainTerm)) (k v : PlainTerm) → HasOne k v ps → lookup (term_eq k) (sorted_pairs term_cmp ps) ≡ Some v
sorted_at ps k v one =
    (last_pairs term_cmp term_eq terms_total term_same (λ x y. refl) ps).last k ∙ found_last (term_eq k) k v ((terms_decided k k).1 refl) (terms_same k) ps one

-- the same of pairs by texts
texts_same : (s t : List ℕ) → bytes_eq s t ≡ true → t ≡ s
texts_same s t h = sym ((bytes_eq-Decides s t).0 h)

pub found_text : {X : Type 0} (ps : List (List ℕ × X)) (k : List ℕ) (x : X) → HasOne k x ps → lookup (bytes_eq k) ps ≡ Some x
found_text ps k x one = found (bytes_eq k) k x (bytes_itself k) (texts_same k) ps one

pub sorted_text : {X : Type 0} (ps : List (List ℕ × X)) (k : List ℕ) (x : X) → HasOne k x ps → lookup (bytes_eq k) (sorted_pairs text_cmp ps) ≡ Some x
sorted_text ps k x one =
    (last_pairs text_cmp bytes_eq nat_list_cmp_total text_same (λ x y. sym (is_eq-slice_cmp x y)) ps).last k ∙ found_last (bytes_eq k) k x (bytes_itself k) (texts_same k) ps one

-- ---- stored entities

uid_apart : (a b : Uid) → same_uid a b ≡ false → a ≡ b → ⊥
uid_apart a b h e = let z : true ≡ false = sym (uid_itself a) ∙ ap (λ u. same_uid a u) e ∙ h in cc

-- two stored entities of one uid are one
pub one_entity : (entities : List PlainEntity) → IsDistinct same_uid (map (λ e. e.uid) entities) → (a b : PlainEntity) → IsIn a entities → IsIn b entities → a.uid ≡ b.uid → a ≡ b
one_entity [] d a b m n e = absurd m
one_entity (x ∷ xs) d a b m n e =
    let others = IsDistinct-head same_uid x.uid (map (λ e. e.uid) xs) d in
    let rest = IsDistinct-tail same_uid x.uid (map (λ e. e.uid) xs) d in
    ⊎_elim
    (λ h. ⊎_elim (λ g. h ∙ sym g) (λ g. absurd (uid_apart x.uid b.uid (of_all (λ y. same_uid x.uid y ≡ false) b.uid (map (λ e. e.uid) xs) others (in_map (λ e. e.uid) b xs g)) (ap (λ e. e.uid) (sym h) ∙ e))) n)
    (λ h. ⊎_elim (λ g. absurd (uid_apart x.uid a.uid (of_all (λ y. same_uid x.uid y ≡ false) a.uid (map (λ e. e.uid) xs) others (in_map (λ e. e.uid) a xs h)) (ap (λ e. e.uid) (sym g) ∙ sym e))) (λ g. one_entity xs rest a b h g e) n)
    m

module _ (type : List ℕ) (entities : List PlainEntity) (store : IsStore entities) (entity : PlainEntity) (held : IsIn entity entities) (own : entity.uid.0 ≡ type) where
  stored : IsIn entity (stored_of type entities)
  stored = in_filter (λ e. bytes_eq e.uid.0 type) entity entities (bytes_same entity.uid.0 type own) held

  -- a stored entity with the same term is this one
  this_one : (x : PlainEntity) → IsIn x (stored_of type entities) → entity_term x.uid ≡ entity_term entity.uid → x ≡ entity
  this_one x m e = one_entity entities store.distinct x entity (out_filter (λ e. bytes_eq e.uid.0 type) x entities m).0 held (one_uid x.uid entity.uid e)

  -- a table of something of each stored entity
  pub mapped_one : (g : PlainEntity → PlainTerm) → HasOne (entity_term entity.uid) (g entity) (map (λ e. (entity_term e.uid, g e)) (stored_of type entities))
  mapped_one g = (
    in_map (λ e. (entity_term e.uid, g e)) entity (stored_of type entities) stored,
    λ y m. let r = out_map (λ e. (entity_term e.uid, g e)) (entity_term entity.uid, y) (stored_of type entities) m in
        ap (λ p. p.1) r.2 ∙ ap g (this_one r.0 r.1 (sym (ap (λ p. p.0) r.2))),
  )

  pub ancestors_given : (default : PlainType → PlainTerm) (kind : List ℕ) → folded_app (ancestors_table default type kind entities) (entity_term entity.uid) ≡ set_of_type kind entity.ancestors
  ancestors_given default kind =
      given_at default (EntityType type) (SetType (EntityType kind)) (map (ancestors_entry kind) (stored_of type entities)) (entity_term entity.uid) (set_of_type kind entity.ancestors) refl
      (sorted_at (map (ancestors_entry kind) (stored_of type entities)) (entity_term entity.uid) (set_of_type kind entity.ancestors) (mapped_one (λ e. set_of_type kind e.ancestors)))

  keys_given : (default : PlainType → PlainTerm)
      → folded_app (table_of default (EntityType type) (SetType StringType) (map keys_entry (stored_of type entities))) (entity_term entity.uid) ≡ set_term StringType (map text_term (keys_of entity.tags))
  keys_given default =
      given_at default (EntityType type) (SetType StringType) (map keys_entry (stored_of type entities)) (entity_term entity.uid) (set_term StringType (map text_term (keys_of entity.tags))) refl
      (sorted_at (map keys_entry (stored_of type entities)) (entity_term entity.uid) (set_term StringType (map text_term (keys_of entity.tags))) (mapped_one (λ e. set_term StringType (map text_term (keys_of e.tags)))))

  -- the record of the attributes
  attributes_one : (attributes : CedarAttributes) (ps : List (PlainTerm × PlainTerm)) → each (attributes_entry attributes) (stored_of type entities) ≡ Ok ps
      → (t : PlainTerm) × (fields_term attributes entity.fields ≡ Ok t) × HasOne (entity_term entity.uid) t ps
  attributes_one attributes ps h =
      let here = each_in (attributes_entry attributes) entity (stored_of type entities) ps h stored in
      let made = stated_first (fields_term attributes entity.fields) (λ t. Ok (entity_term entity.uid, t)) here.0 here.1 in
      let is : (entity_term entity.uid, made.0) ≡ here.0 = same_ok (entity_term entity.uid, made.0) here.0 made.2 in (
        made.0,
        made.1,
        (
          subst (λ p. IsIn p ps) (sym is) here.2,
          λ y m.
              let from = each_out (attributes_entry attributes) (entity_term entity.uid, y) (stored_of type entities) ps h m in
              let other = stated_first (fields_term attributes from.0.fields) (λ t. Ok (entity_term from.0.uid, t)) (entity_term entity.uid, y) from.2 in
              let pair : (entity_term from.0.uid, other.0) ≡ (entity_term entity.uid, y) = same_ok (entity_term from.0.uid, other.0) (entity_term entity.uid, y) other.2 in
              let e : from.0 ≡ entity = this_one from.0 from.1 (ap (λ p. p.0) pair) in
              sym (ap (λ p. p.1) pair) ∙ same_ok other.0 made.0 (sym other.1 ∙ ap (λ x. fields_term attributes x.fields) e ∙ made.1),
        ),
      )

  pub attributes_given : (default : PlainType → PlainTerm) (attributes : CedarAttributes) (f : PlainUnary) → attributes_table default type attributes entities ≡ Ok f
      → fields_term attributes entity.fields ≡ Ok (folded_app f (entity_term entity.uid))
  attributes_given default attributes f h =
      let made = stated_first (converted (type_of_cedar (ClosedRecordType attributes))) (λ own. each (attributes_entry attributes) (stored_of type entities) >>= λ ps. Ok (table_of default (EntityType type) own ps)) f h in
      let listed = stated_first (each (attributes_entry attributes) (stored_of type entities)) (λ ps. Ok (table_of default (EntityType type) made.0 ps)) f made.2 in
      let is : table_of default (EntityType type) made.0 listed.0 ≡ f = same_ok (table_of default (EntityType type) made.0 listed.0) f listed.2 in
      let one = attributes_one attributes listed.0 listed.1 in
      one.1 ∙ ap Ok (sym (ap (λ g. folded_app g (entity_term entity.uid)) (sym is)
      ∙ given_at default (EntityType type) made.0 listed.0 (entity_term entity.uid) one.0 refl (sorted_at listed.0 (entity_term entity.uid) one.0 one.2)))

  -- the values of the tags
  tag_one : (value : PlainCedar) (pss : List (List (PlainTerm × PlainTerm))) → each (tag_entries value) (stored_of type entities) ≡ Ok pss → (p : List ℕ × Option PlainValue) → IsIn p entity.tags
      → (t : PlainTerm) × ((known_value p.1 >>= λ v. term_of_value value v) ≡ Ok t) × HasOne (tag_record (entity_term entity.uid) (text_term p.0)) t (flat_map (λ l. l) pss)
  tag_one value pss h p m =
      let here = each_in (tag_entries value) entity (stored_of type entities) pss h stored in
      let tag = each_in (tag_entry value entity.uid) p entity.tags here.0 here.1 m in
      let known = stated_first (known_value p.1) (λ v. term_of_value value v >>= λ t. Ok (tag_record (entity_term entity.uid) (text_term p.0), t)) tag.0 tag.1 in
      let made = stated_first (term_of_value value known.0) (λ t. Ok (tag_record (entity_term entity.uid) (text_term p.0), t)) tag.0 known.2 in
      let is : (tag_record (entity_term entity.uid) (text_term p.0), made.0) ≡ tag.0 = same_ok (tag_record (entity_term entity.uid) (text_term p.0), made.0) tag.0 made.2 in (
        made.0,
        ap (λ o. o >>= λ v. term_of_value value v) known.1 ∙ made.1,
        (
          subst (λ q. IsIn q (flat_map (λ l. l) pss)) (sym is) (in_flat tag.0 here.0 pss here.2 tag.2),
          λ y n.
              let within = out_flat (tag_record (entity_term entity.uid) (text_term p.0), y) pss n in
              let from = each_out (tag_entries value) within.0 (stored_of type entities) pss h within.1 in
              let at = each_out (tag_entry value from.0.uid) (tag_record (entity_term entity.uid) (text_term p.0), y) from.0.tags within.0 from.2 within.2 in
              let other = stated_first (known_value at.0.1) (λ v. term_of_value value v >>= λ t. Ok (tag_record (entity_term from.0.uid) (text_term at.0.0), t)) (tag_record (entity_term entity.uid) (text_term p.0), y) at.2 in
              let term = stated_first (term_of_value value other.0) (λ t. Ok (tag_record (entity_term from.0.uid) (text_term at.0.0), t)) (tag_record (entity_term entity.uid) (text_term p.0), y) other.2 in
              let pair : (tag_record (entity_term from.0.uid) (text_term at.0.0), term.0) ≡ (tag_record (entity_term entity.uid) (text_term p.0), y) = same_ok (tag_record (entity_term from.0.uid) (text_term at.0.0), term.0) (tag_record (entity_term entity.uid) (text_term p.0), y) term.2 in
              let e : from.0 ≡ entity = this_one from.0 from.1 (ap entity_term (tag_uid from.0.uid entity.uid at.0.0 p.0 (ap (λ q. q.0) pair))) in
              let key : at.0.0 ≡ p.0 = tag_key from.0.uid entity.uid at.0.0 p.0 (ap (λ q. q.0) pair) in
              let tags : IsIn at.0 entity.tags = subst (λ x. IsIn at.0 x.tags) e at.1 in
              let ascending : ascends text_cmp (keys_of entity.tags) ≡ true = of_all (λ x. IsTrue (ascends text_cmp (keys_of x.tags))) entity entities store.tags held in
              let value_same : at.0.1 ≡ p.1 = one_value text_cmp nat_list_cmp_total entity.tags ascending p.0 at.0.1 p.1 (subst (λ k. IsIn (k, at.0.1) entity.tags) key tags) m in
              sym (ap (λ q. q.1) pair)
              ∙ same_ok term.0 made.0 (sym (ap (λ o. o >>= λ v. term_of_value value v) other.1 ∙ term.1) ∙ ap (λ o. known_value o >>= λ v. term_of_value value v) value_same ∙ (ap (λ o. o >>= λ v. term_of_value value v) known.1 ∙ made.1)),
        ),
      )

  pub tags_given : (default : PlainType → PlainTerm) (value : PlainCedar) (tags : PlainTags) → tags_tables default type value entities ≡ Ok tags → HasTagsOf value entity tags
  tags_given default value tags h =
      let keys : PlainUnary = table_of default (EntityType type) (SetType StringType) (map keys_entry (stored_of type entities)) in
      let made = stated_first (converted (type_of_cedar value)) (λ own. each (tag_entries value) (stored_of type entities) >>= λ pss. Ok (record { keys = keys; tag_values = table_of default (tag_type type) own (flat_map (λ ps. ps) pss) })) tags h in
      let listed = stated_first (each (tag_entries value) (stored_of type entities)) (λ pss. Ok (record { keys = keys; tag_values = table_of default (tag_type type) made.0 (flat_map (λ ps. ps) pss) })) tags made.2 in
      let is : record { keys = keys; tag_values = table_of default (tag_type type) made.0 (flat_map (λ ps. ps) listed.0) } ≡ tags = same_ok (record { keys = keys; tag_values = table_of default (tag_type type) made.0 (flat_map (λ ps. ps) listed.0) }) tags listed.2 in
      subst (λ g. HasTagsOf value entity g) is (record {
        keys = keys_given default;
        tag_values = λ p m.
            let one = tag_one value listed.0 listed.1 p (from_contains p entity.tags m) in
            one.1 ∙ ap Ok (sym (given_at default (tag_type type) made.0 (flat_map (λ ps. ps) listed.0) (tag_record (entity_term entity.uid) (text_term p.0)) one.0 refl
            (sorted_at (flat_map (λ ps. ps) listed.0) (tag_record (entity_term entity.uid) (text_term p.0)) one.0 one.2)));
      })
