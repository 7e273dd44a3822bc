-- What is symbolized says at stored entities and at actions what is stored of them.
use Rattle.std.proofs.Common.{◌≡◌, Bool, true, false, not, List, ◌++◌, Option, Some, None, Ok, Err, cond, map, option_map, sym, ap, ◌∙◌, subst}
use Rattle.std.proofs.lemmas.Cmp.{nat_list_cmp_total}
use Rattle.std.specs.Map.{lookup}
use Rattle.std.specs.Prelude.{ℕ, bytes_eq}
use mathlib.Core.Logic.{⊎_elim}
use Rattle.law_folding.specs.FoldFunctions.{folded_app}
use Rattle.smt_term.specs.SortedPairs.{sorted_pairs}
use Rattle.law_terms.proofs.Sorted.{IsIn}
use Rattle.law_terms.specs.Plain.{PlainType, PlainTerm}
use Rattle.law_terms.specs.ValueOrder.{text_cmp}
use Rattle.smt_values.specs.Cedar.{PlainCedar, ClosedRecordType, CedarAttributes}
use Rattle.smt_values.specs.PlainValues.{RecordValue, value_fields}
use Rattle.smt_values.specs.Plain.{PlainEntity, PlainEntry, StandardType, PlainAction, PlainSchema, PlainRequestEnv, PlainRequest, PlainEnv}
use Rattle.smt_values.specs.Stores.{action_of, is_of_schema}
use Rattle.smt_values.specs.DefaultTerm.{default_term}
use Rattle.smt_values.specs.Outcomes.{◌>>=◌, each, ForeignRequest}
use Rattle.smt_values.specs.TermOfValue.{term_of_value}
use Rattle.law_cedar.specs.Laws.{IsStore, IsSchema, IsRequestOf, IsSymbolicOf, HasStored, HasTags, TablesSayWhatIsStored}
use Rattle.law_cedar.specs.Plain.{PlainTags, PlainData, PlainEntities, PlainSymbolicRequest, PlainSymbolicEnvironment}
use Rattle.law_cedar.specs.Symbolized.{action_asked, action_data, action_found, action_table, action_types, entities_of, environment_with, is_action_type, known_part, listed_types, own_types, request_of, standard_data, tags_held, type_data, typed_data}
use Rattle.law_cedar.specs.Tables.{ancestors_table, ancestors_tables, attributes_table, entity_term, tags_tables}
use Rattle.law_cedar.proofs.Actions.{action_given, is_of_actions, type_in}
use Rattle.law_cedar.proofs.Members.{HasOne, from_contains, in_behind, in_front, in_map, one_value, out_append, out_filter, out_map}
use Rattle.law_cedar.proofs.Outcomes.{each_in, each_out, ok, same_ok, stated_first}
use Rattle.law_cedar.proofs.Stored.{ancestors_given, attributes_given, found_text, sorted_text, tags_given}

-- ---- pairs of each of some names and what is said of it

named_one : {X : Type 0} (g : List ℕ → X) (k : List ℕ) (ks : List (List ℕ)) → IsIn k ks → HasOne k (g k) (map (λ l. (l, g l)) ks)
named_one g k ks m = (in_map (λ l. (l, g l)) k ks m, λ y n. let r = out_map (λ l. (l, g l)) (k, y) ks n in ap (λ p. p.1) r.2 ∙ ap g (sym (ap (λ p. p.0) r.2)))

-- ---- entity types

module _ (default : PlainType → PlainTerm) (schema : PlainSchema) (entities : List PlainEntity) (made : PlainEntities) (ordered : IsSchema schema) (whole : entities_of default schema entities ≡ Ok made) where
  abbrev of_actions : List (List ℕ × PlainData)
  of_actions = map (λ type. (type, action_data default schema.actions type)) (action_types schema.actions)

  listed : (held : PlainEntities) × (each (typed_data default entities) (own_types schema) ≡ Ok held) × (ok (sorted_pairs text_cmp (held ++ of_actions)) ≡ ok made)
  listed = stated_first (each (typed_data default entities) (own_types schema)) (λ held. Ok (sorted_pairs text_cmp (held ++ of_actions))) made whole

  same_made : sorted_pairs text_cmp (listed.0 ++ of_actions) ≡ made
  same_made = same_ok (sorted_pairs text_cmp (listed.0 ++ of_actions)) made listed.2

  -- no type is both
  no_both : (type : List ℕ) (entry : PlainEntry) → IsIn (type, entry) (own_types schema) → IsIn type (action_types schema.actions) → ⊥
  no_both type entry m n =
      let r = (out_filter (λ p. not (is_action_type schema.actions p.0)) (type, entry) schema.entity_types m).1 in
      let z : true ≡ false = sym r ∙ ap not (is_of_actions schema.actions type n) in cc

  abbrev own_entry : (type : List ℕ) (y : PlainData) → Type 0
  own_entry type y = (entry : PlainEntry) × IsIn (type, entry) (own_types schema) × (type_data default entities type entry ≡ Ok y)

  -- what is listed of a type is what its entry gives
  from_entry : (type : List ℕ) (y : PlainData) → IsIn (type, y) listed.0 → own_entry type y
  from_entry type y m =
      let from = each_out (typed_data default entities) (type, y) (own_types schema) listed.0 listed.1 m in
      let said = stated_first (type_data default entities from.0.0 from.0.1) (λ d. Ok (from.0.0, d)) (type, y) from.2 in
      let pair : (from.0.0, said.0) ≡ (type, y) = same_ok (from.0.0, said.0) (type, y) said.2 in
      let name : from.0.0 ≡ type = ap (λ p. p.0) pair in
      (from.0.1, subst (λ n. IsIn (n, from.0.1) (own_types schema)) name from.1, ap (λ n. type_data default entities n from.0.1) (sym name) ∙ (said.1 ∙ ap Ok (ap (λ p. p.1) pair)))

  entry_held : (type : List ℕ) (entry : PlainEntry) → IsIn (type, entry) (own_types schema) → IsIn (type, entry) schema.entity_types
  entry_held type entry m = (out_filter (λ p. not (is_action_type schema.actions p.0)) (type, entry) schema.entity_types m).0

  -- what is listed of a type is one
  entry_one : (type : List ℕ) (entry : PlainEntry) → IsIn (type, entry) (own_types schema) → (d : PlainData) → type_data default entities type entry ≡ Ok d → (y : PlainData) → IsIn (type, y) listed.0 → y ≡ d
  entry_one type entry m d given y n =
      let r = from_entry type y n in
      let e : r.0 ≡ entry = one_value text_cmp nat_list_cmp_total schema.entity_types ordered type r.0 entry (entry_held type r.0 r.1) (entry_held type entry m) in
      same_ok y d (sym r.2 ∙ (ap (type_data default entities type) e ∙ given))

  named_action : (type : List ℕ) (y : PlainData) → IsIn (type, y) of_actions → IsIn type (action_types schema.actions)
  named_action type y n =
      let r = out_map (λ t. (t, action_data default schema.actions t)) (type, y) (action_types schema.actions) n in
      subst (λ t. IsIn t (action_types schema.actions)) (sym (ap (λ p. p.0) r.2)) r.1

  type_alone : (type : List ℕ) (entry : PlainEntry) → IsIn (type, entry) (own_types schema) → (d : PlainData) → type_data default entities type entry ≡ Ok d → (y : PlainData) → IsIn (type, y) (listed.0 ++ of_actions) → y ≡ d
  type_alone type entry m d given y n =
      ⊎_elim (λ k. entry_one type entry m d given y k) (λ k. absurd (no_both type entry m (named_action type y k))) (out_append (type, y) listed.0 of_actions n)

  type_one : (type : List ℕ) (entry : PlainEntry) → IsIn (type, entry) (own_types schema) → (d : PlainData) × (type_data default entities type entry ≡ Ok d) × HasOne type d (listed.0 ++ of_actions)
  type_one type entry m =
      let here = each_in (typed_data default entities) (type, entry) (own_types schema) listed.0 listed.1 m in
      let made_of = stated_first (type_data default entities type entry) (λ d. Ok (type, d)) here.0 here.1 in
      let pair : (type, made_of.0) ≡ here.0 = same_ok (type, made_of.0) here.0 made_of.2 in
      (made_of.0, made_of.1, (in_front (type, made_of.0) listed.0 of_actions (subst (λ p. IsIn p listed.0) (sym pair) here.2), λ y n. type_alone type entry m made_of.0 made_of.1 y n))

  action_one : (type : List ℕ) → IsIn type (action_types schema.actions) → HasOne type (action_data default schema.actions type) (listed.0 ++ of_actions)
  action_one type m = (
    in_behind (type, action_data default schema.actions type) listed.0 of_actions (in_map (λ t. (t, action_data default schema.actions t)) type (action_types schema.actions) m),
    λ y n. ⊎_elim
        (λ k. let r = from_entry type y k in absurd (no_both type r.0 r.1 m))
        (λ k. (named_one (action_data default schema.actions) type (action_types schema.actions) m).1 y k)
        (out_append (type, y) listed.0 of_actions n),
  )

  pub found_type : (type : List ℕ) (entry : PlainEntry) → IsIn (type, entry) (own_types schema) → (said : PlainData) × (type_data default entities type entry ≡ Ok said) × (lookup (bytes_eq type) made ≡ Some said)
  found_type type entry m =
      let r = type_one type entry m in
      (r.0, r.1, ap (lookup (bytes_eq type)) (sym same_made) ∙ sorted_text (listed.0 ++ of_actions) type r.0 r.2)

  pub found_action : (type : List ℕ) → IsIn type (action_types schema.actions) → lookup (bytes_eq type) made ≡ Some (action_data default schema.actions type)
  found_action type m = ap (lookup (bytes_eq type)) (sym same_made) ∙ sorted_text (listed.0 ++ of_actions) type (action_data default schema.actions type) (action_one type m)

-- ---- stored entities

tags_said : (default : PlainType → PlainTerm) (type : List ℕ) (value : Option PlainCedar) (entities : List PlainEntity) (store : IsStore entities) (entity : PlainEntity) → IsIn entity entities → entity.uid.0 ≡ type
    → (tags : Option PlainTags) → tags_held default type value entities ≡ Ok tags → HasTags value entity tags
tags_said default type None entities store entity m own tags h = subst (λ o. HasTags None entity o) (same_ok None tags h) tt
tags_said default type (Some value) entities store entity m own tags h =
    let made = stated_first (tags_tables default type value entities) (λ t. Ok (Some t)) tags h in
    subst (λ o. HasTags (Some value) entity o) (same_ok (Some made.0) tags made.2) (tags_given type entities store entity m own default value made.0 made.1)

stored_said : (default : PlainType → PlainTerm) (type : List ℕ) (kinds : List (List ℕ)) (attributes : CedarAttributes) (value : Option PlainCedar) (entities : List PlainEntity) (store : IsStore entities) (entity : PlainEntity) → IsIn entity entities → entity.uid.0 ≡ type
    → (said : PlainData) → standard_data default type kinds attributes value entities ≡ Ok said → HasStored kinds attributes value entity said
stored_said default type kinds attributes value entities store entity m own said h =
    let fields = stated_first (attributes_table default type attributes entities) (λ f. tags_held default type value entities >>= λ tags. Ok (record { attributes = f; ancestors = ancestors_tables default type kinds entities; members = None; tags = tags })) said h in
    let tags = stated_first (tags_held default type value entities) (λ tags. Ok (record { attributes = fields.0; ancestors = ancestors_tables default type kinds entities; members = None; tags = tags })) said fields.2 in
    let is : record { attributes = fields.0; ancestors = ancestors_tables default type kinds entities; members = None; tags = tags.0 } ≡ said =
    same_ok (record { attributes = fields.0; ancestors = ancestors_tables default type kinds entities; members = None; tags = tags.0 }) said tags.2 in
    subst (λ d. HasStored kinds attributes value entity d) is (record {
      attributes = attributes_given type entities store entity m own default attributes fields.0 fields.1;
      ancestors = λ kind n.
          ap (option_map (λ f. folded_app f (entity_term entity.uid)))
          (sorted_text (map (λ k. (k, ancestors_table default type k entities)) kinds) kind (ancestors_table default type kind entities) (named_one (λ k. ancestors_table default type k entities) kind kinds (from_contains kind kinds n)))
          ∙ ap Some (ancestors_given type entities store entity m own default kind);
      tags = tags_said default type value entities store entity m own tags.0 tags.1;
    })

-- ---- requests

known_is : {A : Type 0} (o : Option A) (a : A) → known_part o ≡ Ok a → o ≡ Some a
known_is (Some b) a h = ap Some (same_ok b a h)
known_is None a h = cc

request_said : (attributes : CedarAttributes) (request : PlainRequest) (made : PlainSymbolicRequest) → request_of attributes request ≡ Ok made → IsRequestOf attributes request made
request_said attributes request made h =
    let p = stated_first (known_part request.principal) (λ principal. known_part request.action >>= λ action. known_part request.resource >>= λ resource. known_part request.context >>= λ fields.
    term_of_value (ClosedRecordType attributes) (RecordValue (value_fields fields)) >>= λ context. Ok (record { principal = entity_term principal; action = entity_term action; resource = entity_term resource; context = context })) made h in
    let a = stated_first (known_part request.action) (λ action. known_part request.resource >>= λ resource. known_part request.context >>= λ fields.
    term_of_value (ClosedRecordType attributes) (RecordValue (value_fields fields)) >>= λ context. Ok (record { principal = entity_term p.0; action = entity_term action; resource = entity_term resource; context = context })) made p.2 in
    let r = stated_first (known_part request.resource) (λ resource. known_part request.context >>= λ fields.
    term_of_value (ClosedRecordType attributes) (RecordValue (value_fields fields)) >>= λ context. Ok (record { principal = entity_term p.0; action = entity_term a.0; resource = entity_term resource; context = context })) made a.2 in
    let c = stated_first (known_part request.context) (λ fields.
    term_of_value (ClosedRecordType attributes) (RecordValue (value_fields fields)) >>= λ context. Ok (record { principal = entity_term p.0; action = entity_term a.0; resource = entity_term r.0; context = context })) made r.2 in
    let t = stated_first (term_of_value (ClosedRecordType attributes) (RecordValue (value_fields c.0))) (λ context. Ok (record { principal = entity_term p.0; action = entity_term a.0; resource = entity_term r.0; context = context })) made c.2 in
    let is : record { principal = entity_term p.0; action = entity_term a.0; resource = entity_term r.0; context = t.0 } ≡ made = same_ok (record { principal = entity_term p.0; action = entity_term a.0; resource = entity_term r.0; context = t.0 }) made t.2 in
    subst (λ m. IsRequestOf attributes request m) is (record {
      principal = ap (option_map entity_term) (known_is request.principal p.0 p.1);
      action = ap (option_map entity_term) (known_is request.action a.0 a.1);
      resource = ap (option_map entity_term) (known_is request.resource r.0 r.1);
      context = ap (option_map (λ fields. term_of_value (ClosedRecordType attributes) (RecordValue (value_fields fields)))) (known_is request.context c.0 c.1) ∙ ap Some t.1;
    })

-- ---- the whole

found_is : (o : Option PlainAction) (action : PlainAction) → action_found o ≡ Ok action → o ≡ Some action
found_is (Some b) action h = ap Some (same_ok b action h)
found_is None action h = cc

asked_is : (b : Bool) (o : Option PlainAction) (action : PlainAction) → cond b (action_found o) (Err ForeignRequest) ≡ Ok action → o ≡ Some action
asked_is true o action h = found_is o action h
asked_is false o action h = cc

said_with : (default : PlainType → PlainTerm) (asked : PlainRequestEnv) (schema : PlainSchema) (env : PlainEnv) (made : PlainSymbolicEnvironment) → IsSchema schema → IsStore env.entities → environment_with default asked schema env ≡ Ok made → IsSymbolicOf asked schema env made
said_with default asked schema env made ordered store h =
    let action = stated_first (action_asked schema asked) (λ action. request_of action.context env.request >>= λ request. entities_of default schema env.entities >>= λ entities. Ok (record { request = request; entities = entities })) made h in
    let request = stated_first (request_of action.0.context env.request) (λ request. entities_of default schema env.entities >>= λ entities. Ok (record { request = request; entities = entities })) made action.2 in
    let entities = stated_first (entities_of default schema env.entities) (λ entities. Ok (record { request = request.0; entities = entities })) made request.2 in
    let is : record { request = request.0; entities = entities.0 } ≡ made = same_ok (record { request = request.0; entities = entities.0 }) made entities.2 in
    subst (λ m. IsSymbolicOf asked schema env m) is (record {
      request = (action.0, asked_is (is_of_schema schema asked) (action_of schema.actions asked.action) action.0 action.1, request_said action.0.context env.request request.0 request.1);
      stored = λ type kinds attributes value entity m n own.
          let r = found_type default schema env.entities entities.0 ordered entities.1 type (StandardType kinds attributes value) (from_contains (type, StandardType kinds attributes value) (own_types schema) m) in
          (r.0, r.2, stored_said default type kinds attributes value env.entities store entity (from_contains entity env.entities n) own r.0 r.1);
      actions = λ uid entry kind e n. (
        action_data default schema.actions uid.0,
        found_action default schema env.entities entities.0 ordered entities.1 uid.0 (type_in schema.actions uid entry e),
        ap (option_map (λ f. folded_app f (entity_term uid)))
            (found_text (map (λ k. (k, action_table default schema.actions uid.0 k)) (action_types schema.actions)) kind (action_table default schema.actions uid.0 kind)
            (named_one (λ k. action_table default schema.actions uid.0 k) kind (action_types schema.actions) (from_contains kind (action_types schema.actions) n)))
            ∙ ap Some (action_given default schema.actions uid entry kind e),
      );
    })

pub tables_say : TablesSayWhatIsStored
tables_say asked schema env made ordered store h = said_with (default_term (listed_types schema)) asked schema env made ordered store h
