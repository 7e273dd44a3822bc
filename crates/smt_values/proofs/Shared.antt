-- Lists that were shared say the same, so what holds of the one holds of the other.
use Rattle.std.proofs.Common.{◌≡◌, ℕ, ◌≤◌, List, length, map, take, sym, ap, ◌∙◌, subst}
use Rattle.std.proofs.lemmas.List.{take_all}
use Rattle.std.specs.List.{IsDistinct}
use Rattle.std.specs.Map.{keys_of}
use Rattle.std.specs.Prelude.{IsTrue}
use Rattle.law_terms.specs.ValueOrder.{ascends, text_cmp}
use Rattle.smt_term.specs.Entities.{bytes_of_type, texts_of_entity}
use Rattle.smt_term.specs.declared.entity.EntityType.{EntityType}
use Rattle.smt_values.specs.Cedar.{cedar_attributes}
use Rattle.smt_values.specs.TypeView.{named_attributes, plain_attributes-named, plain_cedar_attributes}
use Rattle.smt_values.specs.declared.attributes.Attributes.{Attributes}
use Rattle.smt_values.proofs.PutEntity.{uids_in, uids-said}
use Rattle.smt_values.proofs.PutEntry.{keys-said}
use Rattle.smt_values.specs.Uids.{same_uid}
use Rattle.smt_values.specs.View.{entry_named, plain_stored}
use Rattle.smt_values.specs.declared.entity.Entity.{Entity}
use Rattle.smt_values.specs.declared.entries.EntityEntry.{EntityEntry}

pub attributes_alike : (shared attrs : Attributes) → named_attributes shared ≡ named_attributes attrs → plain_cedar_attributes shared ≡ plain_cedar_attributes attrs
attributes_alike shared attrs same = plain_attributes-named shared ∙ ap cedar_attributes same ∙ sym (plain_attributes-named attrs)

-- entries that say what the first ones of others say, where these are all
pub entries_ascend : (ps all qs : List (EntityType × EntityEntry)) (i : ℕ) → length all ≤ i → map entry_named ps ≡ map entry_named (take i all) → all ≡ qs → IsTrue (ascends text_cmp (map (λ p. bytes_of_type p.0) qs))
    → IsTrue (ascends text_cmp (map (λ p. bytes_of_type p.0) ps))
entries_ascend ps all qs i l same is h =
    let alike : map entry_named ps ≡ map entry_named qs = same ∙ ap (map entry_named) (take_all i all l ∙ is) in
    subst (λ ks. IsTrue (ascends text_cmp ks)) (sym (keys-said qs) ∙ ap keys_of (sym alike) ∙ keys-said ps) h

-- the same of entities
pub entities_distinct : (es all ds : List Entity) (i : ℕ) → length all ≤ i → map plain_stored es ≡ map plain_stored (take i all) → all ≡ ds → IsDistinct same_uid (map (λ e. texts_of_entity e.uid) ds) → IsDistinct same_uid (map (λ e. texts_of_entity e.uid) es)
entities_distinct es all ds i l same is h =
    let alike : map plain_stored es ≡ map plain_stored ds = same ∙ ap (map plain_stored) (take_all i all l ∙ is) in
    subst (IsDistinct same_uid) (sym (uids-said ds) ∙ ap uids_in (sym alike) ∙ uids-said es) h
