-- Attributes with their types, as they are put into a map and shared.
use Rattle.std.proofs.Common.{◌≡◌, ℕ, ◌≤◌, List, length, map, take, sym, ap, ◌∙◌}
use Rattle.std.specs.BTreeMap.{insert_entry}
use Rattle.std.specs.Prelude.{Err, IsTrue, Ok, OnOk, Result}
use Rattle.std.specs.Rc.{rc_str_bytes}
use Rattle.std.specs.declared.alloc.Global.{Global}
use Rattle.std.specs.declared.rc.RcStr.{RcStr}
use Rattle.law_terms.specs.ValueOrder.{ascends, text_cmp}
use Rattle.smt_term.specs.Pairs.{attributes_in}
use Rattle.smt_term.specs.SortedPairs.{sorted_pairs}
use Rattle.smt_values.proofs.Said.{said_put, said_sorted, shared_ascend}
use Rattle.smt_values.specs.Named.{named}
use Rattle.smt_values.specs.TypeView.{named_attribute, named_attributes, plain_attribute_type, plain_attributes-named, plain_cedar, plain_cedar-Record, plain_cedar_attributes, record_with}
use Rattle.smt_values.specs.Cedar.{PlainAttributeType, cedar_attributes}
use Rattle.smt_values.specs.declared.attributes.AttributeType.{AttributeType}
use Rattle.smt_values.specs.declared.attributes.Attributes.{Attributes}
use Rattle.smt_values.specs.declared.cedar_type.CedarType.{Record}
use Rattle.smt_values.specs.declared.cedar_type.OpenTag.{OpenTag}

pub attributes_sorted : (ps given : List (RcStr Global × AttributeType)) → map named ps ≡ sorted_pairs text_cmp (map named given) → map named_attribute ps ≡ sorted_pairs text_cmp (map named_attribute given)
attributes_sorted = said_sorted plain_attribute_type

pub attributes_put : (es new : List (RcStr Global × AttributeType)) (k : RcStr Global) (v : AttributeType) → map named new ≡ insert_entry text_cmp (map named es) (rc_str_bytes k) v
    → map named_attribute new ≡ insert_entry text_cmp (map named_attribute es) (rc_str_bytes k) (plain_attribute_type v)
attributes_put = said_put plain_attribute_type

-- the same by a call that answers Ok, of what is said of the new pairs
pub attributes_put_by : {U E : Type 0} (r : Result U E) (es new : List (RcStr Global × AttributeType)) (k : RcStr Global) (v : AttributeType) (said : List (List ℕ × PlainAttributeType)) → said ≡ map named_attribute new
    → OnOk r (map named new ≡ insert_entry text_cmp (map named es) (rc_str_bytes k) v) → OnOk r (said ≡ insert_entry text_cmp (map named_attribute es) (rc_str_bytes k) (plain_attribute_type v))
attributes_put_by (Ok u) es new k v said is h = is ∙ attributes_put es new k v h
attributes_put_by (Err e) es new k v said is h = tt

pub attributes_shared : (ps all qs : List (RcStr Global × AttributeType)) (i : ℕ) → length all ≤ i → map named_attribute ps ≡ map named_attribute (take i all) → all ≡ qs → IsTrue (ascends text_cmp (attributes_in qs)) → IsTrue (ascends text_cmp (attributes_in ps))
attributes_shared = shared_ascend plain_attribute_type

-- types of records whose attributes say the same
pub record_shared : (shared attrs : Attributes) (tag : OpenTag) → named_attributes shared ≡ named_attributes attrs → plain_cedar (Record shared tag) ≡ plain_cedar (Record attrs tag)
record_shared shared attrs tag same =
    let alike : plain_cedar_attributes shared ≡ plain_cedar_attributes attrs = plain_attributes-named shared ∙ ap cedar_attributes same ∙ sym (plain_attributes-named attrs) in
    plain_cedar-Record shared tag ∙ ap (record_with tag) alike ∙ sym (plain_cedar-Record attrs tag)
