-- Attributes with their values, or with what is known of them, as they are put into a map and shared.
use Rattle.std.proofs.Common.{◌≡◌, ℕ, ◌≤◌, List, length, map, take}
use Rattle.std.specs.BTreeMap.{insert_entry}
use Rattle.std.specs.Prelude.{IsTrue}
use Rattle.std.specs.Rc.{rc_str_bytes}
use Rattle.std.specs.declared.alloc.Global.{Global}
use Rattle.std.specs.declared.rc.RcStr.{RcStr}
use Rattle.law_terms.specs.ValueOrder.{ascends, text_cmp}
use Rattle.smt_term.specs.Pairs.{attributes_in}
use Rattle.smt_term.specs.SortedPairs.{sorted_pairs}
use Rattle.smt_values.proofs.Said.{said_put, said_sorted, shared_ascend}
use Rattle.smt_values.specs.Named.{named}
use Rattle.smt_values.specs.ValueView.{known_field, named_field, plain_known, plain_value_of}
use Rattle.smt_values.specs.declared.value.PartialValue.{PartialValue}
use Rattle.smt_values.specs.declared.value.Value.{Value}

pub fields_sorted : (ps given : List (RcStr Global × Value)) → map named ps ≡ sorted_pairs text_cmp (map named given) → map named_field ps ≡ sorted_pairs text_cmp (map named_field given)
fields_sorted = said_sorted plain_value_of

pub fields_put : (es new : List (RcStr Global × Value)) (k : RcStr Global) (v : Value) → map named new ≡ insert_entry text_cmp (map named es) (rc_str_bytes k) v
    → map named_field new ≡ insert_entry text_cmp (map named_field es) (rc_str_bytes k) (plain_value_of v)
fields_put = said_put plain_value_of

pub fields_shared : (ps all qs : List (RcStr Global × Value)) (i : ℕ) → length all ≤ i → map named_field ps ≡ map named_field (take i all) → all ≡ qs → IsTrue (ascends text_cmp (attributes_in qs)) → IsTrue (ascends text_cmp (attributes_in ps))
fields_shared = shared_ascend plain_value_of

pub known_sorted : (ps given : List (RcStr Global × PartialValue)) → map named ps ≡ sorted_pairs text_cmp (map named given) → map known_field ps ≡ sorted_pairs text_cmp (map known_field given)
known_sorted = said_sorted plain_known

pub known_put : (es new : List (RcStr Global × PartialValue)) (k : RcStr Global) (v : PartialValue) → map named new ≡ insert_entry text_cmp (map named es) (rc_str_bytes k) v
    → map known_field new ≡ insert_entry text_cmp (map known_field es) (rc_str_bytes k) (plain_known v)
known_put = said_put plain_known

pub known_shared : (ps all qs : List (RcStr Global × PartialValue)) (i : ℕ) → length all ≤ i → map known_field ps ≡ map known_field (take i all) → all ≡ qs → IsTrue (ascends text_cmp (attributes_in qs)) → IsTrue (ascends text_cmp (attributes_in ps))
known_shared = shared_ascend plain_known
