-- One step of the loops that put attributes, with what stands beside them, into a map.
use Rattle.std.proofs.Common.{◌≡◌, ℕ, ◌+◌, ◌<◌, List, map, take, length, get_or, refl}
use Rattle.std.proofs.lemmas.Cmp.{nat_list_cmp_total}
use Rattle.std.specs.BTreeMap.{insert_entry}
use Rattle.std.specs.Rc.{rc_str_bytes}
use Rattle.std.specs.declared.alloc.Global.{Global}
use Rattle.std.specs.declared.rc.RcStr.{RcStr}
use Rattle.law_terms.proofs.ValueOrder.{text_same}
use Rattle.law_terms.specs.ValueOrder.{text_cmp}
use Rattle.smt_term.specs.Maps.{plain_field}
use Rattle.smt_term.specs.SortedPairs.{sorted_pairs}
use Rattle.smt_term.specs.View.{plain_term}
use Rattle.smt_term.specs.declared.term.Term.{Term}
use Rattle.smt_term.proofs.PutTexts.{by_bytes}
use Rattle.smt_term.proofs.SortedPairs.{pair_put}

pub field_put : (items : List (RcStr Global × Term)) (i : ℕ) (x : RcStr Global × Term) (k : RcStr Global) (v : Term) (found found' : List (RcStr Global × Term)) → i < length items → x ≡ get_or items i x
    → rc_str_bytes k ≡ rc_str_bytes x.0 → plain_term v ≡ plain_term x.1 → found' ≡ insert_entry by_bytes found k v
    → map plain_field found ≡ sorted_pairs text_cmp (map plain_field (take i items)) → map plain_field found' ≡ sorted_pairs text_cmp (map plain_field (take (i + 1) items))
field_put = pair_put by_bytes text_cmp rc_str_bytes plain_term (λ a b. refl) nat_list_cmp_total text_same
