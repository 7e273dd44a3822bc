-- One step of the loop that puts attributes, with the types beside them, into a map.
use Rattle.std.proofs.Common.{◌≡◌, ℕ, ◌+◌, ◌<◌, List, map, take, length, get_or, refl}
use Rattle.std.proofs.lemmas.Cmp.{nat_list_cmp_total}
use Rattle.std.specs.BTreeMap.{insert_entry}
use Rattle.std.specs.Rc.{rc_str_bytes}
use Rattle.std.specs.declared.alloc.Global.{Global}
use Rattle.std.specs.declared.rc.RcStr.{RcStr}
use Rattle.law_terms.proofs.ValueOrder.{text_same}
use Rattle.law_terms.specs.ValueOrder.{text_cmp}
use Rattle.smt_term.specs.SortedPairs.{sorted_pairs}
use Rattle.smt_term.proofs.PutTexts.{by_bytes}
use Rattle.smt_term.proofs.SortedPairs.{pair_put}
use Rattle.smt_term.specs.TypeView.{plain_attribute, plain_type}
use Rattle.smt_term.specs.declared.types.TermType.{TermType}

pub attribute_put : (items : List (RcStr Global × TermType)) (i : ℕ) (x : RcStr Global × TermType) (k : RcStr Global) (v : TermType) (found found' : List (RcStr Global × TermType)) → i < length items → x ≡ get_or items i x
    → rc_str_bytes k ≡ rc_str_bytes x.0 → plain_type v ≡ plain_type x.1 → found' ≡ insert_entry by_bytes found k v
    → map plain_attribute found ≡ sorted_pairs text_cmp (map plain_attribute (take i items)) → map plain_attribute found' ≡ sorted_pairs text_cmp (map plain_attribute (take (i + 1) items))
attribute_put = pair_put by_bytes text_cmp rc_str_bytes plain_type (λ a b. refl) nat_list_cmp_total text_same
