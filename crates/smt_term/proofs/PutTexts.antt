-- One step of the loop that puts texts into a set.
use Rattle.std.proofs.Common.{◌≡◌, ℕ, ◌+◌, ◌<◌, List, map, take, length, get_or, refl}
use Rattle.std.proofs.lemmas.Cmp.{nat_list_cmp_total}
use Rattle.std.specs.BTreeSet.{insert_key}
use Rattle.std.specs.Rc.{rc_str_bytes}
use Rattle.std.specs.declared.alloc.Global.{Global}
use Rattle.std.specs.declared.cmp.Ordering.{Ordering}
use Rattle.std.specs.declared.rc.RcStr.{RcStr}
use Rattle.law_terms.proofs.ValueOrder.{text_same}
use Rattle.law_terms.specs.ValueOrder.{text_cmp}
use Rattle.smt_term.specs.TextSets.{sorted_texts}
use Rattle.smt_term.proofs.SortedItems.{item_put}

-- the order of texts as a map has it
abbrev pub by_bytes : RcStr Global → RcStr Global → Ordering
by_bytes x y = text_cmp (rc_str_bytes x) (rc_str_bytes y)

pub text_put : (items : List (RcStr Global)) (i : ℕ) (x k : RcStr Global) (found found' : List (RcStr Global)) → i < length items → x ≡ get_or items i x → rc_str_bytes k ≡ rc_str_bytes x → found' ≡ insert_key by_bytes found k
    → map rc_str_bytes found ≡ sorted_texts (map rc_str_bytes (take i items)) → map rc_str_bytes found' ≡ sorted_texts (map rc_str_bytes (take (i + 1) items))
text_put = item_put by_bytes text_cmp rc_str_bytes (λ a b. refl) nat_list_cmp_total text_same
