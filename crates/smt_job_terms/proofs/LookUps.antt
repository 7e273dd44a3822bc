-- What a map of texts has at any bytes.
use Rattle.std.proofs.Common.{◌≡◌, ℕ, true, false, cond, List, Option, bytes_eq, sym, ◌∙◌, subst, inl, inr}
use Rattle.std.specs.BTreeMap.{BTreeMap, Updates, get_by}
use Rattle.std.specs.Cmp.{eq_by_cmp_equiv}
use Rattle.std.specs.Cmp.Lexicographic.{nat_list_cmp_total, nat_list_eq_equiv, slice_cmp}
use Rattle.std.specs.Map.{KeepsOthers}
use Rattle.std.specs.Ordering.{is_eq, nat_cmp}
use Rattle.std.specs.Rc.{rc_str_bytes}
use Rattle.std.specs.declared.alloc.Global.{Global}
use Rattle.std.specs.declared.rc.RcStr.{RcStr}
use Rattle.std.proofs.lemmas.Bool.{cases_Bool, cond-true, cond-false}
use Rattle.std.proofs.lemmas.Map.Text.{is_eq-slice_cmp}
use Rattle.std.proofs.lemmas.Slice.Eq.{bytes_eq-Decides}
use Rattle.smt_job_terms.specs.DeclarationView.{bytes_order, text_order}

apart : (bs cs ks : List ℕ) → bytes_eq bs cs ≡ false → is_eq (slice_cmp nat_cmp bs ks) ≡ true → is_eq (slice_cmp nat_cmp cs ks) ≡ false
apart bs cs ks other h =
    is_eq-slice_cmp cs ks ∙ (nat_list_eq_equiv.symm cs ks ∙ sym (nat_list_eq_equiv.congr bs ks cs (sym (is_eq-slice_cmp bs ks) ∙ h)) ∙ other)

module _ {X : Type 0} (m n : BTreeMap (RcStr Global) X) (key : RcStr Global) (x : Option X) (updates : Updates text_order m n key x) where
  at_others : (cs : List ℕ) → bytes_eq (rc_str_bytes key) cs ≡ false → get_by (bytes_order cs) n ≡ get_by (bytes_order cs) m
  unfolding KeepsOthers
  at_others cs other = updates.3 _ (λ a b. (eq_by_cmp_equiv nat_list_cmp_total).congr cs (rc_str_bytes a) (rc_str_bytes b)) (λ k. apart (rc_str_bytes key) cs (rc_str_bytes k) other)

  -- what a map has at any bytes after one of its keys was entered
  pub bytes_entered : (cs : List ℕ) → get_by (bytes_order cs) n ≡ cond (bytes_eq (rc_str_bytes key) cs) x (get_by (bytes_order cs) m)
  bytes_entered cs = elim (cases_Bool (bytes_eq (rc_str_bytes key) cs)) [
    | inl same ↦ subst (λ l. get_by (bytes_order l) n ≡ x) ((bytes_eq-Decides (rc_str_bytes key) cs).0 same) updates.1 ∙ sym (cond-true _ x _ same)
    | inr other ↦ at_others cs other ∙ sym (cond-false _ x _ other)
  ]
