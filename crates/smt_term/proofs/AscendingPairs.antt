-- The attributes of pairs in order ascend.
use Rattle.std.proofs.Common.{◌≡◌, ℕ, List, [], ◌∷◌, map, refl, sym, ap, ◌∙◌, subst}
use Rattle.std.proofs.lemmas.Cmp.{nat_list_cmp_total}
use Rattle.std.proofs.lemmas.Map.Text.{is_eq-slice_cmp}
use Rattle.std.specs.Map.{keys_of}
use Rattle.std.specs.Prelude.{IsTrue, bytes_eq}
use Rattle.std.specs.Rc.{rc_str_bytes}
use Rattle.std.specs.declared.alloc.Global.{Global}
use Rattle.std.specs.declared.rc.RcStr.{RcStr}
use Rattle.law_terms.proofs.ValueOrder.{text_same}
use Rattle.law_terms.specs.ValueOrder.{ascends, text_cmp}
use Rattle.smt_term.specs.SortedPairs.{sorted_pairs}
use Rattle.smt_term.proofs.LastPairs.{last_pairs}

module _ {X Y : Type 0} (f : X → Y) where
  abbrev said : RcStr Global × X → List ℕ × Y
  said p = (rc_str_bytes p.0, f p.1)

  keys-said : (ps : List (RcStr Global × X)) → keys_of (map said ps) ≡ map (λ p. rc_str_bytes p.0) ps
  keys-said [] = refl
  keys-said (p ∷ ps) = ap (λ l. rc_str_bytes p.0 ∷ l) (keys-said ps)

  -- the attributes of pairs that are given pairs in order ascend
  pub pairs_ascend : (ps : List (RcStr Global × X)) (given : List (List ℕ × Y)) → map said ps ≡ sorted_pairs text_cmp given → IsTrue (ascends text_cmp (map (λ p. rc_str_bytes p.0) ps))
  pairs_ascend ps given made =
      let P : List (List ℕ) → Type 0 = λ l. IsTrue (ascends text_cmp l) in
      subst P (ap keys_of (sym made) ∙ keys-said ps) (last_pairs text_cmp bytes_eq nat_list_cmp_total text_same (λ x y. sym (is_eq-slice_cmp x y)) given).ascending
