-- Values by entity types that were shared say the same, so their types ascend as before.
use Rattle.std.proofs.Common.{◌≡◌, ℕ, ◌≤◌, List, [], ◌∷◌, length, map, take, refl, sym, ap, ◌∙◌, subst}
use Rattle.std.proofs.lemmas.List.{take_all}
use Rattle.std.specs.Map.{keys_of}
use Rattle.std.specs.Prelude.{IsTrue}
use Rattle.law_terms.specs.ValueOrder.{ascends, text_cmp}
use Rattle.smt_term.specs.Entities.{bytes_of_type}
use Rattle.smt_term.specs.declared.entity.EntityType.{EntityType}
use Rattle.smt_symbolizer.specs.Named.{said}

module _ {V P : Type 0} (view : V → P) where
  keys-said : (ps : List (EntityType × V)) → keys_of (map (said view) ps) ≡ map (λ p. bytes_of_type p.0) ps
  keys-said [] = refl
  keys-said (p ∷ ps) = ap (λ l. bytes_of_type p.0 ∷ l) (keys-said ps)

  -- pairs that say what the first ones of others say, where these are all
  pub types_shared : (ps all qs : List (EntityType × V)) (i : ℕ) → length all ≤ i → map (said view) ps ≡ map (said view) (take i all) → all ≡ qs → IsTrue (ascends text_cmp (map (λ p. bytes_of_type p.0) qs))
      → IsTrue (ascends text_cmp (map (λ p. bytes_of_type p.0) ps))
  types_shared ps all qs i l same is h =
      let alike : map (said view) ps ≡ map (said view) qs = same ∙ ap (map (said view)) (take_all i all l ∙ is) in
      subst (λ ks. IsTrue (ascends text_cmp ks)) (sym (keys-said qs) ∙ ap keys_of (sym alike) ∙ keys-said ps) h
