-- The test of a pattern decides whether it matches.
use Rattle.std.proofs.Common.{◌≡◌, ℕ, Bool, true, false, List, [], ◌∷◌, ◌++◌, refl, ap, ◌∙◌, sym}
use Rattle.std.specs.Prelude.{◌||◌, ◌==◌}
use Rattle.std.specs.Cmp.{first_so, second_so}
use Rattle.std.specs.Cmp.Derive.{both_true}
use Rattle.std.proofs.lemmas.Bool.{eqb-true, eq-eqb}
use Rattle.law_terms.specs.Patterns.{Matches, some_end, matches}
use Rattle.law_terms.specs.Plain.{PatternPart, Character, Wildcard}

pub or_second : (a b : Bool) → b ≡ true → (a || b) ≡ true
or_second true b h = refl
or_second false b h = h

pub or_first : (a b : Bool) → a ≡ true → (a || b) ≡ true
or_first true b h = refl
or_first false b h = cc

module _ (test : List ℕ → Bool) where
  -- an end that passes
  end_found : (s : List ℕ) → some_end test s ≡ true → (skipped : List ℕ) × (rest : List ℕ) × (s ≡ skipped ++ rest) × (test rest ≡ true)
  end_found [] h = ([], [], refl, h)
  end_found (c ∷ s) h = from (λ k. end_found s k) (test (c ∷ s)) refl h
    where
      from : (some_end test s ≡ true → (skipped : List ℕ) × (rest : List ℕ) × (s ≡ skipped ++ rest) × (test rest ≡ true)) → (b : Bool) → test (c ∷ s) ≡ b → (b || some_end test s) ≡ true → (skipped : List ℕ) × (rest : List ℕ) × (c ∷ s ≡ skipped ++ rest) × (test rest ≡ true)
      from again true e k = ([], c ∷ s, refl, e)
      from again false e k = ((c ∷ (again k).0), (again k).1, ap (λ u. c ∷ u) (again k).2, (again k).3)

  here : (s : List ℕ) → test s ≡ true → some_end test s ≡ true
  here [] h = h
  here (c ∷ s) h = or_first (test (c ∷ s)) (some_end test s) h

  end_passes : (skipped rest : List ℕ) → test rest ≡ true → some_end test (skipped ++ rest) ≡ true
  end_passes [] rest h = here rest h
  end_passes (c ∷ skipped) rest h = or_second (test (c ∷ (skipped ++ rest))) (some_end test (skipped ++ rest)) (end_passes skipped rest h)

pub matched : (p : List PatternPart) (s : List ℕ) → matches p s ≡ true → Matches p s
matched [] [] h = refl
matched [] (c ∷ s) h = cc
matched (Character c ∷ p) [] h = cc
matched (Character c ∷ p) (d ∷ s) h = (s, ap (λ e. e ∷ s) (sym (eqb-true c d (first_so (c == d) (matches p s) h))), matched p s (second_so (c == d) (matches p s) h))
matched (Wildcard ∷ p) s h = let r : (skipped : List ℕ) × (rest : List ℕ) × (s ≡ skipped ++ rest) × (matches p rest ≡ true) = end_found (λ u. matches p u) s h in (r.0, r.1, r.2, matched p r.1 r.3)

pub matching : (p : List PatternPart) (s : List ℕ) → Matches p s → matches p s ≡ true
matching [] s h = ap (matches []) h
matching (Character c ∷ p) s h = ap (matches (Character c ∷ p)) h.1 ∙ both_true (eq-eqb c c refl) (matching p h.0 h.2)
matching (Wildcard ∷ p) s h = ap (matches (Wildcard ∷ p)) h.2 ∙ end_passes (λ u. matches p u) h.0 h.1 (matching p h.1 h.3)
