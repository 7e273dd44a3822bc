-- What the tests on two patterns find is so.
use Rattle.std.proofs.Common.{◌≡◌, ℕ, Bool, true, false, List, [], ◌∷◌, ◌++◌, ap, refl, sym, ◌∙◌, subst, append_assoc}
use Rattle.std.specs.Prelude.{◌||◌, ◌==◌, ◌⊎◌}
use Rattle.std.specs.Cmp.Derive.{both_true}
use Rattle.std.specs.List.{list_all}
use Rattle.std.proofs.lemmas.Bool.{and_parts, eq-eqb, eqb-true}
use mathlib.Core.Logic.{inl, inr, ⊎_elim}
use Rattle.law_terms.proofs.Matching.{matched, matching, or_first, or_second}
use Rattle.law_terms.specs.Patterns.{Matches}
use Rattle.law_terms.specs.Plain.{PatternPart, Character, Wildcard}
use Rattle.law_clauses.specs.PatternTests.{PatternTestsHold, is_wildcard, may_meet, some_after, some_end_of, takes_all}

-- ---- a pattern within another

-- what a wildcard and a pattern take
abbrev Taken : List PatternPart → List ℕ → Type 0
Taken q s = (skipped : List ℕ) × (rest : List ℕ) × (s ≡ skipped ++ rest) × Matches q rest

-- a pattern, where what takes all of some patterns takes their texts
module _ (q : List PatternPart) (f : (p : List PatternPart) (s : List ℕ) → takes_all q p ≡ true → Matches p s → Matches q s) where
  here_or_later : (x : PatternPart) (p : List PatternPart) (s : List ℕ) → Matches (x ∷ p) s → (some_end_of (λ rest. takes_all q rest) p ≡ true → Taken q s) → (b : Bool) → takes_all q (x ∷ p) ≡ b → (b || some_end_of (λ rest. takes_all q rest) p) ≡ true → Taken q s
  here_or_later x p s m later true e h = ([], s, refl, f (x ∷ p) s e m)
  here_or_later x p s m later false e h = later h

  wild : (p : List PatternPart) (s : List ℕ) → some_end_of (λ rest. takes_all q rest) p ≡ true → Matches p s → Taken q s
  wild [] s h m = ([], s, refl, f [] s h m)
  wild (Character c ∷ p) s h m = here_or_later (Character c) p s m (λ k. let r : Taken q m.0 = wild p m.0 k m.2 in (c ∷ r.0, r.1, m.1 ∙ ap (λ u. c ∷ u) r.2, r.3)) (takes_all q (Character c ∷ p)) refl h
  wild (Wildcard ∷ p) s h m = here_or_later Wildcard p s m (λ k. let r : Taken q m.1 = wild p m.1 k m.3 in (m.0 ++ r.0, r.1, m.2 ∙ (ap (λ u. m.0 ++ u) r.2 ∙ sym (append_assoc m.0 r.0 r.1)), r.3)) (takes_all q (Wildcard ∷ p)) refl h

within : (q p : List PatternPart) (s : List ℕ) → takes_all q p ≡ true → Matches p s → Matches q s
within [] [] s h m = m
within [] (x ∷ p) s h m = absurd (let e : false ≡ true = h in cc)
within (Character c ∷ q) [] s h m = absurd (let e : false ≡ true = h in cc)
within (Character c ∷ q) (Character d ∷ p) s h m =
    let z = and_parts (c == d) (takes_all q p) h in
    (m.0, m.1 ∙ ap (λ e. e ∷ m.0) (sym (eqb-true c d z.0)), within q p m.0 z.1 m.2)
within (Character c ∷ q) (Wildcard ∷ p) s h m = absurd (let e : false ≡ true = h in cc)
within (Wildcard ∷ q) p s h m = wild q (λ u t k n. within q u t k n) p s h m

-- ---- patterns with a text in common

abbrev first_of : List ℕ → ℕ
first_of [] = 0
first_of (c ∷ s) = c

abbrev rest_of : List ℕ → List ℕ
rest_of [] = []
rest_of (c ∷ s) = s

not_empty : (c : ℕ) (s : List ℕ) → c ∷ s ≡ [] → ⊥
not_empty c s e = cc

rest_empty : (s t : List ℕ) → s ++ t ≡ [] → t ≡ []
rest_empty [] t e = e
rest_empty (c ∷ s) t e = absurd (not_empty c (s ++ t) e)

none_left : (q : List PatternPart) (s : List ℕ) → s ≡ [] → Matches q s → list_all is_wildcard q ≡ true
none_left [] s e m = refl
none_left (Character c ∷ q) s e m = absurd (not_empty c m.0 (sym m.1 ∙ e))
none_left (Wildcard ∷ q) s e m = none_left q m.1 (rest_empty m.0 m.1 (sym m.2 ∙ e)) m.3

-- two ways to cut a text
abbrev Cut : List ℕ → List ℕ → List ℕ → List ℕ → Type 0
Cut a b c d = ((k : List ℕ) × (a ≡ c ++ k) × (d ≡ k ++ b)) ⊎ ((k : List ℕ) × (c ≡ a ++ k) × (b ≡ k ++ d))

cut : (a b c d : List ℕ) → a ++ b ≡ c ++ d → Cut a b c d
cut a b [] d e = inl (a, refl, sym e)
cut [] b (x ∷ c) d e = inr (x ∷ c, refl, e)
cut (y ∷ a) b (x ∷ c) d e =
    let g : y ≡ x = ap first_of e in
    ⊎_elim (λ k. inl (k.0, ap (λ z. z ∷ a) g ∙ ap (λ u. x ∷ u) k.1, k.2)) (λ k. inr (k.0, ap (λ z. z ∷ c) (sym g) ∙ ap (λ u. y ∷ u) k.1, k.2)) (cut a b c d (ap rest_of e))

-- a test that each pattern passes which takes the rest of a text
module _ (test : List PatternPart → Bool) where
  skipped : (c : ℕ) (q : List PatternPart) (rest a b : List ℕ) → c ∷ rest ≡ a ++ b → Matches q b → ((u : List PatternPart) → Matches u rest → test u ≡ true) → ((t : List ℕ) → t ≡ c ∷ rest → Matches q t → some_after c test q ≡ true) → (test (Wildcard ∷ q) || some_after c test q) ≡ true
  skipped c q rest [] b e m f later = or_second (test (Wildcard ∷ q)) (some_after c test q) (later b (sym e) m)
  skipped c q rest (d ∷ a) b e m f later = or_first (test (Wildcard ∷ q)) (some_after c test q) (f (Wildcard ∷ q) (a, b, ap rest_of e, m))

  after : (c : ℕ) (q : List PatternPart) (s rest : List ℕ) → s ≡ c ∷ rest → Matches q s → ((u : List PatternPart) → Matches u rest → test u ≡ true) → some_after c test q ≡ true
  after c [] s rest e m f = absurd (not_empty c rest (sym e ∙ m))
  after c (Character d ∷ q) s rest e m f =
      let g : c ∷ rest ≡ d ∷ m.0 = sym e ∙ m.1 in
      both_true (eq-eqb c d (ap first_of g)) (f q (subst (Matches q) (sym (ap rest_of g)) m.2))
  after c (Wildcard ∷ q) s rest e m f = skipped c q rest m.0 m.1 (sym e ∙ m.2) m.3 f (λ t k n. after c q t rest k n f)

  ends : (q : List PatternPart) (a b : List ℕ) → Matches q (a ++ b) → ((u : List PatternPart) → Matches u b → test u ≡ true) → some_end_of test q ≡ true
  ends [] a b m f = f [] (rest_empty a b m)
  ends (Character d ∷ q) [] b m f = or_first (test (Character d ∷ q)) (some_end_of test q) (f (Character d ∷ q) m)
  ends (Wildcard ∷ q) [] b m f = or_first (test (Wildcard ∷ q)) (some_end_of test q) (f (Wildcard ∷ q) m)
  ends (Character d ∷ q) (c ∷ a) b m f = or_second (test (Character d ∷ q)) (some_end_of test q) (ends q a b (subst (Matches q) (sym (ap rest_of m.1)) m.2) f)
  ends (Wildcard ∷ q) (c ∷ a) b m f =
      ⊎_elim (λ k. or_second (test (Wildcard ∷ q)) (some_end_of test q) (ends q k.0 b (subst (Matches q) k.2 m.3) f))
      (λ k. or_first (test (Wildcard ∷ q)) (some_end_of test q) (f (Wildcard ∷ q) (k.0, m.1, k.2, m.3)))
      (cut (c ∷ a) b m.0 m.1 m.2)

meeting : (p q : List PatternPart) (s : List ℕ) → Matches p s → Matches q s → may_meet p q ≡ true
meeting [] q s m n = none_left q s m n
meeting (Character c ∷ p) q s m n = after (λ rest. may_meet p rest) c q s m.0 m.1 n (λ u k. meeting p u m.0 m.2 k)
meeting (Wildcard ∷ p) q s m n = ends (λ rest. may_meet p rest) q m.0 m.1 (subst (Matches q) m.2 n) (λ u k. meeting p u m.1 m.3 k)

pub pattern_tests_hold : PatternTestsHold
pattern_tests_hold = record {
  within = λ p q h s k. matching q s (within q p s h (matched p s k));
  apart = λ p q h s j k. let e : false ≡ true = sym h ∙ meeting p q s (matched p s j) (matched q s k) in absurd cc;
}
