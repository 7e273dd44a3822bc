-- The terms that are current behind steps, and how many were current where levels were opened.
use Rattle.std.proofs.Common.{◌≡◌, ℕ, ◌≤◌, List, [], ◌∷◌, ◌++◌, length, take, refl, sym, ap, ◌∙◌, subst, arith}
use Rattle.std.specs.Prelude.{⊤, reverse}
use Rattle.std.proofs.lemmas.List.{length-append, reverse-append, take-append-le, take_all}
use Rattle.law_terms.specs.Plain.{PlainTerm}
use Rattle.law_jobs.specs.Steps.{AssertStep, CheckStep, PlainStep, PopStep, PushStep, current, current_behind}

-- These terms were current where levels were opened, the last first, and so many they were: the front of those that are current now.
abbrev pub AreLevels : List PlainTerm → List ℕ → List (List PlainTerm) → Type 0
AreLevels now [] [] = ⊤
AreLevels now (n ∷ counts) (ts ∷ below) = (n ≤ length now) × (ts ≡ take n now) × AreLevels ts counts below
AreLevels now [] (ts ∷ below) = ⊥
AreLevels now (n ∷ counts) [] = ⊥

-- the steps so far leave these terms current, with these counts of those that were current where levels were opened, the last count last
pub record IsCurrent (steps left : List PlainStep) (now : List PlainTerm) (counts : List ℕ) : Type 0 where
  pub below : List (List PlainTerm)
  pub levels : AreLevels now (reverse counts) below
  pub same : current steps ≡ current_behind now below left

pub none_current : (steps : List PlainStep) → IsCurrent steps steps [] []
none_current steps = record { below = []; levels = tt; same = refl }

longer : (now more : List PlainTerm) (counts : List ℕ) (below : List (List PlainTerm)) → AreLevels now counts below → AreLevels (now ++ more) counts below
longer now more [] [] h = tt
longer now more (n ∷ counts) (ts ∷ below) h = (let few = h.0 in let l = length-append now more in (omega (arith, l), h.1 ∙ sym (take-append-le n now more h.0), h.2))
longer now more [] (ts ∷ below) h = absurd h
longer now more (n ∷ counts) [] h = absurd h

module _ (steps left rest : List PlainStep) (now : List PlainTerm) (counts : List ℕ) (c : IsCurrent steps left now counts) where
  pub behind_assert : (ts new : List PlainTerm) → left ≡ AssertStep ts ∷ rest → new ≡ now ++ ts → IsCurrent steps rest new counts
  behind_assert ts new is more = record {
    below = c.below;
    levels = subst (λ (l : List PlainTerm). AreLevels l (reverse counts) c.below) (sym more) (longer now ts (reverse counts) c.below c.levels);
    same = c.same ∙ ap (current_behind now c.below) is ∙ ap (λ (l : List PlainTerm). current_behind l c.below rest) (sym more);
  }

  pub behind_push : (n : ℕ) (opened : List ℕ) → left ≡ PushStep ∷ rest → n ≡ length now → opened ≡ counts ++ n ∷ [] → IsCurrent steps rest now opened
  behind_push n opened is all more = record {
    below = now ∷ c.below;
    levels = subst (λ (l : List ℕ). AreLevels now l (now ∷ c.below)) (sym (ap reverse more ∙ reverse-append counts (n ∷ []))) (omega (arith, all), sym (take_all n now (omega (arith, all))), c.levels);
    same = c.same ∙ ap (current_behind now c.below) is;
  }

  pub behind_check : left ≡ CheckStep ∷ rest → IsCurrent steps rest now counts
  behind_check is = record { below = c.below; levels = c.levels; same = c.same ∙ ap (current_behind now c.below) is }

  pub behind_idle_pop : left ≡ PopStep ∷ rest → counts ≡ [] → IsCurrent steps rest now []
  behind_idle_pop is none = go c.below (subst (λ (l : List ℕ). AreLevels now (reverse l) c.below) none c.levels) c.same
    where
      go : (below : List (List PlainTerm)) → AreLevels now [] below → current steps ≡ current_behind now below left → IsCurrent steps rest now []
      go [] h same = record { below = []; levels = tt; same = same ∙ ap (current_behind now []) is }
      go (ts ∷ below) h same = absurd h

  pub behind_pop : (n : ℕ) (opened : List ℕ) (new : List PlainTerm) → left ≡ PopStep ∷ rest → counts ≡ opened ++ n ∷ [] → new ≡ take n now → IsCurrent steps rest new opened
  behind_pop n opened new is popped front = go c.below (subst (λ (l : List ℕ). AreLevels now l c.below) (ap reverse popped ∙ reverse-append opened (n ∷ [])) c.levels) c.same
    where
      go : (below : List (List PlainTerm)) → AreLevels now (n ∷ reverse opened) below → current steps ≡ current_behind now below left → IsCurrent steps rest new opened
      go [] h same = absurd h
      go (ts ∷ below) h same =
          let e : ts ≡ new = h.1 ∙ sym front in
          record {
            below = below;
            levels = subst (λ (l : List PlainTerm). AreLevels l (reverse opened) below) e h.2;
            same = same ∙ ap (current_behind now (ts ∷ below)) is ∙ ap (λ (l : List PlainTerm). current_behind l below rest) e;
          }

-- behind all steps
pub all_current : (steps left : List PlainStep) (now : List PlainTerm) (counts : List ℕ) → IsCurrent steps left now counts → left ≡ [] → now ≡ current steps
all_current steps left now counts c none = sym (c.same ∙ ap (current_behind now c.below) none)

-- the same by other names
pub same_state : (steps left : List PlainStep) (now new : List PlainTerm) (counts opened : List ℕ) → IsCurrent steps left now counts → new ≡ now → opened ≡ counts → IsCurrent steps left new opened
same_state steps left now new counts opened c n o = subst (λ (l : List PlainTerm). IsCurrent steps left l opened) (sym n) (subst (λ (l : List ℕ). IsCurrent steps left now l) (sym o) c)

pub none_long : (counts : List ℕ) → length counts ≡ 0 → counts ≡ []
none_long [] h = refl
none_long (n ∷ counts) h = absurd (omega (arith, h))
