-- What a job asserts and what is current in it are conditions, its steps are balanced, and what is built of steps says what is built of
-- their terms.
use Rattle.std.proofs.Common.{◌≡◌, ℕ, zero, suc, List, [], ◌∷◌, ◌++◌, map, refl, ap, ◌∙◌, codes, append_assoc, subst, sym}
use Rattle.std.proofs.lemmas.List.{map-append}
use Rattle.std.specs.Prelude.{IfOk, bytes_eq, ⊤}
use Rattle.std.specs.List.{AllByRecursion}
use Rattle.law_folding.specs.Built.{built}
use Rattle.law_terms.specs.Plain.{PlainTerm}
use Rattle.law_terms.proofs.Defaults.{all-join}
use Rattle.law_terms.proofs.Soundness.{all-back, all-front}
use Rattle.law_texts.specs.Reading.{Expression, Expressions, Nil, Cons}
use Rattle.law_texts.specs.Outcomes.{◌>>=◌}
use Rattle.law_jobs.specs.Declarations.{Declared}
use Rattle.law_jobs.specs.Laws.{IsCondition}
use Rattle.law_jobs.specs.Outcomes.{Outcome, followed}
use Rattle.law_jobs.specs.Steps.{AreBalanced, AssertStep, CheckStep, PlainStep, PopStep, PushStep, asserted, built_steps, current, current_behind, headed, levels_behind, nothing_more, section_named, step_named, step_of, steps_of}
use Rattle.law_jobs.specs.Terms.{conditions_of}
use Rattle.law_jobs.proofs.FormedTypes.{AreDeclaredFormed}
use Rattle.law_jobs.proofs.Outcomes.{bound, either, if_followed, onward, whichever}
use Rattle.law_jobs.proofs.Conditions.{conditions_sound}

-- ---- what steps assert

-- what a step asserts are conditions
abbrev AssertsConditions : PlainStep → Type 0
AssertsConditions (AssertStep ts) = AllByRecursion IsCondition ts
AssertsConditions PushStep = ⊤
AssertsConditions PopStep = ⊤
AssertsConditions CheckStep = ⊤

-- steps assert conditions, and are balanced behind so many levels
abbrev pub AreSound : ℕ → List PlainStep → Type 0
AreSound k steps = AllByRecursion IsCondition (asserted steps) × AreBalanced k steps

module _ (ds : Declared) (f : AreDeclaredFormed ds) where
  named_sound : (n : List ℕ) (es : Expressions) → IfOk (step_named ds n es) AssertsConditions
  named_sound n es =
      either AssertsConditions (bytes_eq n (codes "assert")) _ _ (bound AssertsConditions (conditions_of ds es) _ (onward (conditions_of ds es) (conditions_sound ds f es) (λ ts h. h)))
      (either AssertsConditions (bytes_eq n (codes "push")) _ _ (bound AssertsConditions (nothing_more es) _ (whichever _ (nothing_more es) (λ u. tt)))
      (either AssertsConditions (bytes_eq n (codes "pop")) _ _ (bound AssertsConditions (nothing_more es) _ (whichever _ (nothing_more es) (λ u. tt)))
      (either AssertsConditions (bytes_eq n (codes "check")) _ _ (bound AssertsConditions (nothing_more es) _ (whichever _ (nothing_more es) (λ u. tt))) tt)))

  step_sound : (e : Expression) → IfOk (step_of ds e) AssertsConditions
  step_sound e = bound AssertsConditions (headed e) _ (whichever _ (headed e) (λ p. named_sound p.0 p.1))

  -- a step in front of sound ones
  in_front : (k : ℕ) (s : PlainStep) (others : ℕ → Outcome (List PlainStep)) → AssertsConditions s → ((m : ℕ) → IfOk (others m) (AreSound m)) → IfOk (levels_behind k s >>= λ m. followed s (others m)) (AreSound k)
  in_front k (AssertStep ts) others c h =
      if_followed (AreSound k) (AssertStep ts) (others k) (onward (others k) (h k) (λ rest r. (all-join IsCondition ts (asserted rest) c r.0, balanced k rest r.1)))
    where
      balanced : (m : ℕ) (rest : List PlainStep) → AreBalanced m rest → AreBalanced m (AssertStep ts ∷ rest)
      balanced zero rest b = b
      balanced (suc m) rest b = b
  in_front k PushStep others c h = if_followed (AreSound k) PushStep (others (suc k)) (onward (others (suc k)) (h (suc k)) (λ rest r. (r.0, balanced k rest r.1)))
    where
      balanced : (m : ℕ) (rest : List PlainStep) → AreBalanced (suc m) rest → AreBalanced m (PushStep ∷ rest)
      balanced zero rest b = b
      balanced (suc m) rest b = b
  in_front zero PopStep others c h = tt
  in_front (suc k) PopStep others c h = if_followed (AreSound (suc k)) PopStep (others k) (onward (others k) (h k) (λ rest r. r))
  in_front k CheckStep others c h = if_followed (AreSound k) CheckStep (others k) (onward (others k) (h k) (λ rest r. (r.0, balanced k rest r.1)))
    where
      balanced : (m : ℕ) (rest : List PlainStep) → AreBalanced m rest → AreBalanced m (CheckStep ∷ rest)
      balanced zero rest b = b
      balanced (suc m) rest b = b

  steps_sound : (k : ℕ) (es : Expressions) → IfOk (steps_of ds k es) (AreSound k)
  steps_sound zero Nil = (tt, tt)
  steps_sound (suc k) Nil = (tt, tt)
  steps_sound k (Cons e es) =
      bound (AreSound k) (step_of ds e) _ (onward (step_of ds e) (step_sound e) (λ s c. in_front k s (λ m. steps_of ds m es) c (λ m. steps_sound m es)))

  pub section_sound : (n : List ℕ) (es : Expressions) → IfOk (section_named ds n es) (λ x. AreSound 0 x.1)
  section_sound n es =
      either _ (bytes_eq n (codes "terms")) _ _ (bound _ (conditions_of ds es) _ (onward (conditions_of ds es) (conditions_sound ds f es) (λ ts h. (all-join IsCondition ts [] h tt, tt))))
      (either _ (bytes_eq n (codes "steps")) _ _ (bound _ (steps_of ds 0 es) _ (onward (steps_of ds 0 es) (steps_sound 0 es) (λ steps h. h))) tt)

-- ---- what is current

asserted_before : (before behind : List PlainStep) → asserted (before ++ behind) ≡ asserted before ++ asserted behind
asserted_before [] behind = refl
asserted_before (AssertStep ts ∷ before) behind = ap (λ (us : List PlainTerm). ts ++ us) (asserted_before before behind) ∙ sym (append_assoc ts (asserted before) (asserted behind))
asserted_before (PushStep ∷ before) behind = asserted_before before behind
asserted_before (PopStep ∷ before) behind = asserted_before before behind
asserted_before (CheckStep ∷ before) behind = asserted_before before behind

module _ (P : PlainTerm → Type 0) where
  pub current_all : (now : List PlainTerm) (below : List (List PlainTerm)) (steps : List PlainStep) → AllByRecursion P now → AllByRecursion (AllByRecursion P) below → AllByRecursion P (asserted steps) → AllByRecursion P (current_behind now below steps)
  current_all now below [] a b h = a
  current_all now below (AssertStep ts ∷ steps) a b h = current_all (now ++ ts) below steps (all-join P now ts a (all-front P ts (asserted steps) h)) b (all-back P ts (asserted steps) h)
  current_all now below (PushStep ∷ steps) a b h = current_all now (now ∷ below) steps a (a, b) h
  current_all now [] (PopStep ∷ steps) a b h = current_all now [] steps a b h
  current_all now (ts ∷ below) (PopStep ∷ steps) a b h = current_all ts below steps b.0 b.1 h
  current_all now below (CheckStep ∷ steps) a b h = current_all now below steps a b h

  pub current_before : (before behind : List PlainStep) → AllByRecursion P (asserted (before ++ behind)) → AllByRecursion P (current before)
  current_before before behind h = current_all [] [] before tt tt (all-front P (asserted before) (asserted behind) (subst (AllByRecursion P) (asserted_before before behind) h))

-- ---- what is built

pub asserted_built : (steps : List PlainStep) → asserted (built_steps steps) ≡ map built (asserted steps)
asserted_built [] = refl
asserted_built (AssertStep ts ∷ steps) = ap (λ (us : List PlainTerm). map built ts ++ us) (asserted_built steps) ∙ sym (map-append built ts (asserted steps))
asserted_built (PushStep ∷ steps) = asserted_built steps
asserted_built (PopStep ∷ steps) = asserted_built steps
asserted_built (CheckStep ∷ steps) = asserted_built steps

current_built_behind : (now : List PlainTerm) (below : List (List PlainTerm)) (steps : List PlainStep) → current_behind (map built now) (map (map built) below) (built_steps steps) ≡ map built (current_behind now below steps)
current_built_behind now below [] = refl
current_built_behind now below (AssertStep ts ∷ steps) = ap (λ (us : List PlainTerm). current_behind us (map (map built) below) (built_steps steps)) (sym (map-append built now ts)) ∙ current_built_behind (now ++ ts) below steps
current_built_behind now below (PushStep ∷ steps) = current_built_behind now (now ∷ below) steps
current_built_behind now [] (PopStep ∷ steps) = current_built_behind now [] steps
current_built_behind now (ts ∷ below) (PopStep ∷ steps) = current_built_behind ts below steps
current_built_behind now below (CheckStep ∷ steps) = current_built_behind now below steps

pub current_built : (steps : List PlainStep) → current (built_steps steps) ≡ map built (current steps)
current_built steps = current_built_behind [] [] steps

pub balanced_built : (levels : ℕ) (steps : List PlainStep) → AreBalanced levels steps → AreBalanced levels (built_steps steps)
balanced_built zero [] b = tt
balanced_built (suc k) [] b = tt
balanced_built zero (AssertStep ts ∷ steps) b = balanced_built zero steps b
balanced_built (suc k) (AssertStep ts ∷ steps) b = balanced_built (suc k) steps b
balanced_built zero (PushStep ∷ steps) b = balanced_built 1 steps b
balanced_built (suc k) (PushStep ∷ steps) b = balanced_built (suc (suc k)) steps b
balanced_built zero (PopStep ∷ steps) b = b
balanced_built (suc k) (PopStep ∷ steps) b = balanced_built k steps b
balanced_built zero (CheckStep ∷ steps) b = balanced_built zero steps b
balanced_built (suc k) (CheckStep ∷ steps) b = balanced_built (suc k) steps b
