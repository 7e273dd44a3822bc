-- Steps one behind the other: what they assert, which levels they open, and what is written of them.
use Rattle.std.proofs.Common.{◌≡◌, ℕ, zero, suc, Bool, true, List, [], ◌∷◌, ◌++◌, Option, Some, None, length, refl, sym, ap, ◌∙◌, append_assoc}
use Rattle.std.specs.Option.{option_or}
use Rattle.law_terms.specs.Faults.{Fault, first_fault, term_fault}
use Rattle.law_terms.specs.Plain.{PlainTerm}
use Rattle.law_terms.specs.TypeValues.{Enums}
use Rattle.law_theorem.specs.Fits.{Stage, Stages}
use Rattle.law_jobs.specs.Steps.{PlainStep, AreBalanced, AssertStep, CheckStep, PopStep, PushStep, asserted}
use Rattle.smt_runs.specs.JobTexts.{checks_in, stages_behind, stages_of_step, text_behind, text_of_step}
use Rattle.smt_runs.proofs.Writing.{staged}

-- ---- what steps assert

pub asserted_before : (before behind : List PlainStep) → asserted (before ++ behind) ≡ asserted before ++ asserted behind
asserted_before [] behind = refl
asserted_before (AssertStep ts ∷ before) behind = ap (λ (us : List PlainTerm). ts ++ us) (asserted_before before behind) ∙ sym (append_assoc ts (asserted before) (asserted behind))
asserted_before (PushStep ∷ before) behind = asserted_before before behind
asserted_before (PopStep ∷ before) behind = asserted_before before behind
asserted_before (CheckStep ∷ before) behind = asserted_before before behind

pub checks_before : (before behind : List PlainStep) → checks_in before ≡ zero → checks_in (before ++ behind) ≡ checks_in behind
checks_before [] behind h = refl
checks_before (AssertStep ts ∷ before) behind h = checks_before before behind h
checks_before (PushStep ∷ before) behind h = checks_before before behind h
checks_before (PopStep ∷ before) behind h = checks_before before behind h
checks_before (CheckStep ∷ before) behind h = absurd (cc)

-- ---- faults

-- lists without fault have none together
pub none_joined : (enums : Enums) (ts us : List PlainTerm) → first_fault enums ts ≡ None → first_fault enums us ≡ None → first_fault enums (ts ++ us) ≡ None
none_joined enums [] us h k = k
none_joined enums (t ∷ ts) us h k = by (term_fault enums t) h (none_joined enums ts us)
  where
    by : (o : Option Fault) → option_or o (first_fault enums ts) ≡ None → (first_fault enums ts ≡ None → first_fault enums us ≡ None → first_fault enums (ts ++ us) ≡ None) → option_or o (first_fault enums (ts ++ us)) ≡ None
    by None e again = again e k
    by (Some f) e again = absurd (cc)

-- the first fault of terms is that of a list that begins with them
fault_first : (enums : Enums) (f : Fault) (ts us : List PlainTerm) → first_fault enums ts ≡ Some f → first_fault enums (ts ++ us) ≡ Some f
fault_first enums f [] us h = absurd (cc)
fault_first enums f (t ∷ ts) us h = by (term_fault enums t) h (fault_first enums f ts us)
  where
    by : (o : Option Fault) → option_or o (first_fault enums ts) ≡ Some f → (first_fault enums ts ≡ Some f → first_fault enums (ts ++ us) ≡ Some f) → option_or o (first_fault enums (ts ++ us)) ≡ Some f
    by None e again = again e
    by (Some g) e again = e

-- and that of a list in which those before them have none
fault_behind : (enums : Enums) (f : Fault) (before ts : List PlainTerm) → first_fault enums before ≡ None → first_fault enums ts ≡ Some f → first_fault enums (before ++ ts) ≡ Some f
fault_behind enums f [] ts n h = h
fault_behind enums f (t ∷ before) ts n h = by (term_fault enums t) n (fault_behind enums f before ts)
  where
    by : (o : Option Fault) → option_or o (first_fault enums before) ≡ None → (first_fault enums before ≡ None → first_fault enums ts ≡ Some f → first_fault enums (before ++ ts) ≡ Some f) → option_or o (first_fault enums (before ++ ts)) ≡ Some f
    by None e again = again e h
    by (Some g) e again = absurd (cc)

-- The first fault of what some steps assert is that of all steps, where those before them assert nothing with a fault.
pub fault_within : (enums : Enums) (f : Fault) (before these behind : List PlainStep) → first_fault enums (asserted before) ≡ None → first_fault enums (asserted these) ≡ Some f → first_fault enums (asserted (before ++ (these ++ behind))) ≡ Some f
fault_within enums f before these behind none h =
    ap (first_fault enums) (asserted_before before (these ++ behind) ∙ ap (λ (us : List PlainTerm). asserted before ++ us) (asserted_before these behind))
    ∙ fault_behind enums f (asserted before) (asserted these ++ asserted behind) none (fault_first enums f (asserted these) (asserted behind) h)

pub faultless_joined : (enums : Enums) (before behind : List PlainStep) → first_fault enums (asserted before) ≡ None → first_fault enums (asserted behind) ≡ None → first_fault enums (asserted (before ++ behind)) ≡ None
faultless_joined enums before behind h k = ap (first_fault enums) (asserted_before before behind) ∙ none_joined enums (asserted before) (asserted behind) h k

-- ---- what is written

module _ (enums : Enums) where
  one_step : (s : PlainStep) (steps : List PlainStep) (x : Stages) → text_behind enums (s ∷ steps) x ≡ text_of_step enums s x ++ text_behind enums steps (stages_of_step enums s x)
  one_step (AssertStep ts) steps x = refl
  one_step PushStep steps x = refl
  one_step PopStep steps x = refl
  one_step CheckStep steps x = refl

  one_stage : (s : PlainStep) (steps : List PlainStep) (x : Stages) → stages_behind enums (s ∷ steps) x ≡ stages_behind enums steps (stages_of_step enums s x)
  one_stage (AssertStep ts) steps x = refl
  one_stage PushStep steps x = refl
  one_stage PopStep steps x = refl
  one_stage CheckStep steps x = refl

  pub stages_then : (before behind : List PlainStep) (x : Stages) → stages_behind enums (before ++ behind) x ≡ stages_behind enums behind (stages_behind enums before x)
  stages_then [] behind x = refl
  stages_then (s ∷ before) behind x = one_stage s (before ++ behind) x ∙ stages_then before behind (stages_of_step enums s x) ∙ ap (stages_behind enums behind) (sym (one_stage s before x))

  pub text_then : (before behind : List PlainStep) (x : Stages) → text_behind enums (before ++ behind) x ≡ text_behind enums before x ++ text_behind enums behind (stages_behind enums before x)
  text_then [] behind x = refl
  text_then (s ∷ before) behind x =
      one_step s (before ++ behind) x
      ∙ ap (λ (t : List ℕ). text_of_step enums s x ++ t) (text_then before behind (stages_of_step enums s x))
      ∙ sym (append_assoc (text_of_step enums s x) (text_behind enums before (stages_of_step enums s x)) (text_behind enums behind (stages_behind enums before (stages_of_step enums s x))))
      ∙ (λ i. sym (one_step s before x) i ++ text_behind enums behind (sym (one_stage s before x) i))

  -- the text of one step, and the stages to which it leads
  pub text_alone : (s : PlainStep) (x : Stages) → text_behind enums (s ∷ []) x ≡ text_of_step enums s x ++ []
  text_alone s x = one_step s [] x

  pub stages_alone : (s : PlainStep) (x : Stages) → stages_behind enums (s ∷ []) x ≡ stages_of_step enums s x
  stages_alone s x = one_stage s [] x

  -- ---- levels

  balanced_by : (before behind : List PlainStep) (now : Stage) (below : List Stage) (begun : Bool) → AreBalanced (length below) (before ++ behind) → AreBalanced (length (stages_behind enums before (staged now below begun)).below) behind
  balanced_by [] behind now below begun b = b
  balanced_by (AssertStep ts ∷ before) behind now below begun b = balanced_by before behind (stages_of_step enums (AssertStep ts) (staged now below begun)).now below true (same (length below) b)
    where
      same : (k : ℕ) → AreBalanced k (AssertStep ts ∷ before ++ behind) → AreBalanced k (before ++ behind)
      same zero h = h
      same (suc k) h = h
  balanced_by (PushStep ∷ before) behind now below begun b = balanced_by before behind now (now ∷ below) true (deeper (length below) b)
    where
      deeper : (k : ℕ) → AreBalanced k (PushStep ∷ before ++ behind) → AreBalanced (suc k) (before ++ behind)
      deeper zero h = h
      deeper (suc k) h = h
  balanced_by (PopStep ∷ before) behind now [] begun b = absurd b
  balanced_by (PopStep ∷ before) behind now (y ∷ below) begun b = balanced_by before behind y below begun b
  balanced_by (CheckStep ∷ before) behind now below begun b = balanced_by before behind now below begun (same (length below) b)
    where
      same : (k : ℕ) → AreBalanced k (CheckStep ∷ before ++ behind) → AreBalanced k (before ++ behind)
      same zero h = h
      same (suc k) h = h

  -- the steps behind others are balanced with the levels that those leave open
  pub balanced_behind : (before behind : List PlainStep) (x : Stages) → AreBalanced (length x.below) (before ++ behind) → AreBalanced (length (stages_behind enums before x).below) behind
  balanced_behind before behind x b = balanced_by before behind x.now x.below x.begun b

pub balanced_before : (k : ℕ) (before behind : List PlainStep) → AreBalanced k (before ++ behind) → AreBalanced k before
balanced_before zero [] behind b = tt
balanced_before (suc k) [] behind b = tt
balanced_before zero (AssertStep ts ∷ before) behind b = balanced_before zero before behind b
balanced_before (suc k) (AssertStep ts ∷ before) behind b = balanced_before (suc k) before behind b
balanced_before zero (PushStep ∷ before) behind b = balanced_before 1 before behind b
balanced_before (suc k) (PushStep ∷ before) behind b = balanced_before (suc (suc k)) before behind b
balanced_before zero (PopStep ∷ before) behind b = b
balanced_before (suc k) (PopStep ∷ before) behind b = balanced_before k before behind b
balanced_before zero (CheckStep ∷ before) behind b = balanced_before zero before behind b
balanced_before (suc k) (CheckStep ∷ before) behind b = balanced_before (suc k) before behind b
