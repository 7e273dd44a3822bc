-- What holds of what is stated, step by step.
use Rattle.std.proofs.Common.{List, [], ◌∷◌, ◌++◌, Option, Some, None, Ok, Err}
use Rattle.std.specs.Prelude.{IfOk, IfSome}
use Rattle.law_jobs.specs.Outcomes.{Outcome}
use Rattle.law_assignments.specs.Entries.{given_by}
use Rattle.law_assignments.specs.Outcomes.{InputFault, InputOutcome, of_job}
use Rattle.law_texts.specs.Outcomes.{◌>>=◌, demanded}

module _ {A B : Type 0} (P : A → Type 0) (Q : B → Type 0) where
  pub next : (o : InputOutcome A) (f : A → InputOutcome B) → IfOk o P → ((a : A) → P a → IfOk (f a) Q) → IfOk (o >>= f) Q
  next (Ok a) f h g = g a h
  next (Err fault) f h g = tt

pub whatever : {A B : Type 0} (Q : B → Type 0) (o : InputOutcome A) (f : A → InputOutcome B) → ((a : A) → IfOk (f a) Q) → IfOk (o >>= f) Q
whatever Q (Ok a) f g = g a
whatever Q (Err fault) f g = tt

pub if_demanded : {A : Type 0} (P : A → Type 0) (fault : InputFault) (o : Option A) → IfSome o P → IfOk (demanded fault o) P
if_demanded P fault (Some a) h = h
if_demanded P fault None h = tt

pub weaker : {A : Type 0} {P Q : A → Type 0} (o : Option A) → IfSome o P → ((a : A) → P a → Q a) → IfSome o Q
weaker (Some a) h f = f a h
weaker None h f = tt

pub from_job : {A : Type 0} (P : A → Type 0) (o : Outcome A) → IfOk o P → IfOk (of_job o) P
from_job P (Ok a) h = h
from_job P (Err fault) h = tt

pub both_ok : {A : Type 0} (P Q : A → Type 0) (o : Outcome A) → IfOk o P → IfOk o Q → IfOk o (λ a. P a × Q a)
both_ok P Q (Ok a) h g = (h, g)
both_ok P Q (Err fault) h g = tt

-- what each step keeps of what is given, holds of all
module _ {A W : Type 0} (of : List A → W → InputOutcome A) (P : List A → Type 0) (each : (before : List A) (w : W) → P before → IfOk (of before w) (λ a. P (before ++ a ∷ []))) where
  pub given_so : (before : List A) (ws : List W) → P before → IfOk (given_by of before ws) P
  given_so before [] h = h
  given_so before (w ∷ ws) h = next (λ a. P (before ++ a ∷ [])) P (of before w) _ (each before w h) (λ a g. given_so (before ++ a ∷ []) ws g)
