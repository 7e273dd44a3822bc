-- What holds of what is stated, step by step.
use Rattle.std.proofs.Common.{◌≡◌, Bool, true, false, List, ◌∷◌, Option, Some, None, Ok, Err, refl}
use Rattle.std.specs.Prelude.{IfOk, IfSome, if◌then◌else◌}
use Rattle.std.specs.Bool.{then_some}
use Rattle.law_jobs.specs.Outcomes.{JobFault, Outcome, followed}
use Rattle.law_texts.specs.Outcomes.{◌>>=◌, demanded}

module _ {A B : Type 0} (P : B → Type 0) where
  pub bound : (o : Outcome A) (f : A → Outcome B) → IfOk o (λ a. IfOk (f a) P) → IfOk (o >>= f) P
  bound (Ok a) f h = h
  bound (Err fault) f h = tt

pub whichever : {A : Type 0} (P : A → Type 0) (o : Outcome A) → ((a : A) → P a) → IfOk o P
whichever P (Ok a) h = h a
whichever P (Err fault) h = tt

pub onward : {A : Type 0} {P Q : A → Type 0} (o : Outcome A) → IfOk o P → ((a : A) → P a → Q a) → IfOk o Q
onward (Ok a) h f = f a h
onward (Err fault) h f = tt

pub either : {A : Type 0} (P : A → Type 0) (b : Bool) (x y : Outcome A) → IfOk x P → IfOk y P → IfOk (if b then x else y) P
either P true x y h g = h
either P false x y h g = g

pub if_demanded : {A : Type 0} (P : A → Type 0) (fault : JobFault) (o : Option A) → IfSome o P → IfOk (demanded fault o) P
if_demanded P fault (Some a) h = h
if_demanded P fault None h = tt

pub if_followed : {A : Type 0} (P : List A → Type 0) (a : A) (o : Outcome (List A)) → IfOk o (λ rest. P (a ∷ rest)) → IfOk (followed a o) P
if_followed P a (Ok rest) h = h
if_followed P a (Err fault) h = tt

pub if_some : {A : Type 0} (P : A → Type 0) (b : Bool) (a : A) → (b ≡ true → P a) → IfSome (then_some b a) P
if_some P true a h = h refl
if_some P false a h = tt
