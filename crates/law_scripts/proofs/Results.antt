-- What gave a state, and tests that hold by one of their parts.
use Rattle.std.proofs.Common.{◌≡◌, ◌⊎◌, ℕ, Bool, true, false, ◌||◌, cond, List, refl, inl, inr, Option, Some, None}
use Rattle.std.proofs.lemmas.Bool.{cond-false}
use Rattle.law_scripts.specs.Script.{Entry, State, is_taken, declare, with_name}
use Rattle.law_texts.specs.Options.{◌>>=◌}

pub or_left : (a b : Bool) → a ≡ true → (a || b) ≡ true
or_left a b e = rw e refl

pub or_right : (a b : Bool) → b ≡ true → (a || b) ≡ true
or_right true b e = refl
or_right false b e = e

pub some_is : (s t : State) → Some s ≡ Some t → s ≡ t
some_is s t h = cc

-- a test in a definition that gave a state
pub if_not : (b : Bool) (o : Option State) (t : State) → cond b None o ≡ Some t → (b ≡ false) × (o ≡ Some t)
if_not true o t h = absurd cc
if_not false o t h = (refl, h)

pub if_so : (b : Bool) (o : Option State) (t : State) → cond b o None ≡ Some t → (b ≡ true) × (o ≡ Some t)
if_so true o t h = (refl, h)
if_so false o t h = absurd cc

pub if_either : (b : Bool) (o p : Option State) (t : State) → cond b o p ≡ Some t → ((b ≡ true) × (o ≡ Some t)) ⊎ ((b ≡ false) × (p ≡ Some t))
if_either true o p t h = inl (refl, h)
if_either false o p t h = inr (refl, h)

pub bind_gives : (o : Option State) (f : State → Option State) (u : State) → (o >>= f) ≡ Some u → (t : State) × (o ≡ Some t) × (f t ≡ Some u)
bind_gives (Some t) f u h = (t, refl, h)
bind_gives None f u h = absurd cc

pub bind_same : {A B : Type 0} (o : Option A) (f g : A → Option B) → ((a : A) → f a ≡ g a) → (o >>= f) ≡ (o >>= g)
bind_same (Some a) f g h = h a
bind_same None f g h = refl

-- a name that is not taken can be declared
pub declares : (n : List ℕ) (entry : Entry) (s : State) → is_taken s n ≡ false → declare n entry s ≡ Some (with_name n entry s)
declares n entry s h = cond-false (is_taken s n) None (Some (with_name n entry s)) h
