-- Nothing is missing exactly where all is given.
use Rattle.std.proofs.Common.{◌≡◌, Bool, true, false, not, cond, List, [], ◌∷◌, refl}
use Rattle.std.specs.Prelude.{Option, Some, None, option_map}
use Rattle.std.specs.List.{AllByRecursion, find}
use Rattle.law_assignments.specs.Covered.{NothingMissingIsCovered, asked, gives}
use Rattle.law_terms.specs.Reached.{reached_terms}

module _ {X Y : Type 0} (f : X → Y) (test : X → Bool) where
  first : (b : Bool) (x : X) (o : Option X) → option_map f (cond (not b) (Some x) o) ≡ None → (b ≡ true) × (option_map f o ≡ None)
  first true x o h = (refl, h)
  first false x o h = cc

  pub all_pass : (xs : List X) → option_map f (find (λ x. not (test x)) xs) ≡ None → AllByRecursion (λ x. test x ≡ true) xs
  all_pass [] h = tt
  all_pass (x ∷ xs) h = let p : (test x ≡ true) × (option_map f (find (λ y. not (test y)) xs) ≡ None) = first (test x) x (find (λ y. not (test y)) xs) h in (p.0, all_pass xs p.1)

  pub none_fails : (xs : List X) → AllByRecursion (λ x. test x ≡ true) xs → option_map f (find (λ x. not (test x)) xs) ≡ None
  none_fails [] h = refl
  none_fails (x ∷ xs) h = rw h.0 (none_fails xs h.1)

pub nothing_missing_is_covered : NothingMissingIsCovered
nothing_missing_is_covered a ts = (λ h. all_pass asked (gives a) (reached_terms ts) h, λ h. none_fails asked (gives a) (reached_terms ts) h)
