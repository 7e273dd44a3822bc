-- The values of a list in order.
use Rattle.std.proofs.Common.{◌≡◌, Bool, true, false, List, [], ◌∷◌, refl, ap}
use Rattle.std.specs.Prelude.{cond}
use Rattle.std.specs.List.{AllByRecursion, filter}
use Rattle.law_terms.specs.ValueOrder.{value_cmp, ascends, sorted_values, values, list_of_values}
use Rattle.law_terms.proofs.Sorted as sorted
use Rattle.law_terms.proofs.TotalOrder.{values_total}
use Rattle.law_terms.specs.Values.{Value}

pub ascends-sorted : (vs : List Value) → ascends value_cmp (sorted_values vs) ≡ true
ascends-sorted = sorted.ascends-sorted value_cmp values_total

module _ (P : Value → Type 0) where
  pub all-sorted : (vs : List Value) → AllByRecursion P vs → AllByRecursion P (sorted_values vs)
  all-sorted = sorted.all-sorted value_cmp P

  all-kept : (v : Value) (rest : List Value) (b : Bool) → P v → AllByRecursion P rest → AllByRecursion P (cond b (v ∷ rest) rest)
  all-kept v rest true p h = (p, h)
  all-kept v rest false p h = h

  pub all-filtered : (test : Value → Bool) (vs : List Value) → AllByRecursion P vs → AllByRecursion P (filter test vs)
  all-filtered test [] h = tt
  all-filtered test (v ∷ vs) h = all-kept v (filter test vs) (test v) h.0 (all-filtered test vs h.1)

pub list-values : (vs : List Value) → list_of_values (values vs) ≡ vs
list-values [] = refl
list-values (v ∷ vs) = ap (λ ws. v ∷ ws) (list-values vs)
