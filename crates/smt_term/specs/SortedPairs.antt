-- Pairs in the order of their keys.
use Rattle.std.specs.Prelude.{◌≡◌, Bool, List, IsTrue, reverse}
use Rattle.std.specs.Map.{keys_of, lookup}
use Rattle.std.specs.declared.cmp.Ordering.{Ordering}
use Rattle.law_terms.specs.ValueOrder.{ascends, sorted}

-- the pairs in the order of their keys; of equal keys the last pair stays
abbrev pub sorted_pairs : {K X : Type 0} → (K → K → Ordering) → List (K × X) → List (K × X)
sorted_pairs cmp ps = sorted (λ p q. cmp p.0 q.0) ps

-- the keys of pairs ascend strictly, and each has the value of the last pair that was given with it
pub record AreLastPairs {K X : Type 0} (cmp : K → K → Ordering) (same : K → K → Bool) (given pairs : List (K × X)) : Type 0 where
  pub ascending : IsTrue (ascends cmp (keys_of pairs))
  pub last : (k : K) → lookup (same k) pairs ≡ lookup (same k) (reverse given)
