-- What the order and the equality of a type of the program keep, by what its values say.
use Rattle.std.specs.Prelude.{◌≡◌, ◌↔◌, Bool, IsTrue}
use Rattle.std.specs.Cmp.{IsTotalOrder}
use Rattle.std.specs.Ordering.{ordering_then}
use Rattle.std.specs.declared.cmp.Ordering.{Ordering}
use Rattle.std.specs.declared.cmp.Ordering.TheVariants.{Equal}

-- The order is total, and is an order of what the values say. It holds two level exactly where they are equal, and they are equal
-- exactly where they say the same.
pub record AreOrdered {X P : Type 0} (cmp : X → X → Ordering) (eq : X → X → Bool) (said : X → P) (said_cmp : P → P → Ordering) :
    Type 0 where
  pub total : IsTotalOrder cmp
  pub by_said : (a b : X) → cmp a b ≡ said_cmp (said a) (said b)
  pub level : (a b : X) → (cmp a b ≡ Equal) ↔ IsTrue (eq a b)
  pub equal : (a b : X) → IsTrue (eq a b) ↔ (said a ≡ said b)

-- the order of pairs by their first parts, and of those with one first part by their second
abbrev pub pair_cmp : {A B : Type 0} → (A → A → Ordering) → (B → B → Ordering) → A × B → A × B → Ordering
pair_cmp f g p q = ordering_then (f p.0 q.0) (g p.1 q.1)
