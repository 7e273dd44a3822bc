-- Small steps over answers of an order.
use Rattle.std.proofs.Common.{◌≡◌, ℕ, ◌<◌, Bool, true, false, cond, refl}
use Rattle.std.specs.Prelude.{nat_lt, ◌==◌}
use Rattle.std.proofs.lemmas.Bool.{ltb-true}
use Rattle.std.specs.Ordering.{nat_cmp, ordering_then}
use Rattle.std.specs.declared.cmp.Ordering.{Ordering}
use Rattle.std.specs.declared.cmp.Ordering.TheVariants.{Less, Equal, Greater}

-- an answer that nothing follows
pub then_none : (o : Ordering) → ordering_then o Equal ≡ o
then_none Less = refl
then_none Equal = refl
then_none Greater = refl

pub nat_less : (c d : ℕ) → nat_cmp c d ≡ Less → c < d
nat_less c d e = by (nat_lt c d) refl e
  where
    by : (b : Bool) → nat_lt c d ≡ b → cond b Less (cond (c == d) Equal Greater) ≡ Less → c < d
    by true f k = ltb-true c d f
    by false f k = other (c == d) k
      where
        other : (b : Bool) → cond b Equal Greater ≡ Less → c < d
        other true k = cc
        other false k = cc
