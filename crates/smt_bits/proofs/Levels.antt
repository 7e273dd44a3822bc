-- Orders that hold nothing level but equal values.
use Rattle.std.proofs.Common.{◌≡◌, Equal, Less, Greater, refl, subst, ◌↔◌, Bool, IsTrue, sym, ap, ◌∙◌}
use Rattle.std.specs.Cmp.{Equal-is, IsTotalOrder, tied_itself}
use Rattle.std.specs.FinMap.{IsAntisymmetric, nat_cmp-IsAntisymmetric}
use Rattle.std.specs.Ordering.{is_eq, nat_cmp, ordering_then}
use Rattle.std.specs.declared.cmp.Ordering.{Ordering}
use Rattle.smt_bits.specs.BitVec.{width_of, number_of}
use Rattle.smt_bits.specs.Fin.{bound_of, value_of}
use Rattle.smt_bits.specs.Width.{bits_in}
use Rattle.smt_bits.specs.contracts.bitvec.BitVecOrd.TheImpl as bits_order
use Rattle.smt_bits.specs.contracts.fin.FinOrd.TheImpl as bounded_order
use Rattle.smt_bits.specs.contracts.width.WidthOrd.TheImpl as width_order
use Rattle.smt_bits.proofs.SameValue.{same_bits, same_bounded, same_width}

-- two answers one after the other are level where both are
pub then_level : (o p : Ordering) → ordering_then o p ≡ Equal → (o ≡ Equal) × (p ≡ Equal)
then_level Less p h = cc
then_level Equal p h = (refl, h)
then_level Greater p h = cc

-- a total order that holds only equal values level tells by that whether two values are one
pub level_where_equal : {K : Type 0} (cmp : K → K → Ordering) → IsTotalOrder cmp → IsAntisymmetric cmp → (x y : K) → (cmp x y ≡ Equal) ↔ (x ≡ y)
level_where_equal cmp total level x y = (level x y, λ e. subst (λ z. cmp x z ≡ Equal) e (tied_itself total x))

-- and a test of equality that asks this order decides it
pub equality_decided : {K : Type 0} (eq : K → K → Bool) (cmp : K → K → Ordering) → ((x y : K) → eq x y ≡ is_eq (cmp x y)) → IsTotalOrder cmp → IsAntisymmetric cmp → (x y : K) → IsTrue (eq x y) ↔ (x ≡ y)
equality_decided eq cmp asks total level x y = (λ h. level x y ((Equal-is (cmp x y)).0 (sym (asks x y) ∙ h)), λ e. asks x y ∙ ap is_eq ((level_where_equal cmp total level x y).1 e))

pub level_widths : IsAntisymmetric width_order.ghosts.cmp
level_widths a b h = same_width a b (nat_cmp-IsAntisymmetric (bits_in a) (bits_in b) h)

pub level_bits : IsAntisymmetric bits_order.ghosts.cmp
level_bits a b h =
    let k = then_level (nat_cmp (width_of a) (width_of b)) (nat_cmp (number_of a) (number_of b)) h in
    same_bits a b (nat_cmp-IsAntisymmetric (width_of a) (width_of b) k.0) (nat_cmp-IsAntisymmetric (number_of a) (number_of b) k.1)

pub level_bounded : IsAntisymmetric bounded_order.ghosts.cmp
level_bounded a b h =
    let k = then_level (nat_cmp (bound_of a) (bound_of b)) (nat_cmp (value_of a) (value_of b)) h in
    same_bounded a b (nat_cmp-IsAntisymmetric (bound_of a) (bound_of b) k.0) (nat_cmp-IsAntisymmetric (value_of a) (value_of b) k.1)
