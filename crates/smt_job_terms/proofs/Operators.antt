-- Operators at arguments of which they take as many as there are, or not.
use Rattle.std.proofs.Common.{◌≡◌, ◌∙◌, ◌<◌, false, List, [], ◌∷◌, Option, Some, None, Result, length, map, option_map, refl, ap, sym, subst, arith}
use Rattle.std.specs.Prelude.{is_some, IfOk}
use Rattle.law_folding.specs.Built.{folded}
use Rattle.law_terms.specs.Plain.{PlainOp, PlainTerm, PlainType, NotOp}
use Rattle.law_terms.specs.Types.{result_type, type_of}
use Rattle.smt_term.specs.View.{plain_term}
use Rattle.smt_term.specs.declared.term.Term.{Term}

none_taken : (o : PlainOp) → is_some (result_type o []) ≡ false
none_taken NotOp = refl
none_taken o = refl

pub nothing_taken : (o : PlainOp) (ts : List Term) → length ts < 1 → is_some (result_type o (map type_of (map plain_term ts))) ≡ false
nothing_taken o [] l = none_taken o
nothing_taken o (t ∷ ts) l = absurd (omega (arith, l))

pub nothing_built : {A B : Type 0} (f : A → B) (r : Option A) → is_some r ≡ false → None ≡ option_map f r
nothing_built f None h = refl
nothing_built f (Some a) h = cc

-- What is built of two operands, where these and the operator are what they are known as, is what is stated.
pub from_two : {S E : Type 0} (view : S → Option PlainTerm) (o p : PlainOp) (t u a b : PlainTerm) (ty : PlainType) (r : Result Term E) (s : Result S E) → p ≡ o → a ≡ t → b ≡ u → IfOk r (λ x. plain_term x ≡ folded o (a ∷ b ∷ []) ty) → ((w : PlainTerm) → IfOk r (λ x. plain_term x ≡ w) → IfOk s (λ found. view found ≡ Some w)) → IfOk s (λ found. view found ≡ Some (folded p (t ∷ u ∷ []) ty))
from_two view o p t u a b ty r s e d1 d2 h g = subst (λ w. IfOk s (λ found. view found ≡ Some w)) (ap (λ k. folded o (k ∷ b ∷ []) ty) d1 ∙ ap (λ k. folded o (t ∷ k ∷ []) ty) d2 ∙ ap (λ k. folded k (t ∷ u ∷ []) ty) (sym e)) (g _ h)

-- Of one operand likewise.
pub from_one : {S E : Type 0} (view : S → Option PlainTerm) (o p : PlainOp) (t a : PlainTerm) (ty : PlainType) (r : Result Term E) (s : Result S E) → p ≡ o → a ≡ t → IfOk r (λ x. plain_term x ≡ folded o (a ∷ []) ty) → ((w : PlainTerm) → IfOk r (λ x. plain_term x ≡ w) → IfOk s (λ found. view found ≡ Some w)) → IfOk s (λ found. view found ≡ Some (folded p (t ∷ []) ty))
from_one view o p t a ty r s e d h g = subst (λ w. IfOk s (λ found. view found ≡ Some w)) (ap (λ k. folded o (k ∷ []) ty) d ∙ ap (λ k. folded k (t ∷ []) ty) (sym e)) (g _ h)
