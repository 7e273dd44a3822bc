-- An order that is one of what its values say, and holds only what says the same level, agrees with equality.
use Rattle.std.proofs.Common.{◌≡◌, ◌↔◌, Bool, true, List, [], ◌∷◌, map, refl, ap, ◌∙◌, sym}
use Rattle.std.specs.Cmp.{Equal-is, IsTotalOrder}
use Rattle.std.specs.Cmp.Lexicographic.{slice_cmp}
use Rattle.std.specs.Ordering.{is_eq, ordering_then}
use Rattle.std.specs.declared.cmp.Ordering.{Ordering}
use Rattle.std.specs.declared.cmp.Ordering.TheVariants.{Equal}
use Rattle.law_terms.proofs.ValueOrder.{then_equal}
use Rattle.smt_term.specs.Ordered.{AreOrdered, pair_cmp}
use Rattle.smt_term.proofs.ExtensionOrder.{say_the_same}

-- what an order holds level is equal, where the test of equality asks the order
level_is_eq : (equal : Bool) (o : Ordering) → equal ≡ is_eq o → (o ≡ Equal) ↔ (equal ≡ true)
level_is_eq equal o m = (λ h. m ∙ ap is_eq h, λ k. (Equal-is o).0 (sym m ∙ k))

pub are_ordered : {X P : Type 0} (cmp : X → X → Ordering) (eq : X → X → Bool) (said : X → P) (said_cmp : P → P → Ordering) → IsTotalOrder cmp → ((a b : X) → eq a b ≡ is_eq (cmp a b)) → ((a b : X) → cmp a b ≡ said_cmp (said a) (said b)) → ((p q : P) → said_cmp p q ≡ Equal → p ≡ q) → AreOrdered cmp eq said said_cmp
are_ordered cmp eq said said_cmp total matches by_said same = record {
  total = total;
  by_said = by_said;
  level = λ a b. level_is_eq (eq a b) (cmp a b) (matches a b);
  equal = say_the_same eq cmp said said_cmp total matches by_said same;
}

-- lists, by what their items say
pub lists_by_said : {X P : Type 0} (cmp : X → X → Ordering) (said : X → P) (said_cmp : P → P → Ordering) → ((a b : X) → cmp a b ≡ said_cmp (said a) (said b)) → (xs ys : List X) → slice_cmp cmp xs ys ≡ slice_cmp said_cmp (map said xs) (map said ys)
lists_by_said cmp said said_cmp by_said [] [] = refl
lists_by_said cmp said said_cmp by_said [] (y ∷ ys) = refl
lists_by_said cmp said said_cmp by_said (x ∷ xs) [] = refl
lists_by_said cmp said said_cmp by_said (x ∷ xs) (y ∷ ys) =
    ap (λ o. ordering_then o (slice_cmp cmp xs ys)) (by_said x y) ∙ ap (λ o. ordering_then (said_cmp (said x) (said y)) o) (lists_by_said cmp said said_cmp by_said xs ys)

-- pairs whose parts are level say the same, where that holds of the parts
pub pairs_same : {A B : Type 0} (f : A → A → Ordering) (g : B → B → Ordering) → ((a b : A) → f a b ≡ Equal → a ≡ b) → ((a b : B) → g a b ≡ Equal → a ≡ b) → (p q : A × B) → pair_cmp f g p q ≡ Equal → p ≡ q
pairs_same f g first second p q h =
    let e : (f p.0 q.0 ≡ Equal) × (g p.1 q.1 ≡ Equal) = then_equal (f p.0 q.0) (g p.1 q.1) h in
    let a = first p.0 q.0 e.0 in
    let b = second p.1 q.1 e.1 in
    λ i. (a i, b i)
