-- Circuits over what is left of lists, for loops that go from the lowest bit up: the next bit and the rest, and nothing at the end.
use Rattle.std.proofs.Common.{◌≡◌, ℕ, suc, ◌<◌, List, ◌∷◌, drop, get_or, length, ap, ◌∙◌, drop-cons}
use Rattle.law_blasting.specs.Circuits.{Gates, sum_bit, carry, borrow, sum, carry_out, difference, borrow_out, choose}

-- d is what stands past the end
module _ {X : Type 0} (g : Gates X) (d : X) (xs ys : List X) (i : ℕ) (l : i < length xs) (m : i < length ys) where
  two_left : {Y : Type 0} (f : List X → List X → Y) → f (drop i xs) (drop i ys) ≡ f (get_or xs i d ∷ drop (suc i) xs) (get_or ys i d ∷ drop (suc i) ys)
  two_left f = ap (λ us. f us (drop i ys)) (drop-cons xs i d l) ∙ ap (f (get_or xs i d ∷ drop (suc i) xs)) (drop-cons ys i d m)

  pub sum_goes_on : (c : X) → sum g (drop i xs) (drop i ys) c ≡ sum_bit g (get_or xs i d) (get_or ys i d) c ∷ sum g (drop (suc i) xs) (drop (suc i) ys) (carry g (get_or xs i d) (get_or ys i d) c)
  sum_goes_on c = two_left (λ us vs. sum g us vs c)

  pub carry_goes_on : (c : X) → carry_out g (drop i xs) (drop i ys) c ≡ carry_out g (drop (suc i) xs) (drop (suc i) ys) (carry g (get_or xs i d) (get_or ys i d) c)
  carry_goes_on c = two_left (λ us vs. carry_out g us vs c)

  pub difference_goes_on : (c : X) → difference g (drop i xs) (drop i ys) c ≡ sum_bit g (get_or xs i d) (get_or ys i d) c ∷ difference g (drop (suc i) xs) (drop (suc i) ys) (borrow g (get_or xs i d) (get_or ys i d) c)
  difference_goes_on c = two_left (λ us vs. difference g us vs c)

  pub borrow_goes_on : (c : X) → borrow_out g (drop i xs) (drop i ys) c ≡ borrow_out g (drop (suc i) xs) (drop (suc i) ys) (borrow g (get_or xs i d) (get_or ys i d) c)
  borrow_goes_on c = two_left (λ us vs. borrow_out g us vs c)

  pub choice_goes_on : (c : X) → choose g c (drop i xs) (drop i ys) ≡ g.ite c (get_or xs i d) (get_or ys i d) ∷ choose g c (drop (suc i) xs) (drop (suc i) ys)
  choice_goes_on c = two_left (λ us vs. choose g c us vs)
