-- Circuits over gates of two kinds, side by side.
use Rattle.std.specs.Prelude.{ℕ, length, List, [], ◌∷◌}
use Rattle.law_blasting.specs.Circuits.{Gates, sum, carry_out, difference, borrow_out, carries_differ, borrows_differ, equal, zeros}
use Rattle.law_blasting.specs.Circuits.{extended, choose, up, down, shift, with_top}

-- R holds of the items of two lists, place by place
pub data Related {X Y : Type 0} (R : X → Y → Type 0) : List X → List Y → Type 0 where
  none : Related R [] []
  one : {x : X} {y : Y} {xs : List X} {ys : List Y} → R x y → Related R xs ys → Related R (x ∷ xs) (y ∷ ys)

-- gates that keep a relation: where it holds of what goes in, it holds of what comes out
pub record Passes {X Y : Type 0} (g : Gates X) (h : Gates Y) (R : X → Y → Type 0) : Type 0 where
  pub no : R g.no h.no
  pub yes : R g.yes h.yes
  pub not : (a : X) (p : Y) → R a p → R (g.not a) (h.not p)
  pub and : (a b : X) (p q : Y) → R a p → R b q → R (g.and a b) (h.and p q)
  pub or : (a b : X) (p q : Y) → R a p → R b q → R (g.or a b) (h.or p q)
  pub eq : (a b : X) (p q : Y) → R a p → R b q → R (g.eq a b) (h.eq p q)
  pub ite : (a b c : X) (p q r : Y) → R a p → R b q → R c r → R (g.ite a b c) (h.ite p q r)

-- circuits of such gates keep it too
pub record CircuitsPass {X Y : Type 0} (g : Gates X) (h : Gates Y) (R : X → Y → Type 0) : Type 0 where
  pub sums : {xs ys : List X} {c : X} {us vs : List Y} {d : Y} → Related R xs us → Related R ys vs → R c d →
      Related R (sum g xs ys c) (sum h us vs d)
  pub differences : {xs ys : List X} {c : X} {us vs : List Y} {d : Y} → Related R xs us → Related R ys vs → R c d →
      Related R (difference g xs ys c) (difference h us vs d)
  pub carries : {xs ys : List X} {c : X} {us vs : List Y} {d : Y} → Related R xs us → Related R ys vs → R c d →
      R (carry_out g xs ys c) (carry_out h us vs d)
  pub borrows : {xs ys : List X} {c : X} {us vs : List Y} {d : Y} → Related R xs us → Related R ys vs → R c d →
      R (borrow_out g xs ys c) (borrow_out h us vs d)
  pub sum_overflows : {xs ys : List X} {c : X} {us vs : List Y} {d : Y} → Related R xs us → Related R ys vs → R c d →
      R (carries_differ g xs ys c) (carries_differ h us vs d)
  pub difference_overflows : {xs ys : List X} {c : X} {us vs : List Y} {d : Y} → Related R xs us → Related R ys vs → R c d →
      R (borrows_differ g xs ys c) (borrows_differ h us vs d)
  pub equalities : {xs ys : List X} {us vs : List Y} → Related R xs us → Related R ys vs → R (equal g xs ys) (equal h us vs)
  pub choices : {c : X} {xs ys : List X} {d : Y} {us vs : List Y} → R c d → Related R xs us → Related R ys vs →
      Related R (choose g c xs ys) (choose h d us vs)
  pub zeros : {xs : List X} {us : List Y} → Related R xs us → Related R (zeros g xs) (zeros h us)
  pub extensions : (k : ℕ) {xs : List X} {us : List Y} → Related R xs us → Related R (extended g k xs) (extended h k us)
  pub shifts_up : {ys xs : List X} {vs us : List Y} → Related R ys vs → Related R xs us →
      Related R (shift g (up g) (length xs) 1 ys xs) (shift h (up h) (length us) 1 vs us)
  pub shifts_down : {ys xs : List X} {vs us : List Y} → Related R ys vs → Related R xs us →
      Related R (shift g (down g) (length xs) 1 ys xs) (shift h (down h) (length us) 1 vs us)
  pub tops : {xs ys : List X} {us vs : List Y} → Related R xs us → Related R ys vs → Related R (with_top xs ys) (with_top us vs)
