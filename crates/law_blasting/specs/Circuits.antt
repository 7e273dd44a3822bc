-- Circuits over lists of bits, the lowest first, and the numbers of such lists.
use Rattle.std.specs.Prelude.{ℕ, zero, suc, ◌+◌, ◌*◌, ◌/◌, ◌%◌, ◌==◌, Bool, true, false, cond, not, ◌&&◌, ◌||◌, List, [], ◌∷◌, ◌++◌, drop}
use Rattle.std.specs.Prelude.{length, nat_lt, replicate, take}
use Rattle.std.specs.Bool.{beq}

-- what circuits are made of: two constants, and gates
pub record Gates (X : Type 0) : Type 0 where
  pub no : X
  pub yes : X
  pub not : X → X
  pub and : X → X → X
  pub or : X → X → X
  pub eq : X → X → X
  pub ite : X → X → X → X

-- gates that compute at once, with truths for bits
abbrev pub truth_gates : Gates Bool
truth_gates = record { no = false; yes = true; not = not; and = λ a b. a && b; or = λ a b. a || b; eq = beq; ite = cond }

-- what a bit counts: 1 where it is set, and else 0
abbrev pub weight : Bool → ℕ
weight b = cond b 1 0

-- the number of bits, the lowest first
abbrev pub number : List Bool → ℕ
number [] = 0
number (b ∷ bs) = weight b + 2 * number bs

-- the n lowest bits of a number
abbrev pub number_bits : ℕ → ℕ → List Bool
number_bits zero a = []
number_bits (suc n) a = (a % 2 == 1) ∷ number_bits n (a / 2)

module _ {X : Type 0} (g : Gates X) where
  -- a full adder: the sum's bit is the carry where the two bits are equal, and else its opposite; so it is eq (eq a b) c
  abbrev pub sum_bit : X → X → X → X
  sum_bit a b c = g.eq (g.eq a b) c

  -- where the two bits are equal both carry or neither does; where they differ the carry goes on
  abbrev pub carry : X → X → X → X
  carry a b c = g.ite (g.eq a b) a c

  -- The adder of two lists of bits with a carry into the lowest place: the bits of the sum. It ends with the shorter list.
  abbrev pub sum : List X → List X → X → List X
  sum [] ys c = []
  sum (x ∷ xs) [] c = []
  sum (x ∷ xs) (y ∷ ys) c = sum_bit x y c ∷ sum xs ys (carry x y c)

  -- what the adder carries out of the highest place
  abbrev pub carry_out : List X → List X → X → X
  carry_out [] ys c = c
  carry_out (x ∷ xs) [] c = c
  carry_out (x ∷ xs) (y ∷ ys) c = carry_out xs ys (carry x y c)

  -- where the two bits are equal the borrow goes on; where they differ the second borrows
  abbrev pub borrow : X → X → X → X
  borrow a b c = g.ite (g.eq a b) c b

  -- The subtractor of two lists of bits with a borrow from the lowest place: the bits of the difference.
  abbrev pub difference : List X → List X → X → List X
  difference [] ys c = []
  difference (x ∷ xs) [] c = []
  difference (x ∷ xs) (y ∷ ys) c = sum_bit x y c ∷ difference xs ys (borrow x y c)

  -- what the subtractor borrows out of the highest place
  abbrev pub borrow_out : List X → List X → X → X
  borrow_out [] ys c = c
  borrow_out (x ∷ xs) [] c = c
  borrow_out (x ∷ xs) (y ∷ ys) c = borrow_out xs ys (borrow x y c)

  -- whether what is carried into the highest place is not what is carried out of it: so a signed sum overflows
  abbrev pub carries_differ : List X → List X → X → X
  carries_differ [] ys c = g.no
  carries_differ (x ∷ xs) [] c = g.no
  carries_differ (x ∷ []) (y ∷ ys) c = g.not (g.eq c (carry x y c))
  carries_differ (x ∷ (z ∷ xs)) (y ∷ ys) c = carries_differ (z ∷ xs) ys (carry x y c)

  -- whether what is borrowed from the highest place is not what the place borrows: so a signed difference overflows
  abbrev pub borrows_differ : List X → List X → X → X
  borrows_differ [] ys c = g.no
  borrows_differ (x ∷ xs) [] c = g.no
  borrows_differ (x ∷ []) (y ∷ ys) c = g.not (g.eq c (borrow x y c))
  borrows_differ (x ∷ (z ∷ xs)) (y ∷ ys) c = borrows_differ (z ∷ xs) ys (borrow x y c)

  -- whether each bit is the one at its place; of a single bit, the gate alone
  abbrev pub equal : List X → List X → X
  equal [] ys = g.yes
  equal (x ∷ xs) [] = g.yes
  equal (x ∷ []) (y ∷ ys) = g.eq x y
  equal (x ∷ (z ∷ xs)) (y ∷ ys) = g.and (g.eq x y) (equal (z ∷ xs) ys)

  -- as many zeros as there are bits
  abbrev pub zeros : List X → List X
  zeros xs = replicate (length xs) g.no

  -- zeros above the highest bit
  abbrev pub extended : ℕ → List X → List X
  extended k xs = xs ++ replicate k g.no

  -- a choice bit by bit
  abbrev pub choose : X → List X → List X → List X
  choose b [] ys = []
  choose b (x ∷ xs) [] = []
  choose b (x ∷ xs) (y ∷ ys) = g.ite b x y ∷ choose b xs ys

  -- whether any bit of a list is set
  abbrev pub any_of : List X → X
  any_of [] = g.no
  any_of (b ∷ bs) = g.or b (any_of bs)

  -- moved up by so many places, with zeros in the lowest
  abbrev pub up : ℕ → List X → List X
  up k xs = take (length xs) (replicate k g.no ++ xs)

  -- moved down by so many places, with zeros in the highest
  abbrev pub down : ℕ → List X → List X
  down k xs = take (length xs) (drop k xs ++ zeros xs)

  -- Moved by as many places as bits say, the lowest of which counts a places. Bits that count as many places as there are
  -- leave nothing.
  abbrev pub shift : (ℕ → List X → List X) → (n a : ℕ) → List X → List X → List X
  shift move n a [] xs = xs
  shift move n a (b ∷ bs) xs =
      elim (nat_lt a n) [
        | true ↦ shift move n (2 * a) bs (choose b (move a xs) xs)
        | false ↦ choose (any_of (b ∷ bs)) (zeros xs) xs
      ]

-- the bits of the first list with the highest bit of the second
abbrev pub with_top : {X : Type 0} → List X → List X → List X
with_top [] ys = []
with_top (x ∷ xs) [] = []
with_top (x ∷ []) (y ∷ ys) = y ∷ []
with_top (x ∷ (z ∷ xs)) (y ∷ ys) = x ∷ with_top (z ∷ xs) ys
