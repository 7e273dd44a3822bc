-- Circuits over gates of two kinds, side by side.
use Rattle.std.proofs.Common.{◌≡◌, ℕ, zero, suc, ◌*◌, Bool, true, false, List, ◌++◌, drop, length, take, replicate, refl, ap, subst}
use Rattle.std.specs.Prelude.{nat_lt}
use Rattle.law_blasting.specs.Circuits.{Gates, sum_bit, carry, borrow, sum, carry_out, difference, borrow_out, carries_differ, borrows_differ, equal, zeros, choose, any_of, up, down, shift, with_top}
use Rattle.law_blasting.specs.Passing.{Related, none, one, Passes, CircuitsPass}

module _ {X Y : Type 0} {R : X → Y → Type 0} where
  pub same_length : {xs : List X} {us : List Y} → Related R xs us → length xs ≡ length us
  same_length none = refl
  same_length (one r h) = ap suc (same_length h)

  pub joined : {xs ys : List X} {us vs : List Y} → Related R xs us → Related R ys vs → Related R (xs ++ ys) (us ++ vs)
  joined none k = k
  joined (one r h) k = one r (joined h k)

  -- as many as other lists have
  taken : {ns xs : List X} {ms us : List Y} → Related R ns ms → Related R xs us → Related R (take (length ns) xs) (take (length ms) us)
  taken none k = none
  taken (one r h) none = none
  taken (one r h) (one q k) = one q (taken h k)

  dropped : (k : ℕ) {xs : List X} {us : List Y} → Related R xs us → Related R (drop k xs) (drop k us)
  dropped zero h = h
  dropped (suc k) none = none
  dropped (suc k) (one r h) = dropped k h

  pub repeated : (k : ℕ) (x : X) (u : Y) → R x u → Related R (replicate k x) (replicate k u)
  repeated zero x u r = none
  repeated (suc k) x u r = one r (repeated k x u r)

  topped : {xs ys : List X} {us vs : List Y} → Related R xs us → Related R ys vs → Related R (with_top xs ys) (with_top us vs)
  topped none k = none
  topped (one r h) none = none
  topped (one r none) (one q k) = one q none
  topped (one r (one p h)) (one q k) = one r (topped (one p h) k)

module _ {X Y : Type 0} (g : Gates X) (h : Gates Y) (R : X → Y → Type 0) (p : Passes g h R) where
  bits_pass : {a b c : X} {i j k : Y} → R a i → R b j → R c k → R (sum_bit g a b c) (sum_bit h i j k)
  bits_pass {a} {b} {c} {i} {j} {k} r s t = p.eq (g.eq a b) c (h.eq i j) k (p.eq a b i j r s) t

  carries_pass : {a b c : X} {i j k : Y} → R a i → R b j → R c k → R (carry g a b c) (carry h i j k)
  carries_pass {a} {b} {c} {i} {j} {k} r s t = p.ite (g.eq a b) a c (h.eq i j) i k (p.eq a b i j r s) r t

  borrows_pass : {a b c : X} {i j k : Y} → R a i → R b j → R c k → R (borrow g a b c) (borrow h i j k)
  borrows_pass {a} {b} {c} {i} {j} {k} r s t = p.ite (g.eq a b) c b (h.eq i j) k j (p.eq a b i j r s) t s

  differ_pass : {a b : X} {i j : Y} → R a i → R b j → R (g.not (g.eq a b)) (h.not (h.eq i j))
  differ_pass {a} {b} {i} {j} r s = p.not (g.eq a b) (h.eq i j) (p.eq a b i j r s)

  sums : {xs ys : List X} {c : X} {us vs : List Y} {d : Y} → Related R xs us → Related R ys vs → R c d → Related R (sum g xs ys c) (sum h us vs d)
  sums none k t = none
  sums (one r q) none t = none
  sums (one r q) (one s k) t = one (bits_pass r s t) (sums q k (carries_pass r s t))

  differences : {xs ys : List X} {c : X} {us vs : List Y} {d : Y} → Related R xs us → Related R ys vs → R c d → Related R (difference g xs ys c) (difference h us vs d)
  differences none k t = none
  differences (one r q) none t = none
  differences (one r q) (one s k) t = one (bits_pass r s t) (differences q k (borrows_pass r s t))

  last_carries : {xs ys : List X} {c : X} {us vs : List Y} {d : Y} → Related R xs us → Related R ys vs → R c d → R (carry_out g xs ys c) (carry_out h us vs d)
  last_carries none k t = t
  last_carries (one r q) none t = t
  last_carries (one r q) (one s k) t = last_carries q k (carries_pass r s t)

  last_borrows : {xs ys : List X} {c : X} {us vs : List Y} {d : Y} → Related R xs us → Related R ys vs → R c d → R (borrow_out g xs ys c) (borrow_out h us vs d)
  last_borrows none k t = t
  last_borrows (one r q) none t = t
  last_borrows (one r q) (one s k) t = last_borrows q k (borrows_pass r s t)

  sum_overflows : {xs ys : List X} {c : X} {us vs : List Y} {d : Y} → Related R xs us → Related R ys vs → R c d → R (carries_differ g xs ys c) (carries_differ h us vs d)
  sum_overflows none k t = p.no
  sum_overflows (one r q) none t = p.no
  sum_overflows (one r none) (one s k) t = differ_pass t (carries_pass r s t)
  sum_overflows (one r (one o q)) (one s k) t = sum_overflows (one o q) k (carries_pass r s t)

  difference_overflows : {xs ys : List X} {c : X} {us vs : List Y} {d : Y} → Related R xs us → Related R ys vs → R c d → R (borrows_differ g xs ys c) (borrows_differ h us vs d)
  difference_overflows none k t = p.no
  difference_overflows (one r q) none t = p.no
  difference_overflows (one r none) (one s k) t = differ_pass t (borrows_pass r s t)
  difference_overflows (one r (one o q)) (one s k) t = difference_overflows (one o q) k (borrows_pass r s t)

  equalities : {xs ys : List X} {us vs : List Y} → Related R xs us → Related R ys vs → R (equal g xs ys) (equal h us vs)
  equalities none k = p.yes
  equalities (one r q) none = p.yes
  equalities (one r none) (one s k) = p.eq _ _ _ _ r s
  equalities (one r (one o q)) (one s k) = p.and _ _ _ _ (p.eq _ _ _ _ r s) (equalities (one o q) k)

  choices : {c : X} {xs ys : List X} {d : Y} {us vs : List Y} → R c d → Related R xs us → Related R ys vs → Related R (choose g c xs ys) (choose h d us vs)
  choices t none k = none
  choices t (one r q) none = none
  choices t (one r q) (one s k) = one (p.ite _ _ _ _ _ _ t r s) (choices t q k)

  no_bits : {xs : List X} {us : List Y} → Related R xs us → Related R (zeros g xs) (zeros h us)
  no_bits {xs} {us} q = subst (λ n. Related R (zeros g xs) (replicate n h.no)) (same_length q) (repeated (length xs) g.no h.no p.no)

  any_pass : {xs : List X} {us : List Y} → Related R xs us → R (any_of g xs) (any_of h us)
  any_pass none = p.no
  any_pass (one r q) = p.or _ _ _ _ r (any_pass q)

  ups : (k : ℕ) (xs : List X) (us : List Y) → Related R xs us → Related R (up g k xs) (up h k us)
  ups k xs us q = taken q (joined (repeated k g.no h.no p.no) q)

  downs : (k : ℕ) (xs : List X) (us : List Y) → Related R xs us → Related R (down g k xs) (down h k us)
  downs k xs us q = taken q (joined (dropped k q) (no_bits q))

  staged : (t : Bool) {here rest : List X} {there others : List Y} → Related R here there → Related R rest others → Related R (elim t [ true ↦ here | false ↦ rest ]) (elim t [ true ↦ there | false ↦ others ])
  staged true q k = q
  staged false q k = k

  shifts : (move : ℕ → List X → List X) (step : ℕ → List Y → List Y) → ((k : ℕ) (xs : List X) (us : List Y) → Related R xs us → Related R (move k xs) (step k us))
      → (n a : ℕ) {ys xs : List X} {vs us : List Y} → Related R ys vs → Related R xs us → Related R (shift g move n a ys xs) (shift h step n a vs us)
  shifts move step keeps n a none q = q
  shifts move step keeps n a (one s k) q = staged (nat_lt a n) (shifts move step keeps n (2 * a) k (choices s (keeps a _ _ q) q)) (choices (any_pass (one s k)) (no_bits q) q)

  pub circuits_pass : CircuitsPass g h R
  circuits_pass = record {
    sums = sums;
    differences = differences;
    carries = last_carries;
    borrows = last_borrows;
    sum_overflows = sum_overflows;
    difference_overflows = difference_overflows;
    equalities = equalities;
    choices = choices;
    zeros = no_bits;
    extensions = λ k q. joined q (repeated k g.no h.no p.no);
    shifts_up = λ {ys} {xs} {vs} {us} k q. subst (λ n. Related R (shift g (up g) (length xs) 1 ys xs) (shift h (up h) n 1 vs us)) (same_length q) (shifts (up g) (up h) ups (length xs) 1 k q);
    shifts_down = λ {ys} {xs} {vs} {us} k q. subst (λ n. Related R (shift g (down g) (length xs) 1 ys xs) (shift h (down h) n 1 vs us)) (same_length q) (shifts (down g) (down h) downs (length xs) 1 k q);
    tops = topped;
  }
