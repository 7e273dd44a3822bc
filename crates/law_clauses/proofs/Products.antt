-- Clauses of products are valid.
use Rattle.std.proofs.Common.{◌≡◌, ◌+◌, ◌*◌, ◌/◌, ◌%◌, ◌^◌, ◌<◌, ℕ, zero, suc, Bool, true, false, List, [], ◌∷◌, arith, ap, refl, sym, ◌∙◌, subst, length, replicate, add-mul, div-add-mod', mod-lt, mod-eq_of_lt, mul-add, mul_assoc, mul_comm, mul_left_comm, mul-zero, pow-suc}
use Rattle.std.proofs.Math.Nat.{add-mul-mod_self_right}
use Rattle.std.proofs.Math.Pow.{pow_pos}
use Rattle.std.proofs.lemmas.List.{length-replicate}
use Rattle.law_blasting.proofs.Bits.{bits_have_numbers, numbers_have_bits}
use Rattle.law_blasting.proofs.Passing.{circuits_pass}
use Rattle.law_blasting.proofs.Sums.{sum_length, sums_are_added, weight_small}
use Rattle.law_blasting.specs.Circuits.{Gates, number, number_bits, truth_gates, weight}
use Rattle.law_blasting.specs.Passing.{Related, none, one, Passes}
use Rattle.law_numbers.specs.BitOperators.{BvmulOp}
use Rattle.law_numbers.specs.BitVectors.{bvmul}
use Rattle.law_terms.specs.Meaning.{meaning}
use Rattle.law_terms.specs.Operators.{to_bits, width}
use Rattle.law_terms.specs.Operators as operators
use Rattle.law_clauses.specs.Bits.{bits_from}
use Rattle.law_clauses.specs.GateClauses.{atom_gates}
use Rattle.law_clauses.specs.Products.{ProductsAreMade, ProductsAreValid, moved, product, where_set}
use Rattle.law_clauses.specs.Applications.{bits_term}
use Rattle.law_clauses.proofs.Bits.{Gives, atoms_pass, bits_given, bits_length, both_valid, together}
use Rattle.law_clauses.proofs.Quotients.{bits_form}

moved_length : (c : Bool) (xs : List Bool) → length (moved truth_gates c xs) ≡ length xs
moved_length c [] = refl
moved_length c (x ∷ xs) = ap suc (moved_length x xs)

set_length : (b : Bool) (xs : List Bool) → length (where_set truth_gates b xs) ≡ length xs
set_length b [] = refl
set_length b (x ∷ xs) = ap suc (set_length b xs)

one_length : (y : Bool) (xs ps : List Bool) → length ps ≡ length xs → length (where_set truth_gates y xs) ≡ length (moved truth_gates false ps)
one_length y xs ps e = set_length y xs ∙ sym (moved_length false ps ∙ e)

product_length : (xs ys : List Bool) → length (product truth_gates xs ys) ≡ length xs
product_length xs [] = length-replicate (length xs) false
product_length xs (y ∷ ys) = sum_length (where_set truth_gates y xs) (moved truth_gates false (product truth_gates xs ys)) false (one_length y xs (product truth_gates xs ys) (product_length xs ys)) ∙ set_length y xs

set_number : (b : Bool) (xs : List Bool) → number (where_set truth_gates b xs) ≡ weight b * number xs
set_number true [] = refl
set_number true (x ∷ xs) = omega (arith, set_number true xs)
set_number false [] = refl
set_number false (x ∷ xs) = omega (arith, set_number false xs)

no_number : (n : ℕ) → number (replicate n false) ≡ 0
no_number zero = refl
no_number (suc n) = omega (arith, no_number n)

-- a number below m and some m more is that number modulo m
reduced : (s t m k : ℕ) → s < m → t ≡ s + k * m → s ≡ t % m
reduced s t m k l e = sym (ap (λ x. x % m) e ∙ add-mul-mod_self_right s k m ∙ mod-eq_of_lt l)

moved_number : (c : Bool) (xs : List Bool) → number (moved truth_gates c xs) ≡ (weight c + 2 * number xs) % 2 ^ length xs
moved_number c [] = omega arith
moved_number c (x ∷ xs) =
    let n = weight x + 2 * number xs in
    let m = 2 ^ length xs in
    let p : 0 < m = pow_pos (length xs) in
    let r : n % m < m = mod-lt n p in
    let z : n / m * 2 ^ suc (length xs) ≡ (n / m * m) * 2 = ap (λ y. n / m * y) (pow-suc 2 (length xs)) ∙ sym (mul_assoc (n / m) m 2) in
    let h : n / m * m + n % m ≡ n = div-add-mod' n m in
    let l : weight c + 2 * (n % m) < 2 ^ suc (length xs) = omega (arith, r, weight_small c, pow-suc 2 (length xs)) in
    ap (λ y. weight c + 2 * y) (moved_number x xs) ∙ reduced (weight c + 2 * (n % m)) (weight c + 2 * n) (2 ^ suc (length xs)) (n / m) l (omega (arith, z, h))

-- twice a number and another, each taken modulo m on the way
joined : (m s z t : ℕ) → 0 < m → t ≡ s + 2 * z → (s + (0 + 2 * (z % m)) % m) % m ≡ t % m
joined m s z t p e =
    let a = z / m in
    let u = (0 + 2 * (z % m)) % m in
    let b = (0 + 2 * (z % m)) / m in
    let c = (s + u) / m in
    let f : a * m + z % m ≡ z = div-add-mod' z m in
    let g : b * m + u ≡ 0 + 2 * (z % m) = div-add-mod' (0 + 2 * (z % m)) m in
    let h : c * m + (s + u) % m ≡ s + u = div-add-mod' (s + u) m in
    let k : (c + (a + a + b)) * m ≡ c * m + (a * m + a * m + b * m) = add-mul c (a + a + b) m ∙ ap (λ y. c * m + y) (add-mul (a + a) b m ∙ ap (λ y. y + b * m) (add-mul a a m)) in
    reduced ((s + u) % m) t m (c + (a + a + b)) (mod-lt (s + u) p) (omega (arith, e, f, g, h, k))

pub products_are_made : ProductsAreMade
products_are_made xs [] = no_number (length xs) ∙ sym (ap (λ y. y % 2 ^ length xs) (mul-zero (number xs)) ∙ mod-eq_of_lt (pow_pos (length xs)))
products_are_made xs (y ∷ ys) =
    let m = 2 ^ length xs in
    let p = product truth_gates xs ys in
    let big : number xs * (weight y + 2 * number ys) ≡ weight y * number xs + 2 * (number xs * number ys) = mul-add (number xs) (weight y) (2 * number ys) ∙ (ap (λ a. a + number xs * (2 * number ys)) (mul_comm (number xs) (weight y)) ∙ ap (λ a. weight y * number xs + a) (mul_left_comm (number xs) 2 (number ys))) in
    let up : number (moved truth_gates false p) ≡ (0 + 2 * ((number xs * number ys) % m)) % m = moved_number false p ∙ (ap (λ n. (0 + 2 * number p) % 2 ^ n) (product_length xs ys) ∙ ap (λ a. (0 + 2 * a) % m) (products_are_made xs ys)) in
    sums_are_added (where_set truth_gates y xs) (moved truth_gates false p) (one_length y xs p (product_length xs ys)) ∙ (ap (λ n. (number (where_set truth_gates y xs) + number (moved truth_gates false p)) % 2 ^ n) (set_length y xs) ∙ (ap (λ a. (a + number (moved truth_gates false p)) % m) (set_number y xs) ∙ (ap (λ a. (weight y * number xs + a) % m) up ∙ joined m (weight y * number xs) (number xs * number ys) (number xs * (weight y + 2 * number ys)) (pow_pos (length xs)) big)))

-- the circuit over gates of two kinds
module _ {X Y : Type 0} (g : Gates X) (h : Gates Y) (R : X → Y → Type 0) (p : Passes g h R) where
  moved_pass : {xs : List X} {us : List Y} {c : X} {d : Y} → R c d → Related R xs us → Related R (moved g c xs) (moved h d us)
  moved_pass r none = none
  moved_pass r (one s q) = one r (moved_pass s q)

  set_pass : {xs : List X} {us : List Y} {b : X} {d : Y} → R b d → Related R xs us → Related R (where_set g b xs) (where_set h d us)
  set_pass r none = none
  set_pass r (one s q) = one (p.and _ _ _ _ r s) (set_pass r q)

  product_pass : {xs ys : List X} {us vs : List Y} → Related R xs us → Related R ys vs → Related R (product g xs ys) (product h us vs)
  product_pass q none = (circuits_pass g h R p).zeros q
  product_pass q (one r k) = (circuits_pass g h R p).sums (set_pass r q) (moved_pass p.no (product_pass q k)) p.no

-- the bits of a product are the circuit's
product_bits : (n a b : ℕ) → a < 2 ^ n → b < 2 ^ n → number_bits n (bvmul n a b) ≡ product truth_gates (number_bits n a) (number_bits n b)
product_bits n a b l k =
    let q = product truth_gates (number_bits n a) (number_bits n b) in
    let i : number (number_bits n a) ≡ a = numbers_have_bits n a ∙ mod-eq_of_lt l in
    let j : number (number_bits n b) ≡ b = numbers_have_bits n b ∙ mod-eq_of_lt k in
    let e : number q ≡ bvmul n a b = products_are_made (number_bits n a) (number_bits n b) ∙ (ap (λ m. bvmul m (number (number_bits n a)) (number (number_bits n b))) (bits_length n a) ∙ (ap (λ x. bvmul n x (number (number_bits n b))) i ∙ ap (bvmul n a) j)) in
    let f : length q ≡ n = product_length (number_bits n a) (number_bits n b) ∙ bits_length n a in
    ap (number_bits n) (sym e) ∙ (ap (λ m. number_bits m (number q)) (sym f) ∙ bits_have_numbers q)

pub products_are_valid : ProductsAreValid
products_are_valid enums roots n a b s = both_valid enums roots (bits_from (bits_term n BvmulOp a b) 0 n) (product atom_gates (bits_from a 0 n) (bits_from b 0 n))
    (λ I g.
    let v = bits_form n (meaning I a) (s.0 I g) in
    let w = bits_form n (meaning I b) (s.1 I g) in
    let x = operators.number (meaning I a) in
    let y = operators.number (meaning I b) in
    let e : operators.number (to_bits bvmul (meaning I a) (meaning I b)) ≡ bvmul n x y = ap (λ z. bvmul (width z) x y) v.0 in
    together I (bits_given I (bits_term n BvmulOp a b) n 0) (subst (λ bs. Related (Gives I) (product atom_gates (bits_from a 0 n) (bits_from b 0 n)) bs) (sym (ap (number_bits n) e ∙ product_bits n x y v.1 w.1)) (product_pass atom_gates truth_gates (Gives I) (atoms_pass I) (bits_given I a n 0) (bits_given I b n 0))))
