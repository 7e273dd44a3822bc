-- What is in a list, and what a look-up by a key finds whose value is one.
use Rattle.std.proofs.Common.{◌≡◌, ◌<◌, ℕ, Bool, true, false, zero, suc, List, [], ◌∷◌, ◌++◌, Some, cond, length, map, reverse, refl, sym, ap, ◌∙◌, subst, arith}
use Rattle.std.proofs.lemmas.List.{reverse-append}
use Rattle.std.specs.Cmp.{IsTotalOrder, first_so, second_so, tied_itself}
use Rattle.std.specs.List.{AllByRecursion, filter, flat_map}
use Rattle.std.specs.Map.{keys_of, lookup}
use Rattle.std.specs.Prelude.{◌⊎◌, Contains, slice_index_or}
use Rattle.std.specs.declared.cmp.Ordering.{Ordering}
use Rattle.std.specs.declared.cmp.Ordering.TheVariants.{Less, Equal}
use mathlib.Core.Logic.{inl, inr, ⊎_elim}
use Rattle.law_terms.specs.ValueOrder.{ascends, is_below}
use Rattle.law_terms.proofs.Sorted.{IsIn, less-is}

-- ---- the library's words, by recursion

in_at : {X : Type 0} (x : X) (xs : List X) (k : ℕ) → k < length xs → slice_index_or xs k x ≡ x → IsIn x xs
in_at x [] k l e = absurd (omega arith)
in_at x (y ∷ ys) zero l e = inl (sym e)
in_at x (y ∷ ys) (suc k) l e = inr (in_at x ys k (omega arith) e)

pub from_contains : {X : Type 0} (x : X) (xs : List X) → Contains xs x → IsIn x xs
from_contains x xs h = in_at x xs h.0 h.1 h.2

-- ---- maps, filters, appended and reversed lists

pub in_map : {X Y : Type 0} (f : X → Y) (x : X) (xs : List X) → IsIn x xs → IsIn (f x) (map f xs)
in_map f x [] h = h
in_map f x (y ∷ ys) h = ⊎_elim (λ e. inl (ap f e)) (λ m. inr (in_map f x ys m)) h

pub out_map : {X Y : Type 0} (f : X → Y) (y : Y) (xs : List X) → IsIn y (map f xs) → (x : X) × IsIn x xs × (y ≡ f x)
out_map f y [] h = absurd h
out_map f y (x ∷ xs) h = ⊎_elim (λ e. (x, inl refl, e)) (λ m. let r = out_map f y xs m in (r.0, inr r.1, r.2)) h

kept_in : {X : Type 0} (b : Bool) (x y : X) (rest : List X) → b ≡ true → IsIn x (y ∷ []) ⊎ IsIn x rest → IsIn x (cond b (y ∷ rest) rest)
kept_in true x y rest e h = ⊎_elim (λ m. ⊎_elim (λ i. inl i) (λ n. absurd n) m) (λ m. inr m) h
kept_in false x y rest e h = cc

later_in : {X : Type 0} (b : Bool) (x y : X) (rest : List X) → IsIn x rest → IsIn x (cond b (y ∷ rest) rest)
later_in true x y rest h = inr h
later_in false x y rest h = h

pub in_filter : {X : Type 0} (p : X → Bool) (x : X) (xs : List X) → p x ≡ true → IsIn x xs → IsIn x (filter p xs)
in_filter p x [] t h = h
in_filter p x (y ∷ ys) t h =
    ⊎_elim (λ e. kept_in (p y) x y (filter p ys) (ap p (sym e) ∙ t) (inl (inl e))) (λ m. later_in (p y) x y (filter p ys) (in_filter p x ys t m)) h

out_kept : {X : Type 0} (p : X → Bool) (b : Bool) (x y : X) (ys rest : List X) → p y ≡ b → IsIn x (cond b (y ∷ rest) rest) → (IsIn x rest → IsIn x ys × (p x ≡ true)) → IsIn x (y ∷ ys) × (p x ≡ true)
out_kept p true x y ys rest t h f = ⊎_elim (λ e. (inl e, ap p e ∙ t)) (λ m. let r = f m in (inr r.0, r.1)) h
out_kept p false x y ys rest t h f = let r = f h in (inr r.0, r.1)

pub out_filter : {X : Type 0} (p : X → Bool) (x : X) (xs : List X) → IsIn x (filter p xs) → IsIn x xs × (p x ≡ true)
out_filter p x [] h = absurd h
out_filter p x (y ∷ ys) h = out_kept p (p y) x y ys (filter p ys) refl h (out_filter p x ys)

pub in_front : {X : Type 0} (x : X) (xs ys : List X) → IsIn x xs → IsIn x (xs ++ ys)
in_front x [] ys h = absurd h
in_front x (z ∷ zs) ys h = ⊎_elim (λ e. inl e) (λ m. inr (in_front x zs ys m)) h

pub in_behind : {X : Type 0} (x : X) (xs ys : List X) → IsIn x ys → IsIn x (xs ++ ys)
in_behind x [] ys h = h
in_behind x (z ∷ zs) ys h = inr (in_behind x zs ys h)

pub out_append : {X : Type 0} (x : X) (xs ys : List X) → IsIn x (xs ++ ys) → IsIn x xs ⊎ IsIn x ys
out_append x [] ys h = inr h
out_append x (z ∷ zs) ys h = ⊎_elim (λ e. inl (inl e)) (λ m. ⊎_elim (λ n. inl (inr n)) (λ n. inr n) (out_append x zs ys m)) h

turned : {X : Type 0} (x : X) (xs : List X) → reverse (x ∷ xs) ≡ reverse xs ++ x ∷ []
turned x xs = reverse-append (x ∷ []) xs

pub in_reverse : {X : Type 0} (x : X) (xs : List X) → IsIn x xs → IsIn x (reverse xs)
in_reverse x [] h = h
in_reverse x (y ∷ ys) h =
    subst (λ l. IsIn x l) (sym (turned y ys)) (⊎_elim (λ e. in_behind x (reverse ys) (y ∷ []) (inl e)) (λ m. in_front x (reverse ys) (y ∷ []) (in_reverse x ys m)) h)

pub out_reverse : {X : Type 0} (x : X) (xs : List X) → IsIn x (reverse xs) → IsIn x xs
out_reverse x [] h = h
out_reverse x (y ∷ ys) h =
    ⊎_elim (λ m. inr (out_reverse x ys m)) (λ m. ⊎_elim (λ e. inl e) (λ n. absurd n) m) (out_append x (reverse ys) (y ∷ []) (subst (λ l. IsIn x l) (turned y ys) h))

-- ---- lists of lists

pub in_flat : {X : Type 0} (x : X) (xs : List X) (xss : List (List X)) → IsIn xs xss → IsIn x xs → IsIn x (flat_map (λ l. l) xss)
in_flat x xs [] h g = absurd h
in_flat x xs (ys ∷ yss) h g =
    ⊎_elim (λ e. in_front x ys (flat_map (λ l. l) yss) (subst (λ l. IsIn x l) e g)) (λ m. in_behind x ys (flat_map (λ l. l) yss) (in_flat x xs yss m g)) h

pub out_flat : {X : Type 0} (x : X) (xss : List (List X)) → IsIn x (flat_map (λ l. l) xss) → (xs : List X) × IsIn xs xss × IsIn x xs
out_flat x [] h = absurd h
out_flat x (ys ∷ yss) h = ⊎_elim (λ m. (ys, inl refl, m)) (λ m. let r = out_flat x yss m in (r.0, inr r.1, r.2)) (out_append x ys (flat_map (λ l. l) yss) h)

-- ---- look-ups

-- a key has one value in a list
abbrev pub HasOne : {K X : Type 0} → K → X → List (K × X) → Type 0
HasOne k x ps = IsIn (k, x) ps × ((y : _) → IsIn (k, y) ps → y ≡ x)

module _ {K X : Type 0} (test : K → Bool) (k : K) (x : X) (itself : test k ≡ true) (exact : (l : K) → test l ≡ true → l ≡ k) where
  found_at : (b : Bool) (p : K × X) (ps : List (K × X)) → test p.0 ≡ b → IsIn (k, x) (p ∷ ps) → ((y : X) → IsIn (k, y) (p ∷ ps) → y ≡ x) → (IsIn (k, x) ps → lookup test ps ≡ Some x) → cond b (Some p.1) (lookup test ps) ≡ Some x
  found_at true p ps t h one rest = ap Some (one p.1 (inl (λ i. (sym (exact p.0 t) i, p.1))))
  found_at false p ps t h one rest = ⊎_elim (λ e. absurd (let z : true ≡ false = sym itself ∙ ap (λ q. test q.0) e ∙ t in cc)) rest h

  -- a look-up finds the one value of a key
  pub found : (ps : List (K × X)) → HasOne k x ps → lookup test ps ≡ Some x
  found [] h = absurd h.0
  found (p ∷ ps) h = found_at (test p.0) p ps refl h.0 h.1 (λ m. found ps (m, λ y n. h.1 y (inr n)))

  pub found_last : (ps : List (K × X)) → HasOne k x ps → lookup test (reverse ps) ≡ Some x
  found_last ps h = found (reverse ps) (in_reverse (k, x) ps h.0, λ y m. h.1 y (out_reverse (k, y) ps m))

-- ---- keys that ascend, and entities of which no uid stands twice

module _ {K : Type 0} (cmp : K → K → Ordering) (o : IsTotalOrder cmp) where
  -- what stands behind the first is greater
  behind : (x : K) (ys : List K) (z : K) → is_below cmp x ys ≡ true → ascends cmp ys ≡ true → IsIn z ys → cmp x z ≡ Less
  behind x [] z h g k = absurd k
  behind x (y ∷ ys) z h g k =
      ⊎_elim (λ e. ap (λ u. cmp x u) e ∙ less-is (cmp x y) h) (λ m. o.trans x y z (less-is (cmp x y) h) (behind y ys z (first_so (is_below cmp y ys) (ascends cmp ys) g) (second_so (is_below cmp y ys) (ascends cmp ys) g) m)) k

  not_less : (x : K) → cmp x x ≡ Less → ⊥
  not_less x h = let e : cmp x x ≡ Equal = tied_itself o x in let f : Less ≡ Equal = sym h ∙ e in cc

  module _ {X : Type 0} where
    -- the first pair's key does not come again
    first_alone : (p : K × X) (ps : List (K × X)) → ascends cmp (keys_of (p ∷ ps)) ≡ true → (x : X) → IsIn (p.0, x) ps → ⊥
    first_alone p ps h x m =
        not_less p.0 (behind p.0 (keys_of ps) p.0 (first_so (is_below cmp p.0 (keys_of ps)) (ascends cmp (keys_of ps)) h) (second_so (is_below cmp p.0 (keys_of ps)) (ascends cmp (keys_of ps)) h) (in_map (λ q. q.0) (p.0, x) ps m))

    -- where keys ascend, each has one value
    pub one_value : (ps : List (K × X)) → ascends cmp (keys_of ps) ≡ true → (k : K) (x y : X) → IsIn (k, x) ps → IsIn (k, y) ps → x ≡ y
    one_value [] h k x y m n = absurd m
    one_value (p ∷ ps) h k x y m n =
        let rest : ascends cmp (keys_of ps) ≡ true = second_so (is_below cmp p.0 (keys_of ps)) (ascends cmp (keys_of ps)) h in
        ⊎_elim
        (λ e. ⊎_elim (λ f. ap (λ q. q.1) (e ∙ sym f)) (λ f. absurd (first_alone p ps h y (subst (λ l. IsIn (l, y) ps) (ap (λ q. q.0) e) f))) n)
        (λ e. ⊎_elim (λ f. absurd (first_alone p ps h x (subst (λ l. IsIn (l, x) ps) (ap (λ q. q.0) f) e))) (λ f. one_value ps rest k x y e f) n)
        m

pub of_all : {X : Type 0} (P : X → Type 0) (x : X) (xs : List X) → AllByRecursion P xs → IsIn x xs → P x
of_all P x [] h m = absurd m
of_all P x (y ∷ ys) h m = ⊎_elim (λ e. subst P (sym e) h.0) (λ n. of_all P x ys h.1 n) m
