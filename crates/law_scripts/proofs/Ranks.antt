-- The order of values in a script is total, values of one place in it are one value, and putting keeps sets.
use Rattle.std.proofs.Common.{◌≡◌, ◌<◌, ◌≤◌, Bool, true, false, ◌||◌, refl, sym, subst, ap, ap₂, ◌∙◌, arith}
use Rattle.std.specs.Prelude.{nat_lt, nat_le}
use Rattle.std.specs.Cmp.{Equal-is}
use Rattle.std.specs.FinMap.{nat_cmp-IsAntisymmetric}
use Rattle.std.specs.Ordering.{nat_cmp, ordering_then, ordering_reverse, match_ordering, is_eq, is_lt}
use Rattle.std.specs.declared.cmp.Ordering.{Ordering}
use Rattle.std.specs.declared.cmp.Ordering.TheVariants.{Less, Equal, Greater}
use Rattle.std.proofs.lemmas.Bool.{leb-true, lt-ltb, and_parts, and_from}
use Rattle.law_terms.specs.ValueOrder.{text_cmp}
use Rattle.law_terms.proofs.TotalOrder.{then_chain, nat_less, text_less, bool_less}
use Rattle.law_terms.proofs.ValueOrder.{then_equal, then_both, text_same, bool_same, nat_turned, text_turned, bool_turned, own_turn}
use Rattle.law_scripts.specs.ScriptValues.{ScriptValue, TruthOf, BitsOf, TextOf, ConstructorOf, SetOf, ScriptValues, no_script_values, one_script_value}
use Rattle.law_scripts.specs.ScriptOrder.{kind, order, order_each, same, SameIsEqual, put, is_member, ascends, ascends_from, OrderIsTotal, PutsKeepSets}

-- ---- equal by the order is equal

mutual
  one_value : (a b : ScriptValue) → order a b ≡ Equal → a ≡ b
  one_value (TruthOf a) (TruthOf b) h = ap TruthOf (bool_same a b h)
  one_value (BitsOf v m) (BitsOf w n) h = let p = then_equal (nat_cmp v w) (nat_cmp m n) h in ap₂ BitsOf (nat_cmp-IsAntisymmetric v w p.0) (nat_cmp-IsAntisymmetric m n p.1)
  one_value (TextOf s) (TextOf t) h = ap TextOf (text_same s t h)
  one_value (ConstructorOf i c xs) (ConstructorOf j d ys) h =
      let p = then_equal (nat_cmp i j) (ordering_then (text_cmp c d) (order_each xs ys)) h in
      let q = then_equal (text_cmp c d) (order_each xs ys) p.1 in
      let k = nat_cmp-IsAntisymmetric i j p.0 in
      let e = text_same c d q.0 in
      let zs = one_each xs ys q.1 in
      λ x. ConstructorOf (k x) (e x) (zs x)
  one_value (SetOf xs) (SetOf ys) h = ap SetOf (one_each xs ys h)
  one_value a b h = absurd cc

  one_each : (xs ys : ScriptValues) → order_each xs ys ≡ Equal → xs ≡ ys
  one_each no_script_values no_script_values h = refl
  one_each no_script_values (one_script_value y ys) h = absurd cc
  one_each (one_script_value x xs) no_script_values h = absurd cc
  one_each (one_script_value x xs) (one_script_value y ys) h =
      let p = then_equal (order x y) (order_each xs ys) h in
      ap₂ one_script_value (one_value x y p.0) (one_each xs ys p.1)

-- ---- the order turns round

mutual
  turned : (a b : ScriptValue) → order a b ≡ ordering_reverse (order b a)
  turned (TruthOf a) (TruthOf b) = bool_turned a b
  turned (BitsOf v m) (BitsOf w n) = then_both _ _ _ _ (nat_turned v w) (nat_turned m n)
  turned (TextOf s) (TextOf t) = text_turned s t
  turned (ConstructorOf i c xs) (ConstructorOf j d ys) = then_both _ _ _ _ (nat_turned i j) (then_both _ _ _ _ (text_turned c d) (each_turned xs ys))
  turned (SetOf xs) (SetOf ys) = each_turned xs ys
  turned a b = refl

  each_turned : (xs ys : ScriptValues) → order_each xs ys ≡ ordering_reverse (order_each ys xs)
  each_turned no_script_values no_script_values = refl
  each_turned no_script_values (one_script_value y ys) = refl
  each_turned (one_script_value x xs) no_script_values = refl
  each_turned (one_script_value x xs) (one_script_value y ys) = then_both _ _ _ _ (turned x y) (each_turned xs ys)

pub same_is_equal : SameIsEqual
same_is_equal a b = (λ h. one_value a b ((Equal-is (order a b)).0 h), ap is_eq (own_turn (order a a) (turned a a)))

-- ---- the order is transitive

apart : (a b : ScriptValue) → nat_lt (kind a) (kind b) ≡ true → order a b ≡ Less
apart (TruthOf a) (TruthOf b) h = cc
apart (BitsOf v m) (BitsOf w n) h = cc
apart (TextOf s) (TextOf t) h = cc
apart (ConstructorOf i c xs) (ConstructorOf j d ys) h = cc
apart (SetOf xs) (SetOf ys) h = cc
apart a b h = cc

ordered : (a b : ScriptValue) → order a b ≡ Less → nat_le (kind a) (kind b) ≡ true
ordered (TruthOf a) (TruthOf b) h = refl
ordered (BitsOf v m) (BitsOf w n) h = refl
ordered (TextOf s) (TextOf t) h = refl
ordered (ConstructorOf i c xs) (ConstructorOf j d ys) h = refl
ordered (SetOf xs) (SetOf ys) h = refl
ordered a b h = cc

mutual
  less : (a b c : ScriptValue) → order a b ≡ Less → order b c ≡ Less → order a c ≡ Less
  less (TruthOf a) (TruthOf b) (TruthOf c) h g = bool_less a b c h g
  less (BitsOf v m) (BitsOf w n) (BitsOf u k) h g = then_chain nat_cmp nat_cmp-IsAntisymmetric v w u _ _ _ (nat_less v w u) (nat_less m n k) h g
  less (TextOf s) (TextOf t) (TextOf r) h g = text_less s t r h g
  less (ConstructorOf i c xs) (ConstructorOf j d ys) (ConstructorOf k e zs) h g =
      then_chain nat_cmp nat_cmp-IsAntisymmetric i j k _ _ _ (nat_less i j k) (then_chain text_cmp text_same c d e _ _ _ (text_less c d e) (each_less xs ys zs)) h g
  less (SetOf xs) (SetOf ys) (SetOf zs) h g = each_less xs ys zs h g
  less a b c h g =
      let p : kind a ≤ kind b = leb-true (kind a) (kind b) (ordered a b h) in
      let q : kind b ≤ kind c = leb-true (kind b) (kind c) (ordered b c g) in
      let r : kind a < kind c = omega arith in
      apart a c (lt-ltb (kind a) (kind c) r)

  each_less : (xs ys zs : ScriptValues) → order_each xs ys ≡ Less → order_each ys zs ≡ Less → order_each xs zs ≡ Less
  each_less (one_script_value x xs) (one_script_value y ys) (one_script_value z zs) h g = then_chain order one_value x y z _ _ _ (less x y z) (each_less xs ys zs) h g
  each_less no_script_values (one_script_value y ys) (one_script_value z zs) h g = refl
  each_less no_script_values no_script_values zs h g = cc
  each_less (one_script_value x xs) no_script_values zs h g = cc
  each_less xs (one_script_value y ys) no_script_values h g = cc

pub order_is_total : OrderIsTotal
order_is_total = record { antisymm = turned; trans = less; congr = λ a b c e. ap (λ x. order x c) (one_value a b e) }

-- ---- putting

-- behind an element that comes before both, the set with the new one still ascends
put_from : (w x : ScriptValue) (xs : ScriptValues) → is_lt (order w x) ≡ true → ascends_from w xs ≡ true → ascends_from w (put x xs) ≡ true
put_from w x no_script_values h k = and_from (is_lt (order w x)) true h refl
put_from w x (one_script_value y ys) h k =
    let p = and_parts (is_lt (order w y)) (ascends_from y ys) k in
    by_case (order x y) refl p.0 p.1 (λ h'. put_from y x ys h' p.1)
  where
    by_case : (c : Ordering) → order x y ≡ c → is_lt (order w y) ≡ true → ascends_from y ys ≡ true → (is_lt (order y x) ≡ true → ascends_from y (put x ys) ≡ true) → ascends_from w (match_ordering c (one_script_value x (one_script_value y ys)) (one_script_value y ys) (one_script_value y (put x ys))) ≡ true
    by_case Less e p q r = and_from (is_lt (order w x)) (ascends_from x (one_script_value y ys)) h (and_from (is_lt (order x y)) (ascends_from y ys) (ap is_lt e) q)
    by_case Equal e p q r = and_from (is_lt (order w y)) (ascends_from y ys) p q
    by_case Greater e p q r = and_from (is_lt (order w y)) (ascends_from y (put x ys)) p (r (ap is_lt (turned y x ∙ ap ordering_reverse e)))

put_ascends : (x : ScriptValue) (xs : ScriptValues) → ascends xs ≡ true → ascends (put x xs) ≡ true
put_ascends x no_script_values k = refl
put_ascends x (one_script_value y ys) k = by_case (order x y) refl
  where
    by_case : (c : Ordering) → order x y ≡ c → ascends (match_ordering c (one_script_value x (one_script_value y ys)) (one_script_value y ys) (one_script_value y (put x ys))) ≡ true
    by_case Less e = and_from (is_lt (order x y)) (ascends_from y ys) (ap is_lt e) k
    by_case Equal e = k
    by_case Greater e = put_from y x ys (ap is_lt (turned y x ∙ ap ordering_reverse e)) k

twice : (a b : Bool) → (a || b) ≡ (a || (a || b))
twice true b = refl
twice false b = refl

swapped : (a b c : Bool) → (a || (b || c)) ≡ (b || (a || c))
swapped true true c = refl
swapped true false c = refl
swapped false true c = refl
swapped false false c = refl

put_member : (x : ScriptValue) (xs : ScriptValues) (z : ScriptValue) → is_member z (put x xs) ≡ (same z x || is_member z xs)
put_member x no_script_values z = refl
put_member x (one_script_value y ys) z = by_case (order x y) refl (put_member x ys z)
  where
    by_case : (c : Ordering) → order x y ≡ c → is_member z (put x ys) ≡ (same z x || is_member z ys) → is_member z (match_ordering c (one_script_value x (one_script_value y ys)) (one_script_value y ys) (one_script_value y (put x ys))) ≡ (same z x || (same z y || is_member z ys))
    by_case Less e r = refl
    by_case Equal e r = subst (λ (w : ScriptValue). (same z y || is_member z ys) ≡ (same z w || (same z y || is_member z ys))) (sym (one_value x y e)) (twice (same z y) (is_member z ys))
    by_case Greater e r = ap (λ (b : Bool). same z y || b) r ∙ swapped (same z y) (same z x) (is_member z ys)

pub puts_keep_sets : PutsKeepSets
puts_keep_sets x xs = (put_ascends x xs, put_member x xs)
