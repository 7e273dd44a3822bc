-- The order of values in a script, and sets that ascend by it.
use Rattle.std.specs.Prelude.{◌≡◌, ℕ, Bool, true, false, ◌&&◌, ◌||◌, if◌then◌else◌}
use Rattle.std.specs.Cmp.{IsTotalOrder}
use Rattle.std.specs.Ordering.{nat_cmp, bool_cmp, ordering_then, match_ordering, is_eq, is_lt}
use Rattle.std.specs.declared.cmp.Ordering.{Ordering}
use Rattle.std.specs.declared.cmp.Ordering.TheVariants.{Less, Equal, Greater}
use Rattle.law_terms.specs.ValueOrder.{text_cmp}
use Rattle.law_scripts.specs.ScriptValues.{ScriptValue, TruthOf, BitsOf, TextOf, ConstructorOf, SetOf, ScriptValues, no_script_values}
use Rattle.law_scripts.specs.ScriptValues.{one_script_value}

-- the place of a value's kind
abbrev pub kind : ScriptValue → ℕ
kind (TruthOf b) = 0
kind (BitsOf width number) = 1
kind (TextOf text) = 2
kind (ConstructorOf place name values) = 3
kind (SetOf values) = 4

abbrev mutual
  -- The order of values, which is our own: by kind, and then part by part, constructors by their place.
  pub order : ScriptValue → ScriptValue → Ordering
  order (TruthOf a) (TruthOf b) = bool_cmp a b
  order (BitsOf v m) (BitsOf w n) = ordering_then (nat_cmp v w) (nat_cmp m n)
  order (TextOf s) (TextOf t) = text_cmp s t
  order (ConstructorOf i c xs) (ConstructorOf j d ys) = ordering_then (nat_cmp i j) (ordering_then (text_cmp c d) (order_each xs ys))
  order (SetOf xs) (SetOf ys) = order_each xs ys
  order a b = nat_cmp (kind a) (kind b)

  -- the order of lists of values: by the first two that differ, and a list before those that begin with it
  pub order_each : ScriptValues → ScriptValues → Ordering
  order_each no_script_values no_script_values = Equal
  order_each no_script_values (one_script_value y ys) = Less
  order_each (one_script_value x xs) no_script_values = Greater
  order_each (one_script_value x xs) (one_script_value y ys) = ordering_then (order x y) (order_each xs ys)

-- two values are one, as a test
abbrev pub same : ScriptValue → ScriptValue → Bool
same a b = is_eq (order a b)

-- ---- sets

-- a set with one more element, at its place in the order; nothing changes where the set has it
abbrev pub put : ScriptValue → ScriptValues → ScriptValues
put x no_script_values = one_script_value x no_script_values
put x (one_script_value y ys) =
    match_ordering (order x y) (one_script_value x (one_script_value y ys)) (one_script_value y ys) (one_script_value y (put x ys))

-- the value is an element of the set (cvc5's finite sets)
abbrev pub is_member : ScriptValue → ScriptValues → Bool
is_member x no_script_values = false
is_member x (one_script_value y ys) = same x y || is_member x ys

-- each element of the first set is one of the second (cvc5's finite sets)
abbrev pub is_subset : ScriptValues → ScriptValues → Bool
is_subset no_script_values ys = true
is_subset (one_script_value x xs) ys = is_member x ys && is_subset xs ys

-- the elements that both sets have (cvc5's finite sets)
abbrev pub intersection : ScriptValues → ScriptValues → ScriptValues
intersection no_script_values ys = no_script_values
intersection (one_script_value x xs) ys = if is_member x ys then one_script_value x (intersection xs ys) else intersection xs ys

-- the values ascend strictly, and are all above this one
abbrev pub ascends_from : ScriptValue → ScriptValues → Bool
ascends_from x no_script_values = true
ascends_from x (one_script_value y ys) = is_lt (order x y) && ascends_from y ys

-- the values ascend strictly, as the elements of a set do
abbrev pub ascends : ScriptValues → Bool
ascends no_script_values = true
ascends (one_script_value x xs) = ascends_from x xs

-- ---- the laws

-- Values of one place in the order are one value.
abbrev pub SameIsEqual : Type 0
SameIsEqual = (a b : ScriptValue) → (same a b ≡ true → a ≡ b) × (same a a ≡ true)

-- The order of values is total.
abbrev pub OrderIsTotal : Type 0
OrderIsTotal = IsTotalOrder order

-- An element that is put into a set leaves a set, with that element besides.
abbrev pub PutsKeepSets : Type 0
PutsKeepSets =
    (x : ScriptValue) (xs : ScriptValues) →
    (ascends xs ≡ true → ascends (put x xs) ≡ true) × ((z : ScriptValue) → is_member z (put x xs) ≡ (same z x || is_member z xs))
