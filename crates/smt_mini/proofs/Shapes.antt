-- Sorts and commands by the parts of expressions.
use Rattle.std.proofs.Common.{◌≡◌, ℕ, Bool, true, false, ◌&&◌, ◌||◌, map, List, [], ◌∷◌, Option, Some, None, bytes_eq, option_map, refl, sym, ap}
use Rattle.std.specs.List.{list_any}
use Rattle.std.specs.Option.{option_and_then}
use Rattle.law_texts.specs.Lexicon.{Bits, Name, Number, Text}
use Rattle.law_texts.specs.Reading.{Expression, Leaf, Node, Expressions, Nil, Cons}
use Rattle.law_scripts.specs.Script.{DefineFun, group, is_attribute_value, is_simple_symbol, name}
use Rattle.law_scripts.specs.Sorts.{same_sort, same_sorts}
use Rattle.smt_sexpr.proofs.Shapes.{is_that_name}
use Rattle.law_verdicts.specs.Fragment.{command_of, command_with, definition, option, option_named}
use Rattle.smt_mini.specs.Commands.{signature_of}
use Rattle.law_texts.specs.Parts.{both, first_apart, inside_of, name_in, pair_in, sole, sole_in}

-- ---- names, and sorts by their parts

pub attribute_name : (e : Expression) (n : List ℕ) → Some n ≡ name_in e → is_simple_symbol n ≡ is_attribute_value e
attribute_name e n h = sym (ap is_attribute_value (is_that_name e n h))

-- the test of a name
pub named_by : (e : Expression) (n : List ℕ) → same_sort e (name n) ≡ elim (name_in e) [ Some m ↦ bytes_eq m n | None ↦ false ]
named_by (Leaf (Name m)) n = refl
named_by (Leaf (Bits w k)) n = refl
named_by (Leaf (Number k)) n = refl
named_by (Leaf (Text t)) n = refl
named_by (Node es) n = refl

with_true : (a : Bool) → (a && true) ≡ a
with_true true = refl
with_true false = refl

pub sole_by : (es : Expressions) (x : Expression) → same_sorts es (Cons x Nil) ≡ elim (sole es) [ Some e ↦ same_sort e x | None ↦ false ]
sole_by Nil x = refl
sole_by (Cons e Nil) x = with_true (same_sort e x)
sole_by (Cons e (Cons d es)) x = with_false (same_sort e x)
  where
    with_false : (a : Bool) → (a && false) ≡ false
    with_false true = refl
    with_false false = refl

pub alone_by : (e x : Expression) → same_sort e (group (x ∷ [])) ≡ elim (sole_in e) [ Some d ↦ same_sort d x | None ↦ false ]
alone_by (Leaf a) x = refl
alone_by (Node es) x = sole_by es x

pub both_by : (es : Expressions) (x y : Expression) → same_sorts es (Cons x (Cons y Nil)) ≡ elim (both es) [ Some p ↦ same_sort p.0 x && same_sort p.1 y | None ↦ false ]
both_by Nil x y = refl
both_by (Cons e Nil) x y = with_false (same_sort e x)
  where
    with_false : (a : Bool) → (a && false) ≡ false
    with_false true = refl
    with_false false = refl
both_by (Cons e (Cons d Nil)) x y = ap (λ b. same_sort e x && b) (with_true (same_sort d y))
both_by (Cons e (Cons d (Cons c es))) x y = with_false (same_sort e x) (same_sort d y)
  where
    with_false : (a b : Bool) → (a && (b && false)) ≡ false
    with_false true true = refl
    with_false true false = refl
    with_false false b = refl

pub pair_by : (e x y : Expression) → same_sort e (group (x ∷ y ∷ [])) ≡ elim (pair_in e) [ Some p ↦ same_sort p.0 x && same_sort p.1 y | None ↦ false ]
pair_by (Leaf a) x y = refl
pair_by (Node es) x y = both_by es x y

pub first_by : (es : Expressions) (x : Expression) (xs : Expressions) → same_sorts es (Cons x xs) ≡ elim (first_apart es) [ Some p ↦ same_sort p.0 x && same_sorts p.1 xs | None ↦ false ]
first_by Nil x xs = refl
first_by (Cons e es) x xs = refl

pub inside_by : (e : Expression) (xs : Expressions) → same_sort e (Node xs) ≡ elim (inside_of e) [ Some es ↦ same_sorts es xs | None ↦ false ]
inside_by (Leaf a) xs = refl
inside_by (Node es) xs = refl

-- ---- commands by the parts of their operands

pub definition_by : (es : Expressions) → definition es ≡ option_and_then (λ p. option_map (λ q. DefineFun p.0 q.0 q.1) (both p.1)) (signature_of es)
definition_by Nil = refl
definition_by (Cons (Leaf (Name n)) (Cons (Node Nil) Nil)) = refl
definition_by (Cons (Leaf (Name n)) (Cons (Node Nil) (Cons sort Nil))) = refl
definition_by (Cons (Leaf (Name n)) (Cons (Node Nil) (Cons sort (Cons body Nil)))) = refl
definition_by (Cons (Leaf (Name n)) (Cons (Node Nil) (Cons sort (Cons body (Cons e es))))) = refl
definition_by (Cons (Leaf (Name n)) (Cons (Node (Cons d ds)) es)) = refl
definition_by (Cons (Leaf (Name n)) (Cons (Leaf a) es)) = refl
definition_by (Cons (Leaf (Name n)) Nil) = refl
definition_by (Cons (Leaf (Bits w n)) es) = refl
definition_by (Cons (Leaf (Number n)) es) = refl
definition_by (Cons (Leaf (Text t)) es) = refl
definition_by (Cons (Node ds) es) = refl

pub option_by : (es : Expressions) → option es ≡ option_and_then (λ p. option_and_then (λ n. option_named n p.1) (name_in p.0)) (both es)
option_by Nil = refl
option_by (Cons (Leaf (Name n)) Nil) = refl
option_by (Cons (Leaf (Name n)) (Cons v Nil)) = refl
option_by (Cons (Leaf (Name n)) (Cons v (Cons e es))) = refl
option_by (Cons (Leaf (Bits w n)) Nil) = refl
option_by (Cons (Leaf (Bits w n)) (Cons v Nil)) = refl
option_by (Cons (Leaf (Bits w n)) (Cons v (Cons e es))) = refl
option_by (Cons (Leaf (Number n)) Nil) = refl
option_by (Cons (Leaf (Number n)) (Cons v Nil)) = refl
option_by (Cons (Leaf (Number n)) (Cons v (Cons e es))) = refl
option_by (Cons (Leaf (Text t)) Nil) = refl
option_by (Cons (Leaf (Text t)) (Cons v Nil)) = refl
option_by (Cons (Leaf (Text t)) (Cons v (Cons e es))) = refl
option_by (Cons (Node ds) Nil) = refl
option_by (Cons (Node ds) (Cons v Nil)) = refl
option_by (Cons (Node ds) (Cons v (Cons e es))) = refl

pub command_by : (e : Expression) → command_of e ≡ option_and_then (λ es. option_and_then (λ p. option_and_then (λ n. command_with n p.1) (name_in p.0)) (first_apart es)) (inside_of e)
command_by (Leaf a) = refl
command_by (Node Nil) = refl
command_by (Node (Cons (Leaf (Name n)) es)) = refl
command_by (Node (Cons (Leaf (Bits w n)) es)) = refl
command_by (Node (Cons (Leaf (Number n)) es)) = refl
command_by (Node (Cons (Leaf (Text t)) es)) = refl
command_by (Node (Cons (Node ds) es)) = refl

-- ---- what a step that found something goes on with

pub found : {A B : Type 0} (f : A → Option B) (o : Option A) (x : A) → Some x ≡ o → option_and_then f o ≡ f x
found f o x h = ap (option_and_then f) (sym h)

-- ---- tests of lists

pub any_mapped : {A B : Type 0} (f : A → B) (p : B → Bool) (xs : List A) → list_any (λ x. p (f x)) xs ≡ list_any p (map f xs)
any_mapped f p [] = refl
any_mapped f p (x ∷ xs) = ap (λ b. p (f x) || b) (any_mapped f p xs)
