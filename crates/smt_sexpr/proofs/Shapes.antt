-- The parts of expressions of the program, and of what they say.
use Rattle.std.proofs.Common.{◌≡◌, ℕ, ◌<◌, ◌≤◌, ◌-◌, List, [], ◌∷◌, Some, None, length, drop, take, get_or, refl, sym, ap, ◌∙◌, arith, inl, inr}
use Rattle.std.specs.Bool.{then_some}
use Rattle.std.specs.Prelude.{◌⊎◌, encode_utf8_all}
use Rattle.std.proofs.lemmas.List.{take_all}
use Rattle.std.proofs.lemmas.Str.{IsUtf8-string_bytes, encodes-chars, scalars-chars}
use Rattle.std.specs.Rc.{rc_str_bytes}
use Rattle.std.specs.Str.{chars}
use Rattle.std.specs.declared.alloc.Global.{Global}
use Rattle.std.specs.declared.rc.RcStr.{RcStr}
use Rattle.smt_bits.specs.BitVec.{number_of, width_of}
use Rattle.smt_bits.specs.declared.bitvec.BitVec.{BitVec as Bitvector}
use Rattle.law_texts.specs.Lexicon.{Atom, Bits, Name, Number, Text}
use Rattle.law_texts.specs.Parts.{both, name_in, sole, text_in, three}
use Rattle.law_texts.specs.Reading.{Expression, Leaf, Node, Nil, Cons}
use Rattle.smt_sexpr.specs.View.{items_of, plain, plain-App, plain-BitVec, plain-Numeral, plain-String, plain-Symbol, plain_list}
use Rattle.smt_sexpr.specs.declared.expression.SExpr.{SExpr, App, BitVec, Numeral, String, Symbol}
use Rattle.smt_sexpr.specs.declared.expression.SExprs.{SExprs}

-- what stands between the quotes of a string are its bytes
pub text_of_string : (e : SExpr) (s : RcStr Global) → e ≡ String s → Some (rc_str_bytes s) ≡ text_in (plain e)
text_of_string e s p =
    let utf8 = IsUtf8-string_bytes s.text.value in
    sym (ap (λ x. text_in (plain x)) p ∙ ap text_in (plain-String s)
    ∙ ap (λ b. then_some b (encode_utf8_all (chars (rc_str_bytes s)))) (scalars-chars (rc_str_bytes s) utf8) ∙ ap Some (encodes-chars (rc_str_bytes s) utf8))

-- what stands in brackets
pub bracketed : (e : SExpr) (inside : SExprs) (xs : List SExpr) → e ≡ App inside → xs ≡ items_of inside → plain e ≡ Node (plain_list xs)
bracketed e inside xs p q = ap plain p ∙ plain-App inside ∙ ap (λ l. Node (plain_list l)) (sym q)

-- the first expression, and the others
abbrev pub others : List SExpr → List SExpr
others xs = take (length xs - 1) (drop 1 xs)

pub first_and_rest : (xs : List SExpr) (x : SExpr) → 1 ≤ length xs → x ≡ get_or xs 0 x → plain_list xs ≡ Cons (plain x) (plain_list (others xs))
first_and_rest (y ∷ xs) x l e = ap (λ z. Cons (plain z) (plain_list xs)) (sym e) ∙ ap (λ ys. Cons (plain x) (plain_list ys)) (sym (take_all (length (y ∷ xs) - 1) xs (omega arith)))
first_and_rest [] x l e = absurd (omega (arith, l))

pub nothing_listed : (xs : List SExpr) → length xs < 1 → plain_list xs ≡ Nil
nothing_listed [] l = refl
nothing_listed (x ∷ xs) l = absurd (omega (arith, l))

-- two expressions
pub two_listed : (xs : List SExpr) (a b : SExpr) → 2 ≤ length xs → length xs < 3 → a ≡ get_or xs 0 a → b ≡ get_or xs 1 b → plain_list xs ≡ Cons (plain a) (Cons (plain b) Nil)
two_listed (x ∷ y ∷ []) a b l m p q = λ i. Cons (plain (sym p i)) (Cons (plain (sym q i)) Nil)
two_listed [] a b l m p q = absurd (omega (arith, l))
two_listed (x ∷ []) a b l m p q = absurd (omega (arith, l))
two_listed (x ∷ y ∷ z ∷ xs) a b l m p q = absurd (omega (arith, m))

-- the second of two expressions
pub second_listed : (xs : List SExpr) (b : SExpr) → 2 ≤ length xs → length xs < 3 → b ≡ get_or xs 1 b → (a : Expression) × (plain_list xs ≡ Cons a (Cons (plain b) Nil))
second_listed (x ∷ y ∷ []) b l m q = (plain x, λ i. Cons (plain x) (Cons (plain (sym q i)) Nil))
second_listed [] b l m q = absurd (omega (arith, l))
second_listed (x ∷ []) b l m q = absurd (omega (arith, l))
second_listed (x ∷ y ∷ z ∷ xs) b l m q = absurd (omega (arith, m))

-- what is not in brackets is an atom
pub is_atom : (e : SExpr) → ((x : Bitvector) × (e ≡ BitVec x)) ⊎ (((x : ℕ) × (e ≡ Numeral x)) ⊎ (((x : RcStr Global) × (e ≡ String x)) ⊎ ((x : RcStr Global) × (e ≡ Symbol x)))) → (a : Atom) × (plain e ≡ Leaf a)
is_atom e (inl (x, p)) = (Bits (width_of x) (number_of x), ap plain p ∙ plain-BitVec x)
is_atom e (inr (inl (x, p))) = (Number x, ap plain p ∙ plain-Numeral x)
is_atom e (inr (inr (inl (x, p)))) = (Text (chars (rc_str_bytes x)), ap plain p ∙ plain-String x)
is_atom e (inr (inr (inr (x, p)))) = (Name (rc_str_bytes x), ap plain p ∙ plain-Symbol x)

-- what has a name is that name
pub is_that_name : (e : Expression) (n : List ℕ) → Some n ≡ name_in e → e ≡ Leaf (Name n)
is_that_name (Leaf (Name m)) n h = let e : n ≡ m = cc in ap (λ x. Leaf (Name x)) (sym e)
is_that_name (Leaf (Bits w k)) n h = absurd cc
is_that_name (Leaf (Number k)) n h = absurd cc
is_that_name (Leaf (Text t)) n h = absurd cc
is_that_name (Node es) n h = absurd cc

-- a name in front of expressions, in brackets
pub headed : (e : SExpr) (inside : SExprs) (xs : List SExpr) (x : SExpr) (n : List ℕ) → e ≡ App inside → xs ≡ items_of inside → 1 ≤ length xs → x ≡ get_or xs 0 x → Some n ≡ name_in (plain x)
    → plain e ≡ Node (Cons (Leaf (Name n)) (plain_list (others xs)))
headed e inside xs x n p q l h k = bracketed e inside xs p q ∙ ap Node (first_and_rest xs x l h) ∙ ap (λ d. Node (Cons d (plain_list (others xs)))) (is_that_name (plain x) n k)

-- ---- as many expressions as a form has

pub sole_few : (xs : List SExpr) → length xs < 1 → None ≡ sole (plain_list xs)
sole_few [] l = refl
sole_few (x ∷ xs) l = absurd (omega (arith, l))

pub sole_many : (xs : List SExpr) → 2 ≤ length xs → None ≡ sole (plain_list xs)
sole_many (x ∷ y ∷ xs) l = refl
sole_many [] l = absurd (omega (arith, l))
sole_many (x ∷ []) l = absurd (omega (arith, l))

pub both_few : (xs : List SExpr) → length xs < 2 → None ≡ both (plain_list xs)
both_few [] l = refl
both_few (x ∷ []) l = refl
both_few (x ∷ y ∷ xs) l = absurd (omega (arith, l))

pub both_many : (xs : List SExpr) → 3 ≤ length xs → None ≡ both (plain_list xs)
both_many (x ∷ y ∷ z ∷ xs) l = refl
both_many [] l = absurd (omega (arith, l))
both_many (x ∷ []) l = absurd (omega (arith, l))
both_many (x ∷ y ∷ []) l = absurd (omega (arith, l))

pub three_few : (xs : List SExpr) → length xs < 3 → None ≡ three (plain_list xs)
three_few [] l = refl
three_few (x ∷ []) l = refl
three_few (x ∷ y ∷ []) l = refl
three_few (x ∷ y ∷ z ∷ xs) l = absurd (omega (arith, l))

pub three_many : (xs : List SExpr) → 4 ≤ length xs → None ≡ three (plain_list xs)
three_many (x ∷ y ∷ z ∷ w ∷ xs) l = refl
three_many [] l = absurd (omega (arith, l))
three_many (x ∷ []) l = absurd (omega (arith, l))
three_many (x ∷ y ∷ []) l = absurd (omega (arith, l))
three_many (x ∷ y ∷ z ∷ []) l = absurd (omega (arith, l))
