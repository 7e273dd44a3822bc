-- The derived `==` of expressions holds exactly where they say the same.
use Rattle.std.proofs.Common.{◌≡◌, ℕ, Bool, true, eqb, List, [], ◌∷◌, refl, sym, ap, ap₂, ◌∙◌}
use Rattle.std.specs.Prelude.{encode_utf8_all}
use Rattle.std.specs.Rc.{rc_str_bytes}
use Rattle.std.specs.Str.{chars}
use Rattle.std.specs.declared.alloc.Global.{Global}
use Rattle.std.specs.declared.rc.RcStr.{RcStr}
use Rattle.std.proofs.lemmas.Bool.{and_parts, and_from, eqb-true, eq-eqb, false≢true}
use Rattle.std.proofs.lemmas.Str.{IsUtf8-string_bytes, encodes-chars}
use Rattle.smt_bits.specs.BitVec.{width_of, number_of}
use Rattle.law_texts.specs.Lexicon.{Bits, Number, Text, Name}
use Rattle.law_texts.specs.Reading.{Expression, Leaf, Node, Expressions, Cons}
use Rattle.smt_sexpr.specs.View.{plain, plain_row}
use Rattle.smt_sexpr.specs.declared.expression.SExpr.{SExpr, BitVec, Numeral, String, Symbol, App', Row_of-SExpr, end_of-SExpr, more_of-SExpr, items-the_row-SExpr}
use Rattle.smt_sexpr.specs.declared.expression.SExprs.{SExprs, items_shown-the_row-SExpr-0}
use Rattle.smt_sexpr.specs.contracts.expression.SExprPartialEq.TheImpl as sexpr_eq
use Rattle.smt_sexpr.specs.contracts.expression.SExprPartialEq.TheImpl.Laws as eq_laws
use Rattle.smt_sexpr.specs.declared.expression.SExpr.TheViews as views
use Rattle.smt_sexpr.specs.declared.expression.SExpr.TheBlock as block
use denote.Hole.Carrier
use denote.Hole.Compared
use lib.Pointwise.{pointwise}
use mathlib.Core.Former
use Rattle.std.specs.formers.vec.Vec as vec

-- the derived test
abbrev pub expr_eq : SExpr → SExpr → Bool
expr_eq = sexpr_eq.ghosts.eq

abbrev Shape : Type 0
Shape = (vec.the_former (Former.this {0}) Global).Shape

abbrev Row : Shape → Type 0
Row sh = Row_of-SExpr (Former.arity (vec.the_former (Former.this {0}) Global) sh)

-- the test of lists, as the derived one has it
abbrev family : SExprs → SExprs → Bool
family = eq_laws.family block.member-SExprs

family-is : (x y : SExprs) → family x y ≡ pointwise expr_eq x.items.items y.items.items
unfolding Carrier.out
family-is x y =
    Compared.compared_is block.the_members (Carrier.Values block.the_members block.the_sigs block.the_carrier) block.the_depth Bool true sexpr_eq.the_step eq_laws.local block.member-SExprs x y

abbrev made : (sh : Shape) (row : Row sh) → SExprs
made sh row = record { items = block.shown-the_row-SExpr-0 sh row }

family_made-is : (sh : Shape) (row : Row sh) (sh' : Shape) (row' : Row sh') → family (made sh row) (made sh' row') ≡ pointwise expr_eq (items-the_row-SExpr _ row) (items-the_row-SExpr _ row')
family_made-is sh row sh' row' =
    family-is (made sh row) (made sh' row') ∙ (ap (λ l. pointwise expr_eq l (made sh' row').items.items) (items_shown-the_row-SExpr-0 sh row) ∙ ap (λ l. pointwise expr_eq (items-the_row-SExpr _ row) l) (items_shown-the_row-SExpr-0 sh' row'))

eq-App : (sh : Shape) (row : Row sh) (sh' : Shape) (row' : Row sh') → expr_eq (App' sh row) (App' sh' row') ≡ family (made sh row) (made sh' row')
unfolding views.out-SExpr Carrier.out
eq-App sh row sh' row' = eq_laws.is (App' sh row) (App' sh' row')

-- ---- texts

texts_same : (xs ys : List ℕ) → pointwise eqb xs ys ≡ true → xs ≡ ys
texts_same [] [] h = refl
texts_same [] (y ∷ ys) h = absurd (false≢true h)
texts_same (x ∷ xs) [] h = absurd (false≢true h)
texts_same (x ∷ xs) (y ∷ ys) h =
    let p = and_parts (eqb x y) (pointwise eqb xs ys) h in
    ap₂ (λ (v : ℕ) (vs : List ℕ). v ∷ vs) (eqb-true x y p.0) (texts_same xs ys p.1)

texts_eq : (xs ys : List ℕ) → xs ≡ ys → pointwise eqb xs ys ≡ true
texts_eq xs ys e = ap (pointwise eqb xs) (sym e) ∙ itself xs
  where
    itself : (zs : List ℕ) → pointwise eqb zs zs ≡ true
    itself [] = refl
    itself (z ∷ zs) = and_from (eqb z z) (pointwise eqb zs zs) (eq-eqb z z refl) (itself zs)

-- texts with the same characters have the same bytes
bytes_same : (s t : RcStr Global) → chars (rc_str_bytes s) ≡ chars (rc_str_bytes t) → rc_str_bytes s ≡ rc_str_bytes t
bytes_same s t e =
    sym (encodes-chars (rc_str_bytes s) (IsUtf8-string_bytes s.text.value))
    ∙ ap encode_utf8_all e
    ∙ encodes-chars (rc_str_bytes t) (IsUtf8-string_bytes t.text.value)

bits_are : (v w n m : ℕ) → Leaf (Bits v n) ≡ Leaf (Bits w m) → (v ≡ w) × (n ≡ m)
bits_are v w n m e = (cc, cc)

number_is : (n m : ℕ) → Leaf (Number n) ≡ Leaf (Number m) → n ≡ m
number_is n m e = cc

points_are : (xs ys : List ℕ) → Leaf (Text xs) ≡ Leaf (Text ys) → xs ≡ ys
points_are xs ys e = cc

name_is : (xs ys : List ℕ) → Leaf (Name xs) ≡ Leaf (Name ys) → xs ≡ ys
name_is xs ys e = cc

inside_is : (xs ys : Expressions) → Node xs ≡ Node ys → xs ≡ ys
inside_is xs ys e = cc

both_are : (x y : Expression) (xs ys : Expressions) → Cons x xs ≡ Cons y ys → (x ≡ y) × (xs ≡ ys)
both_are x y xs ys e = (cc, cc)

-- ---- expressions

mutual
  unfolding plain plain_row views.out-SExpr Carrier.out

  pub same_from_eq : (a b : SExpr) → expr_eq a b ≡ true → plain a ≡ plain b
  same_from_eq (BitVec x) (BitVec y) h =
      let p = and_parts (eqb (width_of x) (width_of y)) (eqb (number_of x) (number_of y)) (sym (eq_laws.is (BitVec x) (BitVec y)) ∙ h) in
      ap₂ (λ v n. Leaf (Bits v n)) (eqb-true (width_of x) (width_of y) p.0) (eqb-true (number_of x) (number_of y) p.1)
  same_from_eq (Numeral n) (Numeral m) h = ap (λ v. Leaf (Number v)) (eqb-true n m (sym (eq_laws.is (Numeral n) (Numeral m)) ∙ h))
  same_from_eq (String s) (String t) h = ap (λ v. Leaf (Text (chars v))) (texts_same (rc_str_bytes s) (rc_str_bytes t) (sym (eq_laws.is (String s) (String t)) ∙ h))
  same_from_eq (Symbol s) (Symbol t) h = ap (λ v. Leaf (Name v)) (texts_same (rc_str_bytes s) (rc_str_bytes t) (sym (eq_laws.is (Symbol s) (Symbol t)) ∙ h))
  same_from_eq (App' sh row) (App' sh' row') h = ap Node (rows_same row row' (sym (eq-App sh row sh' row' ∙ family_made-is sh row sh' row') ∙ h))
  same_from_eq a b h = absurd (false≢true (sym (eq_laws.is a b) ∙ h))

  rows_same : {m n : _} (r : Row_of-SExpr m) (s : Row_of-SExpr n) → pointwise expr_eq (items-the_row-SExpr m r) (items-the_row-SExpr n s) ≡ true → plain_row r ≡ plain_row s
  rows_same end_of-SExpr end_of-SExpr h = refl
  rows_same end_of-SExpr (more_of-SExpr y s) h = absurd (false≢true h)
  rows_same (more_of-SExpr x r) end_of-SExpr h = absurd (false≢true h)
  rows_same (more_of-SExpr x r) (more_of-SExpr y s) h =
      let p = and_parts (expr_eq x y) (pointwise expr_eq (items-the_row-SExpr _ r) (items-the_row-SExpr _ s)) h in
      ap₂ Cons (same_from_eq x y p.0) (rows_same r s p.1)

mutual
  unfolding plain plain_row views.out-SExpr Carrier.out

  pub eq_from_same : (a b : SExpr) → plain a ≡ plain b → expr_eq a b ≡ true
  eq_from_same (BitVec x) (BitVec y) h =
      let p = bits_are (width_of x) (width_of y) (number_of x) (number_of y) h in
      eq_laws.is (BitVec x) (BitVec y) ∙ and_from (eqb (width_of x) (width_of y)) (eqb (number_of x) (number_of y)) (eq-eqb (width_of x) (width_of y) p.0) (eq-eqb (number_of x) (number_of y) p.1)
  eq_from_same (Numeral n) (Numeral m) h = eq_laws.is (Numeral n) (Numeral m) ∙ eq-eqb n m (number_is n m h)
  eq_from_same (String s) (String t) h =
      eq_laws.is (String s) (String t) ∙ texts_eq (rc_str_bytes s) (rc_str_bytes t) (bytes_same s t (points_are (chars (rc_str_bytes s)) (chars (rc_str_bytes t)) h))
  eq_from_same (Symbol s) (Symbol t) h = eq_laws.is (Symbol s) (Symbol t) ∙ texts_eq (rc_str_bytes s) (rc_str_bytes t) (name_is (rc_str_bytes s) (rc_str_bytes t) h)
  eq_from_same (App' sh row) (App' sh' row') h = eq-App sh row sh' row' ∙ family_made-is sh row sh' row' ∙ rows_eq row row' (inside_is (plain_row row) (plain_row row') h)
  eq_from_same a b h = absurd (cc)

  rows_eq : {m n : _} (r : Row_of-SExpr m) (s : Row_of-SExpr n) → plain_row r ≡ plain_row s → pointwise expr_eq (items-the_row-SExpr m r) (items-the_row-SExpr n s) ≡ true
  rows_eq end_of-SExpr end_of-SExpr h = refl
  rows_eq end_of-SExpr (more_of-SExpr y s) h = absurd (cc)
  rows_eq (more_of-SExpr x r) end_of-SExpr h = absurd (cc)
  rows_eq (more_of-SExpr x r) (more_of-SExpr y s) h =
      let p = both_are (plain x) (plain y) (plain_row r) (plain_row s) h in
      and_from (expr_eq x y) (pointwise expr_eq (items-the_row-SExpr _ r) (items-the_row-SExpr _ s)) (eq_from_same x y p.0) (rows_eq r s p.1)
