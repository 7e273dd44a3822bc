-- What stands in a formula.
use Rattle.std.proofs.Common.{◌≡◌, ◌⊎◌, ℕ, Bool, true, false, ◌&&◌, ◌||◌, eqb, eqb-true, List, [], ◌∷◌, ◌++◌, refl, sym, ap, ap₂, subst, inl, inr, Option, Some, None}
use Rattle.std.specs.Prelude.{codes, bytes_eq}
use Rattle.std.proofs.lemmas.Bool.{and_parts, false≢true, and_from}
use Rattle.std.proofs.lemmas.Slice.Eq.{bytes_eq-Decides}
use Rattle.law_texts.specs.Lexicon.{Bits, Number, Text, Name}
use Rattle.law_texts.specs.Reading.{Expression, Leaf, Node, Expressions, Nil, Cons}
use Rattle.law_scripts.specs.Script.{Entry, Constant, Function, Defined, Builds, Selects, shape, count}
use Rattle.law_scripts.specs.Sorts.{Entries}
use Rattle.law_scripts.specs.Value.{Selection, open_selector, selection_if, selection, shape_selection, first_sort, selections, each_selections}
use Rattle.law_verdicts.specs.Fragment.{is_connective, is_formula, are_formulas}
use Rattle.std.proofs.Math.Bool.{and-false}

pub either : (a b : Bool) → (a || b) ≡ true → (a ≡ true) ⊎ (b ≡ true)
either true b h = inl refl
either false b h = inr h

-- a formula over names is one over any others of which the test holds too
mutual
  pub formula_over : (has had : List ℕ → Bool) → ((n : List ℕ) → has n ≡ true → had n ≡ true) → (e : Expression) → is_formula has e ≡ true → is_formula had e ≡ true
  formula_over has had k (Leaf (Name n)) h = k n h
  formula_over has had k (Leaf (Bits w n)) h = h
  formula_over has had k (Leaf (Number n)) h = h
  formula_over has had k (Leaf (Text t)) h = h
  formula_over has had k (Node Nil) h = h
  formula_over has had k (Node (Cons (Leaf (Name f)) es)) h =
      let p = and_parts (is_connective f (count es)) (are_formulas has es) h in
      and_from (is_connective f (count es)) (are_formulas had es) p.0 (formulas_over has had k es p.1)
  formula_over has had k (Node (Cons (Leaf (Bits w n)) es)) h = h
  formula_over has had k (Node (Cons (Leaf (Number n)) es)) h = h
  formula_over has had k (Node (Cons (Leaf (Text t)) es)) h = h
  formula_over has had k (Node (Cons (Node fs) es)) h = h

  pub formulas_over : (has had : List ℕ → Bool) → ((n : List ℕ) → has n ≡ true → had n ≡ true) → (es : Expressions) → are_formulas has es ≡ true → are_formulas had es ≡ true
  formulas_over has had k Nil h = refl
  formulas_over has had k (Cons e es) h =
      let p = and_parts (is_formula has e) (are_formulas has es) h in
      and_from (is_formula had e) (are_formulas had es) (formula_over has had k e p.0) (formulas_over has had k es p.1)

-- A connective is one of five words.
pub data IsWord : List ℕ → ℕ → Type 0 where
  is_not : IsWord (codes "not") 1
  is_and : IsWord (codes "and") 2
  is_or : IsWord (codes "or") 2
  is_equal : IsWord (codes "=") 2
  is_choice : IsWord (codes "ite") 3

this_word : (f word : List ℕ) (n k : ℕ) → IsWord word k → (bytes_eq f word && eqb n k) ≡ true → IsWord f n
this_word f word n k w h =
    let p = and_parts (bytes_eq f word) (eqb n k) h in
    subst (λ x. IsWord x n) (sym ((bytes_eq-Decides f word).0 p.0)) (subst (IsWord word) (sym (eqb-true n k p.1)) w)

pub word_of : (f : List ℕ) (n : ℕ) → is_connective f n ≡ true → IsWord f n
word_of f n h =
    elim (either (bytes_eq f (codes "not") && eqb n 1) _ h) [
      | inl a ↦ this_word f (codes "not") n 1 is_not a
      | inr b ↦
          elim (either (bytes_eq f (codes "and") && eqb n 2) _ b) [
            | inl a ↦ this_word f (codes "and") n 2 is_and a
            | inr c ↦
                elim (either (bytes_eq f (codes "or") && eqb n 2) _ c) [
                  | inl a ↦ this_word f (codes "or") n 2 is_or a
                  | inr d ↦
                      elim (either (bytes_eq f (codes "=") && eqb n 2) _ d) [
                        | inl a ↦ this_word f (codes "=") n 2 is_equal a
                        | inr e ↦
                            elim (either (bytes_eq f (codes "ite") && eqb n 3) _ e) [ inl a ↦ this_word f (codes "ite") n 3 is_choice a | inr g ↦ absurd (false≢true g) ]
                      ]
                ]
          ]
    ]

-- ---- no selector is left open in it

-- whatever a connective's name stood for, it would be no open selector
open_none : (f : List ℕ) (n : ℕ) → IsWord f n → (d : List ℕ) (ps : List (List ℕ)) → open_selector f d ps ≡ None
open_none f n is_not d [] = rw (and-false (bytes_eq d (codes "IPAddr"))) refl
open_none f n is_and d [] = rw (and-false (bytes_eq d (codes "IPAddr"))) refl
open_none f n is_or d [] = rw (and-false (bytes_eq d (codes "IPAddr"))) refl
open_none f n is_equal d [] = rw (and-false (bytes_eq d (codes "IPAddr"))) refl
open_none f n is_choice d [] = rw (and-false (bytes_eq d (codes "IPAddr"))) refl
open_none f n is_not d (p ∷ ps) = rw (and-false (bytes_eq d (codes "Option"))) refl
open_none f n is_and d (p ∷ ps) = rw (and-false (bytes_eq d (codes "Option"))) refl
open_none f n is_or d (p ∷ ps) = rw (and-false (bytes_eq d (codes "Option"))) refl
open_none f n is_equal d (p ∷ ps) = rw (and-false (bytes_eq d (codes "Option"))) refl
open_none f n is_choice d (p ∷ ps) = rw (and-false (bytes_eq d (codes "Option"))) refl

none_open : (f : List ℕ) (n : ℕ) → IsWord f n → (here : Option Entry) (sort : Option Expression) → selection f sort here ≡ []
none_open f n w here None = refl
none_open f n w None (Some sort) = refl
none_open f n w (Some (Constant s)) (Some sort) = refl
none_open f n w (Some (Function a s)) (Some sort) = refl
none_open f n w (Some (Defined s b)) (Some sort) = refl
none_open f n w (Some (Builds d ps place fields)) (Some sort) = refl
none_open f n w (Some (Selects d ps c place field)) (Some sort) = ap (λ o. selection_if o (record { selector = f; entry = Selects d ps c place field; sort = sort })) (open_none f n w d ps)

no_shape : (here : Entries) (f : List ℕ) (n : ℕ) → IsWord f n → (es : Expressions) → shape_selection here (shape (Leaf (Name f)) es) (first_sort here es) ≡ []
no_shape here f n w Nil = refl
no_shape here f n is_not (Cons e es) = none_open f n is_not (here f) (first_sort here (Cons e es))
no_shape here f n is_and (Cons e es) = none_open f n is_and (here f) (first_sort here (Cons e es))
no_shape here f n is_or (Cons e es) = none_open f n is_or (here f) (first_sort here (Cons e es))
no_shape here f n is_equal (Cons e es) = none_open f n is_equal (here f) (first_sort here (Cons e es))
no_shape here f n is_choice (Cons e es) = none_open f n is_choice (here f) (first_sort here (Cons e es))

mutual
  pub none_selected : (here : Entries) (has : List ℕ → Bool) (e : Expression) → is_formula has e ≡ true → selections here e ≡ []
  none_selected here has (Leaf a) h = refl
  none_selected here has (Node Nil) h = refl
  none_selected here has (Node (Cons (Leaf (Name f)) es)) h =
      let p = and_parts (is_connective f (count es)) (are_formulas has es) h in
      ap₂ (λ (x y : List Selection). x ++ y) (no_shape here f (count es) (word_of f (count es) p.0) es) (none_selected_each here has es p.1)
  none_selected here has (Node (Cons (Leaf (Bits w n)) es)) h = absurd (false≢true h)
  none_selected here has (Node (Cons (Leaf (Number n)) es)) h = absurd (false≢true h)
  none_selected here has (Node (Cons (Leaf (Text t)) es)) h = absurd (false≢true h)
  none_selected here has (Node (Cons (Node fs) es)) h = absurd (false≢true h)

  pub none_selected_each : (here : Entries) (has : List ℕ → Bool) (es : Expressions) → are_formulas has es ≡ true → each_selections here es ≡ []
  none_selected_each here has Nil h = refl
  none_selected_each here has (Cons e es) h =
      let p = and_parts (is_formula has e) (are_formulas has es) h in
      ap₂ (λ (x y : List Selection). x ++ y) (none_selected here has e p.0) (none_selected_each here has es p.1)
