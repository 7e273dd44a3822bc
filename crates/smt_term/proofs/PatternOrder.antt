-- The derived orders and equalities of patterns are those of what they say.
use Rattle.std.proofs.Common.{◌≡◌, ◌↔◌, Bool, IsTrue, Equal, true, List, [], ◌∷◌, map, refl, sym, ap, ◌∙◌}
use Rattle.std.specs.Cmp.{Equal-is}
use Rattle.std.specs.Cmp.Lexicographic.{slice_cmp, pointwise, pointwise_decides}
use Rattle.std.specs.Ordering.{ordering_then, is_eq}
use Rattle.std.specs.declared.cmp.Ordering.{Ordering}
use Rattle.std.proofs.lemmas.Bool.{eqb-true, eq-eqb}
use Rattle.smt_term.specs.PatternOrder.{ElementsCompareAsPlain, PatternsCompareAsPlain, EqualElementsSayTheSame, EqualPatternsSayTheSame, EqualOrdPatternsSayTheSame, LevelElementsAreEqual, LevelPatternsAreEqual}
use Rattle.smt_term.specs.PatternView.{plain_part}
use Rattle.law_terms.specs.TermOrder.{part_cmp}
use Rattle.smt_term.specs.contracts.pattern.PatternElemOrd.TheImpl as element_order
use Rattle.smt_term.specs.contracts.pattern.PatternElemPartialEq.TheImpl as element_equality
use Rattle.smt_term.specs.contracts.pattern.OrdPatternOrd.TheImpl as pattern_order
use Rattle.smt_term.specs.contracts.pattern.OrdPatternOrd.TheImpl.Laws as pattern_laws
use Rattle.smt_term.specs.contracts.pattern.OrdPatternPartialEq.TheImpl as pattern_equality
use Rattle.smt_term.specs.contracts.pattern.PatternElemOrd.TheImpl.Laws as element_laws
use Rattle.smt_term.specs.declared.pattern.PatternElem.{PatternElem}
use Rattle.smt_term.specs.declared.pattern.PatternElem.TheVariants.{Char, Wildcard}

pub element_cmp-is : ElementsCompareAsPlain
element_cmp-is (Char c) (Char d) = refl
element_cmp-is (Char c) Wildcard = refl
element_cmp-is Wildcard (Char d) = refl
element_cmp-is Wildcard Wildcard = refl

elements_cmp-is : (xs ys : List PatternElem) → slice_cmp element_order.ghosts.cmp xs ys ≡ slice_cmp part_cmp (map plain_part xs) (map plain_part ys)
elements_cmp-is [] [] = refl
elements_cmp-is [] (y ∷ ys) = refl
elements_cmp-is (x ∷ xs) [] = refl
elements_cmp-is (x ∷ xs) (y ∷ ys) =
    ap (λ o. ordering_then o (slice_cmp element_order.ghosts.cmp xs ys)) (element_cmp-is x y) ∙ ap (λ o. ordering_then (part_cmp (plain_part x) (plain_part y)) o) (elements_cmp-is xs ys)

pub pattern_cmp-is : PatternsCompareAsPlain
pattern_cmp-is p q = elements_cmp-is p.elems.value.items q.elems.value.items

-- elements that say the same are the same
part_same : (a b : PatternElem) → plain_part a ≡ plain_part b → a ≡ b
part_same (Char c) (Char d) h = cc
part_same (Char c) Wildcard h = cc
part_same Wildcard (Char d) h = cc
part_same Wildcard Wildcard h = refl

parts_same : (xs ys : List PatternElem) → map plain_part xs ≡ map plain_part ys → xs ≡ ys
parts_same [] [] h = refl
parts_same [] (y ∷ ys) h = cc
parts_same (x ∷ xs) [] h = cc
parts_same (x ∷ xs) (y ∷ ys) h =
    let e : x ≡ y = part_same x y (cc) in
    let f : xs ≡ ys = parts_same xs ys (cc) in
    λ i. e i ∷ f i

decided : (a b : PatternElem) → (element_equality.ghosts.eq a b ≡ true → a ≡ b) × (a ≡ b → element_equality.ghosts.eq a b ≡ true)
decided (Char c) (Char d) = (λ h. ap Char (eqb-true c d h), λ e. eq-eqb c d (cc))
decided (Char c) Wildcard = (λ h. cc, λ e. cc)
decided Wildcard (Char d) = (λ h. cc, λ e. cc)
decided Wildcard Wildcard = (λ h. refl, λ e. refl)

pub element_eq-is : EqualElementsSayTheSame
element_eq-is a b = (λ h. ap plain_part ((decided a b).0 h), λ e. (decided a b).1 (part_same a b e))

-- lists of elements are equal exactly where they say the same
elements_eq : (xs ys : List PatternElem) → (pointwise element_equality.ghosts.eq xs ys ≡ true → map plain_part xs ≡ map plain_part ys) × (map plain_part xs ≡ map plain_part ys → pointwise element_equality.ghosts.eq xs ys ≡ true)
elements_eq xs ys =
    let d : (pointwise element_equality.ghosts.eq xs ys ≡ true → xs ≡ ys) × (xs ≡ ys → pointwise element_equality.ghosts.eq xs ys ≡ true) = pointwise_decides decided xs ys in
    (λ h. ap (map plain_part) (d.0 h), λ e. d.1 (parts_same xs ys e))

pub pattern_eq-is : EqualPatternsSayTheSame
pattern_eq-is p q = elements_eq p.elems.value.items q.elems.value.items

pub ord_pattern_eq-is : EqualOrdPatternsSayTheSame
ord_pattern_eq-is p q = elements_eq p.elems.value.items q.elems.value.items

-- what an order holds level is equal, where the test of equality asks the order
level_is_eq : (equal : Bool) (o : Ordering) → equal ≡ is_eq o → (o ≡ Equal) ↔ IsTrue equal
level_is_eq equal o m = (λ h. m ∙ ap is_eq h, λ k. (Equal-is o).0 (sym m ∙ k))

pub level_elements : LevelElementsAreEqual
level_elements a b = level_is_eq (element_equality.ghosts.eq a b) (element_order.ghosts.cmp a b) (element_laws.matches_eq-law a b)

pub level_patterns : LevelPatternsAreEqual
level_patterns p q = level_is_eq (pattern_equality.ghosts.eq p q) (pattern_order.ghosts.cmp p q) (pattern_laws.matches_eq-law p q)
