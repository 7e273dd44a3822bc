-- Laws of the program's patterns: their order and their equality, said of their plain form.
use Rattle.std.specs.Prelude.{◌≡◌, ◌↔◌, IsTrue}
use Rattle.std.specs.Cmp.{IsTotalOrder}
use Rattle.std.specs.declared.cmp.Ordering.TheVariants.{Equal}
use Rattle.smt_term.specs.PatternView.{plain_part, plain_pattern, plain_ord_pattern}
use Rattle.law_terms.specs.TermOrder.{part_cmp, pattern_cmp}
use Rattle.smt_term.specs.contracts.pattern.OrdPatternOrd.TheImpl as pattern_order
use Rattle.smt_term.specs.contracts.pattern.OrdPatternPartialEq.TheImpl as ord_pattern_equality
use Rattle.smt_term.specs.contracts.pattern.PatternElemOrd.TheImpl as element_order
use Rattle.smt_term.specs.contracts.pattern.PatternElemPartialEq.TheImpl as element_equality
use Rattle.smt_term.specs.contracts.pattern.PatternPartialEq.TheImpl as pattern_equality
use Rattle.smt_term.specs.declared.pattern.OrdPattern.{OrdPattern}
use Rattle.smt_term.specs.declared.pattern.Pattern.{Pattern}
use Rattle.smt_term.specs.declared.pattern.PatternElem.{PatternElem}

-- elements compare as what they say
abbrev pub ElementsCompareAsPlain : Type 0
ElementsCompareAsPlain = (a b : PatternElem) → element_order.ghosts.cmp a b ≡ part_cmp (plain_part a) (plain_part b)

-- patterns compare as lists of their parts, by the first difference
abbrev pub PatternsCompareAsPlain : Type 0
PatternsCompareAsPlain = (p q : OrdPattern) → pattern_order.ghosts.cmp p q ≡ pattern_cmp (plain_ord_pattern p) (plain_ord_pattern q)

-- two elements are equal exactly where they say the same
abbrev pub EqualElementsSayTheSame : Type 0
EqualElementsSayTheSame = (a b : PatternElem) → IsTrue (element_equality.ghosts.eq a b) ↔ (plain_part a ≡ plain_part b)

-- two patterns are equal exactly where they say the same
abbrev pub EqualPatternsSayTheSame : Type 0
EqualPatternsSayTheSame = (p q : Pattern) → IsTrue (pattern_equality.ghosts.eq p q) ↔ (plain_pattern p ≡ plain_pattern q)

-- two patterns with an order are equal exactly where they say the same
abbrev pub EqualOrdPatternsSayTheSame : Type 0
EqualOrdPatternsSayTheSame = (p q : OrdPattern) → IsTrue (ord_pattern_equality.ghosts.eq p q) ↔ (plain_ord_pattern p ≡ plain_ord_pattern q)

-- the order of elements is total
abbrev pub ElementOrderIsTotal : Type 0
ElementOrderIsTotal = IsTotalOrder element_order.ghosts.cmp

-- two elements are level in their order exactly where they are equal
abbrev pub LevelElementsAreEqual : Type 0
LevelElementsAreEqual = (a b : PatternElem) → (element_order.ghosts.cmp a b ≡ Equal) ↔ IsTrue (element_equality.ghosts.eq a b)

-- the order of patterns is total
abbrev pub OrdPatternOrderIsTotal : Type 0
OrdPatternOrderIsTotal = IsTotalOrder pattern_order.ghosts.cmp

-- two patterns are level in their order exactly where they are equal
abbrev pub LevelPatternsAreEqual : Type 0
LevelPatternsAreEqual = (p q : OrdPattern) → (pattern_order.ghosts.cmp p q ≡ Equal) ↔ IsTrue (ord_pattern_equality.ghosts.eq p q)
