-- The plain form of the program's patterns.
use Rattle.std.specs.Prelude.{List, map}
use Rattle.law_terms.specs.Plain.{PatternPart, Character, Wildcard}
use Rattle.smt_term.specs.declared.pattern.OrdPattern.{OrdPattern}
use Rattle.smt_term.specs.declared.pattern.Pattern.{Pattern}
use Rattle.smt_term.specs.declared.pattern.PatternElem.{PatternElem}
use Rattle.smt_term.specs.declared.pattern.PatternElem.TheVariants.{Char, Wildcard as AnyText}

-- what an element of a pattern says: a character by its code point, or a wildcard
abbrev pub plain_part : PatternElem → PatternPart
plain_part (Char c) = Character c
plain_part AnyText = Wildcard

-- what a pattern says: its elements in order
abbrev pub plain_pattern : Pattern → List PatternPart
plain_pattern p = map plain_part p.elems.value.items

-- what a pattern with an order says: its elements in order
abbrev pub plain_ord_pattern : OrdPattern → List PatternPart
plain_ord_pattern p = map plain_part p.elems.value.items
