-- The order of types, of functions and of terms.
use Rattle.std.specs.Prelude.{Bool, true, false}
use Rattle.std.specs.declared.cmp.Ordering.{Ordering}
use Rattle.std.specs.declared.cmp.Ordering.TheVariants.{Equal}
use Rattle.law_terms.specs.TermOrder.{function_cmp, term_cmp}
use Rattle.law_terms.specs.Types.{type_cmp}
use Rattle.law_terms.specs.Nodes.{Meaning, TypeMeaning, FunctionMeaning, TermMeaning}

-- the order of two types, of two functions or of two terms; what is of two kinds is not compared
abbrev pub meaning_cmp : Meaning → Meaning → Ordering
meaning_cmp (TypeMeaning t) (TypeMeaning u) = type_cmp t u
meaning_cmp (FunctionMeaning f) (FunctionMeaning g) = function_cmp f g
meaning_cmp (TermMeaning t) (TermMeaning u) = term_cmp t u
meaning_cmp m n = Equal

-- both are types, both are functions, or both are terms
abbrev pub are_alike : Meaning → Meaning → Bool
are_alike (TypeMeaning t) (TypeMeaning u) = true
are_alike (FunctionMeaning f) (FunctionMeaning g) = true
are_alike (TermMeaning t) (TermMeaning u) = true
are_alike m n = false
