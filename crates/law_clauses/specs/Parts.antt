-- Where the shapes of values come from: the parts of typed roots, and terms that are built of them.
use Rattle.std.specs.Prelude.{◌≡◌, ◌⊎◌, List, [], ◌∷◌, None, IsTrue}
use Rattle.std.specs.List.{AllByRecursion}
use Rattle.law_terms.specs.Faults.{first_fault, term_fault}
use Rattle.law_terms.specs.Formed.{IsFormed, IsFormedNode}
use Rattle.law_terms.specs.Plain.{PlainType, PlainTerm}
use Rattle.law_terms.specs.Reached.{reached_terms, subterms}
use Rattle.law_terms.specs.Types.{type_of}
use Rattle.law_terms.specs.TypeValues.{Enums}
use Rattle.law_terms.specs.Typing.{AreTyped, Typed, typed}
use Rattle.law_clauses.specs.Known.{is_known_here}
use Rattle.law_clauses.specs.Shapes.{HasShape, HasValue}

-- a term is one of these
abbrev pub IsOneOf : PlainTerm → List PlainTerm → Type 0
IsOneOf t [] = ⊥
IsOneOf t (u ∷ us) = (t ≡ u) ⊎ IsOneOf t us

-- a typed and formed root has in its interpretations the shape of its type
abbrev pub RootsHaveShapes : Type 0
RootsHaveShapes = (enums : Enums) (t : PlainTerm) (ty : PlainType) → Typed t ty → IsFormed t → HasShape enums (t ∷ []) t ty

-- so has all that typed and formed roots reach
abbrev pub PartsHaveShapes : Type 0
PartsHaveShapes =
    (enums : Enums) (roots : List PlainTerm) (t : PlainTerm)
    → AreTyped roots → AllByRecursion IsFormed roots → IsOneOf t (reached_terms roots) → HasShape enums roots t (type_of t)

-- each part of a term is reached by the roots, or asks nothing of an interpretation
abbrev pub IsBuiltOf : List PlainTerm → PlainTerm → Type 0
IsBuiltOf roots t = AllByRecursion (λ u. IsOneOf u (reached_terms roots) ⊎ IsTrue (is_known_here u)) (subterms t)

-- so has a typed term that is built of what the roots reach, as the terms are that clauses add
abbrev pub BuiltHaveShapes : Type 0
BuiltHaveShapes =
    (enums : Enums) (roots : List PlainTerm) (t : PlainTerm)
    → IsTrue (typed t) → AllByRecursion IsFormedNode (subterms t) → IsBuiltOf roots t → HasShape enums roots t (type_of t)

-- Where the roots have no fault, what they reach has a value of its type, so that an entity of an enum type is a member.
abbrev pub PartsHaveValues : Type 0
PartsHaveValues =
    (enums : Enums) (roots : List PlainTerm) (t : PlainTerm)
    → AreTyped roots → AllByRecursion IsFormed roots → first_fault enums roots ≡ None
    → IsOneOf t (reached_terms roots) → HasValue enums roots t (type_of t)

-- So has a typed term without fault that is built of what the roots reach.
abbrev pub BuiltHaveValues : Type 0
BuiltHaveValues =
    (enums : Enums) (roots : List PlainTerm) (t : PlainTerm)
    → IsTrue (typed t) → AllByRecursion IsFormedNode (subterms t) → term_fault enums t ≡ None
    → IsBuiltOf roots t → HasValue enums roots t (type_of t)
