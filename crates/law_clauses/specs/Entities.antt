-- Clauses of entities of an enum type.
use Rattle.std.specs.Prelude.{◌≡◌, ℕ, List, [], map, Some}
use Rattle.law_terms.specs.Plain.{EntityType, EntityLiteral, PlainTerm, LiteralTerm}
use Rattle.law_terms.specs.TypeValues.{Enums, members_of}
use Rattle.law_clauses.specs.Sequents.{IsValid, Sequent, ◌⊢◌}
use Rattle.law_clauses.specs.Shapes.{HasValue}
use Rattle.law_clauses.specs.Statements.{same_terms}

-- a term of an enum type is one of the members
abbrev pub one_of_members : List ℕ → List (List ℕ) → PlainTerm → Sequent
one_of_members e members t = [] ⊢ map (λ m. same_terms t (LiteralTerm (EntityLiteral e m))) members

-- it is valid of terms of the type; that two members differ is known (`Known`)
abbrev pub MembersAreValid : Type 0
MembersAreValid =
    (enums : Enums) (roots : List PlainTerm) (e : List ℕ) (members : List (List ℕ)) (t : PlainTerm)
    → members_of enums e ≡ Some members → HasValue enums roots t (EntityType e) → IsValid enums roots (one_of_members e members t)
