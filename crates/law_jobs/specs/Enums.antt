-- The enum types that jobs state: `("Type" "member" ..)`, the type's name and then any number of members.
use Rattle.std.specs.Prelude.{ℕ, List, [], Ok}
use Rattle.std.specs.Option.{option_and_then}
use Rattle.law_terms.specs.TypeValues.{Enums}
use Rattle.law_terms.specs.ValueOrder.{sorted, text_cmp}
use Rattle.law_texts.specs.Reading.{Expression, Expressions, Nil, Cons}
use Rattle.law_jobs.specs.Outcomes.{Outcome, followed, FormFault}
use Rattle.law_texts.specs.Outcomes.{◌>>=◌, demanded}
use Rattle.law_texts.specs.Parts.{first_apart, inside_of, text_in}
use Rattle.law_jobs.specs.Declarations.{Declarations, declared, declared_by, unless_declared}

-- the texts that strings state, in order, if each expression is such a string
abbrev pub texts_in : Expressions → Outcome (List (List ℕ))
texts_in Nil = Ok []
texts_in (Cons e es) = demanded FormFault (text_in e) >>= λ text. followed text (texts_in es)

-- the name of an enum type and its members, as they are written: in any order, and a member may stand twice
abbrev pub enum_written : Expression → Outcome (List ℕ × List (List ℕ))
enum_written e =
    demanded FormFault (option_and_then first_apart (inside_of e)) >>=
    λ p. demanded FormFault (text_in p.0) >>= λ name. texts_in p.1 >>= λ members. Ok (name, members)

-- an enum type that is not declared yet, with its members in the order of their bytes, each once
abbrev pub new_enum : Declarations (List (List ℕ)) → List ℕ × List (List ℕ) → Outcome (List ℕ × List (List ℕ))
new_enum enums written = unless_declared (declared enums written.0) written.0 >>= λ name. Ok (name, sorted text_cmp written.1)

-- the enum type that `("Type" "member" ..)` states, of a name that was not given before
abbrev pub enum_of : Declarations (List (List ℕ)) → Expression → Outcome (List ℕ × List (List ℕ))
enum_of enums e = enum_written e >>= new_enum enums

-- the enum types that expressions state, in the order of their names' bytes, which need not be that of the job
abbrev pub enums_in : Expressions → Outcome Enums
enums_in es = declared_by enum_of [] es >>= λ enums. Ok (sorted (λ p q. text_cmp p.0 q.0) enums)
