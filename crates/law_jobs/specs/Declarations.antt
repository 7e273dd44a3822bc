-- The variables and functions that jobs declare.
use Rattle.std.specs.Prelude.{ℕ, bytes_eq, List, [], ◌∷◌, ◌++◌, Option, Some, None, Ok, Err}
use Rattle.std.specs.Map.{lookup}
use Rattle.law_terms.specs.Plain.{PlainFunction, PlainType}
use Rattle.law_terms.specs.TypeValues.{Enums}
use Rattle.law_texts.specs.Reading.{Expression, Expressions, Nil, Cons}
use Rattle.law_jobs.specs.Outcomes.{Outcome, DuplicateFault, FormFault}
use Rattle.law_texts.specs.Outcomes.{◌>>=◌, demanded}
use Rattle.law_texts.specs.Parts.{pair_in, text_in, triple_in}
use Rattle.law_jobs.specs.Types.{type_of_expression}

-- ids, each with what it is declared as, in the order of the declarations
abbrev pub Declarations : Type 0 → Type 0
Declarations A = List (List ℕ × A)

-- what an id is declared as, if it is declared
abbrev pub declared : {A : Type 0} → Declarations A → List ℕ → Option A
declared ds id = lookup (bytes_eq id) ds

-- an id, or the fault that it was declared before, by what it was declared as
abbrev pub unless_declared : {A : Type 0} → Option A → List ℕ → Outcome (List ℕ)
unless_declared (Some a) id = Err (DuplicateFault id)
unless_declared None id = Ok id

-- the id that a string states, which must not be declared yet
abbrev pub new_id : {A : Type 0} → Declarations A → Expression → Outcome (List ℕ)
new_id ds e = demanded FormFault (text_in e) >>= λ id. unless_declared (declared ds id) id

-- the variable that `("id" TYPE)` declares, behind those that are there
abbrev pub declared_variable : Declarations PlainType → Expression → Outcome (List ℕ × PlainType)
declared_variable vs e = demanded FormFault (pair_in e) >>= λ p. new_id vs p.0 >>= λ name. type_of_expression p.1 >>= λ t. Ok (name, t)

-- the uninterpreted function that `("id" TYPE TYPE)` declares: the types of its argument and of its result
abbrev pub declared_function : Declarations PlainFunction → Expression → Outcome (List ℕ × PlainFunction)
declared_function fs e =
    demanded FormFault (triple_in e) >>= λ p. new_id fs p.0 >>= λ name. type_of_expression p.1 >>= λ t. type_of_expression p.2 >>= λ u.
    Ok (name, record { id = name; argument = t; output = u })

-- declarations behind those that are there
abbrev pub declared_by : {A : Type 0} → (Declarations A → Expression → Outcome (List ℕ × A)) → Declarations A → Expressions →
    Outcome (Declarations A)
declared_by of ds Nil = Ok ds
declared_by of ds (Cons e es) = of ds e >>= λ d. declared_by of (ds ++ d ∷ []) es

-- the variables of a job's section `(vars ("id" TYPE) ..)`, in the order of the job, no id twice
abbrev pub variables_of : Expressions → Outcome (Declarations PlainType)
variables_of es = declared_by declared_variable [] es

-- the functions of a job's section `(funs ("id" TYPE TYPE) ..)`, in the order of the job, no id twice
abbrev pub functions_of : Expressions → Outcome (Declarations PlainFunction)
functions_of es = declared_by declared_function [] es

-- what a job declares: its enum types, and the variables and functions that its terms may name
pub record Declared : Type 0 where
  pub enums : Enums
  pub variables : Declarations PlainType
  pub functions : Declarations PlainFunction
