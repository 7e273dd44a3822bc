-- Inputs as they are written. An input is one S-expression,
-- (eval JOB (vars ("id" V) ..) (funs ("f" V (V V) ..) ..) (gets (TYPE V) ..) (selectors ("name" V (V V) ..) ..)).
-- A function or a selector has its value elsewhere first, and then pairs of key and value.
use Rattle.std.specs.Prelude.{ℕ, codes, List, [], ◌∷◌, Option, Some, None, option_map}
use Rattle.std.specs.Option.{option_and_then}
use Rattle.std.specs.Result.{result_ok}
use Rattle.law_texts.specs.Reading.{Expression, Expressions, Nil, Cons}
use Rattle.law_texts.specs.Parts.{inside_of, pair_in, section, text_in}
use Rattle.law_jobs.specs.Types.{type_of_expression}
use Rattle.law_terms.specs.Plain.{PlainType}

-- a table as it is written, with expressions in place of values: the value elsewhere, and pairs of key and value
pub record WrittenTable : Type 0 where
  pub name : List ℕ
  pub elsewhere : Expression
  pub entries : List (Expression × Expression)

-- an input as it is written, before the job is read and before any value is
pub record WrittenInput : Type 0 where
  pub job : Expression
  pub variables : List (List ℕ × Expression)
  pub functions : List WrittenTable
  pub gets : List (PlainType × Expression)
  pub selectors : List WrittenTable

-- what the expressions of a list are, where each is something
abbrev pub each_in : {A : Type 0} → (Expression → Option A) → Expressions → Option (List A)
each_in of Nil = Some []
each_in of (Cons e es) = option_and_then (λ a. option_map (λ rest. a ∷ rest) (each_in of es)) (of e)

-- the entry of a variable: `("id" V)`
abbrev pub variable_written : Expression → Option (List ℕ × Expression)
variable_written e = option_and_then (λ p. option_map (λ id. (id, p.1)) (text_in p.0)) (pair_in e)

-- the entry of what `option.get` of none gives at an inner type: `(TYPE V)`
abbrev pub get_written : Expression → Option (PlainType × Expression)
get_written e = option_and_then (λ p. option_map (λ t. (t, p.1)) (result_ok (type_of_expression p.0))) (pair_in e)

-- what stands in the brackets of a table: `"f" V (V V) ..`
abbrev pub table_inside : Expressions → Option WrittenTable
table_inside (Cons name (Cons elsewhere entries)) =
    option_and_then (λ n. option_map (λ es. record { name = n; elsewhere = elsewhere; entries = es }) (each_in pair_in entries))
    (text_in name)
table_inside es = None

-- the entry of a function or a selector: `("f" V (V V) ..)`
abbrev pub table_written : Expression → Option WrittenTable
table_written e = option_and_then table_inside (inside_of e)

-- the entries of a section
abbrev pub entries_in : {A : Type 0} → (head : List ℕ) → (Expression → Option A) → Expression → Option (List A)
entries_in head of e = option_and_then (each_in of) (section head e)

-- the job and the four sections of an input, in this order and each of them there
abbrev pub sections_written : Expressions → Option WrittenInput
sections_written (Cons job (Cons variables (Cons functions (Cons gets (Cons selectors Nil))))) =
    option_and_then (λ vs.
    option_and_then (λ fs.
    option_and_then (λ gs.
    option_map (λ ss. record { job = job; variables = vs; functions = fs; gets = gs; selectors = ss })
    (entries_in (codes "selectors") table_written selectors))
    (entries_in (codes "gets") get_written gets))
    (entries_in (codes "funs") table_written functions))
    (entries_in (codes "vars") variable_written variables)
sections_written es = None

-- the input that `(eval JOB (vars ..) (funs ..) (gets ..) (selectors ..))` is
abbrev pub input_written : Expression → Option WrittenInput
input_written e = option_and_then sections_written (section (codes "eval") e)
