-- Worked examples: an input and what it states, and inputs with faults.
use Rattle.std.specs.Prelude.{◌≡◌, ℕ, List, [], ◌∷◌, Option, Some, Ok, codes}
use Rattle.std.specs.Result.{result_err}
use Rattle.law_assignments.specs.Assignments.{PlainAssignment}
use Rattle.law_folding.specs.Applications.{false_term, not_of, true_term}
use Rattle.law_folding.specs.FoldFunctions.{uuf_of}
use Rattle.law_texts.specs.Lexicon.{Name, Number, Text}
use Rattle.law_texts.specs.Reading.{Expression, Leaf}
use Rattle.law_jobs.specs.Jobs.{PlainJob}
use Rattle.law_jobs.specs.Outcomes.{TruthFault}
use Rattle.law_jobs.specs.Steps.{AssertStep}
use Rattle.law_terms.specs.Plain.{BoolType, EntityType, PlainFunction, VariableTerm}
use Rattle.law_assignments.specs.Inputs.{input_of}
use Rattle.law_assignments.specs.Outcomes.{InputFault, FormlessInput, RefusedJob, UnknownEntry, DuplicateEntry, NoValue, MissingEntry}
use Rattle.law_scripts.specs.Script.{group}

-- a symbol
abbrev pub word : List ℕ → Expression
word n = Leaf (Name n)

-- a string of ASCII characters
abbrev pub text : List ℕ → Expression
text s = Leaf (Text s)

-- expressions in brackets behind a symbol
abbrev pub headed : List ℕ → List Expression → Expression
headed head es = group (word head ∷ es)

-- `true`
abbrev pub yes : Expression
yes = word (codes "true")

-- `false`
abbrev pub no : Expression
no = word (codes "false")

-- the type `Bool`
abbrev pub bool : Expression
bool = word (codes "Bool")

-- `(entity "Color" "..")`
abbrev pub color : List ℕ → Expression
color i = headed (codes "entity") (text (codes "Color") ∷ text i ∷ [])

-- `(bv 32 ..)`
abbrev pub bits_32 : ℕ → Expression
bits_32 n = headed (codes "bv") (Leaf (Number 32) ∷ Leaf (Number n) ∷ [])

-- `(ip "::/0")`: the range of all addresses of version 6
abbrev pub all_v6 : Expression
all_v6 = headed (codes "ip") (text (codes "::/0") ∷ [])

-- `(ip "1.2.3.4")`
abbrev pub host_v4 : Expression
host_v4 = headed (codes "ip") (text (codes "1.2.3.4") ∷ [])

-- the job of these terms, with an enum type of one member, two variables and a function
abbrev pub job_with : List Expression → Expression
job_with terms =
    headed (codes "job")
    (headed (codes "enums") (group (text (codes "Color") ∷ text (codes "red") ∷ []) ∷ [])
    ∷ headed (codes "vars")
    (group (text (codes "b") ∷ bool ∷ []) ∷ group (text (codes "c") ∷ headed (codes "Entity") (text (codes "Color") ∷ []) ∷ []) ∷ [])
    ∷ headed (codes "funs") (group (text (codes "f") ∷ bool ∷ bool ∷ []) ∷ [])
    ∷ headed (codes "terms") terms ∷ [])

-- `(var "b")`
abbrev pub variable_b : Expression
variable_b = headed (codes "var") (text (codes "b") ∷ [])

-- the job of `(not (var "b"))` and `(uuf "f" (var "b"))`
abbrev pub job : Expression
job = job_with (headed (codes "not") (variable_b ∷ []) ∷ headed (codes "uuf") (text (codes "f") ∷ variable_b ∷ []) ∷ [])

-- an input by its job and the entries of its four sections
abbrev pub input : Expression → (vars funs gets selectors : List Expression) → Expression
input job vars funs gets selectors =
    headed (codes "eval")
    (job ∷ headed (codes "vars") vars ∷ headed (codes "funs") funs ∷ headed (codes "gets") gets ∷ headed (codes "selectors") selectors ∷ [])

-- an entry by its name and what stands behind it
abbrev pub entry : List ℕ → List Expression → Expression
entry name es = group (text name ∷ es)

-- the entry that gives the variable b a value
abbrev pub b_is : Expression → Expression
b_is v = entry (codes "b") (v ∷ [])

-- the entry that gives the variable c a color
abbrev pub c_is : List ℕ → Expression
c_is i = entry (codes "c") (color i ∷ [])

-- the entry of the function f
abbrev pub f_is : List Expression → Expression
f_is es = entry (codes "f") es

-- the entry of the selector of addresses of version 4, which is 0 elsewhere
abbrev pub addresses : List Expression → Expression
addresses pairs = entry (codes "ipaddr.addrV4") (bits_32 0 ∷ pairs)

-- two expressions in brackets
abbrev pub pair : Expression → Expression → Expression
pair k v = group (k ∷ v ∷ [])

-- the first fault of an input over the job
abbrev pub fault_in : (vars funs gets selectors : List Expression) → Option InputFault
fault_in vars funs gets selectors = result_err (input_of (input job vars funs gets selectors))

-- the function f of the job
abbrev pub f_function : PlainFunction
f_function = record { id = codes "f"; argument = BoolType; output = BoolType }

-- the job as it is read
abbrev pub read_job : PlainJob
read_job = record {
  enums = (codes "Color", codes "red" ∷ []) ∷ [];
  variables = (codes "b", BoolType) ∷ (codes "c", EntityType (codes "Color")) ∷ [];
  functions = (codes "f", f_function) ∷ [];
  steps = AssertStep (not_of (VariableTerm (codes "b") BoolType) ∷ uuf_of f_function (VariableTerm (codes "b") BoolType) ∷ []) ∷ [];
}

-- the assignment that is read in the first of the rows
abbrev pub read_assignment : PlainAssignment
read_assignment = record {
  variables = (codes "b", false_term) ∷ [];
  functions = (
    codes "f",
    record
        { argument = BoolType; output = BoolType; entries = (false_term, true_term) ∷ (true_term, false_term) ∷ []; elsewhere = true_term },
  )
      ∷ [];
  gets = (BoolType, true_term) ∷ [];
  selectors = [];
}

-- an input with what it states, and inputs with their first faults
pub record InputRows : Type 0 where
  -- a value may be any term that builds to a literal; pairs come into the order of their keys
  pub read :
      input_of
      (input job (b_is (headed (codes "not") (yes ∷ [])) ∷ []) (f_is (yes ∷ pair yes no ∷ pair no yes ∷ []) ∷ []) (pair bool yes ∷ []) [])
      ≡ Ok (read_job, read_assignment)
  -- a section too few, and the type of a get that is none, before the faults of the job
  pub sections : result_err (input_of (headed (codes "eval") (job ∷ []))) ≡ Some FormlessInput
  pub get_type : result_err (input_of (input yes [] [] (pair (word (codes "Boolean")) yes ∷ []) [])) ≡ Some FormlessInput
  -- the job, before the entries
  pub refused :
      result_err (input_of (input (job_with (text (codes "no truth") ∷ [])) (entry (codes "z") (yes ∷ []) ∷ []) [] [] []))
      ≡ Some (RefusedJob TruthFault)
  pub unknown_variable : fault_in (entry (codes "z") (yes ∷ []) ∷ []) [] [] [] ≡ Some (UnknownEntry (codes "z"))
  pub unknown_function : fault_in [] (entry (codes "b") (yes ∷ []) ∷ []) [] [] ≡ Some (UnknownEntry (codes "b"))
  pub unknown_selector : fault_in [] [] [] (entry (codes "ipaddr.isV4") (yes ∷ []) ∷ []) ≡ Some (UnknownEntry (codes "ipaddr.isV4"))
  pub variable_twice : fault_in (b_is yes ∷ b_is (text []) ∷ []) [] [] [] ≡ Some (DuplicateEntry (codes "b"))
  pub get_twice : fault_in [] [] (pair bool yes ∷ pair bool no ∷ []) [] ≡ Some (DuplicateEntry (codes "option.get"))
  pub key_twice :
      fault_in [] (f_is (yes ∷ pair no yes ∷ pair (headed (codes "not") (yes ∷ [])) (text []) ∷ []) ∷ []) [] []
      ≡ Some (DuplicateEntry (codes "f"))
  -- a literal of another type, a term that builds to no literal, and an entity that is no member
  pub other_type : fault_in (b_is (text []) ∷ []) [] [] [] ≡ Some (NoValue (codes "b"))
  pub no_literal : fault_in (b_is variable_b ∷ []) [] [] [] ≡ Some (NoValue (codes "b"))
  pub no_member : fault_in (c_is (codes "blue") ∷ []) [] [] [] ≡ Some (NoValue (codes "c"))
  -- a key of the selector's own family
  pub own_family : fault_in [] [] [] (addresses (pair host_v4 (bits_32 1) ∷ []) ∷ []) ≡ Some (NoValue (codes "ipaddr.addrV4"))
  -- the first that the terms reach and that has no entry, behind all faults of entries
  pub missing : fault_in [] (f_is (yes ∷ []) ∷ []) [] [] ≡ Some (MissingEntry (codes "b"))
  pub missing_function :
      fault_in (b_is yes ∷ c_is (codes "red") ∷ []) [] [] (addresses (pair all_v6 (bits_32 1) ∷ []) ∷ []) ≡ Some (MissingEntry (codes "f"))
