-- What is declared in the program, and what declaring one more gives.
use Rattle.std.specs.Prelude.{◌≡◌, ℕ, List, [], ◌∷◌, ◌++◌, Option, bytes_eq, map, option_map, Ok, Err, Result}
use Rattle.std.specs.Rc.{rc_str_bytes}
use Rattle.std.specs.BTreeMap.{get, get_by}
use Rattle.std.specs.Cmp.Lexicographic.{slice_cmp}
use Rattle.std.specs.List.{position}
use Rattle.std.specs.Ordering.{nat_cmp}
use Rattle.std.specs.declared.cmp.Ordering.{Ordering}
use Rattle.std.specs.declared.alloc.Global.{Global}
use Rattle.std.specs.declared.rc.RcStr.{RcStr}
use Rattle.smt_term.specs.Enums.{enums_of}
use Rattle.law_terms.specs.Plain.{PlainFunction, PlainType}
use Rattle.smt_term.specs.View.{plain_function, plain_type}
use Rattle.smt_term.specs.declared.function.Uuf.{Uuf}
use Rattle.smt_term.specs.declared.term.TermVar.{TermVar}
use Rattle.law_jobs.specs.Declarations.{Declarations, declared, Declared as Stated}
use Rattle.law_jobs.specs.Outcomes.{Outcome}
use Rattle.smt_job_terms.specs.ReadAs.{IsFaultIn}
use Rattle.smt_job_terms.specs.declared.declaration.Declared.{Declared}
use Rattle.smt_job_terms.specs.declared.declaration.Functions.{Functions}
use Rattle.smt_job_terms.specs.declared.declaration.Variables.{Variables}
use Rattle.smt_job_terms.specs.declared.error.JobError.{JobError}
use Rattle.smt_job_terms.specs.declared.lists.UufList.{UufList}
use Rattle.smt_job_terms.specs.declared.lists.VarList.{VarList}

-- a declared variable: its id and its type
abbrev pub plain_declaration : TermVar → List ℕ × PlainType
plain_declaration v = (rc_str_bytes v.id, plain_type v.ty)

-- the variables of a list, in order
abbrev pub declarations : VarList → Declarations PlainType
declarations vars = map plain_declaration vars.items.items

-- a declared function, by its id
abbrev pub plain_declared_function : Uuf → List ℕ × PlainFunction
plain_declared_function f = (rc_str_bytes f.id, plain_function f)

-- the functions of a list, in order
abbrev pub functions : UufList → Declarations PlainFunction
functions funs = map plain_declared_function funs.items.items

-- how the bytes of an id compare to those of a text
abbrev pub bytes_order : List ℕ → RcStr Global → Ordering
bytes_order id text = slice_cmp nat_cmp id (rc_str_bytes text)

-- ids stand in the order of their bytes
abbrev pub text_order : RcStr Global → RcStr Global → Ordering
text_order a = bytes_order (rc_str_bytes a)

-- the place of the first declaration of an id, which is the one that counts
abbrev pub place_of : {A : Type 0} → Declarations A → List ℕ → Option ℕ
place_of ds id = position (λ d. bytes_eq id d.0) ds

-- The variables are these, in order, and the place of each is found by its id.
pub record HasVariables (v : Variables) (vs : Declarations PlainType) : Type 0 where
  pub listed : declarations v.vars ≡ vs
  pub placed : (id : List ℕ) → get_by (bytes_order id) v.places ≡ place_of vs id

-- The functions are these, in order, and they are found by their ids.
pub record HasFunctions (f : Functions) (fs : Declarations PlainFunction) : Type 0 where
  pub listed : functions f.funs ≡ fs
  pub found : (id : RcStr Global) → option_map (λ g. plain_function g.value) (get text_order f.found id) ≡ declared fs (rc_str_bytes id)

-- The variables and the functions of the program are these.
pub record HasDeclared (d : Declared) (ds : Stated) : Type 0 where
  pub variables : HasVariables d.variables ds.variables
  pub functions : HasFunctions d.functions ds.functions

-- what the program's lists say of what is declared
abbrev pub stated_in : Declared → Stated
stated_in d = record { enums = enums_of d.enums; variables = declarations d.variables.vars; functions = functions d.functions.funs }

-- What is stated was declared behind what was there, and an error is the fault that is stated.
abbrev pub DeclaresNext : {A B : Type 0} → (Declarations B → Type 0) → Declarations B → Outcome (List ℕ × B) → Result A JobError → Type 0
DeclaresNext has ds stated (Err e) = IsFaultIn e stated
DeclaresNext {B = B} has ds stated (Ok u) = (d : List ℕ × B) × (stated ≡ Ok d) × has (ds ++ d ∷ [])
