-- What an answer of the program is, where a result or the text of a refusal is stated of a Cedar type.
use Rattle.std.specs.Prelude.{◌≡◌, ⊤, ℕ, List, Ok, Err, Result}
use Rattle.std.specs.Rc.{rc_str_bytes}
use Rattle.smt_values.specs.TypeOfCedar.{Stated}
use Rattle.smt_values.specs.declared.compile_error.CompileError.{CompileError}
use Rattle.smt_values.specs.declared.compile_error.CompileError.TheVariants.{Memory, UnsupportedFeature}

-- The error is the refusal that is stated, by its text. `Memory`, want of memory, may come always, and says nothing of what is
-- stated.
abbrev pub IsRefusal : {A : Type 0} → CompileError → Stated A → Type 0
IsRefusal (UnsupportedFeature text) stated = stated ≡ Err (rc_str_bytes text)
IsRefusal Memory stated = ⊤

-- The error is the refusal by this text, or want of memory.
abbrev pub IsRefusalBy : CompileError → List ℕ → Type 0
IsRefusalBy e text = IsRefusal {A = ℕ} e (Err text)

-- The answer is what is stated: with Ok its plain form by `view` is the result that is stated, and an error is the refusal that
-- is stated, or want of memory.
abbrev pub IsGiven : {A B : Type 0} → (A → B) → Result A CompileError → Stated B → Type 0
IsGiven view (Ok x) stated = stated ≡ Ok (view x)
IsGiven view (Err e) stated = IsRefusal e stated
