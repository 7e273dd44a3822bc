-- What an answer of the program is, where a result or a fault of symbolizing is stated.
use Rattle.std.specs.Prelude.{◌≡◌, ⊤, Ok, Err, Result}
use Rattle.std.specs.Rc.{rc_str_bytes}
use Rattle.law_terms.specs.Plain.{PlainTerm}
use Rattle.smt_values.specs.declared.compile_error.CompileError.{CompileError as TypeError}
use Rattle.smt_values.specs.declared.compile_error.CompileError.TheVariants as types
use Rattle.smt_values.specs.PlainValues.{PlainValue}
use Rattle.smt_values.specs.ValueView.{plain_value_of}
use Rattle.smt_values.specs.declared.ext_error.ExtError.{ExtError as ValueError}
use Rattle.smt_values.specs.declared.ext_error.ExtError.TheVariants as values
use Rattle.smt_values.specs.Outcomes.{Outcome, NoTerm, NoExtension, Unsupported, IncompleteRequest, UnknownValue, ForeignRequest}
use Rattle.smt_values.specs.declared.error.SymbolizeError.{SymbolizeError}
use Rattle.smt_values.specs.declared.error.SymbolizeError.TheVariants.{UnableToSymbolizeValue, CompileError, ExtError, PartialRequest}
use Rattle.smt_values.specs.declared.error.SymbolizeError.TheVariants.{PartialValue, IllFormedTypeEnv, EntitiesError, Memory}

-- The error of a Cedar type is the fault that no type of terms stands for it, by the reason that is stated. It is never want of
-- memory, for which the outer error has a case of its own.
abbrev pub IsUnsupported : {A : Type 0} → TypeError → Outcome A → Type 0
IsUnsupported (types.UnsupportedFeature text) outcome = outcome ≡ Err (Unsupported (rc_str_bytes text))
IsUnsupported types.Memory outcome = ⊥

-- The error of a value is the fault that it is no value of an extension type, by the value that is stated. No other error of
-- that kind comes.
abbrev pub IsNoExtension : {A : Type 0} → ValueError → Outcome A → Type 0
IsNoExtension (values.FromValue given) outcome = outcome ≡ Err (NoExtension (plain_value_of given))
IsNoExtension e outcome = ⊥

-- The error is the fault that is stated, by its value or its reason. `Memory`, want of memory, may come always, and says
-- nothing of what is stated.
abbrev pub IsRefusal : {A : Type 0} → SymbolizeError → Outcome A → Type 0
IsRefusal (UnableToSymbolizeValue given) outcome = outcome ≡ Err (NoTerm (plain_value_of given))
IsRefusal (CompileError e) outcome = IsUnsupported e outcome
IsRefusal (ExtError e) outcome = IsNoExtension e outcome
IsRefusal PartialRequest outcome = outcome ≡ Err IncompleteRequest
IsRefusal PartialValue outcome = outcome ≡ Err UnknownValue
IsRefusal IllFormedTypeEnv outcome = outcome ≡ Err ForeignRequest
IsRefusal EntitiesError outcome = ⊥
IsRefusal Memory outcome = ⊤

-- The error is that this value has no term, or want of memory.
abbrev pub IsNoTerm : SymbolizeError → PlainValue → Type 0
IsNoTerm e v = IsRefusal {A = PlainTerm} e (Err (NoTerm v))

-- The answer is what is stated: with Ok its plain form by `view` is the result that is stated, and an error is the fault that
-- is stated, or want of memory.
abbrev pub IsGiven : {A B : Type 0} → (A → B) → Result A SymbolizeError → Outcome B → Type 0
IsGiven view (Ok x) outcome = outcome ≡ Ok (view x)
IsGiven view (Err e) outcome = IsRefusal e outcome

-- the error of a Cedar type as an error of symbolizing, whose own want of memory is that of the type's
abbrev pub type_refusal : TypeError → SymbolizeError
type_refusal (types.UnsupportedFeature text) = CompileError (types.UnsupportedFeature text)
type_refusal types.Memory = Memory

-- the error of a value of an extension type as an error of symbolizing, whose own want of memory is that of the value's
abbrev pub value_refusal : ValueError → SymbolizeError
value_refusal values.Memory = Memory
value_refusal e = ExtError e
