-- Faults that are passed on.
use Rattle.std.proofs.Common.{◌≡◌, Ok, Err, Result, sym, ap, subst}
use Rattle.std.specs.Prelude.{IsErrAnd}
use Rattle.smt_values.specs.RefusedTypes.{IsRefusal as IsTypeRefusal}
use Rattle.smt_values.specs.TypeOfCedar.{Stated}
use Rattle.smt_values.specs.declared.compile_error.CompileError.{CompileError as TypeError}
use Rattle.smt_values.specs.declared.compile_error.CompileError.TheVariants as types
use Rattle.smt_values.specs.declared.ext_error.ExtError.{ExtError as ValueError}
use Rattle.smt_values.specs.declared.ext_error.ExtError.TheVariants as values
use Rattle.smt_values.specs.Outcomes.{SymbolizeFault, Outcome, converted}
use Rattle.smt_values.specs.Refused.{IsGiven, IsNoExtension, IsRefusal, IsUnsupported, type_refusal}
use Rattle.smt_values.specs.declared.error.SymbolizeError.{SymbolizeError}
use Rattle.smt_values.specs.declared.error.SymbolizeError.TheVariants.{UnableToSymbolizeValue, CompileError, ExtError, PartialRequest, PartialValue, IllFormedTypeEnv, EntitiesError, Memory}

-- what refuses a part refuses the whole
abbrev pub IsPassed : {B B' : Type 0} → Outcome B → Outcome B' → Type 0
IsPassed whole part = (fault : SymbolizeFault) → part ≡ Err fault → whole ≡ Err fault

unsupported_passes : {B B' : Type 0} (e : TypeError) (whole : Outcome B) (part : Outcome B') → IsUnsupported e part → IsPassed whole part → IsUnsupported e whole
unsupported_passes (types.UnsupportedFeature text) whole part h p = p _ h
unsupported_passes types.Memory whole part h p = absurd h

no_extension_passes : {B B' : Type 0} (e : ValueError) (whole : Outcome B) (part : Outcome B') → IsNoExtension e part → IsPassed whole part → IsNoExtension e whole
no_extension_passes (values.FromValue given) whole part h p = p _ h
no_extension_passes (values.FromRestrictedExpr given) whole part h p = absurd h
no_extension_passes (values.DatetimeError e) whole part h p = absurd h
no_extension_passes (values.DecimalError e) whole part h p = absurd h
no_extension_passes (values.IPError e) whole part h p = absurd h
no_extension_passes values.EvaluationError whole part h p = absurd h
no_extension_passes (values.ExtensionFunctionNotFound name) whole part h p = absurd h
no_extension_passes values.UnsupportedPartialValue whole part h p = absurd h
no_extension_passes values.ExtensionFunctionParseError whole part h p = absurd h
no_extension_passes values.Memory whole part h p = absurd h

-- the refusal of a part is that of the whole
pub refusal_passes : {B B' : Type 0} (e : SymbolizeError) (whole : Outcome B) (part : Outcome B') → IsRefusal e part → IsPassed whole part → IsRefusal e whole
refusal_passes (UnableToSymbolizeValue given) whole part h p = p _ h
refusal_passes (CompileError e) whole part h p = unsupported_passes e whole part h p
refusal_passes (ExtError e) whole part h p = no_extension_passes e whole part h p
refusal_passes PartialRequest whole part h p = p _ h
refusal_passes PartialValue whole part h p = p _ h
refusal_passes IllFormedTypeEnv whole part h p = p _ h
refusal_passes EntitiesError whole part h p = absurd h
refusal_passes Memory whole part h p = tt

-- an error of a part is one of the whole
pub passes_on : {A B B' : Type 0} (view : A → B) (r : Result A SymbolizeError) (e : SymbolizeError) (whole : Outcome B) (part : Outcome B') → IsErrAnd r (λ y. y ≡ e) → IsRefusal e part → IsPassed whole part → IsGiven view r whole
passes_on view (Ok x) e whole part h g p = absurd h
passes_on view (Err y) e whole part h g p = subst (λ (x : SymbolizeError). IsRefusal x whole) (sym h) (refusal_passes e whole part g p)

-- what is given is the same of what is equal
pub given_of : {A B : Type 0} (view : A → B) (r : Result A SymbolizeError) (whole part : Outcome B) → whole ≡ part → IsGiven view r part → IsGiven view r whole
given_of view r whole part e h = subst (λ (o : Outcome _). IsGiven view r o) (sym e) h

-- the refusal of a Cedar type, as that of a value
pub type_refused : {A : Type 0} (e : TypeError) (stated : Stated A) → IsTypeRefusal e stated → IsRefusal (type_refusal e) (converted stated)
type_refused (types.UnsupportedFeature text) stated h = ap converted h
type_refused types.Memory stated h = tt
