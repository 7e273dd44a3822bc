-- What is stated of symbolizing a value, or why it has no term.
use Rattle.std.specs.Prelude.{ℕ, List, [], ◌∷◌, Result, Ok, Err}
pub use Rattle.law_texts.specs.Outcomes.{◌>>=◌}
use Rattle.smt_values.specs.TypeOfCedar.{Stated}
use Rattle.smt_values.specs.PlainValues.{PlainValue}

-- why a part of Cedar's values, requests and stores has no term
pub data SymbolizeFault : Type 0 where
  -- this value has no term at the type that it stands at
  NoTerm : PlainValue → SymbolizeFault
  -- this value is no value of an extension type
  NoExtension : PlainValue → SymbolizeFault
  -- no type of terms stands for a Cedar type, for this reason
  Unsupported : (reason : List ℕ) → SymbolizeFault
  -- a part of a request is not known
  IncompleteRequest : SymbolizeFault
  -- the value of an attribute, or of a tag, is not known
  UnknownValue : SymbolizeFault
  -- a request is of no environment of its schema
  ForeignRequest : SymbolizeFault

-- what is stated of symbolizing: a result, or the first fault
abbrev pub Outcome : Type 0 → Type 0
Outcome A = Result A SymbolizeFault

-- what is stated of a Cedar type, where its refusal is the fault that no type of terms stands for it
abbrev pub converted : {A : Type 0} → Stated A → Outcome A
converted (Ok a) = Ok a
converted (Err reason) = Err (Unsupported reason)

-- what f states of each member of a list, in order, or the first fault among them
abbrev pub each : {X A : Type 0} → (X → Outcome A) → List X → Outcome (List A)
each f [] = Ok []
each f (x ∷ xs) = f x >>= λ a. each f xs >>= λ rest. Ok (a ∷ rest)
