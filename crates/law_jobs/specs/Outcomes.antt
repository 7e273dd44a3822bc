-- What a part of a job states: itself, or the first fault in it.
use Rattle.std.specs.Prelude.{ℕ, List, ◌∷◌, Ok, Err, Result}

-- why an expression is no job: the reasons that a reader of jobs tells apart, with the name or text where there is one
pub data JobFault : Type 0 where
  -- a section, a declaration, a step or a term has no form
  FormFault : JobFault
  -- no variable, function or form of terms has this name
  UnknownFault : (name : List ℕ) → JobFault
  -- an enum type, a variable, a function or an attribute has a name that was given before
  DuplicateFault : (name : List ℕ) → JobFault
  -- a type has no form
  TypeFault : JobFault
  -- a width is no numeral from 1 to 128, or none from 0 to 127 where bits are added
  WidthFault : JobFault
  -- a literal's text has no value
  LiteralFault : (text : List ℕ) → JobFault
  -- an operator or a set does not take parts of these types
  TypingFault : JobFault
  -- a whole term is no Boolean
  TruthFault : JobFault
  -- a step closes a level where none is open
  UnbalancedFault : JobFault

-- what is stated of an expression: the thing that it states, or the first fault in it
abbrev pub Outcome : Type 0 → Type 0
Outcome A = Result A JobFault

-- a thing in front of others, or their first fault
abbrev pub followed : {A : Type 0} → A → Outcome (List A) → Outcome (List A)
followed a (Ok rest) = Ok (a ∷ rest)
followed a (Err fault) = Err fault

-- what is stated, by another view of it
abbrev pub mapped : {A B : Type 0} → (A → B) → Outcome A → Outcome B
mapped f (Ok a) = Ok (f a)
mapped f (Err fault) = Err fault
