-- When a script, the terms that are encoded in it and the names that were given for them fit, at each of its levels; and
-- that this is kept by each line that is stated, and is all that the main theorem needs.
use Rattle.std.specs.Prelude.{◌≡◌, ℕ, Bool, true, false, nat_lt, codes, length, map, List, [], ◌∷◌, ◌++◌, Option, Some, None, ⊤}
use Rattle.std.specs.List.{AllByRecursion}
use Rattle.law_terms.specs.Plain.{PlainType, EntityType, PlainFunction, UufOp, EntityLiteral, ExtensionLiteral, PlainTerm, Application}
use Rattle.law_terms.specs.Plain.{LiteralTerm, VariableTerm, PlainTerms}
use Rattle.law_terms.specs.Reached.{reached_terms, reached_functions, reached_types}
use Rattle.law_terms.specs.Faults.{term_fault}
use Rattle.law_terms.specs.Typing.{typed}
use Rattle.law_terms.specs.TypeValues.{Enums, members_of, AreEnums}
use Rattle.law_texts.specs.Reading.{Expression}
use Rattle.law_scripts.specs.Script.{Command, SetLogic, CheckSat, GetModel, Entry, Constant, Function, Defined, Level, State, start, step}
use Rattle.law_scripts.specs.Script.{names_of, assertions_of}
use Rattle.law_scripts.specs.Written.{IsLine, IsOpenScript}
use Rattle.law_lines.specs.Line.{spelled_lines}
use Rattle.law_lines.specs.EntryNames.{place_of, enum_member, stated_type_name, stated_function_name}
use Rattle.law_lines.specs.Lines.{application_rendering, AsFalse, Call, PushCall, PopCall, EncodeCall, Encoding, encode, lines_of_call}
use Rattle.law_lines.specs.Lines.{lines_of_calls}
use Rattle.law_lines.specs.NameTables.{Tables, no_names, name_of_term, name_of_type, name_of_function}
use Rattle.law_lines.specs.Entries.{EachEntry, TypeHasEntries, AreNumbered}
use Rattle.law_lines.specs.TableGrowth.{AreDrawn}
use Rattle.law_lines.specs.Naming.{IsOneToOne, type_sort, type_name}
use Rattle.law_lines.specs.Calls.{back_at}
use Rattle.law_lines.specs.Fit.{Fit}
use Rattle.law_theorem.specs.Open.{IsAmong}
use Rattle.law_theorem.specs.Conditions.{AreConditions, IsCallOfConditions, AreCallsOfConditions}
use Rattle.law_theorem.specs.Headline.{AreTexts, Represents}

-- ---- stages

-- What stands at a level and those below it: the names that were given, and the terms that were encoded, in order.
pub record Stage : Type 0 where
  pub tables : Tables
  pub terms : List PlainTerm

-- The last level, those below it, the newest first, and whether the datatype `Option` is declared.
pub record Stages : Type 0 where
  pub now : Stage
  pub below : List Stage
  pub begun : Bool

-- a stage without names and terms
abbrev pub no_stage : Stage
no_stage = record { tables = no_names; terms = [] }

-- the stages of an encoder that has written nothing
abbrev pub new_stages : Stages
new_stages = record { now = no_stage; below = []; begun = false }

-- the names alone
abbrev pub encoding_of : Stages → Encoding
encoding_of x = record { tables = x.now.tables; below = map (λ y. y.tables) x.below; begun = x.begun }

-- the stages without the last level; the same stages, where there is no level below
abbrev pub popped_stages : List Stage → Stages → Stages
popped_stages [] x = x
popped_stages (y ∷ below) x = record { now = y; below = below; begun = x.begun }

-- what a call makes of stages
abbrev pub stages_after : Enums → Call → Stages → Stages
stages_after enums PushCall x = record { now = x.now; below = x.now ∷ x.below; begun = true }
stages_after enums PopCall x = popped_stages x.below x
stages_after enums (EncodeCall ts) x =
    record { now = record { tables = (encode enums ts x.now.tables).tables; terms = x.now.terms ++ ts }; below = x.below; begun = true }

-- what calls, one after the other, make of stages
abbrev pub stages_after_calls : Enums → List Call → Stages → Stages
stages_after_calls enums [] x = x
stages_after_calls enums (c ∷ cs) x = stages_after_calls enums cs (stages_after enums c x)

-- ---- keys

-- Each entry's key is reached by the terms. So the keys of terms are typed and have no fault where the terms are and have none.
pub record KeysAreReached (ts : List PlainTerm) (s : Tables) : Type 0 where
  pub terms : EachEntry (λ t n. IsAmong t (reached_terms ts)) s.terms
  pub functions : EachEntry (λ f n. IsAmong f (reached_functions ts)) s.functions
  pub types : EachEntry (λ t n. IsAmong t (reached_types ts)) s.types

-- ---- names

-- a member of an enum type is the constructor of its place
abbrev pub IsMemberName : Option (List (List ℕ)) → Tables → (type id n : List ℕ) → Type 0
IsMemberName None s type id n = ⊤
IsMemberName (Some members) s type id n =
    (name_of_type s (EntityType type) ≡ Some (type_name s (EntityType type))) × (n ≡ enum_member members (type_name s (EntityType type)) id)
    × (nat_lt (place_of id members) (length members) ≡ true)

-- what is not drawn is a member of an enum type
abbrev pub IsNamedRightly : Enums → Tables → PlainTerm → List ℕ → Type 0
IsNamedRightly enums s (LiteralTerm (EntityLiteral type id)) n = IsMemberName (members_of enums type) s type id n
IsNamedRightly enums s (Application op ts type) n = application_rendering op ts type ≡ AsFalse → ⊥
IsNamedRightly enums s t n = ⊤

-- An entry's name has the number of its place in its table, where it is drawn by a number. So two entries of a table have two names.
pub record NamesAreDrawn (enums : Enums) (s : Tables) : Type 0 where
  pub types : AreNumbered stated_type_name 0 s.types
  pub functions : AreNumbered (λ f place. stated_function_name place) 0 s.functions
  pub terms : AreDrawn enums 0 s.terms
  pub members : EachEntry (IsNamedRightly enums s) s.terms

-- ---- what is declared

-- a constant is a variable that is reached, with its sort
pub record VariableOrigin (us : List PlainTerm) (s : Tables) (n : List ℕ) (sort : Expression) : Type 0 where
  pub id : List ℕ
  pub type : PlainType
  pub reached : IsAmong (VariableTerm id type) us
  pub named : name_of_term s (VariableTerm id type) ≡ Some n
  pub has : TypeHasEntries s type
  pub sorted : sort ≡ type_sort s type

-- a function is one that is reached, with its sorts
pub record FunctionOrigin (us : List PlainTerm) (s : Tables) (n : List ℕ) (argument sort : Expression) : Type 0 where
  pub function : PlainFunction
  pub arguments : PlainTerms
  pub type : PlainType
  pub reached : IsAmong (Application (UufOp function) arguments type) us
  pub named : name_of_function s function ≡ Some n
  pub has : TypeHasEntries s function.argument × TypeHasEntries s function.output
  pub argument_sorted : argument ≡ type_sort s function.argument
  pub sorted : sort ≡ type_sort s function.output

-- a term whose entry has a definition
abbrev pub HasDefinition : Enums → PlainTerm → Type 0
HasDefinition enums (Application op ts type) = application_rendering op ts type ≡ AsFalse → ⊥
HasDefinition enums (LiteralTerm (EntityLiteral type id)) = members_of enums type ≡ None
HasDefinition enums (LiteralTerm (ExtensionLiteral x)) = ⊤
HasDefinition enums (LiteralTerm p) = ⊥
HasDefinition enums (VariableTerm id type) = ⊥
HasDefinition enums t = ⊤

-- what has a body is a term that is reached
pub record DefinitionOrigin (enums : Enums) (us : List PlainTerm) (s : Tables) (n : List ℕ) : Type 0 where
  pub term : PlainTerm
  pub reached : IsAmong term us
  pub named : name_of_term s term ≡ Some n
  pub defined : HasDefinition enums term

-- A constant, a function and a defined name are an entry's, for what is reached. `Fit` says whose constructors and selectors are.
abbrev pub BelongsToAnEntry : Enums → List PlainTerm → Tables → List ℕ → Entry → Type 0
BelongsToAnEntry enums us s n (Constant sort) = VariableOrigin us s n sort
BelongsToAnEntry enums us s n (Function argument sort) = FunctionOrigin us s n argument sort
BelongsToAnEntry enums us s n (Defined sort body) = DefinitionOrigin enums us s n
BelongsToAnEntry enums us s n x = ⊤

-- ---- one level

-- What a stage and the state at its level have to do with each other.
pub record FitsAt (enums : Enums) (x : Stage) (state : State) : Type 0 where
  -- The terms are typed as Boolean, are formed and have no fault.
  pub conditions : AreConditions enums x.terms
  -- The assertions, of this level and those below it, are their texts in order. So each term has an entry or an inline text here.
  pub assertions : AreTexts x.tables x.terms (assertions_of state)
  -- What the entries are for is reached.
  pub reached : KeysAreReached x.terms x.tables
  -- Names are drawn by the places of the entries.
  pub drawn : NamesAreDrawn enums x.tables
  -- What is stated for the entries, from the names of their parts, is declared, and `Option`, and no other name and no other
  -- datatype is; the parts have entries here too.
  pub declared : Fit enums x.tables state
  -- What is declared as a constant, as a function or with a body is for what is reached.
  pub only : AllByRecursion (λ p. BelongsToAnEntry enums (reached_terms x.terms) x.tables p.0 p.1) (names_of state)

-- ---- all levels

-- a list that goes on behind another
abbrev pub GoesOn : {A : Type 0} → List A → List A → Type 0
GoesOn {A} xs ys = (more : List A) × (ys ≡ xs ++ more)

-- An upper stage has all that the lower one has, and more behind it: the entries and the terms of its own level. So what is
-- named at a level stays named above it, and the parts of an entry have entries at its level or below it.
pub record IsAbove (upper lower : Stage) : Type 0 where
  pub terms : GoesOn lower.terms upper.terms
  pub named_terms : GoesOn lower.tables.terms upper.tables.terms
  pub named_types : GoesOn lower.tables.types upper.tables.types
  pub named_functions : GoesOn lower.tables.functions upper.tables.functions

-- each stage is above the next
abbrev pub AreAbove : Stage → List Stage → Type 0
AreAbove x [] = ⊤
AreAbove x (y ∷ ys) = IsAbove x y × AreAbove y ys

-- There are as many stages as levels, each of which fits.
abbrev pub FitBelow : Enums → List Stage → List Level → Type 0
FitBelow enums [] [] = ⊤
FitBelow enums (x ∷ xs) (l ∷ ls) = FitsAt enums x (back_at l ls) × FitBelow enums xs ls
FitBelow enums xs ls = ⊥

-- before the first line of an encoder nothing is declared or asserted, and nothing is named
abbrev pub FitsNow : Enums → Bool → Stage → State → Type 0
FitsNow enums true x state = FitsAt enums x state
FitsNow enums false x state = (x ≡ no_stage) × (state ≡ start)

-- A text and stages fit: the text is a script without `exit`, each of whose levels fits its stage.
pub record Fits (enums : Enums) (text : List ℕ) (x : Stages) : Type 0 where
  pub state : State
  pub script : IsOpenScript text state
  -- The members of each enum type ascend.
  pub enum_types : AreEnums enums
  pub levels : AreAbove x.now x.below
  pub now : FitsNow enums x.begun x.now state
  pub below : FitBelow enums x.below state.below

-- ---- the laws

-- Where names are drawn by the places of entries, two keys of a table have two names.
abbrev pub DrawnNamesDiffer : Type 0
DrawnNamesDiffer = (enums : Enums) (s : Tables) → NamesAreDrawn enums s → IsOneToOne s

-- Wherever a text and stages fit, the script's state represents the terms that are encoded at its levels, in order.
abbrev pub FittingTextsRepresent : Type 0
FittingTextsRepresent =
    (enums : Enums) (text : List ℕ) (x : Stages) (f : Fits enums text x) → Represents enums x.now.tables x.now.terms f.state

-- typed, and without fault
abbrev pub IsSoundTerm : Enums → PlainTerm → Type 0
IsSoundTerm enums t = (typed t ≡ true) × (term_fault enums t ≡ None)

-- The keys of terms are typed and have no fault, since they are parts of conditions.
abbrev pub KeysAreSound : Type 0
KeysAreSound = (enums : Enums) (x : Stage) (state : State) → FitsAt enums x state → EachEntry (λ t n. IsSoundTerm enums t) x.tables.terms

-- the empty text fits new stages
abbrev pub EmptyTextFits : Type 0
EmptyTextFits = (enums : Enums) → AreEnums enums → Fits enums [] new_stages

-- the lines of a call keep that a text and stages fit
abbrev pub CallsKeepFit : Type 0
CallsKeepFit = (enums : Enums) (text : List ℕ) (x : Stages) (c : Call) → Fits enums text x → IsCallOfConditions enums c (encoding_of x)
    → Fits enums (text ++ spelled_lines (lines_of_call enums c (encoding_of x))) (stages_after enums c x)

-- the lines of a list of calls keep that a text and stages fit
abbrev pub CallListsKeepFit : Type 0
CallListsKeepFit =
    (enums : Enums) (text : List ℕ) (x : Stages) (cs : List Call) → Fits enums text x → AreCallsOfConditions enums cs (encoding_of x)
    → Fits enums (text ++ spelled_lines (lines_of_calls enums cs (encoding_of x))) (stages_after_calls enums cs x)

-- a command that leaves each state as it is
abbrev pub IsIdle : Command → Type 0
IsIdle c = (s : State) → step c s ≡ Some s

-- Such are these.
abbrev pub TheseAreIdle : Type 0
TheseAreIdle = IsIdle CheckSat × IsIdle GetModel × IsIdle (SetLogic (codes "ALL"))

-- a line of a command that leaves each state as it is keeps that a text and stages fit
abbrev pub IdleLinesKeepFit : Type 0
IdleLinesKeepFit =
    (enums : Enums) (text line : List ℕ) (x : Stages) (c : Command) → Fits enums text x → IsIdle c → IsLine line (c ∷ []) →
    Fits enums (text ++ line) x

-- a comment keeps that a text and stages fit
abbrev pub CommentsKeepFit : Type 0
CommentsKeepFit = (enums : Enums) (text line : List ℕ) (x : Stages) → Fits enums text x → IsLine line [] → Fits enums (text ++ line) x
