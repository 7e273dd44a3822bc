-- What a state that fits the tables gives to carrying.
use Rattle.std.specs.Prelude.{◌≡◌, List, [], Some, IsSome, IsTrue, ⊤}
use Rattle.std.specs.List.{AllByRecursion}
use Rattle.law_terms.specs.Plain.{PlainType, PlainOp, UufOp, PlainTerm, Application, VariableTerm, terms}
use Rattle.law_terms.specs.Reached.{reached_terms}
use Rattle.law_terms.specs.TypeValues.{Enums, AreEnums}
use Rattle.law_scripts.specs.Script.{Constant, Function, State, names_of, assertions_of}
use Rattle.law_scripts.specs.Sorts.{Entries, entries, has_sort_in}
use Rattle.law_scripts.specs.Value.{ScriptInterpretation, IsScriptInterpretation, is_table, selections_in}
use Rattle.law_lines.specs.NameTables.{Tables}
use Rattle.law_lines.specs.Entries.{TypeHasEntries}
use Rattle.law_lines.specs.TermTexts.{text_of}
use Rattle.law_lines.specs.Naming.{IsOneToOne, type_sort}
use Rattle.law_lines.specs.Encodable.{IsEncodableType, AreEncodable}
use Rattle.law_lines.specs.Fit.{Fit}
use Rattle.law_theorem.specs.CarriedInterpretations.{variable_name, function_name, IsTermNamed, DeclaresReached}
use Rattle.law_theorem.specs.Open.{IsOpenEntry}
use Rattle.law_theorem.specs.CarriedSorts.{DeclaresOption, TypeIsDeclared}
use Rattle.law_theorem.specs.Fits.{Stage, FitsAt}

-- A state that fits tables declares the datatype `Option`, and none by the name of a sort that is built in.
abbrev pub OptionIsDeclared : Type 0
OptionIsDeclared = (enums : Enums) (s : Tables) (state : State) → Fit enums s state → DeclaresOption (entries state)

-- A type whose parts have names is declared.
abbrev pub NamedTypesAreDeclared : Type 0
NamedTypesAreDeclared =
    (enums : Enums) (s : Tables) (state : State) (t : PlainType) → Fit enums s state → IsEncodableType enums t → TypeHasEntries s t →
    TypeIsDeclared enums s (entries state) t

-- What encodable terms that have texts reach is named, and its types are declared.
abbrev pub TermsAreNamed : Type 0
TermsAreNamed =
    (enums : Enums) (s : Tables) (state : State) (ts : List PlainTerm) → Fit enums s state → AreEncodable enums (terms ts) →
    AllByRecursion (λ t. IsSome (text_of s t)) ts
    → AllByRecursion (IsTermNamed enums s (entries state)) (reached_terms ts)

-- A state that fits tables with texts of encodable terms declares what they reach.
abbrev pub ReachedIsDeclared : Type 0
ReachedIsDeclared =
    (enums : Enums) (s : Tables) (ts : List PlainTerm) (state : State) → Fit enums s state → AreEncodable enums (terms ts) →
    AreEnums enums → IsOneToOne s
    → AllByRecursion (λ t. IsSome (text_of s t)) ts → DeclaresReached enums s (entries state) ts

-- ---- free names

-- where the operator is a function, it is declared with its sorts, and has no body
abbrev pub IsOpOpen : Tables → Entries → PlainOp → Type 0
IsOpOpen s here (UufOp f) = here (function_name s f) ≡ Some (Function (type_sort s f.argument) (type_sort s f.output))
IsOpOpen s here op = ⊤

-- a variable, or a function, is declared with its sort, and has no body
abbrev pub IsOpen : Tables → Entries → PlainTerm → Type 0
IsOpen s here (VariableTerm id t) = here (variable_name s id t) ≡ Some (Constant (type_sort s t))
IsOpen s here (Application op ts t) = IsOpOpen s here op
IsOpen s here t = ⊤

-- Where a state fits tables, the variables and functions that the terms reach are declared with their sorts, without bodies.
abbrev pub ReachedAreOpen : Type 0
ReachedAreOpen =
    (enums : Enums) (s : Tables) (state : State) (ts : List PlainTerm) → Fit enums s state → DeclaresReached enums s (entries state) ts
    → AllByRecursion (IsOpen s (entries state)) (reached_terms ts)

-- What is declared without a body is a variable or a function that is reached, with its sort.
abbrev pub NamesAreOpen : Type 0
NamesAreOpen =
    (enums : Enums) (x : Stage) (state : State) → FitsAt enums x state →
    AllByRecursion (λ p. IsOpenEntry x.tables (reached_terms x.terms) p.0 p.1) (names_of state)

-- Both, where a stage fits.
abbrev pub FittingStagesDeclare : Type 0
FittingStagesDeclare = (enums : Enums) (x : Stage) (state : State) → AreEnums enums → FitsAt enums x state
    → DeclaresReached enums x.tables (entries state) x.terms
    × AllByRecursion (λ p. IsOpenEntry x.tables (reached_terms x.terms) p.0 p.1) (names_of state)
    × AllByRecursion (IsOpen x.tables (entries state)) (reached_terms x.terms)

-- An assertion applies no selector, since it is a name or a literal.
abbrev pub AssertionsSelectNothing : Type 0
AssertionsSelectNothing =
    (enums : Enums) (x : Stage) (state : State) → FitsAt enums x state → selections_in (entries state) (assertions_of state) ≡ []

-- J gives a function a table of its sorts.
abbrev pub IsOpGiven : Tables → Entries → ScriptInterpretation → PlainOp → Type 0
IsOpGiven s here J (UufOp f) = IsTrue (is_table here (type_sort s f.argument) (type_sort s f.output) (J.functions (function_name s f)))
IsOpGiven s here J op = ⊤

-- J gives a variable a value, and a function a table, of its sort.
abbrev pub IsNameGiven : Tables → Entries → ScriptInterpretation → PlainTerm → Type 0
IsNameGiven s here J (VariableTerm id t) = IsTrue (has_sort_in here (type_sort s t) (J.constants (variable_name s id t)))
IsNameGiven s here J (Application op ts t) = IsOpGiven s here J op
IsNameGiven s here J t = ⊤

-- An interpretation of the script does so for what is reached.
abbrev pub InterpretationsGiveNames : Type 0
InterpretationsGiveNames =
    (s : Tables) (state : State) (ts : List PlainTerm) (J : ScriptInterpretation) →
    AllByRecursion (IsOpen s (entries state)) (reached_terms ts) → IsScriptInterpretation J state
    → AllByRecursion (IsNameGiven s (entries state) J) (reached_terms ts)
