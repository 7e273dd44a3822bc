-- A script whose free names are the names of what the terms reach: its interpretations are those that give each of these
-- names a value or a table of its sort.
use Rattle.std.specs.Prelude.{◌≡◌, ◌⊎◌, ℕ, codes, List, [], ◌∷◌, Option, Some, None, IsTrue, ⊤}
use Rattle.std.specs.List.{AllByRecursion}
use Rattle.law_terms.specs.Plain.{PlainType, PlainFunction, ExtensionOp, ExtOp, OptionGetOp, UufOp, PlainTerm, PlainTerms, Application}
use Rattle.law_terms.specs.Plain.{VariableTerm}
use Rattle.law_terms.specs.Reached.{reached_terms}
use Rattle.law_terms.specs.Types.{extension_signature}
use Rattle.law_texts.specs.Reading.{Expression}
use Rattle.law_scripts.specs.Script.{Entry, Constant, Function, Selects, State, name, names_of}
use Rattle.law_scripts.specs.Sorts.{entries, option_sort}
use Rattle.law_scripts.specs.Value as script
use Rattle.law_scripts.specs.Value.{OpenSelector, ValueOfSort, TableOfSelector, open_selector, IsScriptInterpretation, AgreeFor}
use Rattle.law_scripts.specs.Value.{applied_selectors}
use Rattle.law_lines.specs.Naming.{type_sort}
use Rattle.law_lines.specs.NameTables.{Tables}
use Rattle.law_lines.specs.EntryNames.{selector_name}
use Rattle.law_theorem.specs.CarriedOperators.{selector_constructor}
use Rattle.law_theorem.specs.CarriedInterpretations.{ip_type, is_range_selector, variable_name, function_name, GivesReachedNames}
use Rattle.law_theorem.specs.CarriedInterpretations.{AgreeOnNames}

-- x is one of these
abbrev pub IsAmong : {A : Type 0} → A → List A → Type 0
IsAmong {A} x [] = ⊥
IsAmong {A} x (y ∷ ys) = (y ≡ x) ⊎ IsAmong x ys

-- A declared constant has the name and the sort of a variable that is reached.
pub record IsVariable (s : Tables) (us : List PlainTerm) (n : List ℕ) (sort : Expression) : Type 0 where
  pub id : List ℕ
  pub type : PlainType
  pub reached : IsAmong (VariableTerm id type) us
  pub named : n ≡ variable_name s id type
  pub sorted : sort ≡ type_sort s type

-- A declared function has the name and the sorts of a function that is reached.
pub record IsFunction (s : Tables) (us : List PlainTerm) (n : List ℕ) (argument sort : Expression) : Type 0 where
  pub function : PlainFunction
  pub arguments : PlainTerms
  pub type : PlainType
  pub reached : IsAmong (Application (UufOp function) arguments type) us
  pub named : n ≡ function_name s function
  pub argument_sorted : argument ≡ type_sort s function.argument
  pub sorted : sort ≡ type_sort s function.output

-- A selector is that of an operator on IP ranges that is reached, and belongs to the constructor of its family.
pub record IsRange (s : Tables) (us : List PlainTerm) (n c : List ℕ) (sort field : Expression) : Type 0 where
  pub selector : ExtensionOp
  pub arguments : PlainTerms
  pub type : PlainType
  pub reached : IsAmong (Application (ExtOp selector) arguments type) us
  pub ranges : IsTrue (is_range_selector selector)
  pub named : n ≡ selector_name selector
  pub constructs : c ≡ selector_constructor selector
  pub argument_sorted : sort ≡ type_sort s ip_type
  pub sorted : field ≡ type_sort s (extension_signature selector).1

-- A selector is `val` of the datatype `Option`, at the sort of an option type whose `option.get` is reached.
pub record IsOption (s : Tables) (us : List PlainTerm) (d : List ℕ) (ps : List (List ℕ)) (sort field : Expression) : Type 0 where
  pub arguments : PlainTerms
  pub type : PlainType
  pub reached : IsAmong (Application OptionGetOp arguments type) us
  pub argument_sorted : sort ≡ option_sort (type_sort s type)
  pub datatype : d ≡ codes "Option"
  pub parameters : ps ≡ codes "X" ∷ []
  pub sorted : field ≡ name (codes "X")

-- what is declared and left open is a variable's or a function's name
abbrev pub IsOpenEntry : Tables → List PlainTerm → List ℕ → Entry → Type 0
IsOpenEntry s us n (Constant sort) = IsVariable s us n sort
IsOpenEntry s us n (Function argument sort) = IsFunction s us n argument sort
IsOpenEntry s us n x = ⊤

-- what is left open of a selector stands for what a term reaches: `val` of an option type, or a selector of IP ranges
abbrev pub IsOpenHere : Tables → List PlainTerm → List ℕ → Expression → (datatype : List ℕ) → (parameters : List (List ℕ)) →
    (constructor : List ℕ) → (field : Expression) → Option OpenSelector → Type 0
IsOpenHere s us n sort d ps c field (Some ValueOfSort) = IsOption s us d ps sort field
IsOpenHere s us n sort d ps c field (Some TableOfSelector) = IsRange s us n c sort field
IsOpenHere s us n sort d ps c field None = ⊤

-- What is left open of an applied selector stands for what a term reaches.
abbrev pub IsOpenSelection : Tables → List PlainTerm → List ℕ → Expression → Entry → Type 0
IsOpenSelection s us n sort (Selects d ps c place field) = IsOpenHere s us n sort d ps c field (open_selector n d ps)
IsOpenSelection s us n sort x = ⊤

-- All that the state of a script leaves to an interpretation stands for what the terms reach.
pub record LeavesOpen (s : Tables) (ts : List PlainTerm) (state : State) : Type 0 where
  pub names : AllByRecursion (λ p. IsOpenEntry s (reached_terms ts) p.0 p.1) (names_of state)
  pub selectors : AllByRecursion (λ p. IsOpenSelection s (reached_terms ts) p.selector p.sort p.entry) (applied_selectors state)

-- What gives the reached names values of their sorts is an interpretation of the script.
abbrev pub GivenNamesInterpret : Type 0
GivenNamesInterpret = (s : Tables) (ts : List PlainTerm) (state : State) (J : script.ScriptInterpretation) → LeavesOpen s ts state
    → GivesReachedNames s (entries state) ts J → IsScriptInterpretation J state

-- Interpretations that agree on the reached names agree for the script.
abbrev pub NamesAgree : Type 0
NamesAgree =
    (s : Tables) (ts : List PlainTerm) (state : State) (J K : script.ScriptInterpretation) → LeavesOpen s ts state → AgreeOnNames s ts J K →
    AgreeFor J K state
