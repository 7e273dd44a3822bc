-- Interpretations of terms carried to interpretations of a script, and back.
use Rattle.std.specs.Prelude.{◌≡◌, ℕ, Bool, true, false, ◌&&◌, bytes_eq, codes, if◌then◌else◌, map, List, [], Option, Some, None, IsTrue, ⊤}
use Rattle.std.specs.List.{AllByRecursion}
use Rattle.std.specs.Option.{is_some, option_or}
use Rattle.law_terms.specs.Plain.{IpAddrKind, PlainType, OptionType, BitVecType, BoolType, EntityType, ExtensionType, StringType}
use Rattle.law_terms.specs.Plain.{RecordType, SetType, PlainFunction, ExtensionOp, IpAddrV4Op, IpAddrV6Op, IpPrefixV4Op, IpPrefixV6Op}
use Rattle.law_terms.specs.Plain.{PlainOp, ExtOp, OptionGetOp, UufOp, PlainTerm, Application, VariableTerm}
use Rattle.law_scripts.specs.ScriptValues.{ScriptValue}
use Rattle.law_terms.specs.Interpretations.{IsInterpretation, Agree}
use Rattle.law_terms.specs.Reached.{reached_terms, selector_of_extension}
use Rattle.law_terms.specs.Tables.{Table, Interpretation}
use Rattle.law_terms.specs.Types.{extension_signature}
use Rattle.law_terms.specs.TypeValues.{Enums, AreEnums}
use Rattle.law_texts.specs.Lexicon.{Name, Number}
use Rattle.law_texts.specs.Reading.{Expression, Leaf, Node, Nil, Cons}
use Rattle.law_scripts.specs.Sorts.{Entries, has_sort_in, option_sort}
use Rattle.law_scripts.specs.Value as script
use Rattle.law_scripts.specs.Value.{is_table, are_others}
use Rattle.law_lines.specs.NameTables.{Tables, name_of_term, name_of_function, text_of_name, name_of_type}
use Rattle.law_lines.specs.Naming.{type_name, IsOneToOne, type_sort}
use Rattle.law_theorem.specs.Carry.{key_of, carry, back, nothing_carried}
use Rattle.law_lines.specs.EntryNames.{selector_name}
use Rattle.law_theorem.specs.CarriedOperators.{carry_table, carry_selector, selector_constructor}
use Rattle.law_theorem.specs.CarriedSorts.{DeclaresOption, TypeIsDeclared}

-- the type of IP ranges
abbrev pub ip_type : PlainType
ip_type = ExtensionType IpAddrKind

-- ---- the type whose sort an expression is

-- the type whose sort is `Bool` or `String`, if the name is one of these
abbrev pub built_in_type : List ℕ → Option PlainType
built_in_type n = if bytes_eq n (codes "Bool") then Some BoolType else (if bytes_eq n (codes "String") then Some StringType else None)

-- the type whose sort is `(Option S)` or `(Set S)`, where S is the sort of the type given
abbrev pub wrapped_type : (head : Expression) → Option PlainType → Option PlainType
wrapped_type (Leaf (Name n)) (Some t) =
    if bytes_eq n (codes "Option") then Some (OptionType t) else (if bytes_eq n (codes "Set") then Some (SetType t) else None)
wrapped_type e t = None

-- the bitvector type whose sort is `(_ BitVec n)`, from its three parts
abbrev pub width_type : (underscore bits width : Expression) → Option PlainType
width_type (Leaf (Name a)) (Leaf (Name b)) (Leaf (Number n)) =
    if bytes_eq a (codes "_") && bytes_eq b (codes "BitVec") then Some (BitVecType n) else None
width_type a b c = None

-- the type whose sort an expression is, by the names in the tables, if it is one
abbrev pub type_of_sort : Tables → Expression → Option PlainType
type_of_sort s (Leaf (Name n)) = option_or (built_in_type n) (key_of s.types n)
type_of_sort s (Node (Cons head (Cons e Nil))) = wrapped_type head (type_of_sort s e)
type_of_sort s (Node (Cons a (Cons b (Cons c Nil)))) = width_type a b c
type_of_sort s e = None

-- ---- there and back

-- the table of a name that stands for no function and no open selector
abbrev pub no_table : script.Table
no_table = record { pairs = []; default = nothing_carried }

-- what a constant is given: the carried value of the variable for which its name stands
abbrev pub carry_constant : Enums → Tables → Interpretation → Option PlainTerm → ScriptValue
carry_constant enums s I (Some (VariableTerm id t)) = carry enums s t (I.variable id t)
carry_constant enums s I t = nothing_carried

-- what a function of the script is given: the carried table of the function for which its name stands
abbrev pub carry_function : Enums → Tables → Interpretation → Option PlainFunction → script.Table
carry_function enums s I (Some f) = carry_table enums s f.argument f.output (I.function f)
carry_function enums s I None = no_table

-- what `val` of none is given at an option sort: the carried value of `option.get` of none at that option type
abbrev pub carry_inside : Enums → Tables → Interpretation → Option PlainType → ScriptValue
carry_inside enums s I (Some (OptionType t)) = carry enums s t (I.inside_none t)
carry_inside enums s I t = nothing_carried

-- the selector of IP ranges with this name
abbrev pub range_selector : List ℕ → Option ExtensionOp
range_selector n =
    if bytes_eq n (selector_name IpAddrV4Op) then Some IpAddrV4Op
    else (if bytes_eq n (selector_name IpAddrV6Op) then Some IpAddrV6Op
    else (if bytes_eq n (selector_name IpPrefixV4Op) then Some IpPrefixV4Op
    else (if bytes_eq n (selector_name IpPrefixV6Op) then Some IpPrefixV6Op else None)))

-- what a selector of IP ranges is given: the carried table of that operator
abbrev pub carry_found_selector : Enums → Tables → Interpretation → Option ExtensionOp → script.Table
carry_found_selector enums s I (Some o) = carry_selector enums s I o
carry_found_selector enums s I None = no_table

-- An interpretation of terms carried to one of a script: each name of the script is given the carried value or table of what it
-- names in the tables. No belief is needed here: the theorem holds of this carrying, and any with the same laws would do.
abbrev pub carry_interpretation : Enums → Tables → Interpretation → script.ScriptInterpretation
carry_interpretation enums s I = record {
  constants = λ n. carry_constant enums s I (key_of s.terms n);
  functions = λ n. carry_function enums s I (key_of s.functions n);
  options = λ sort. carry_inside enums s I (type_of_sort s sort);
  selectors = λ n. carry_found_selector enums s I (range_selector n);
}

-- a table of a script taken back: each key and value, and the default
abbrev pub back_table : Enums → (argument output : PlainType) → script.Table → Table
back_table enums argument output table = record {
  entries = map (λ p. (back enums argument p.0, back enums output p.1)) table.pairs;
  elsewhere = back enums output table.default;
}

-- the name that the tables have for a variable
abbrev pub variable_name : Tables → List ℕ → PlainType → List ℕ
variable_name s id t = text_of_name (name_of_term s (VariableTerm id t))

-- the name that the tables have for a function
abbrev pub function_name : Tables → PlainFunction → List ℕ
function_name s f = text_of_name (name_of_function s f)

-- An interpretation of a script taken back to one of terms: variables, functions and what the terms leave open are given what their
-- names in the script are.
abbrev pub back_interpretation : Enums → Tables → script.ScriptInterpretation → Interpretation
back_interpretation enums s J = record {
  variable = λ id t. back enums t (J.constants (variable_name s id t));
  function = λ f. back_table enums f.argument f.output (J.functions (function_name s f));
  inside_none = λ t. back enums t (J.options (option_sort (type_sort s t)));
  other_family = λ o. back_table enums ip_type (extension_signature o).1 (J.selectors (selector_name o));
}

-- ---- what the terms reach, by name

-- one of the selectors of IP ranges, which an interpretation answers for the other family
abbrev pub is_range_selector : ExtensionOp → Bool
is_range_selector o = is_some (selector_of_extension o)

-- J gives a selector a table of its sorts, for values of the other constructor.
abbrev pub IsGivenRange : Tables → Entries → script.ScriptInterpretation → ExtensionOp → Bool → Type 0
IsGivenRange s here J o true =
    IsTrue (is_table here (type_sort s ip_type) (type_sort s (extension_signature o).1) (J.selectors (selector_name o)))
    × IsTrue (are_others (selector_constructor o) (J.selectors (selector_name o)).pairs)
IsGivenRange s here J o false = ⊤

-- J gives what an operator asks of it a value or a table of its sort: a function, `val` of none, or a selector of IP ranges.
abbrev pub IsScriptGivenOp : Tables → Entries → script.ScriptInterpretation → PlainOp → PlainType → Type 0
IsScriptGivenOp s here J (UufOp f) t =
    IsTrue (is_table here (type_sort s f.argument) (type_sort s f.output) (J.functions (function_name s f)))
IsScriptGivenOp s here J OptionGetOp t = IsTrue (has_sort_in here (type_sort s t) (J.options (option_sort (type_sort s t))))
IsScriptGivenOp s here J (ExtOp o) t = IsGivenRange s here J o (is_range_selector o)
IsScriptGivenOp s here J op t = ⊤

-- J gives what one term asks of it a value or a table of its sort.
abbrev pub IsScriptGiven : Tables → Entries → script.ScriptInterpretation → PlainTerm → Type 0
IsScriptGiven s here J (VariableTerm id t) = IsTrue (has_sort_in here (type_sort s t) (J.constants (variable_name s id t)))
IsScriptGiven s here J (Application op ts t) = IsScriptGivenOp s here J op t
IsScriptGiven s here J t = ⊤

-- J gives each name of what the terms reach a value or a table of its sort.
abbrev pub GivesReachedNames : Tables → Entries → List PlainTerm → script.ScriptInterpretation → Type 0
GivesReachedNames s here ts J = AllByRecursion (IsScriptGiven s here J) (reached_terms ts)

-- J and K give a selector of IP ranges one table.
abbrev pub GiveRangeSame : script.ScriptInterpretation → script.ScriptInterpretation → ExtensionOp → Bool → Type 0
GiveRangeSame J K o true = J.selectors (selector_name o) ≡ K.selectors (selector_name o)
GiveRangeSame J K o false = ⊤

-- J and K give what an operator asks of them the same: a function, `val` of none, or a selector of IP ranges.
abbrev pub GiveOpSame : Tables → script.ScriptInterpretation → script.ScriptInterpretation → PlainOp → PlainType → Type 0
GiveOpSame s J K (UufOp f) t = J.functions (function_name s f) ≡ K.functions (function_name s f)
GiveOpSame s J K OptionGetOp t = J.options (option_sort (type_sort s t)) ≡ K.options (option_sort (type_sort s t))
GiveOpSame s J K (ExtOp o) t = GiveRangeSame J K o (is_range_selector o)
GiveOpSame s J K op t = ⊤

-- J and K give a term's name the same.
abbrev pub GiveNameSame : Tables → script.ScriptInterpretation → script.ScriptInterpretation → PlainTerm → Type 0
GiveNameSame s J K (VariableTerm id t) = J.constants (variable_name s id t) ≡ K.constants (variable_name s id t)
GiveNameSame s J K (Application op ts t) = GiveOpSame s J K op t
GiveNameSame s J K t = ⊤

-- J and K give each name of what the terms reach the same.
abbrev pub AgreeOnNames : Tables → List PlainTerm → script.ScriptInterpretation → script.ScriptInterpretation → Type 0
AgreeOnNames s ts J K = AllByRecursion (GiveNameSame s J K) (reached_terms ts)

-- ---- names of what is reached

-- each type that wants a name has one, outside of records
abbrev pub TypeIsNamed : Tables → PlainType → Type 0
TypeIsNamed s (OptionType t) = TypeIsNamed s t
TypeIsNamed s (EntityType type) = name_of_type s (EntityType type) ≡ Some (type_name s (EntityType type))
TypeIsNamed s (ExtensionType kind) = name_of_type s (ExtensionType kind) ≡ Some (type_name s (ExtensionType kind))
TypeIsNamed s (RecordType x) = name_of_type s (RecordType x) ≡ Some (type_name s (RecordType x))
TypeIsNamed s (SetType t) = TypeIsNamed s t
TypeIsNamed s t = ⊤

-- where the operator is a selector of IP ranges, their datatype is declared
abbrev pub IsRangeNamed : Enums → Tables → Entries → ExtensionOp → Bool → Type 0
IsRangeNamed enums s here o true = TypeIsDeclared enums s here ip_type
IsRangeNamed enums s here o false = ⊤

-- what an operator asks of an interpretation has a name, and its types are declared
abbrev pub IsOpNamed : Enums → Tables → Entries → PlainOp → PlainType → Type 0
IsOpNamed enums s here (UufOp f) t =
    (name_of_function s f ≡ Some (function_name s f)) × TypeIsDeclared enums s here f.argument × TypeIsDeclared enums s here f.output
IsOpNamed enums s here OptionGetOp t = TypeIsDeclared enums s here t × TypeIsNamed s t
IsOpNamed enums s here (ExtOp o) t = IsRangeNamed enums s here o (is_range_selector o)
IsOpNamed enums s here op t = ⊤

-- what one term asks of an interpretation has a name, and its types are declared
abbrev pub IsTermNamed : Enums → Tables → Entries → PlainTerm → Type 0
IsTermNamed enums s here (VariableTerm id t) =
    (name_of_term s (VariableTerm id t) ≡ Some (variable_name s id t)) × TypeIsDeclared enums s here t
IsTermNamed enums s here (Application op ts t) = IsOpNamed enums s here op t
IsTermNamed enums s here t = ⊤

-- What the laws of carrying ask: enum types in order, `Option` declared, one name for each entry of the tables, and names and
-- declared types for all that the terms reach.
pub record DeclaresReached (enums : Enums) (s : Tables) (here : Entries) (ts : List PlainTerm) : Type 0 where
  pub enum_types : AreEnums enums
  pub always : DeclaresOption here
  pub one_to_one : IsOneToOne s
  pub named : AllByRecursion (IsTermNamed enums s here) (reached_terms ts)

-- A carried interpretation gives each name a value or a table of its sort.
abbrev pub CarriedInterpretationsHaveSorts : Type 0
CarriedInterpretationsHaveSorts =
    (enums : Enums) (s : Tables) (here : Entries) (ts : List PlainTerm) (I : Interpretation) → DeclaresReached enums s here ts
    → IsInterpretation enums ts I → GivesReachedNames s here ts (carry_interpretation enums s I)

-- What comes back of a script's interpretation is an interpretation.
abbrev pub BackIsInterpretation : Type 0
BackIsInterpretation =
    (enums : Enums) (s : Tables) (here : Entries) (ts : List PlainTerm) (J : script.ScriptInterpretation) → DeclaresReached enums s here ts
    → GivesReachedNames s here ts J → IsInterpretation enums ts (back_interpretation enums s J)

-- That, carried, gives each name what the script's interpretation gives.
abbrev pub CarryingBackAgrees : Type 0
CarryingBackAgrees =
    (enums : Enums) (s : Tables) (here : Entries) (ts : List PlainTerm) (J : script.ScriptInterpretation) → DeclaresReached enums s here ts
    → GivesReachedNames s here ts J → AgreeOnNames s ts (carry_interpretation enums s (back_interpretation enums s J)) J

-- What is carried comes back, as far as the terms reach it.
abbrev pub InterpretationsComeBack : Type 0
InterpretationsComeBack =
    (enums : Enums) (s : Tables) (here : Entries) (ts : List PlainTerm) (I : Interpretation) → DeclaresReached enums s here ts
    → IsInterpretation enums ts I → Agree ts I (back_interpretation enums s (carry_interpretation enums s I))
