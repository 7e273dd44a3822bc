-- The interpretations of a list of terms.
use Rattle.std.specs.Prelude.{bytes_eq, ◌≡◌, ℕ, ◌==◌, Bool, false, cond, ◌&&◌, List, [], ◌∷◌, map, ⊤, IfSome, IsFalse}
use Rattle.std.specs.List.{AllByRecursion, list_any}
use Rattle.law_terms.specs.Reached.{selector_of_extension, reached_terms, reached_variables, reached_functions, reached_options}
use Rattle.law_terms.specs.Reached.{reached_selectors}
use Rattle.law_terms.specs.Tables.{Table, Interpretation}
use Rattle.law_terms.specs.Types.{type_eq, extension_signature}
use Rattle.law_terms.specs.TypeValues.{Enums, IsValue}
use Rattle.law_terms.specs.ValueOrder.{value_eq}
use Rattle.law_terms.specs.Plain.{IpAddrKind, PlainType, ExtensionType, PlainFunction, ExtensionOp, DatetimeOfBitVecOp, DatetimeValOp}
use Rattle.law_terms.specs.Plain.{DecimalValOp, DurationOfBitVecOp, DurationValOp, IpAddrV4Op, IpAddrV6Op, IpIsV4Op, IpPrefixV4Op}
use Rattle.law_terms.specs.Plain.{IpPrefixV6Op, PlainOp, ExtOp, OptionGetOp, UufOp, PlainTerm, Application, VariableTerm, Ipv4Of, Ipv6Of}
use Rattle.law_terms.specs.Values.{Value, BoolValue, ExtensionValue}

-- no value stands twice
abbrev pub AreDistinct : List Value → Type 0
AreDistinct [] = ⊤
AreDistinct (v ∷ vs) = IsFalse (list_any (value_eq v) vs) × AreDistinct vs

-- a table from keys that P takes, no key twice, to values of a type
pub record IsTable (P : Value → Type 0) (enums : Enums) (out : PlainType) (table : Table) : Type 0 where
  pub keys : AllByRecursion (λ e. P e.0) table.entries
  pub distinct : AreDistinct (map (λ e. e.0) table.entries)
  pub answers : AllByRecursion (λ e. IsValue enums out e.1) table.entries
  pub elsewhere : IsValue enums out table.elsewhere

-- an IP range of the family to which the selector does not belong
abbrev pub IsOfOtherFamily : ExtensionOp → Value → Type 0
IsOfOtherFamily IpAddrV4Op (ExtensionValue (Ipv6Of a p)) = ⊤
IsOfOtherFamily IpPrefixV4Op (ExtensionValue (Ipv6Of a p)) = ⊤
IsOfOtherFamily IpAddrV6Op (ExtensionValue (Ipv4Of a p)) = ⊤
IsOfOtherFamily IpPrefixV6Op (ExtensionValue (Ipv4Of a p)) = ⊤
IsOfOtherFamily o v = ⊥

-- I has for a selector a table from IP ranges of the other family to values of the type that the selector gives
abbrev pub IsSelectorTable : Enums → Interpretation → ExtensionOp → Type 0
IsSelectorTable enums I o =
    IsTable (λ v. IsOfOtherFamily o v × IsValue enums (ExtensionType IpAddrKind) v) enums (extension_signature o).1 (I.other_family o)

-- I gives what a selector of IP ranges asks of it; the other operators of extension types ask nothing
abbrev pub IsGivenSelector : Enums → Interpretation → ExtensionOp → Type 0
IsGivenSelector enums I IpAddrV4Op = IsSelectorTable enums I IpAddrV4Op
IsGivenSelector enums I IpAddrV6Op = IsSelectorTable enums I IpAddrV6Op
IsGivenSelector enums I IpPrefixV4Op = IsSelectorTable enums I IpPrefixV4Op
IsGivenSelector enums I IpPrefixV6Op = IsSelectorTable enums I IpPrefixV6Op
IsGivenSelector enums I o = ⊤

-- I gives a function its table, `option.get` its value at none, and a selector its table for the other family
abbrev pub IsGivenOp : Enums → Interpretation → PlainOp → PlainType → Type 0
IsGivenOp enums I (UufOp f) t = IsTable (IsValue enums f.argument) enums f.output (I.function f)
IsGivenOp enums I OptionGetOp t = IsValue enums t (I.inside_none t)
IsGivenOp enums I (ExtOp o) t = IsGivenSelector enums I o
IsGivenOp enums I o t = ⊤

-- I gives what one term asks of it: a variable its value
abbrev pub IsGiven : Enums → Interpretation → PlainTerm → Type 0
IsGiven enums I (VariableTerm id t) = IsValue enums t (I.variable id t)
IsGiven enums I (Application o ts t) = IsGivenOp enums I o t
IsGiven enums I t = ⊤

-- I gives values of their types to all that the terms reach (SMT-LIB 2.7, chapter 5, "Logical Semantics"). What they do not reach
-- is free.
abbrev pub IsInterpretation : Enums → List PlainTerm → Interpretation → Type 0
IsInterpretation enums ts I = AllByRecursion (IsGiven enums I) (reached_terms ts)

-- I and J give the same to an operator: to a function its table, to `option.get` its value at none, to a selector its table
abbrev pub GiveSameOp : Interpretation → Interpretation → PlainOp → PlainType → Type 0
GiveSameOp I J (UufOp f) t = I.function f ≡ J.function f
GiveSameOp I J OptionGetOp t = I.inside_none t ≡ J.inside_none t
GiveSameOp I J (ExtOp o) t = IfSome (selector_of_extension o) (λ s. I.other_family s ≡ J.other_family s)
GiveSameOp I J o t = ⊤

-- I and J give a term the same: a variable its value, and an application what its operator asks for
abbrev pub GiveSame : Interpretation → Interpretation → PlainTerm → Type 0
GiveSame I J (VariableTerm id t) = I.variable id t ≡ J.variable id t
GiveSame I J (Application o ts t) = GiveSameOp I J o t
GiveSame I J t = ⊤

-- I and J agree on all that the terms reach
abbrev pub Agree : List PlainTerm → Interpretation → Interpretation → Type 0
Agree ts I J = AllByRecursion (GiveSame I J) (reached_terms ts)

-- equality of functions, as a test
abbrev pub function_eq : PlainFunction → PlainFunction → Bool
function_eq f g = bytes_eq f.id g.id && (type_eq f.argument g.argument && type_eq f.output g.output)

-- the place of an operator of extension types in the order of operators
abbrev pub extension_op_place : ExtensionOp → ℕ
extension_op_place DatetimeOfBitVecOp = 0
extension_op_place DatetimeValOp = 1
extension_op_place DecimalValOp = 2
extension_op_place DurationOfBitVecOp = 3
extension_op_place DurationValOp = 4
extension_op_place IpAddrV4Op = 5
extension_op_place IpAddrV6Op = 6
extension_op_place IpIsV4Op = 7
extension_op_place IpPrefixV4Op = 8
extension_op_place IpPrefixV6Op = 9

-- two variables are of one id and one type; two of one id and different types are two variables
abbrev pub variable_eq : (List ℕ × PlainType) → (List ℕ × PlainType) → Bool
variable_eq v w = bytes_eq v.0 w.0 && type_eq v.1 w.1

-- equality of operators of extension types, as a test
abbrev pub selector_eq : ExtensionOp → ExtensionOp → Bool
selector_eq o p = extension_op_place o == extension_op_place p

-- the value that stands where none is used: false
abbrev pub unused_value : Value
unused_value = BoolValue false

-- the table that stands where the terms reach no function and no selector
abbrev pub empty_table : Table
empty_table = record { entries = []; elsewhere = unused_value }

-- what the terms reach of I, and nothing else of it
abbrev pub restrict : Interpretation → List PlainTerm → Interpretation
restrict I ts =
    record {
      variable =
          λ id t.
          cond (list_any (variable_eq (id, t)) (reached_variables ts)) (I.variable id t) unused_value;
      function =
          λ f.
          cond (list_any (function_eq f) (reached_functions ts)) (I.function f) empty_table;
      inside_none =
          λ t.
          cond (list_any (type_eq t) (reached_options ts)) (I.inside_none t) unused_value;
      other_family = λ o. cond (list_any (selector_eq o) (reached_selectors ts)) (I.other_family o) empty_table;
    }
