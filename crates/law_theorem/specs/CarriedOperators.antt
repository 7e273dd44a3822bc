-- Operators of terms and of scripts give what is carried of one another.
use Rattle.std.specs.Prelude.{◌≡◌, ℕ, ◌-◌, ◌^◌, ◌≤◌, Bool, true, false, codes, map, List, [], ◌∷◌, ◌++◌, Option, Some, IsTrue, ⊤}
use Rattle.std.specs.List.{AllByRecursion}
use Rattle.law_terms.specs.Plain.{IpAddrKind, DecimalKind, DatetimeKind, DurationKind, PlainType, OptionType, BitVecType, BoolType}
use Rattle.law_terms.specs.Plain.{ExtensionType, SetType, RecordType, AttributeTypes, ExtensionOp, DatetimeOfBitVecOp, DatetimeValOp}
use Rattle.law_terms.specs.Plain.{DecimalValOp, DurationOfBitVecOp, DurationValOp, IpAddrV4Op, IpAddrV6Op, IpIsV4Op, IpPrefixV4Op}
use Rattle.law_terms.specs.Plain.{IpPrefixV6Op, PlainOp, BvnegoOp, EqOp, ExtOp, OptionGetOp, RecordGetOp, UufOp}
use Rattle.law_terms.specs.Values.{Value}
use Rattle.law_scripts.specs.ScriptValues.{ScriptValue, BitsOf, SetOf, ConstructorOf, no_script_values}
use Rattle.law_terms.specs.Types.{result_type, attribute_in, extension_signature}
use Rattle.law_terms.specs.TypeValues.{IsValue, Enums, AreEnums}
use Rattle.law_terms.specs.ValueOrder.{set_of}
use Rattle.law_terms.specs.Tables.{Table, Interpretation, value_at}
use Rattle.law_terms.specs.Operators.{apply, apply_extension, attribute_value, value_inside}
use Rattle.law_terms.specs.Parts.{attribute_names}
use Rattle.law_texts.specs.Reading.{Expression}
use Rattle.law_scripts.specs.Script.{Builds}
use Rattle.law_scripts.specs.Value as script
use Rattle.law_scripts.specs.Value.{operator_value, inserted, in_table, selected, is_built}
use Rattle.law_lines.specs.EntryNames.{place_of, kind_name, v4_name, v6_name, selector_name}
use Rattle.law_lines.specs.NameTables.{Tables}
use Rattle.law_lines.specs.Naming.{type_name}
use Rattle.law_theorem.specs.Carry.{carry, alone}

-- values, each of its type
abbrev pub AreValues : Enums → List PlainType → List Value → Type 0
AreValues enums [] [] = ⊤
AreValues enums (t ∷ ts) (v ∷ vs) = IsValue enums t v × AreValues enums ts vs
AreValues enums ts vs = ⊥

-- values, each carried by its type
abbrev pub carry_each : Enums → Tables → List PlainType → List Value → List ScriptValue
carry_each enums s (t ∷ ts) (v ∷ vs) = carry enums s t v ∷ carry_each enums s ts vs
carry_each enums s ts vs = []

-- the operators that are operators of scripts too
abbrev pub is_script_operator : PlainOp → Bool
is_script_operator BvnegoOp = false
is_script_operator (ExtOp o) = false
is_script_operator OptionGetOp = false
is_script_operator (RecordGetOp x) = false
is_script_operator (UufOp f) = false
is_script_operator op = true

-- An operator at carried values gives the carried value of what it gives.
abbrev pub OperatorsCommute : Type 0
OperatorsCommute =
    (enums : Enums) (s : Tables) (I : Interpretation) (op : PlainOp) (tys : List PlainType) (vs : List Value) (ty : PlainType) →
    AreEnums enums
    → IsTrue (is_script_operator op) → result_type op tys ≡ Some ty → AreValues enums tys vs
    → operator_value op (carry_each enums s tys vs) ≡ Some (carry enums s ty (apply I op ty vs))

-- `bvnego` is written as an equality with the least number of its width.
abbrev pub NegationsCommute : Type 0
NegationsCommute =
    (enums : Enums) (s : Tables) (I : Interpretation) (n : ℕ) (v : Value) → AreEnums enums → 1 ≤ n → IsValue enums (BitVecType n) v
    → operator_value EqOp (carry enums s (BitVecType n) v ∷ BitsOf n (2 ^ (n - 1)) ∷ [])
    ≡ Some (carry enums s BoolType (apply I BvnegoOp BoolType (v ∷ [])))

-- Elements that are put into the empty set make the carried set.
abbrev pub InsertionsCommute : Type 0
InsertionsCommute = (enums : Enums) (s : Tables) (t : PlainType) (vs : List Value) → AreEnums enums → AllByRecursion (IsValue enums t) vs
    → inserted (map (carry enums s t) vs ++ SetOf no_script_values ∷ []) ≡ Some (carry enums s (SetType t) (set_of vs))

-- The selector of an attribute gives the carried value of the attribute.
abbrev pub AttributesAreSelected : Type 0
AttributesAreSelected =
    (enums : Enums) (s : Tables) (j : script.ScriptInterpretation) (n x d : List ℕ) (ps : List (List ℕ)) (sort : Option Expression)
    (attributes : AttributeTypes) (t : PlainType) (v : Value)
    → IsValue enums (RecordType attributes) v → attribute_in x attributes ≡ Some t
    → selected j n d ps (type_name s (RecordType attributes)) (place_of x (attribute_names attributes)) sort
    (carry enums s (RecordType attributes) v) ≡ Some (carry enums s t (attribute_value x v))

-- `val` gives what is inside, or what the interpretation has for none.
abbrev pub OptionsAreSelected : Type 0
OptionsAreSelected =
    (enums : Enums) (s : Tables) (I : Interpretation) (j : script.ScriptInterpretation) (p : List ℕ) (sort : Expression) (t : PlainType)
    (v : Value)
    → IsValue enums (OptionType t) v → j.options sort ≡ carry enums s t (I.inside_none t)
    → selected j (codes "val") (codes "Option") (p ∷ []) (codes "some") 0 (Some sort) (carry enums s (OptionType t) v)
    ≡ Some (carry enums s t (value_inside (I.inside_none t) v))

-- a table with all its pairs
abbrev pub carry_table : Enums → Tables → (argument output : PlainType) → Table → script.Table
carry_table enums s argument output table = record {
  pairs = map (λ e. (carry enums s argument e.0, carry enums s output e.1)) table.entries;
  default = carry enums s output table.elsewhere;
}

-- A carried table gives the carried value of what the table gives.
abbrev pub TablesAreRead : Type 0
TablesAreRead = (enums : Enums) (s : Tables) (argument output : PlainType) (table : Table) (v : Value) → AreEnums enums
    → AllByRecursion (λ e. IsValue enums argument e.0) table.entries → IsValue enums argument v
    → in_table (carry_table enums s argument output table) (carry enums s argument v) ≡ carry enums s output (value_at table v)

-- the datatype to which a selector of an extension type belongs
abbrev pub selector_datatype : ExtensionOp → List ℕ
selector_datatype DecimalValOp = kind_name DecimalKind
selector_datatype DatetimeValOp = kind_name DatetimeKind
selector_datatype DurationValOp = kind_name DurationKind
selector_datatype IpAddrV4Op = kind_name IpAddrKind
selector_datatype IpAddrV6Op = kind_name IpAddrKind
selector_datatype IpPrefixV4Op = kind_name IpAddrKind
selector_datatype IpPrefixV6Op = kind_name IpAddrKind
selector_datatype o = []

-- the constructor to which a selector of an extension type belongs
abbrev pub selector_constructor : ExtensionOp → List ℕ
selector_constructor IpAddrV4Op = v4_name
selector_constructor IpAddrV6Op = v6_name
selector_constructor IpPrefixV4Op = v4_name
selector_constructor IpPrefixV6Op = v6_name
selector_constructor o = selector_datatype o

-- the place of a selector of an extension type in its constructor
abbrev pub selector_place : ExtensionOp → ℕ
selector_place IpPrefixV4Op = 1
selector_place IpPrefixV6Op = 1
selector_place o = 0

-- an operator of extension types that scripts write as a selector: no constructor, and not the test of the family
abbrev pub is_selector : ExtensionOp → Bool
is_selector DatetimeOfBitVecOp = false
is_selector DurationOfBitVecOp = false
is_selector IpIsV4Op = false
is_selector o = true

-- the table that a selector of IP ranges has for the other family
abbrev pub carry_selector : Enums → Tables → Interpretation → ExtensionOp → script.Table
carry_selector enums s I o = carry_table enums s (ExtensionType IpAddrKind) (extension_signature o).1 (I.other_family o)

-- Each key of the table is an IP range.
abbrev pub AreRanges : Enums → Table → Type 0
AreRanges enums table = AllByRecursion (λ e. IsValue enums (ExtensionType IpAddrKind) e.0) table.entries

-- A selector of an extension type gives the carried value, at the other family that of the interpretation's table.
abbrev pub ExtensionsAreSelected : Type 0
ExtensionsAreSelected =
    (enums : Enums) (s : Tables) (I : Interpretation) (j : script.ScriptInterpretation) (o : ExtensionOp) (sort : Expression) (v : Value) →
    AreEnums enums
    → IsTrue (is_selector o) → IsValue enums (extension_signature o).0 v → AreRanges enums (I.other_family o) →
    j.selectors (selector_name o) ≡ carry_selector enums s I o
    → selected j (selector_name o) (selector_datatype o) [] (selector_constructor o) (selector_place o) (Some sort)
    (carry enums s (extension_signature o).0 v) ≡ Some (carry enums s (extension_signature o).1 (apply_extension I o v))

-- The constructors of datetimes and durations, and the test of the family.
abbrev pub ConstructorsCommute : Type 0
ConstructorsCommute =
    (enums : Enums) (s : Tables) (I : Interpretation) (v : Value) (d : List ℕ) (ps : List (List ℕ)) (place : ℕ) (fields : List Expression)
    → (IsValue enums (BitVecType 64) v →
    ConstructorOf 0 (kind_name DatetimeKind) (alone (carry enums s (BitVecType 64) v))
    ≡ carry enums s (ExtensionType DatetimeKind) (apply_extension I DatetimeOfBitVecOp v))
    × (IsValue enums (BitVecType 64) v →
    ConstructorOf 0 (kind_name DurationKind) (alone (carry enums s (BitVecType 64) v))
    ≡ carry enums s (ExtensionType DurationKind) (apply_extension I DurationOfBitVecOp v))
    × (IsValue enums (ExtensionType IpAddrKind) v →
    is_built (Some (Builds d ps place fields)) v4_name (carry enums s (ExtensionType IpAddrKind) v)
    ≡ Some (carry enums s BoolType (apply_extension I IpIsV4Op v)))
