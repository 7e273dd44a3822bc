-- Carrying keeps the order of the values of one type.
use Rattle.std.specs.Prelude.{◌≡◌, IsTrue}
use Rattle.law_terms.specs.Plain.{PlainType, SetType}
use Rattle.law_terms.specs.Values.{Value, SetValue, Values}
use Rattle.law_terms.specs.TypeValues.{IsValue, Enums, AreEnums}
use Rattle.law_terms.specs.ValueOrder.{value_cmp, value_eq}
use Rattle.law_scripts.specs.ScriptOrder.{order, same}
use Rattle.law_scripts.specs.ScriptOrder as script
use Rattle.law_lines.specs.NameTables.{Tables}
use Rattle.law_theorem.specs.Carry.{carry, carry_values}

-- Values of one type stand in the order of what they are carried to, whatever names the types have.
abbrev pub CarryingKeepsOrder : Type 0
CarryingKeepsOrder = (enums : Enums) (s : Tables) (ty : PlainType) (v w : Value) → AreEnums enums → IsValue enums ty v → IsValue enums ty w
    → order (carry enums s ty v) (carry enums s ty w) ≡ value_cmp v w

-- Values of one type that are carried to one value are one, and the script's test of equality gives what the terms' gives.
abbrev pub CarryingIsOneToOne : Type 0
CarryingIsOneToOne = (enums : Enums) (s : Tables) (ty : PlainType) (v w : Value) → AreEnums enums → IsValue enums ty v → IsValue enums ty w
    → (carry enums s ty v ≡ carry enums s ty w → v ≡ w) × (same (carry enums s ty v) (carry enums s ty w) ≡ value_eq v w)

-- The elements of a carried set ascend, as the elements of sets of scripts do.
abbrev pub SetsStaySorted : Type 0
SetsStaySorted = (enums : Enums) (s : Tables) (ty : PlainType) (vs : Values) → AreEnums enums → IsValue enums (SetType ty) (SetValue vs)
    → IsTrue (script.ascends (carry_values enums s ty vs))
