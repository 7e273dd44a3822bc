-- Values and interpretations that are carried.
use Rattle.std.specs.Prelude.{◌≡◌, ℕ, codes, true, false, Some, List, [], ◌∷◌}
use Rattle.law_terms.specs.Plain.{PlainType, BoolType, EntityType, RecordType, OptionType, SetType, no_attributes, attribute}
use Rattle.law_terms.specs.Tables.{Table, Interpretation}
use Rattle.law_terms.specs.Values.{Value, BoolValue, EntityValue, RecordValue, one_field_value, no_field_values}
use Rattle.law_scripts.specs.ScriptValues.{TruthOf, ConstructorOf, no_script_values, one_script_value}
use Rattle.law_lines.specs.Naming.{type_sort}
use Rattle.law_lines.specs.Text.{names}
use Rattle.law_lines.specs.Rows.{not_b, record_term, color_term, colors, split_attribute}
use Rattle.law_theorem.specs.Carry.{carry, back}
use Rattle.law_theorem.specs.CarriedInterpretations.{carry_interpretation, back_interpretation, type_of_sort}

-- a table that is false everywhere
abbrev pub no_entries : Table
no_entries = record { entries = []; elsewhere = BoolValue false }

-- an interpretation that gives variables these values, and false to all else
abbrev pub with_variables : (List ℕ → PlainType → Value) → Interpretation
with_variables variable =
    record { variable = variable; function = λ f. no_entries; inside_none = λ t. BoolValue false; other_family = λ o. no_entries }

-- where the variable b of `not b` is true, its name t0 is given true
abbrev pub NegationCarries : Type 0
NegationCarries =
    (carry_interpretation [] (names [] (not_b ∷ [])) (with_variables (λ id type. BoolValue true))).constants (codes "t0") ≡ TruthOf true

-- where b is true, it is true again once the interpretation is carried and taken back
abbrev pub NegationComesBack : Type 0
NegationComesBack =
    (back_interpretation [] (names [] (not_b ∷ []))
    (carry_interpretation [] (names [] (not_b ∷ [])) (with_variables (λ id type. BoolValue true)))).variable
    (codes "b") BoolType ≡ BoolValue true

-- a record type with one attribute of type Bool, whose name has a line end in it
abbrev pub record_of_one : PlainType
record_of_one = RecordType (attribute split_attribute BoolType no_attributes)

-- a variable that is such a record is given its constructor at the carried value of the attribute
abbrev pub RecordCarries : Type 0
RecordCarries =
    (carry_interpretation [] (names [] (record_term ∷ []))
    (with_variables (λ id type. RecordValue (one_field_value split_attribute (BoolValue true) no_field_values)))).constants
    (codes "t0")
    ≡ ConstructorOf 0 (codes "R0") (one_script_value (TruthOf true) no_script_values)

-- the constructor of a record at true comes back as the record whose attribute is true
abbrev pub RecordComesBack : Type 0
RecordComesBack = back [] record_of_one (ConstructorOf 0 (codes "R0") (one_script_value (TruthOf true) no_script_values))
    ≡ RecordValue (one_field_value split_attribute (BoolValue true) no_field_values)

-- the second member of an enum type becomes the second constructor
abbrev pub MemberCarries : Type 0
MemberCarries = carry colors (names colors (color_term ∷ [])) (EntityType (codes "Color")) (EntityValue (codes "Color") (codes "b"))
    ≡ ConstructorOf 1 (codes "E0_m1") no_script_values

-- the second constructor comes back as the second member of the enum type
abbrev pub MemberComesBack : Type 0
MemberComesBack =
    back colors (EntityType (codes "Color")) (ConstructorOf 1 (codes "E0_m1") no_script_values) ≡ EntityValue (codes "Color") (codes "b")

-- the type of sets of options of an enum type
abbrev pub set_of_options : PlainType
set_of_options = SetType (OptionType (EntityType (codes "Color")))

-- from the sort of sets of options of an enum type that type is found again
abbrev pub SortsComeBack : Type 0
SortsComeBack =
    type_of_sort (names colors (color_term ∷ [])) (type_sort (names colors (color_term ∷ [])) set_of_options) ≡ Some set_of_options
