-- A value of each type, and the interpretation that gives it everywhere.
use Rattle.std.specs.Prelude.{ℕ, false, List, [], ◌∷◌, pos, Option, Some, None}
use Rattle.std.specs.Str.{chars}
use Rattle.law_terms.specs.Tables.{Interpretation}
use Rattle.law_terms.specs.Types.{extension_signature}
use Rattle.law_terms.specs.TypeValues.{Enums, members_of}
use Rattle.law_terms.specs.Plain.{ExtensionKind, IpAddrKind, DecimalKind, DatetimeKind, DurationKind, PlainType, OptionType, BitVecType}
use Rattle.law_terms.specs.Plain.{BoolType, EntityType, ExtensionType, StringType, RecordType, SetType, AttributeTypes, no_attributes}
use Rattle.law_terms.specs.Plain.{attribute, PlainExtension, DecimalOf, Ipv4Of, DatetimeOf, DurationOf}
use Rattle.law_terms.specs.Values.{Value, BoolValue, BitVecValue, StringValue, EntityValue, ExtensionValue, NoneValue, RecordValue}
use Rattle.law_terms.specs.Values.{SetValue, no_values, FieldValues, no_field_values, one_field_value}

-- the first member, or the empty id
abbrev pub default_id : Option (List (List ℕ)) → List ℕ
default_id (Some (m ∷ ms)) = chars m
default_id members = []

-- the number 0, and of IP addresses the IPv4 address 0 without prefix
abbrev pub default_extension : ExtensionKind → PlainExtension
default_extension IpAddrKind = Ipv4Of 0 None
default_extension DecimalKind = DecimalOf (pos 0)
default_extension DatetimeKind = DatetimeOf (pos 0)
default_extension DurationKind = DurationOf (pos 0)

module _ (enums : Enums) where
  abbrev mutual
    -- A value of the type: none, 0, false, the empty text, an enum's first member, the empty set, and a record of these.
    pub default_value : PlainType → Value
    default_value (OptionType t) = NoneValue
    default_value (BitVecType n) = BitVecValue n 0
    default_value BoolType = BoolValue false
    default_value (EntityType e) = EntityValue e (default_id (members_of enums e))
    default_value (ExtensionType k) = ExtensionValue (default_extension k)
    default_value StringType = StringValue []
    default_value (RecordType x) = RecordValue (default_fields x)
    default_value (SetType t) = SetValue no_values

    -- the attributes of a record type, each with the default value of its type
    pub default_fields : AttributeTypes → FieldValues
    default_fields no_attributes = no_field_values
    default_fields (attribute a t x) = one_field_value a (default_value t) (default_fields x)

  -- the interpretation that gives to all that is left open the default value of its type
  abbrev pub default_interpretation : Interpretation
  default_interpretation =
      record {
        variable =
            λ id t.
            default_value t;
        function =
            λ f.
            record { entries = []; elsewhere = default_value f.output };
        inside_none = λ t. default_value t;
        other_family = λ o. record { entries = []; elsewhere = default_value (extension_signature o).1 };
      }
