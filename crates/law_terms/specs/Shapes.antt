-- The shape of a type's values: as the values of the type, but with any code points, and any id in place of an enum type's member.
use Rattle.std.specs.Prelude.{◌≡◌, ◌^◌, ◌<◌, [], ◌∷◌, IsTrue, ⊤}
use Rattle.std.specs.List.{AllByRecursion}
use Rattle.law_terms.specs.Formed.{IsFormed}
use Rattle.law_terms.specs.Interpretations.{IsInterpretation}
use Rattle.law_terms.specs.Meaning.{term_value}
use Rattle.law_terms.specs.Tables.{Interpretation}
use Rattle.law_terms.specs.Typing.{Typed}
use Rattle.law_terms.specs.TypeValues.{Enums, IsValue, IsExtension}
use Rattle.law_terms.specs.ValueOrder.{value_cmp, ascends, list_of_values}
use Rattle.law_terms.specs.Plain.{PlainType, OptionType, BitVecType, BoolType, EntityType, ExtensionType, StringType, RecordType, SetType}
use Rattle.law_terms.specs.Plain.{AttributeTypes, no_attributes, attribute, PlainTerm}
use Rattle.law_terms.specs.Values.{Value, BoolValue, BitVecValue, StringValue, EntityValue, ExtensionValue, NoneValue, SomeValue}
use Rattle.law_terms.specs.Values.{RecordValue, SetValue, FieldValues, no_field_values, one_field_value}

abbrev mutual
  -- a value has the shape of a type: as a value of the type, but with any code points, and any id of an entity
  pub IsShaped : PlainType → Value → Type 0
  IsShaped BoolType (BoolValue b) = ⊤
  IsShaped (BitVecType n) (BitVecValue m a) = (m ≡ n) × (a < 2 ^ n)
  IsShaped StringType (StringValue s) = ⊤
  IsShaped (EntityType e) (EntityValue f i) = f ≡ e
  IsShaped (ExtensionType k) (ExtensionValue x) = IsExtension k x
  IsShaped (OptionType t) NoneValue = ⊤
  IsShaped (OptionType t) (SomeValue v) = IsShaped t v
  IsShaped (RecordType x) (RecordValue fs) = AreShapedFields x fs
  IsShaped (SetType t) (SetValue vs) =
      IsTrue (ascends value_cmp (list_of_values vs)) × AllByRecursion (λ v. IsShaped t v) (list_of_values vs)
  IsShaped t v = ⊥

  -- the attributes are the type's, in its order
  pub AreShapedFields : AttributeTypes → FieldValues → Type 0
  AreShapedFields no_attributes no_field_values = ⊤
  AreShapedFields (attribute a t x) (one_field_value b v fs) = (b ≡ a) × IsShaped t v × AreShapedFields x fs
  AreShapedFields x fs = ⊥

-- a value of a type has its shape
abbrev pub ValuesAreShaped : Type 0
ValuesAreShaped = (enums : Enums) (ty : PlainType) (v : Value) → IsValue enums ty v → IsShaped ty v

-- a typed term has in every interpretation a value of the shape of its type, whatever its faults
abbrev pub TypedTermsHaveShapes : Type 0
TypedTermsHaveShapes =
    (enums : Enums) (I : Interpretation) (t : PlainTerm) (ty : PlainType) → Typed t ty → IsFormed t → IsInterpretation enums (t ∷ []) I →
    IsShaped ty (term_value I t)
