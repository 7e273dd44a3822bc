-- The default of each type of terms, as a literal.
use Rattle.std.specs.Prelude.{ℕ, false, List, [], ◌∷◌, Option, Some, None}
use Rattle.law_folding.specs.FoldRecords.{record_of_pairs}
use Rattle.law_terms.specs.Defaults.{default_extension}
use Rattle.law_terms.specs.Plain.{PlainType, OptionType, BitVecType, BoolType, EntityType, ExtensionType, StringType, RecordType, SetType}
use Rattle.law_terms.specs.Plain.{AttributeTypes, no_attributes, attribute, BitVecLiteral, BoolLiteral, EntityLiteral, ExtensionLiteral}
use Rattle.law_terms.specs.Plain.{StringLiteral, PlainTerm, LiteralTerm, NoneTerm, SetTerm, no_terms}
use Rattle.law_terms.specs.TypeValues.{Enums, members_of}

-- the first of these texts, or the empty text where there is none
abbrev pub first_text : List (List ℕ) → List ℕ
first_text [] = []
first_text (text ∷ texts) = text

-- the first member of an enum type, or the empty id where no members are listed
abbrev pub default_id : Option (List (List ℕ)) → List ℕ
default_id (Some members) = first_text members
default_id None = []

module _ (enums : Enums) where
  abbrev mutual
    -- The default of a type of terms as a literal: no value of an option, the bitvector of zeros, false, the empty text, the
    -- empty set, the record of its attributes' defaults, the default of an extension type, and of an entity type its first
    -- member, or the entity of the empty id where no members are listed.
    pub default_term : PlainType → PlainTerm
    default_term (OptionType t) = NoneTerm t
    default_term (BitVecType n) = LiteralTerm (BitVecLiteral n 0)
    default_term BoolType = LiteralTerm (BoolLiteral false)
    default_term (EntityType e) = LiteralTerm (EntityLiteral e (default_id (members_of enums e)))
    default_term (ExtensionType k) = LiteralTerm (ExtensionLiteral (default_extension k))
    default_term StringType = LiteralTerm (StringLiteral [])
    default_term (RecordType types) = record_of_pairs (default_fields types)
    default_term (SetType t) = SetTerm t no_terms

    -- the attributes of a record type, each with the default of its type
    pub default_fields : AttributeTypes → List (List ℕ × PlainTerm)
    default_fields no_attributes = []
    default_fields (attribute name t others) = (name, default_term t) ∷ default_fields others
