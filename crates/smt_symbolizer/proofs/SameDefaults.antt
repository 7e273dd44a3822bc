-- The defaults of types are read off look-ups of enum types alone.
use Rattle.std.proofs.Common.{◌≡◌, ℕ, List, ◌∷◌, refl, ap}
use Rattle.law_folding.specs.FoldRecords.{record_of_pairs}
use Rattle.law_terms.specs.Plain.{PlainType, OptionType, BitVecType, BoolType, EntityType, ExtensionType, StringType, RecordType, SetType, AttributeTypes, no_attributes, attribute, EntityLiteral, LiteralTerm}
use Rattle.law_terms.specs.TypeValues.{Enums, members_of}
use Rattle.smt_values.specs.DefaultTerm.{default_fields, default_id, default_term}

module _ (own other : Enums) (same : (e : List ℕ) → members_of own e ≡ members_of other e) where
  mutual
    same_term : (type : PlainType) → default_term own type ≡ default_term other type
    same_term (OptionType t) = refl
    same_term (BitVecType n) = refl
    same_term BoolType = refl
    same_term (EntityType e) = ap (λ members. LiteralTerm (EntityLiteral e (default_id members))) (same e)
    same_term (ExtensionType k) = refl
    same_term StringType = refl
    same_term (RecordType types) = ap record_of_pairs (same_fields types)
    same_term (SetType t) = refl

    same_fields : (types : AttributeTypes) → default_fields own types ≡ default_fields other types
    same_fields no_attributes = refl
    same_fields (attribute name t others) = λ i. (name, same_term t i) ∷ same_fields others i

  pub same_defaults : default_term own ≡ default_term other
  same_defaults = λ i type. same_term type i
