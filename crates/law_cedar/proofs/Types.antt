-- Which types of terms stand for set types, record types and attributes.
use Rattle.std.proofs.Common.{◌≡◌, ℕ, Bool, List, Ok, Err, refl, sym, ap, ◌∙◌}
use Rattle.law_terms.specs.Plain.{PlainType, RecordType, SetType, AttributeTypes, attribute}
use Rattle.smt_values.specs.Cedar.{PlainCedar, SetType as CedarSetType, ClosedRecordType, CedarAttributes, attribute as cedar_attribute}
use Rattle.smt_values.specs.TypeOfCedar.{Stated, ◌>>=◌, held, type_held, type_of_cedar, types_of_attributes}

-- ---- what is stated

abbrev stated_or : {A : Type 0} → A → Stated A → A
stated_or a (Ok b) = b
stated_or a (Err text) = a

-- one thing is stated
pub one_stated : {A : Type 0} (a b : A) (o : Stated A) → o ≡ Ok a → o ≡ Ok b → a ≡ b
one_stated a b o p q = ap (stated_or a) (sym p ∙ q)

-- what is stated in two steps
record Steps {A B : Type 0} (o : Stated A) (f : A → Stated B) (b : B) : Type 0 where
  first : A
  stated : o ≡ Ok first
  second : f first ≡ Ok b

steps : {A B : Type 0} (o : Stated A) (f : A → Stated B) (b : B) → (o >>= f) ≡ Ok b → Steps o f b
steps (Ok a) f b e = record { first = a; stated = refl; second = e }
steps (Err text) f b e = cc

-- ---- types

pub record IsSetOfType (element : PlainCedar) (t : PlainType) : Type 0 where
  pub own : PlainType
  pub stated : type_of_cedar element ≡ Ok own
  pub same : SetType own ≡ t

pub set_stated : (element : PlainCedar) (t : PlainType) → type_of_cedar (CedarSetType element) ≡ Ok t → IsSetOfType element t
set_stated element t e =
    let s : Steps (type_of_cedar element) (λ type. Ok (SetType type)) t = steps (type_of_cedar element) (λ type. Ok (SetType type)) t e in
    record { own = s.first; stated = s.stated; same = one_stated (SetType s.first) t (Ok (SetType s.first)) refl s.second }

pub record IsRecordOfTypes (named : CedarAttributes) (t : PlainType) : Type 0 where
  pub types : AttributeTypes
  pub stated : types_of_attributes named ≡ Ok types
  pub same : RecordType types ≡ t

pub record_stated : (named : CedarAttributes) (t : PlainType) → type_of_cedar (ClosedRecordType named) ≡ Ok t → IsRecordOfTypes named t
record_stated named t e =
    let s : Steps (types_of_attributes named) (λ types. Ok (RecordType types)) t = steps (types_of_attributes named) (λ types. Ok (RecordType types)) t e in
    record { types = s.first; stated = s.stated; same = one_stated (RecordType s.first) t (Ok (RecordType s.first)) refl s.second }

pub record IsAttributeBefore (name : List ℕ) (type : PlainCedar) (required : Bool) (others : CedarAttributes) (types : AttributeTypes) : Type 0 where
  pub own : PlainType
  pub rest : AttributeTypes
  pub stated : type_of_cedar type ≡ Ok own
  pub others_stated : types_of_attributes others ≡ Ok rest
  pub same : attribute name (held required own) rest ≡ types

pub attribute_stated : (name : List ℕ) (type : PlainCedar) (required : Bool) (others : CedarAttributes) (types : AttributeTypes)
    → types_of_attributes (cedar_attribute name type required others) ≡ Ok types → IsAttributeBefore name type required others types
attribute_stated name type required others types e =
    let s : Steps (type_held required (type_of_cedar type)) (λ own. types_of_attributes others >>= λ rest. Ok (attribute name own rest)) types
    = steps (type_held required (type_of_cedar type)) (λ own. types_of_attributes others >>= λ rest. Ok (attribute name own rest)) types e in
    let h : Steps (type_of_cedar type) (λ own. Ok (held required own)) s.first = steps (type_of_cedar type) (λ own. Ok (held required own)) s.first s.stated in
    let r : Steps (types_of_attributes others) (λ rest. Ok (attribute name s.first rest)) types = steps (types_of_attributes others) (λ rest. Ok (attribute name s.first rest)) types s.second in
    let p : held required h.first ≡ s.first = one_stated (held required h.first) s.first (Ok (held required h.first)) refl h.second in
    record {
      own = h.first;
      rest = r.first;
      stated = h.stated;
      others_stated = r.stated;
      same = ap (λ own. attribute name own r.first) p ∙ one_stated (attribute name s.first r.first) types (Ok (attribute name s.first r.first)) refl r.second;
    }
