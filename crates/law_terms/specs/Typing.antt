-- Which terms are typed.
use Rattle.std.specs.Prelude.{◌≡◌, Bool, true, ◌&&◌, IsTrue, List}
use Rattle.std.specs.List.{AllByRecursion, list_all}
use Rattle.law_terms.specs.TermOrder.{term_cmp}
use Rattle.law_terms.specs.Types.{is_type, result_type, type_eq, type_of, types_of}
use Rattle.law_terms.specs.ValueOrder.{ascends}
use Rattle.law_terms.specs.Plain.{PlainType, BoolType, PlainTerm, Application, NoneTerm, LiteralTerm, RecordTerm, SetTerm, SomeTerm}
use Rattle.law_terms.specs.Plain.{VariableTerm, PlainTerms, no_terms, one_term, PlainFields, no_fields, one_field, list_of_terms}

-- the elements of a set: each is of the element type, and each stands once, in the order of terms
abbrev pub are_elements : PlainType → PlainTerms → Bool
are_elements t ts = list_all (type_eq t) (types_of ts) && ascends term_cmp (list_of_terms ts)

abbrev mutual
  -- A term whose every application has the argument types of its operator and the result type, and whose every set has elements of
  -- its element type in their order. No type can ask the order of a set, since the order of terms is made of their parts.
  pub typed : PlainTerm → Bool
  typed (Application o ts t) = typed_all ts && is_type (result_type o (types_of ts)) t
  typed (NoneTerm t) = true
  typed (LiteralTerm l) = true
  typed (RecordTerm fs) = typed_fields fs
  typed (SetTerm t ts) = typed_all ts && are_elements t ts
  typed (SomeTerm t) = typed t
  typed (VariableTerm id t) = true

  -- each of the terms is typed
  pub typed_all : PlainTerms → Bool
  typed_all no_terms = true
  typed_all (one_term t ts) = typed t && typed_all ts

  -- the term of each field is typed
  pub typed_fields : PlainFields → Bool
  typed_fields no_fields = true
  typed_fields (one_field a t fs) = typed t && typed_fields fs

-- a term is typed, and this is its type
pub record Typed (t : PlainTerm) (ty : PlainType) : Type 0 where
  pub parts : IsTrue (typed t)
  pub type : type_of t ≡ ty

-- each term is typed with this type
abbrev pub AreOfType : PlainType → List PlainTerm → Type 0
AreOfType ty ts = AllByRecursion (λ t. Typed t ty) ts

-- each term is typed as a Boolean
abbrev pub AreBoolean : List PlainTerm → Type 0
AreBoolean ts = AreOfType BoolType ts

-- each term is typed
abbrev pub AreTyped : List PlainTerm → Type 0
AreTyped ts = AllByRecursion (λ t. IsTrue (typed t)) ts
