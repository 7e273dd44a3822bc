-- What a list of terms reaches: occurrences from left to right, parts before what they are parts of.
use Rattle.std.specs.Prelude.{ℕ, List, [], ◌∷◌, ◌++◌, Option, Some, None}
use Rattle.std.specs.List.{filter_map, flat_map}
use Rattle.law_terms.specs.Types.{type_of}
use Rattle.law_terms.specs.Plain.{PlainType, OptionType, BitVecType, BoolType, EntityType, ExtensionType, StringType, RecordType, SetType}
use Rattle.law_terms.specs.Plain.{AttributeTypes, no_attributes, attribute, PlainFunction, ExtensionOp, IpAddrV4Op, IpAddrV6Op}
use Rattle.law_terms.specs.Plain.{IpPrefixV4Op, IpPrefixV6Op, PlainOp, ExtOp, OptionGetOp, UufOp, PlainTerm, Application, NoneTerm}
use Rattle.law_terms.specs.Plain.{LiteralTerm, RecordTerm, SetTerm, SomeTerm, VariableTerm, PlainTerms, no_terms, one_term, PlainFields}
use Rattle.law_terms.specs.Plain.{no_fields, one_field}

abbrev mutual
  -- a term's subterms, and last the term
  pub subterms : PlainTerm → List PlainTerm
  subterms (Application o ts t) = subterms_of_all ts ++ Application o ts t ∷ []
  subterms (NoneTerm t) = NoneTerm t ∷ []
  subterms (LiteralTerm l) = LiteralTerm l ∷ []
  subterms (RecordTerm fs) = subterms_of_fields fs ++ RecordTerm fs ∷ []
  subterms (SetTerm t ts) = subterms_of_all ts ++ SetTerm t ts ∷ []
  subterms (SomeTerm t) = subterms t ++ SomeTerm t ∷ []
  subterms (VariableTerm id t) = VariableTerm id t ∷ []

  -- the subterms of each term, in order
  pub subterms_of_all : PlainTerms → List PlainTerm
  subterms_of_all no_terms = []
  subterms_of_all (one_term t ts) = subterms t ++ subterms_of_all ts

  -- the subterms of the term of each field, in order
  pub subterms_of_fields : PlainFields → List PlainTerm
  subterms_of_fields no_fields = []
  subterms_of_fields (one_field a t fs) = subterms t ++ subterms_of_fields fs

abbrev mutual
  -- the types inside a type, and last the type
  pub types_within : PlainType → List PlainType
  types_within (OptionType t) = types_within t ++ OptionType t ∷ []
  types_within (BitVecType n) = BitVecType n ∷ []
  types_within BoolType = BoolType ∷ []
  types_within (EntityType e) = EntityType e ∷ []
  types_within (ExtensionType k) = ExtensionType k ∷ []
  types_within StringType = StringType ∷ []
  types_within (RecordType x) = types_within_attributes x ++ RecordType x ∷ []
  types_within (SetType t) = types_within t ++ SetType t ∷ []

  -- the types inside the type of each attribute, in order
  pub types_within_attributes : AttributeTypes → List PlainType
  types_within_attributes no_attributes = []
  types_within_attributes (attribute a t x) = types_within t ++ types_within_attributes x

-- What one term brings by itself, apart from its parts.

-- a variable's id and type
abbrev pub reached_variable : PlainTerm → Option (List ℕ × PlainType)
reached_variable (VariableTerm id t) = Some (id, t)
reached_variable t = None

-- the uninterpreted function that an operator is
abbrev pub function_of_op : PlainOp → Option PlainFunction
function_of_op (UufOp f) = Some f
function_of_op o = None

-- the uninterpreted function that an application applies
abbrev pub reached_function : PlainTerm → Option PlainFunction
reached_function (Application o ts t) = function_of_op o
reached_function t = None

-- the type that `option.get` gives, for which an interpretation has a value at none
abbrev pub opened_of_op : PlainOp → PlainType → Option PlainType
opened_of_op OptionGetOp t = Some t
opened_of_op o t = None

-- the type that an application of `option.get` gives
abbrev pub opened_of : PlainTerm → Option PlainType
opened_of (Application o ts t) = opened_of_op o t
opened_of t = None

-- the four selectors of IP ranges, for which an interpretation has a table
abbrev pub selector_of_extension : ExtensionOp → Option ExtensionOp
selector_of_extension IpAddrV4Op = Some IpAddrV4Op
selector_of_extension IpAddrV6Op = Some IpAddrV6Op
selector_of_extension IpPrefixV4Op = Some IpPrefixV4Op
selector_of_extension IpPrefixV6Op = Some IpPrefixV6Op
selector_of_extension o = None

-- the selector of IP ranges that an operator is
abbrev pub selector_of_op : PlainOp → Option ExtensionOp
selector_of_op (ExtOp o) = selector_of_extension o
selector_of_op o = None

-- the selector of IP ranges that an application applies
abbrev pub selector_of : PlainTerm → Option ExtensionOp
selector_of (Application o ts t) = selector_of_op o
selector_of t = None

-- what a list of terms reaches
module _ (ts : List PlainTerm) where
  -- all subterms of the terms, occurrence by occurrence
  abbrev pub reached_terms : List PlainTerm
  reached_terms = flat_map subterms ts

  -- the ids and types of the variables in the terms
  abbrev pub reached_variables : List (List ℕ × PlainType)
  reached_variables = filter_map reached_variable reached_terms

  -- the uninterpreted functions that are applied in the terms
  abbrev pub reached_functions : List PlainFunction
  reached_functions = filter_map reached_function reached_terms

  -- the types that the applications of `option.get` in the terms give
  abbrev pub reached_options : List PlainType
  reached_options = filter_map opened_of reached_terms

  -- the selectors of IP ranges that are applied in the terms
  abbrev pub reached_selectors : List ExtensionOp
  reached_selectors = filter_map selector_of reached_terms

  -- the types inside the types of all subterms, and those inside the types of all applied functions
  abbrev pub reached_types : List PlainType
  reached_types =
      flat_map (λ t. types_within (type_of t)) reached_terms
      ++ flat_map (λ f. types_within f.argument ++ types_within f.output) reached_functions
