-- The types that jobs state: `Bool`, `String`, `Decimal`, `IpAddr`, `Datetime`, `Duration`, `(BitVec N)` with N from 1 to 128,
-- `(Option TYPE)`, `(Set TYPE)`, `(Entity "T")`, and `(Record ("a" TYPE) ..)`.
use Rattle.std.specs.Prelude.{ℕ, bytes_eq, codes, if◌then◌else◌, List, [], ◌∷◌, ◌++◌, Option, Ok, Err}
use Rattle.std.specs.Bool.{then_some}
use Rattle.std.specs.List.{list_any}
use Rattle.std.specs.Map.{lookup}
use Rattle.std.specs.Option.{option_and_then}
use Rattle.law_numbers.specs.Widths.{is_width}
use Rattle.law_terms.specs.Plain.{IpAddrKind, DecimalKind, DatetimeKind, DurationKind, PlainType, OptionType, BitVecType, BoolType}
use Rattle.law_terms.specs.Plain.{EntityType, ExtensionType, StringType, RecordType, SetType, attribute_types}
use Rattle.law_terms.specs.ValueOrder.{sorted, text_cmp}
use Rattle.law_texts.specs.Reading.{Expression, Leaf, Node, Expressions, Nil, Cons}
use Rattle.law_jobs.specs.Outcomes.{Outcome, followed, DuplicateFault, TypeFault, WidthFault}
use Rattle.law_texts.specs.Outcomes.{◌>>=◌, demanded}
use Rattle.law_texts.specs.Parts.{name_in, number_in, sole, sole_text, text_in}

-- the types that a symbol alone names
abbrev pub named_types : List (List ℕ × PlainType)
named_types =
    (codes "Bool", BoolType) ∷ (codes "String", StringType) ∷ (codes "Decimal", ExtensionType DecimalKind)
    ∷ (codes "IpAddr", ExtensionType IpAddrKind)
    ∷ (codes "Datetime", ExtensionType DatetimeKind) ∷ (codes "Duration", ExtensionType DurationKind) ∷ []

-- the type that a symbol names, if it names one
abbrev pub type_named : List ℕ → Option PlainType
type_named n = lookup (bytes_eq n) named_types

-- a width from 1 to 128, which is a numeral
abbrev pub width_in : Expression → Option ℕ
width_in e = option_and_then (λ n. then_some (is_width n) n) (number_in e)

-- the type of bitvectors of so many bits, from 1 to 128: `(BitVec N)`
abbrev pub bits_type : Expressions → Outcome PlainType
bits_type es = demanded TypeFault (sole es) >>= λ e. demanded WidthFault (width_in e) >>= λ n. Ok (BitVecType n)

-- the type of entities of a name: `(Entity "T")`
abbrev pub entity_type : Expressions → Outcome PlainType
entity_type es = demanded TypeFault (sole_text es) >>= λ name. Ok (EntityType name)

-- a name that was not given before, or else the fault of a name that stands twice
abbrev pub new_name : (given : List (List ℕ)) → List ℕ → Outcome (List ℕ)
new_name given a = if list_any (bytes_eq a) given then Err (DuplicateFault a) else Ok a

-- the name of one more attribute
abbrev pub new_attribute : (given : List (List ℕ)) → Expression → Outcome (List ℕ)
new_attribute given e = demanded TypeFault (text_in e) >>= new_name given

-- the record type of attributes, which may stand in any order in a job: here they are in the order of their names' bytes
abbrev pub record_type : List (List ℕ × PlainType) → PlainType
record_type ps = RecordType (attribute_types (sorted (λ p q. text_cmp p.0 q.0) ps))

-- the record type of the attributes that are stated, or their first fault
abbrev pub stated_record_type : Outcome (List (List ℕ × PlainType)) → Outcome PlainType
stated_record_type ps = ps >>= λ pairs. Ok (record_type pairs)

-- A type by its head, by what stands behind the head, and by the type and the attributes that this would state: which of these
-- counts, the head says. The heads are `BitVec`, `Option`, `Set`, `Entity` and `Record`.
abbrev pub headed_type : (head : List ℕ) → Expressions → (inner : Outcome PlainType) → (attributes : Outcome (List (List ℕ × PlainType))) →
    Outcome PlainType
headed_type head es inner attributes =
    if bytes_eq head (codes "BitVec") then bits_type es
    else (if bytes_eq head (codes "Option") then (inner >>= λ t. Ok (OptionType t))
    else (if bytes_eq head (codes "Set") then (inner >>= λ t. Ok (SetType t))
    else (if bytes_eq head (codes "Entity") then entity_type es
    else (if bytes_eq head (codes "Record") then stated_record_type attributes
    else Err TypeFault))))

abbrev mutual
  -- the type that an expression states: a symbol that names one, or a head in brackets with what stands behind it
  pub type_of_expression : Expression → Outcome PlainType
  type_of_expression (Leaf a) = demanded TypeFault (option_and_then type_named (name_in (Leaf a)))
  type_of_expression (Node Nil) = Err TypeFault
  type_of_expression (Node (Cons head es)) =
      demanded TypeFault (name_in head) >>= λ n. headed_type n es (sole_type es) (attributes_of [] es)

  -- the type that the one expression of a list states
  pub sole_type : Expressions → Outcome PlainType
  sole_type (Cons e Nil) = type_of_expression e
  sole_type es = Err TypeFault

  -- pairs `("a" TYPE)`, none of whose names was given before
  pub attributes_of : (given : List (List ℕ)) → Expressions → Outcome (List (List ℕ × PlainType))
  attributes_of given Nil = Ok []
  attributes_of given (Cons (Node (Cons name (Cons type Nil))) es) =
      new_attribute given name >>= λ a. type_of_expression type >>= λ t. followed (a, t) (attributes_of (given ++ a ∷ []) es)
  attributes_of given (Cons e es) = Err TypeFault
