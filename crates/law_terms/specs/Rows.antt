-- Worked examples of the definitions, with values from the theories' own text.
use Rattle.std.specs.Prelude.{◌≡◌, ℕ, true, false, List, [], ◌∷◌, ◌++◌, map, Option, Some, None, codes, pos, negsuc}
use Rattle.std.specs.Ordering.{nat_cmp}
use Rattle.std.specs.declared.cmp.Ordering.TheVariants.{Less, Greater}
use Rattle.law_terms.specs.Defaults.{default_value}
use Rattle.law_terms.specs.Faults.{EmptyEnum, EnumMissingMember, EncodeStringFailed, EncodePatternFailed, MalformedRecordGet}
use Rattle.law_terms.specs.Faults.{MissingTypeEncoding, ExpectRecord, RecordMissingAttr, first_fault}
use Rattle.law_terms.specs.Interpretations.{AreDistinct, IsOfOtherFamily, IsInterpretation}
use Rattle.law_terms.specs.Meaning.{meaning, term_value}
use Rattle.law_terms.specs.Operators.{apply}
use Rattle.law_terms.specs.Patterns.{matches}
use Rattle.law_terms.specs.Reached.{subterms, reached_variables, reached_functions, reached_options, reached_selectors, reached_types}
use Rattle.law_terms.specs.Tables.{Interpretation}
use Rattle.law_terms.specs.TermOrder.{term_cmp}
use Rattle.law_terms.specs.TermSets.{set_term}
use Rattle.law_terms.specs.Types.{type_of, result_type}
use Rattle.law_terms.specs.Typing.{typed}
use Rattle.law_terms.specs.TypeValues.{Enums, IsExtension, IsValue}
use Rattle.law_terms.specs.ValueOrder.{value_cmp, ascends, set_of}
use Rattle.law_numbers.specs.BitOperators.{BvaddOp, BvshlOp, bits_operators, test_operators, overflow_operators}
use Rattle.law_terms.specs.Plain.{IpAddrKind, DecimalKind, PlainType, OptionType, BitVecType, BoolType, EntityType, ExtensionType}
use Rattle.law_terms.specs.Plain.{StringType, RecordType, SetType, no_attributes, attribute, PlainFunction, PatternPart, Character}
use Rattle.law_terms.specs.Plain.{Wildcard, DatetimeOfBitVecOp, DecimalValOp, IpAddrV4Op, IpAddrV6Op, IpIsV4Op, IpPrefixV4Op, IpPrefixV6Op}
use Rattle.law_terms.specs.Plain.{PlainOp, AndOp, BvnegOp, BvnegoOp, EqOp, ExtOp, IteOp, NotOp, OptionGetOp, OrOp, RecordGetOp, SetInterOp}
use Rattle.law_terms.specs.Plain.{SetMemberOp, SetSubsetOp, StringLikeOp, UufOp, ZeroExtendOp, PlainExtension, DecimalOf, Ipv4Of, Ipv6Of}
use Rattle.law_terms.specs.Plain.{DatetimeOf, BitVecLiteral, EntityLiteral, ExtensionLiteral, StringLiteral, PlainTerm, Application}
use Rattle.law_terms.specs.Plain.{NoneTerm, LiteralTerm, RecordTerm, SetTerm, SomeTerm, VariableTerm, no_terms, no_fields, one_field, terms}
use Rattle.law_terms.specs.Plain.{BitsOp, TestOp, OverflowOp}
use Rattle.law_terms.specs.Values.{Value, BoolValue, BitVecValue, StringValue, EntityValue, ExtensionValue, NoneValue, SomeValue}
use Rattle.law_terms.specs.Values.{RecordValue, SetValue, one_value, no_values, one_field_value, no_field_values}

-- the pattern `eng*`
abbrev pub eng_star : List PatternPart
eng_star = Character 101 ∷ Character 110 ∷ Character 103 ∷ Wildcard ∷ []

-- the pattern `a*z`
abbrev pub a_star_z : List PatternPart
a_star_z = Character 97 ∷ Wildcard ∷ Character 122 ∷ []

-- a number of 8 bits
abbrev pub byte : ℕ → Value
byte a = BitVecValue 8 a

-- an IPv4 address without prefix
abbrev pub ip : ℕ → Value
ip a = ExtensionValue (Ipv4Of a None)

-- an interpretation with 7 for all that is left open, but true for variables, and 2 for functions at 1
abbrev pub sevens : Interpretation
sevens =
    record {
      variable =
          λ id t.
          BoolValue true;
      function =
          λ f.
          record { entries = (byte 1, byte 2) ∷ []; elsewhere = byte 7 };
      inside_none = λ t. byte 7;
      other_family = λ o. record { entries = []; elsewhere = BitVecValue 32 7 };
    }

-- the truth value true
abbrev pub yes : Value
yes = BoolValue true

-- the truth value false
abbrev pub no : Value
no = BoolValue false

-- all operators from two bitvectors to bits
abbrev pub bit_operators : List PlainOp
bit_operators = map BitsOp bits_operators

-- the four comparisons and the three overflow tests of two bitvectors
abbrev pub bit_tests : List PlainOp
bit_tests = map TestOp test_operators ++ map OverflowOp overflow_operators

-- the values of operators at two values
abbrev pub at_two : List PlainOp → Value → Value → List Value
at_two os v w = map (λ o. apply sevens o BoolType (v ∷ w ∷ [])) os

-- the values of one operator at each of some values
abbrev pub at_each : PlainOp → List Value → List Value
at_each o vs = map (λ v. apply sevens o BoolType (v ∷ [])) vs

-- a function `f` from 8 bits to 8 bits
abbrev pub a_function : PlainFunction
a_function = record { id = codes "f"; argument = BitVecType 8; output = BitVecType 8 }

-- a record with `a` 1 and `b` 2
abbrev pub two_fields : Value
two_fields = RecordValue (one_field_value (codes "a") (byte 1) (one_field_value (codes "b") (byte 2) no_field_values))

-- operators at chosen values, patterns at chosen texts, and lists as sets
pub record OperatorRows : Type 0 where
  pub likes :
      map (matches eng_star) (codes "eng" ∷ codes "engineering" ∷ codes "en" ∷ codes "Eng" ∷ codes "xeng" ∷ [])
      ≡ true ∷ true ∷ false ∷ false ∷ false ∷ []
  pub inner_wildcards :
      map (matches a_star_z) (codes "az" ∷ codes "abzz" ∷ codes "a" ∷ codes "abzy" ∷ []) ≡ true ∷ true ∷ false ∷ false ∷ []
  -- sorted, each once
  pub sets : set_of (byte 2 ∷ byte 1 ∷ byte 2 ∷ []) ≡ SetValue (one_value (byte 1) (one_value (byte 2) no_values))
  -- by the bits, a negative number comes after those from 0 on
  pub signed_sets :
      set_of (ExtensionValue (DecimalOf (negsuc 0)) ∷ ExtensionValue (DecimalOf (pos 3)) ∷ [])
      ≡ SetValue (one_value (ExtensionValue (DecimalOf (pos 3))) (one_value (ExtensionValue (DecimalOf (negsuc 0))) no_values))
  pub intersections :
      apply sevens SetInterOp BoolType (set_of (byte 1 ∷ byte 2 ∷ []) ∷ set_of (byte 2 ∷ byte 3 ∷ []) ∷ []) ≡ set_of (byte 2 ∷ [])
  pub subsets : apply sevens SetSubsetOp BoolType (set_of (byte 2 ∷ []) ∷ set_of (byte 1 ∷ byte 2 ∷ []) ∷ []) ≡ BoolValue true
  pub supersets : apply sevens SetSubsetOp BoolType (set_of (byte 1 ∷ byte 2 ∷ []) ∷ set_of (byte 2 ∷ []) ∷ []) ≡ BoolValue false
  pub members : apply sevens SetMemberOp BoolType (byte 1 ∷ set_of (byte 2 ∷ []) ∷ []) ≡ BoolValue false
  pub extensions : apply sevens (ZeroExtendOp 8) BoolType (byte 5 ∷ []) ≡ BitVecValue 16 5
  pub inside : apply sevens OptionGetOp BoolType (SomeValue (byte 1) ∷ []) ≡ byte 1
  -- at none, and below at the other family, the value is the interpretation's
  pub inside_none : apply sevens OptionGetOp BoolType (NoneValue ∷ []) ≡ byte 7
  pub addresses : apply sevens (ExtOp IpAddrV4Op) BoolType (ip 9 ∷ []) ≡ BitVecValue 32 9
  pub other_addresses : apply sevens (ExtOp IpAddrV4Op) BoolType (ExtensionValue (Ipv6Of 9 None) ∷ []) ≡ BitVecValue 32 7
  pub both : at_two (AndOp ∷ OrOp ∷ EqOp ∷ []) yes yes ≡ yes ∷ yes ∷ yes ∷ []
  pub one : at_two (AndOp ∷ OrOp ∷ EqOp ∷ []) yes no ≡ no ∷ yes ∷ no ∷ []
  pub neither : at_two (AndOp ∷ OrOp ∷ EqOp ∷ []) no no ≡ no ∷ no ∷ yes ∷ []
  pub choices : map (λ g. apply sevens IteOp BoolType (g ∷ byte 1 ∷ byte 2 ∷ [])) (yes ∷ no ∷ []) ≡ byte 1 ∷ byte 2 ∷ []
  -- 249 is -7; the ten operators give ten different answers at -7 and 3
  pub bits : at_two bit_operators (byte 249) (byte 3) ≡ map byte (252 ∷ 31 ∷ 235 ∷ 254 ∷ 200 ∷ 2 ∷ 255 ∷ 246 ∷ 83 ∷ 0 ∷ [])
  -- no two of the seven tests agree at all five pairs from here on
  pub less : at_two bit_tests (byte 3) (byte 249) ≡ no ∷ no ∷ yes ∷ yes ∷ no ∷ no ∷ no ∷ []
  pub equal : at_two bit_tests (byte 16) (byte 16) ≡ yes ∷ no ∷ yes ∷ no ∷ no ∷ yes ∷ no ∷ []
  pub least : at_two bit_tests (byte 128) (byte 2) ≡ yes ∷ yes ∷ no ∷ no ∷ no ∷ yes ∷ yes ∷ []
  pub least_less_one : at_two bit_tests (byte 128) (byte 255) ≡ yes ∷ yes ∷ yes ∷ yes ∷ yes ∷ yes ∷ no ∷ []
  pub small : at_two bit_tests (byte 2) (byte 3) ≡ yes ∷ yes ∷ yes ∷ yes ∷ no ∷ no ∷ no ∷ []
  pub negations : at_each BvnegOp (byte 1 ∷ byte 128 ∷ []) ≡ byte 255 ∷ byte 128 ∷ []
  pub negations_overflow : at_each BvnegoOp (byte 127 ∷ byte 128 ∷ []) ≡ no ∷ yes ∷ []
  pub is_member : apply sevens SetMemberOp BoolType (byte 2 ∷ set_of (byte 1 ∷ byte 2 ∷ []) ∷ []) ≡ yes
  pub attributes : map (λ a. apply sevens (RecordGetOp a) BoolType (two_fields ∷ [])) (codes "a" ∷ codes "b" ∷ []) ≡ byte 1 ∷ byte 2 ∷ []
  -- the first entry of the table with the argument, and else the value elsewhere
  pub functions : at_each (UufOp a_function) (byte 1 ∷ byte 2 ∷ []) ≡ byte 2 ∷ byte 7 ∷ []
  pub signed_bits : at_each (ExtOp DecimalValOp) (ExtensionValue (DecimalOf (negsuc 0)) ∷ []) ≡ BitVecValue 64 18446744073709551615 ∷ []
  pub from_bits :
      at_each (ExtOp DatetimeOfBitVecOp) (BitVecValue 64 18446744073709551615 ∷ []) ≡ ExtensionValue (DatetimeOf (negsuc 0)) ∷ []
  pub families : at_each (ExtOp IpIsV4Op) (ip 9 ∷ ExtensionValue (Ipv6Of 9 None) ∷ []) ≡ yes ∷ no ∷ []
  pub prefixes :
      at_each (ExtOp IpPrefixV4Op) (ip 9 ∷ ExtensionValue (Ipv4Of 9 (Some 24)) ∷ []) ≡ NoneValue ∷ SomeValue (BitVecValue 5 24) ∷ []
  pub long_addresses : at_each (ExtOp IpAddrV6Op) (ExtensionValue (Ipv6Of 9 None) ∷ ip 9 ∷ []) ≡ BitVecValue 128 9 ∷ BitVecValue 32 7 ∷ []
  pub long_prefixes : at_each (ExtOp IpPrefixV6Op) (ExtensionValue (Ipv6Of 9 (Some 127)) ∷ []) ≡ SomeValue (BitVecValue 7 127) ∷ []
  pub no_parts : map (matches []) ([] ∷ codes "a" ∷ []) ≡ true ∷ false ∷ []
  -- equal neighbours do not ascend, nor does a list that falls later
  pub ascending : map (ascends nat_cmp) ((1 ∷ 2 ∷ 3 ∷ []) ∷ (1 ∷ 1 ∷ []) ∷ (1 ∷ 3 ∷ 2 ∷ []) ∷ [] ∷ []) ≡ true ∷ false ∷ false ∷ true ∷ []

-- ---- terms

-- a string literal
abbrev pub text : List ℕ → PlainTerm
text s = LiteralTerm (StringLiteral s)

-- a variable, by its id and type
abbrev pub variable : List ℕ → PlainType → PlainTerm
variable = VariableTerm

-- the equality of two terms
abbrev pub eq : PlainTerm → PlainTerm → PlainTerm
eq t u = Application EqOp (terms (t ∷ u ∷ [])) BoolType

-- `record.get` of an attribute, at any number of arguments
abbrev pub get : List ℕ → List PlainTerm → PlainTerm
get x ts = Application (RecordGetOp x) (terms ts) BoolType

-- the enum types `Color`, with the members `a` and `b`, and `Void`, which has none
abbrev pub color_and_void : Enums
color_and_void = (codes "Color", codes "a" ∷ codes "b" ∷ []) ∷ (codes "Void", []) ∷ []

-- the equality of a variable of the type `Color` with a literal
abbrev pub color : List ℕ → PlainTerm
color m = eq (variable (codes "c") (EntityType (codes "Color"))) (LiteralTerm (EntityLiteral (codes "Color") m))

-- the enum type without members
abbrev pub void : PlainType
void = EntityType (codes "Void")

-- U+2FFFF in UTF-8, the greatest character of strings (theory UnicodeStrings)
abbrev pub last_character : List ℕ
last_character = 240 ∷ 175 ∷ 191 ∷ 191 ∷ []

-- U+30000 in UTF-8, the first character that strings do not have
abbrev pub past_last : List ℕ
past_last = 240 ∷ 176 ∷ 128 ∷ 128 ∷ []

-- the first faults of chosen terms
pub record FaultRows : Type 0 where
  pub greatest : first_fault color_and_void (text last_character ∷ []) ≡ None
  pub too_great : first_fault color_and_void (text past_last ∷ []) ≡ Some (EncodeStringFailed past_last)
  pub id_too_great :
      first_fault color_and_void (LiteralTerm (EntityLiteral (codes "User") past_last) ∷ []) ≡ Some (EncodeStringFailed past_last)
  pub pattern_too_great :
      first_fault color_and_void (Application (StringLikeOp (Character 196608 ∷ [])) (terms (text [] ∷ [])) BoolType ∷ [])
      ≡ Some (EncodePatternFailed (Character 196608 ∷ []))
  pub member : first_fault color_and_void (color (codes "b") ∷ []) ≡ None
  pub no_member : first_fault color_and_void (color (codes "z") ∷ []) ≡ Some (EnumMissingMember (codes "Color") (codes "z"))
  pub empty :
      first_fault color_and_void (eq (NoneTerm void) (variable (codes "v") (OptionType void)) ∷ []) ≡ Some (EmptyEnum (codes "Void"))
  pub in_order : first_fault color_and_void (text past_last ∷ color (codes "z") ∷ []) ≡ Some (EncodeStringFailed past_last)
  pub malformed : first_fault color_and_void (get (codes "a") [] ∷ []) ≡ Some MalformedRecordGet
  pub of_bool : first_fault color_and_void (get (codes "a") (variable (codes "x") BoolType ∷ []) ∷ []) ≡ Some (MissingTypeEncoding BoolType)
  pub of_entity :
      first_fault color_and_void (get (codes "a") (variable (codes "x") (EntityType (codes "User")) ∷ []) ∷ [])
      ≡ Some (ExpectRecord (EntityType (codes "User")))
  pub absent :
      first_fault color_and_void
      (get (codes "a") (variable (codes "x") (RecordType (attribute (codes "b") BoolType no_attributes)) ∷ []) ∷ [])
      ≡ Some (RecordMissingAttr (codes "a"))
  pub there :
      first_fault color_and_void
      (get (codes "b") (variable (codes "x") (RecordType (attribute (codes "b") BoolType no_attributes)) ∷ []) ∷ []) ≡ None
  pub passed_over : first_fault color_and_void (Application BvnegoOp (terms (text past_last ∷ [])) BoolType ∷ []) ≡ None
  -- the type before the parts, the parts in order, and the term itself last
  pub type_first : first_fault color_and_void (SetTerm void (terms (text past_last ∷ [])) ∷ []) ≡ Some (EmptyEnum (codes "Void"))
  pub parts_in_order :
      first_fault color_and_void (eq (color (codes "z")) (text past_last) ∷ []) ≡ Some (EnumMissingMember (codes "Color") (codes "z"))
  pub itself_last :
      first_fault color_and_void (Application (StringLikeOp (Character 196608 ∷ [])) (terms (text past_last ∷ [])) BoolType ∷ [])
      ≡ Some (EncodeStringFailed past_last)
  pub inside_types :
      first_fault color_and_void
      (variable (codes "r") (RecordType (attribute (codes "a") BoolType (attribute (codes "b") (SetType void) no_attributes))) ∷ [])
      ≡ Some (EmptyEnum (codes "Void"))
  pub of_function :
      first_fault color_and_void (Application (UufOp (record { id = codes "f"; argument = BoolType; output = void }))
      (terms (variable (codes "b") BoolType ∷ [])) BoolType ∷ []) ≡ Some (EmptyEnum (codes "Void"))
  pub entered :
      first_fault color_and_void (Application BvnegoOp
      (terms (Application (UufOp (record { id = codes "f"; argument = void; output = BitVecType 8 })) no_terms (BitVecType 8) ∷ []))
      BoolType ∷ []) ≡ Some (EmptyEnum (codes "Void"))

-- ---- types

-- the bitvectors of 8 bits
abbrev pub bits_8 : PlainType
bits_8 = BitVecType 8

-- the bitvectors of 16 bits
abbrev pub bits_16 : PlainType
bits_16 = BitVecType 16

-- the result types of operators at arguments of these types
abbrev pub results : List PlainOp → List PlainType → List (Option PlainType)
results os ts = map (λ o. result_type o ts) os

-- the result types of one operator at each of some lists of arguments
abbrev pub results_at : PlainOp → List (List PlainType) → List (Option PlainType)
results_at o tss = map (result_type o) tss

-- one result type for each of some operators
abbrev pub each_is : Option PlainType → List PlainOp → List (Option PlainType)
each_is t os = map (λ o. t) os

-- the records with `a` of Bool and `b` of 8 bits
abbrev pub two_attributes : PlainType
two_attributes = RecordType (attribute (codes "a") BoolType (attribute (codes "b") bits_8 no_attributes))

-- a literal of 8 bits
abbrev pub one_byte : ℕ → PlainTerm
one_byte a = LiteralTerm (BitVecLiteral 8 a)

-- a term that is not typed: `and` of one argument
abbrev pub ill : PlainTerm
ill = Application AndOp (terms (variable (codes "b") BoolType ∷ [])) BoolType

-- types of chosen terms, result types of operators, and terms that are typed or not
pub record TypeRows : Type 0 where
  pub of_parts :
      map type_of (NoneTerm bits_8 ∷ SomeTerm (one_byte 1) ∷ SetTerm bits_8 no_terms
      ∷ RecordTerm (one_field (codes "a") (text []) no_fields) ∷ LiteralTerm (EntityLiteral (codes "User") (codes "i"))
      ∷ LiteralTerm (ExtensionLiteral (Ipv6Of 0 None)) ∷ [])
      ≡ OptionType bits_8 ∷ OptionType bits_8 ∷ SetType bits_8 ∷ RecordType (attribute (codes "a") StringType no_attributes)
      ∷ EntityType (codes "User") ∷ ExtensionType IpAddrKind ∷ []
  pub operators : results bit_operators (bits_8 ∷ bits_8 ∷ []) ≡ each_is (Some bits_8) bit_operators
  pub tests : results bit_tests (bits_8 ∷ bits_8 ∷ []) ≡ each_is (Some BoolType) bit_tests
  pub widths_differ : results (bit_operators ++ bit_tests) (bits_8 ∷ bits_16 ∷ []) ≡ each_is None (bit_operators ++ bit_tests)
  pub no_bits : results (bit_operators ++ bit_tests) (BoolType ∷ BoolType ∷ []) ≡ each_is None (bit_operators ++ bit_tests)
  pub truths : results (AndOp ∷ OrOp ∷ EqOp ∷ []) (BoolType ∷ BoolType ∷ []) ≡ Some BoolType ∷ Some BoolType ∷ Some BoolType ∷ []
  pub no_truths : results (AndOp ∷ OrOp ∷ EqOp ∷ []) (BoolType ∷ bits_8 ∷ []) ≡ None ∷ None ∷ None ∷ []
  pub negated : results_at NotOp ((BoolType ∷ []) ∷ (bits_8 ∷ []) ∷ (BoolType ∷ BoolType ∷ []) ∷ []) ≡ Some BoolType ∷ None ∷ None ∷ []
  pub chosen :
      results_at IteOp ((BoolType ∷ bits_8 ∷ bits_8 ∷ []) ∷ (bits_8 ∷ bits_8 ∷ bits_8 ∷ []) ∷ (BoolType ∷ bits_8 ∷ bits_16 ∷ []) ∷ [])
      ≡ Some bits_8 ∷ None ∷ None ∷ []
  pub negations : results (BvnegOp ∷ BvnegoOp ∷ []) (bits_8 ∷ []) ≡ Some bits_8 ∷ Some BoolType ∷ []
  pub no_negations : results (BvnegOp ∷ BvnegoOp ∷ []) (BoolType ∷ []) ≡ None ∷ None ∷ []
  -- 64 bits become 128 at most
  pub wider :
      map (λ k. result_type (ZeroExtendOp k) (BitVecType 64 ∷ [])) (0 ∷ 64 ∷ 65 ∷ [])
      ≡ Some (BitVecType 64) ∷ Some (BitVecType 128) ∷ None ∷ []
  pub members :
      results_at SetMemberOp ((bits_8 ∷ SetType bits_8 ∷ []) ∷ (bits_8 ∷ SetType bits_16 ∷ []) ∷ (SetType bits_8 ∷ bits_8 ∷ []) ∷ [])
      ≡ Some BoolType ∷ None ∷ None ∷ []
  pub sets : results (SetSubsetOp ∷ SetInterOp ∷ []) (SetType bits_8 ∷ SetType bits_8 ∷ []) ≡ Some BoolType ∷ Some (SetType bits_8) ∷ []
  pub no_sets : results (SetSubsetOp ∷ SetInterOp ∷ []) (SetType bits_8 ∷ SetType bits_16 ∷ []) ≡ None ∷ None ∷ []
  pub options : results_at OptionGetOp ((OptionType bits_8 ∷ []) ∷ (bits_8 ∷ []) ∷ []) ≡ Some bits_8 ∷ None ∷ []
  pub attributes : map (λ a. result_type (RecordGetOp a) (two_attributes ∷ [])) (codes "b" ∷ codes "c" ∷ []) ≡ Some bits_8 ∷ None ∷ []
  pub likes : results_at (StringLikeOp []) ((StringType ∷ []) ∷ (bits_8 ∷ []) ∷ []) ≡ Some BoolType ∷ None ∷ []
  pub functions :
      results_at (UufOp (record { id = []; argument = bits_8; output = BoolType })) ((bits_8 ∷ []) ∷ (BoolType ∷ []) ∷ [])
      ≡ Some BoolType ∷ None ∷ []
  pub addresses :
      results (ExtOp IpAddrV4Op ∷ ExtOp IpAddrV6Op ∷ ExtOp IpIsV4Op ∷ ExtOp IpPrefixV4Op ∷ ExtOp IpPrefixV6Op ∷ ExtOp DecimalValOp ∷ [])
      (ExtensionType IpAddrKind ∷ [])
      ≡ Some (BitVecType 32) ∷ Some (BitVecType 128) ∷ Some BoolType ∷ Some (OptionType (BitVecType 5)) ∷ Some (OptionType (BitVecType 7))
      ∷ None ∷ []
  -- each of these would be typed but for one part
  pub ill_typed :
      map typed (Application (BitsOp BvaddOp) (terms (one_byte 1 ∷ one_byte 2 ∷ [])) bits_16 ∷ SomeTerm ill
      ∷ RecordTerm (one_field (codes "a") ill no_fields) ∷ SetTerm BoolType (terms (ill ∷ [])) ∷ SetTerm bits_16 (terms (one_byte 1 ∷ []))
      ∷ [])
      ≡ false ∷ false ∷ false ∷ false ∷ false ∷ []
  -- elements that stand twice, or in the other order
  pub no_sets_of_order :
      map typed (SetTerm bits_8 (terms (one_byte 1 ∷ one_byte 1 ∷ [])) ∷ SetTerm bits_8 (terms (one_byte 2 ∷ one_byte 1 ∷ []))
      ∷ SetTerm bits_8 (terms (one_byte 1 ∷ one_byte 2 ∷ [])) ∷ []) ≡ false ∷ false ∷ true ∷ []
  pub in_order : set_term bits_8 (one_byte 2 ∷ one_byte 1 ∷ one_byte 2 ∷ []) ≡ SetTerm bits_8 (terms (one_byte 1 ∷ one_byte 2 ∷ []))
  pub well_typed :
      map typed (Application (BitsOp BvaddOp) (terms (one_byte 1 ∷ one_byte 2 ∷ [])) bits_8 ∷ SetTerm bits_8 (terms (one_byte 1 ∷ []))
      ∷ NoneTerm bits_8 ∷ []) ≡ true ∷ true ∷ true ∷ []

-- ---- values of types

-- a set of one or two numbers of 8 bits, in the order in which they are given
abbrev pub set_value : List ℕ → Value
set_value [] = SetValue no_values
set_value (a ∷ []) = SetValue (one_value (byte a) no_values)
set_value (a ∷ b ∷ cs) = SetValue (one_value (byte a) (one_value (byte b) no_values))

-- the last values of each type and the first past them, and default values
pub record ValueRows : Type 0 where
  pub last_byte : IsValue [] bits_8 (byte 255)
  pub past_byte : IsValue [] bits_8 (byte 256) → ⊥
  pub other_width : IsValue [] bits_16 (byte 1) → ⊥
  pub last_point : IsValue [] StringType (StringValue (196607 ∷ []))
  pub past_point : IsValue [] StringType (StringValue (196608 ∷ [])) → ⊥
  pub member : IsValue color_and_void (EntityType (codes "Color")) (EntityValue (codes "Color") (codes "b"))
  pub no_member : IsValue color_and_void (EntityType (codes "Color")) (EntityValue (codes "Color") (codes "z")) → ⊥
  pub any_id : IsValue color_and_void (EntityType (codes "User")) (EntityValue (codes "User") (codes "z"))
  pub other_entity : IsValue color_and_void (EntityType (codes "User")) (EntityValue (codes "Group") (codes "z")) → ⊥
  pub least_long : IsExtension DecimalKind (DecimalOf (negsuc 9223372036854775807))
  pub below_long : IsExtension DecimalKind (DecimalOf (negsuc 9223372036854775808)) → ⊥
  pub past_long : IsExtension DecimalKind (DecimalOf (pos 9223372036854775808)) → ⊥
  pub other_kind : IsExtension DecimalKind (DatetimeOf (pos 0)) → ⊥
  pub last_range : IsExtension IpAddrKind (Ipv4Of 4294967295 (Some 31))
  pub past_prefix : IsExtension IpAddrKind (Ipv4Of 0 (Some 32)) → ⊥
  pub past_address : IsExtension IpAddrKind (Ipv4Of 4294967296 None) → ⊥
  pub long_range : IsExtension IpAddrKind (Ipv6Of 4294967296 (Some 127))
  pub past_long_prefix : IsExtension IpAddrKind (Ipv6Of 0 (Some 128)) → ⊥
  pub set : IsValue [] (SetType bits_8) (set_value (1 ∷ 2 ∷ []))
  pub set_turned : IsValue [] (SetType bits_8) (set_value (2 ∷ 1 ∷ [])) → ⊥
  pub set_twice : IsValue [] (SetType bits_8) (set_value (1 ∷ 1 ∷ [])) → ⊥
  pub none : IsValue [] (OptionType bits_8) NoneValue
  pub some_other : IsValue [] (OptionType bits_8) (SomeValue yes) → ⊥
  pub fields :
      IsValue [] two_attributes (RecordValue (one_field_value (codes "a") yes (one_field_value (codes "b") (byte 1) no_field_values)))
  pub fields_turned : IsValue [] two_attributes
      (RecordValue (one_field_value (codes "b") (byte 1) (one_field_value (codes "a") yes no_field_values))) → ⊥
  pub field_missing : IsValue [] two_attributes (RecordValue (one_field_value (codes "a") yes no_field_values)) → ⊥
  pub defaults :
      map (default_value color_and_void) (OptionType bits_8 ∷ bits_8 ∷ BoolType ∷ EntityType (codes "Color") ∷ EntityType (codes "User")
      ∷ ExtensionType IpAddrKind ∷ ExtensionType DecimalKind ∷ StringType ∷ SetType bits_8 ∷ [])
      ≡ NoneValue ∷ byte 0 ∷ no ∷ EntityValue (codes "Color") (codes "a") ∷ EntityValue (codes "User") [] ∷ ip 0
      ∷ ExtensionValue (DecimalOf (pos 0)) ∷ StringValue [] ∷ SetValue no_values ∷ []

-- ---- what is reached, and who gives it

-- a literal of an extension type
abbrev pub extension : PlainExtension → PlainTerm
extension x = LiteralTerm (ExtensionLiteral x)

-- a variable of 8 bits
abbrev pub x : PlainTerm
x = variable (codes "x") bits_8

-- another variable of 8 bits
abbrev pub y : PlainTerm
y = variable (codes "y") bits_8

-- `option.get` of a variable
abbrev pub inside_o : PlainTerm
inside_o = Application OptionGetOp (terms (variable (codes "o") (OptionType bits_8) ∷ [])) bits_8

-- the application of `f` to a term
abbrev pub f_of : PlainTerm → PlainTerm
f_of t = Application (UufOp a_function) (terms (t ∷ [])) bits_8

-- the IPv4 address of a variable: a selector of IP ranges
abbrev pub address_of : PlainTerm
address_of = Application (ExtOp IpAddrV4Op) (terms (variable (codes "i") (ExtensionType IpAddrKind) ∷ [])) (BitVecType 32)

-- the family of a variable: an operator that is no selector
abbrev pub family_of : PlainTerm
family_of = Application (ExtOp IpIsV4Op) (terms (variable (codes "i") (ExtensionType IpAddrKind) ∷ [])) BoolType

-- what chosen terms reach, and what of it `sevens` gives
pub record ReachedRows : Type 0 where
  pub parts_first : subterms (eq x (SomeTerm y)) ≡ x ∷ y ∷ SomeTerm y ∷ eq x (SomeTerm y) ∷ []
  pub variables : reached_variables (eq y x ∷ x ∷ []) ≡ (codes "y", bits_8) ∷ (codes "x", bits_8) ∷ (codes "x", bits_8) ∷ []
  pub functions : reached_functions (f_of (f_of x) ∷ inside_o ∷ []) ≡ a_function ∷ a_function ∷ []
  pub options : reached_options (f_of inside_o ∷ x ∷ []) ≡ bits_8 ∷ []
  pub selectors : reached_selectors (address_of ∷ family_of ∷ []) ≡ IpAddrV4Op ∷ []
  pub types : reached_types (variable (codes "s") (SetType bits_8) ∷ []) ≡ bits_8 ∷ SetType bits_8 ∷ []
  -- `sevens` gives bytes to `f` and to none, true to variables, and 32 bits to selectors
  pub given_variable : IsInterpretation [] (variable (codes "b") BoolType ∷ []) sevens
  pub given_no_variable : IsInterpretation [] (x ∷ []) sevens → ⊥
  pub given_function : IsInterpretation [] (f_of (one_byte 1) ∷ []) sevens
  pub given_no_function : IsInterpretation []
      (Application (UufOp (record { id = []; argument = bits_8; output = bits_16 })) (terms (one_byte 1 ∷ [])) bits_16 ∷ []) sevens → ⊥
  pub given_inside : IsInterpretation [] (Application OptionGetOp (terms (NoneTerm bits_8 ∷ [])) bits_8 ∷ []) sevens
  pub given_no_inside : IsInterpretation [] (Application OptionGetOp (terms (NoneTerm BoolType ∷ [])) BoolType ∷ []) sevens → ⊥
  pub given_selector :
      IsInterpretation [] (Application (ExtOp IpAddrV4Op) (terms (extension (Ipv6Of 0 None) ∷ [])) (BitVecType 32) ∷ []) sevens
  pub given_no_selector : IsInterpretation []
      (Application (ExtOp IpPrefixV4Op) (terms (extension (Ipv6Of 0 None) ∷ [])) (OptionType (BitVecType 5)) ∷ []) sevens → ⊥
  pub distinct : AreDistinct (byte 1 ∷ byte 2 ∷ [])
  pub twice : AreDistinct (byte 1 ∷ byte 2 ∷ byte 1 ∷ []) → ⊥
  pub other_family : IsOfOtherFamily IpAddrV4Op (ExtensionValue (Ipv6Of 9 None))
  pub own_family : IsOfOtherFamily IpAddrV4Op (ip 9) → ⊥

-- the rows of types, of values and of what is reached, and the values of chosen terms
pub record TermRows : Type 0 where
  pub types : TypeRows
  pub values : ValueRows
  pub reached : ReachedRows
  -- two variables with one value are one element
  pub sets :
      meaning sevens (SetTerm BoolType (terms (variable (codes "p") BoolType ∷ variable (codes "q") BoolType ∷ [])))
      ≡ SetValue (one_value yes no_values)
  -- each attribute has the value of its own term
  pub records : meaning sevens (RecordTerm (one_field (codes "a") (one_byte 1) (one_field (codes "b") (one_byte 2) no_fields))) ≡ two_fields
  pub options : map (meaning sevens) (NoneTerm bits_8 ∷ SomeTerm (one_byte 1) ∷ []) ≡ NoneValue ∷ SomeValue (byte 1) ∷ []
  pub ids : meaning sevens (LiteralTerm (EntityLiteral (codes "User") last_character)) ≡ EntityValue (codes "User") (196607 ∷ [])
  pub negation : term_value sevens (Application NotOp (terms (variable (codes "b") BoolType ∷ [])) BoolType) ≡ BoolValue false
  pub ill_typed : typed (Application AndOp (terms (variable (codes "b") BoolType ∷ [])) BoolType) ≡ false
  -- a term that is not typed is false
  pub ill_typed_value :
      term_value sevens (SomeTerm (Application AndOp (terms (variable (codes "b") BoolType ∷ [])) BoolType)) ≡ BoolValue false
  pub shifted :
      term_value sevens (eq
      (Application (BitsOp BvshlOp) (terms (LiteralTerm (BitVecLiteral 64 1) ∷ LiteralTerm (BitVecLiteral 64 4294967296) ∷ []))
      (BitVecType 64))
      (LiteralTerm (BitVecLiteral 64 0))) ≡ BoolValue true
  pub past_ascii : term_value sevens (text last_character) ≡ StringValue (196607 ∷ [])
  pub too_wide : typed (Application (ZeroExtendOp 100) (terms (LiteralTerm (BitVecLiteral 64 1) ∷ [])) (BitVecType 164)) ≡ false

-- pairs of literals whose terms stand the other way round than their values
pub record OrderRows : Type 0 where
  pub negative_terms : term_cmp (extension (DecimalOf (negsuc 0))) (extension (DecimalOf (pos 3))) ≡ Less
  pub negative_values : value_cmp (ExtensionValue (DecimalOf (negsuc 0))) (ExtensionValue (DecimalOf (pos 3))) ≡ Greater
  pub prefix_terms : term_cmp (extension (Ipv4Of 1 None)) (extension (Ipv4Of 1 (Some 8))) ≡ Greater
  pub prefix_values : value_cmp (ExtensionValue (Ipv4Of 1 None)) (ExtensionValue (Ipv4Of 1 (Some 8))) ≡ Less
  pub kinds_terms : term_cmp (extension (Ipv4Of 1 None)) (extension (DatetimeOf (pos 0))) ≡ Less
  pub kinds_values : value_cmp (ExtensionValue (Ipv4Of 1 None)) (ExtensionValue (DatetimeOf (pos 0))) ≡ Greater
