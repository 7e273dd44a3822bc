-- Worked examples: what terms evaluate to, and what assignments lack.
use Rattle.std.specs.Prelude.{◌≡◌, ℕ, [], ◌∷◌, map, Some, None, codes}
use Rattle.law_numbers.specs.BitOperators.{BvlshrOp, BvshlOp, BvsltOp, BvuremOp}
use Rattle.law_assignments.specs.Assignments.{PlainAssignment}
use Rattle.law_assignments.specs.Covered.{first_missing}
use Rattle.law_assignments.specs.Evaluated.{evaluated}
use Rattle.law_assignments.specs.Sound.{IsSound}
use Rattle.law_folding.specs.Applications.{bits_literal, bits_of_two, eq_of, extension_of, false_term, ite_of, not_of, option_get_of}
use Rattle.law_folding.specs.Applications.{record_get_of, set_member_of, test_of_two, true_term}
use Rattle.law_folding.specs.FoldExtensions.{extension_literal}
use Rattle.law_folding.specs.FoldFunctions.{uuf_of}
use Rattle.law_terms.specs.Functions.{PlainDefinition}
use Rattle.law_terms.specs.Plain.{IpAddrKind, BitVecType, BoolType, ExtensionType, StringType, PlainFunction, IpAddrV4Op, IpPrefixV4Op}
use Rattle.law_terms.specs.Plain.{Ipv4Of, Ipv6Of, PlainTerm, NoneTerm, RecordTerm, SetTerm, SomeTerm, VariableTerm, BitsOp, TestOp}
use Rattle.law_terms.specs.Plain.{no_fields, one_field, terms}
use Rattle.law_terms.specs.TermSets.{set_term}

-- a number as a literal of 8 bits
abbrev pub byte : ℕ → PlainTerm
byte n = bits_literal 8 n

-- a variable of 8 bits
abbrev pub x : PlainTerm
x = VariableTerm (codes "x") (BitVecType 8)

-- a Boolean variable
abbrev pub b : PlainTerm
b = VariableTerm (codes "b") BoolType

-- a function of bytes
abbrev pub f : PlainFunction
f = record { id = codes "f"; argument = BitVecType 8; output = BitVecType 8 }

-- its table: 9 at 127, and elsewhere 0
abbrev pub nine_at_127 : PlainDefinition
nine_at_127 = record { argument = BitVecType 8; output = BitVecType 8; entries = (byte 127, byte 9) ∷ []; elsewhere = byte 0 }

-- the range that holds all addresses of version 6
abbrev pub all_v6 : PlainTerm
all_v6 = extension_literal (Ipv6Of 0 (Some 0))

-- the address 1.2.3.4
abbrev pub host_v4 : PlainTerm
host_v4 = extension_literal (Ipv4Of 16909060 None)

-- the table of a selector for addresses of version 4: 7 at the range of all addresses of version 6, and elsewhere 5
abbrev pub address_of_others : PlainDefinition
address_of_others =
    record {
      argument = ExtensionType IpAddrKind;
      output = BitVecType 32;
      entries = (all_v6, bits_literal 32 7) ∷ [];
      elsewhere = bits_literal 32 5;
    }

-- an assignment that gives a value of each kind
abbrev pub given : PlainAssignment
given = record {
  variables = (codes "b", false_term) ∷ (codes "x", byte 127) ∷ [];
  functions = (codes "f", nine_at_127) ∷ [];
  gets = (BoolType, true_term) ∷ [];
  selectors = (IpAddrV4Op, address_of_others) ∷ [];
}

-- the assignment that gives nothing
abbrev pub none_given : PlainAssignment
none_given = record { variables = []; functions = []; gets = []; selectors = [] }

-- what terms evaluate to over that assignment
pub record EvaluationRows : Type 0 where
  pub negated : evaluated given (not_of b) ≡ true_term
  -- a remainder by zero, and a signed comparison
  pub bits :
      map (evaluated given) (eq_of (bits_of_two (BitsOp BvuremOp) x (byte 0)) x ∷ test_of_two (TestOp BvsltOp) x (byte 0) ∷ [])
      ≡ true_term ∷ false_term ∷ []
  -- shifts by 2 to the 40
  pub far :
      map (evaluated given)
      (map (λ o. bits_of_two (BitsOp o) (bits_literal 64 1) (bits_literal 64 1099511627776)) (BvshlOp ∷ BvlshrOp ∷ []))
      ≡ bits_literal 64 0 ∷ bits_literal 64 0 ∷ []
  pub functions : map (evaluated given) (uuf_of f x ∷ uuf_of f (byte 1) ∷ []) ≡ byte 9 ∷ byte 0 ∷ []
  pub options : map (evaluated given) (option_get_of (NoneTerm BoolType) ∷ option_get_of (SomeTerm b) ∷ []) ≡ true_term ∷ false_term ∷ []
  -- at the other family by the table, and at its own by the address
  pub selectors :
      map (λ t. evaluated given (extension_of IpAddrV4Op t)) (all_v6 ∷ extension_literal (Ipv6Of 1 None) ∷ host_v4 ∷ [])
      ≡ bits_literal 32 7 ∷ bits_literal 32 5 ∷ bits_literal 32 16909060 ∷ []
  pub prefix : evaluated given (extension_of IpPrefixV4Op host_v4) ≡ NoneTerm (BitVecType 5)
  -- two terms of one value are one element
  pub sets :
      map (evaluated given) (set_term (BitVecType 8) (x ∷ byte 127 ∷ []) ∷ set_member_of x (set_term (BitVecType 8) (x ∷ byte 1 ∷ [])) ∷ [])
      ≡ SetTerm (BitVecType 8) (terms (byte 127 ∷ [])) ∷ true_term ∷ []
  pub records : evaluated given (record_get_of (RecordTerm (one_field (codes "a") x no_fields)) (codes "a")) ≡ byte 127
  pub chosen : evaluated given (ite_of b x (byte 3)) ≡ byte 3

-- what is told as the first that an assignment lacks
pub record MissingRows : Type 0 where
  pub none : first_missing given (uuf_of f x ∷ option_get_of (NoneTerm BoolType) ∷ extension_of IpAddrV4Op all_v6 ∷ []) ≡ None
  -- parts come before what they are parts of
  pub argument : first_missing none_given (uuf_of f x ∷ []) ≡ Some (codes "x")
  pub function : first_missing none_given (uuf_of f (byte 0) ∷ x ∷ []) ≡ Some (codes "f")
  pub get : first_missing none_given (option_get_of (NoneTerm BoolType) ∷ []) ≡ Some (codes "option.get")
  pub other_get : first_missing given (option_get_of (NoneTerm StringType) ∷ []) ≡ Some (codes "option.get")
  pub selector : first_missing none_given (extension_of IpAddrV4Op host_v4 ∷ []) ≡ Some (codes "ipaddr.addrV4")
  pub other_selector : first_missing given (extension_of IpPrefixV4Op host_v4 ∷ []) ≡ Some (codes "ipaddr.prefixV4")
  -- a variable that has a value of another type
  pub other_type : first_missing given (VariableTerm (codes "x") BoolType ∷ []) ≡ Some (codes "x")

-- The assignment of the examples is sound.
abbrev pub GivenIsSound : Type 0
GivenIsSound = IsSound [] given

-- An assignment whose value of `option.get` is of another type is not sound, nor one with a key of the selector's own family.
abbrev pub OthersAreNotSound : Type 0
OthersAreNotSound =
    (IsSound [] (record none_given { gets = (BoolType, byte 0) ∷ [] }) → ⊥)
    × (IsSound []
    (record none_given { selectors = (IpAddrV4Op, record address_of_others { entries = (host_v4, bits_literal 32 7) ∷ [] }) ∷ [] }) → ⊥)
