-- Clauses of extension values: a decimal, a datetime and a duration are their 64 bits, an IP range its family, address and prefix.
use Rattle.std.specs.Prelude.{List, [], ◌∷◌}
use Rattle.law_terms.specs.Plain.{BitVecType, ExtensionKind, IpAddrKind, DecimalKind, DatetimeKind, DurationKind, ExtensionType}
use Rattle.law_terms.specs.Plain.{ExtensionOp, DatetimeOfBitVecOp, DatetimeValOp, DecimalValOp, DurationOfBitVecOp, DurationValOp}
use Rattle.law_terms.specs.Plain.{IpAddrV4Op, IpAddrV6Op, IpIsV4Op, IpPrefixV4Op, IpPrefixV6Op, PlainTerm}
use Rattle.law_terms.specs.TypeValues.{Enums}
use Rattle.law_clauses.specs.Applications.{extension_term}
use Rattle.law_clauses.specs.Sequents.{IsValid, Sequent, always, implies, ◌⊢◌}
use Rattle.law_clauses.specs.Shapes.{HasShape}
use Rattle.law_clauses.specs.Statements.{Atom, TruthOf, same_terms}

-- two terms have the same value under an operator
abbrev pub same_under : ExtensionOp → PlainTerm → PlainTerm → Atom
same_under o t u = same_terms (extension_term o t) (extension_term o u)

-- values of the same bits are the same
abbrev pub same_bits : ExtensionOp → PlainTerm → PlainTerm → Sequent
same_bits o t u = implies (same_under o t u) (same_terms t u)

-- an IP range is of the family of IPv4
abbrev pub is_v4 : PlainTerm → Atom
is_v4 t = TruthOf (extension_term IpIsV4Op t)

-- two ranges of IPv4 with the same address and the same prefix are the same
abbrev pub same_v4 : PlainTerm → PlainTerm → Sequent
same_v4 t u = (is_v4 t ∷ is_v4 u ∷ same_under IpAddrV4Op t u ∷ same_under IpPrefixV4Op t u ∷ []) ⊢ (same_terms t u ∷ [])

-- so are two of IPv6
abbrev pub same_v6 : PlainTerm → PlainTerm → Sequent
same_v6 t u = (same_under IpAddrV6Op t u ∷ same_under IpPrefixV6Op t u ∷ []) ⊢ (is_v4 t ∷ is_v4 u ∷ same_terms t u ∷ [])

-- a value of bits has these bits
abbrev pub of_and_back : (of back : ExtensionOp) → PlainTerm → Sequent
of_and_back of back b = always (same_terms (extension_term back (extension_term of b)) b)

-- two terms have in every interpretation of the roots values of the shape of an extension type
abbrev pub AreOfKind : Enums → List PlainTerm → ExtensionKind → PlainTerm → PlainTerm → Type 0
AreOfKind enums roots k t u = HasShape enums roots t (ExtensionType k) × HasShape enums roots u (ExtensionType k)

-- all of these are valid of terms of their types
pub record ExtensionsAreValid (enums : Enums) (roots : List PlainTerm) : Type 0 where
  pub decimals : (t u : PlainTerm) → AreOfKind enums roots DecimalKind t u → IsValid enums roots (same_bits DecimalValOp t u)
  pub datetimes : (t u : PlainTerm) → AreOfKind enums roots DatetimeKind t u → IsValid enums roots (same_bits DatetimeValOp t u)
  pub durations : (t u : PlainTerm) → AreOfKind enums roots DurationKind t u → IsValid enums roots (same_bits DurationValOp t u)
  pub v4 : (t u : PlainTerm) → AreOfKind enums roots IpAddrKind t u → IsValid enums roots (same_v4 t u)
  pub v6 : (t u : PlainTerm) → AreOfKind enums roots IpAddrKind t u → IsValid enums roots (same_v6 t u)
  pub datetime_bits :
      (b : PlainTerm) → HasShape enums roots b (BitVecType 64) → IsValid enums roots (of_and_back DatetimeOfBitVecOp DatetimeValOp b)
  pub duration_bits :
      (b : PlainTerm) → HasShape enums roots b (BitVecType 64) → IsValid enums roots (of_and_back DurationOfBitVecOp DurationValOp b)
