-- The folding of the operators of the extension types: the cases in the order in which they are tried.
use Rattle.std.specs.Prelude.{ℕ, ℤ, cond, ◌==◌, Option, Some, None}
use Rattle.law_numbers.specs.BitVectors.{bits_of, signed}
use Rattle.law_folding.specs.Applications.{true_term, false_term, bits_literal, extension_of}
use Rattle.law_terms.specs.Plain.{BitVecType, ExtensionOp, DatetimeOfBitVecOp, DatetimeValOp, DecimalValOp, DurationOfBitVecOp}
use Rattle.law_terms.specs.Plain.{DurationValOp, IpAddrV4Op, IpAddrV6Op, IpIsV4Op, IpPrefixV4Op, IpPrefixV6Op, PlainExtension, DecimalOf}
use Rattle.law_terms.specs.Plain.{Ipv4Of, Ipv6Of, DatetimeOf, DurationOf, BitVecLiteral, ExtensionLiteral, PlainTerm, LiteralTerm, NoneTerm}
use Rattle.law_terms.specs.Plain.{SomeTerm}

-- a value of an extension type as a literal
abbrev pub extension_literal : PlainExtension → PlainTerm
extension_literal x = LiteralTerm (ExtensionLiteral x)

-- a whole number as a literal of 64 bits, in two's complement
abbrev pub signed_literal : ℤ → PlainTerm
signed_literal z = bits_literal 64 (bits_of 64 z)

-- the prefix of an address: a literal of n bits, or none
abbrev pub prefix_literal : ℕ → Option ℕ → PlainTerm
prefix_literal n None = NoneTerm (BitVecType n)
prefix_literal n (Some p) = SomeTerm (bits_literal n p)

-- A literal gives its number, and an IP range whether it is of version 4, its address and its prefix; a literal of 64 bits gives
-- the datetime or the duration of its signed number. All else is the application: a selector at a range of the other family, an
-- operator at a literal of another kind or at bits of another width, and what is no literal.
abbrev pub folded_extension : ExtensionOp → PlainTerm → PlainTerm
folded_extension DecimalValOp (LiteralTerm (ExtensionLiteral (DecimalOf z))) = signed_literal z
folded_extension DatetimeValOp (LiteralTerm (ExtensionLiteral (DatetimeOf z))) = signed_literal z
folded_extension DurationValOp (LiteralTerm (ExtensionLiteral (DurationOf z))) = signed_literal z
folded_extension IpIsV4Op (LiteralTerm (ExtensionLiteral (Ipv4Of a p))) = true_term
folded_extension IpIsV4Op (LiteralTerm (ExtensionLiteral (Ipv6Of a p))) = false_term
folded_extension IpAddrV4Op (LiteralTerm (ExtensionLiteral (Ipv4Of a p))) = bits_literal 32 a
folded_extension IpAddrV6Op (LiteralTerm (ExtensionLiteral (Ipv6Of a p))) = bits_literal 128 a
folded_extension IpPrefixV4Op (LiteralTerm (ExtensionLiteral (Ipv4Of a p))) = prefix_literal 5 p
folded_extension IpPrefixV6Op (LiteralTerm (ExtensionLiteral (Ipv6Of a p))) = prefix_literal 7 p
folded_extension DatetimeOfBitVecOp (LiteralTerm (BitVecLiteral n a)) =
    cond (n == 64) (extension_literal (DatetimeOf (signed 64 a))) (extension_of DatetimeOfBitVecOp (bits_literal n a))
folded_extension DurationOfBitVecOp (LiteralTerm (BitVecLiteral n a)) =
    cond (n == 64) (extension_literal (DurationOf (signed 64 a))) (extension_of DurationOfBitVecOp (bits_literal n a))
folded_extension o t = extension_of o t
