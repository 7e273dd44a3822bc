-- What the operators of the extension types give where they fold, by the value or the bits of a literal.
use Rattle.std.specs.Prelude.{ℕ, cond, ◌==◌, Option, Some, None}
use Rattle.law_numbers.specs.BitVectors.{signed}
use Rattle.law_folding.specs.Applications.{true_term, false_term, bits_literal}
use Rattle.law_folding.specs.FoldExtensions.{extension_literal, prefix_literal, signed_literal}
use Rattle.law_terms.specs.Plain.{ExtensionOp, DatetimeOfBitVecOp, DatetimeValOp, DecimalValOp, DurationOfBitVecOp, DurationValOp}
use Rattle.law_terms.specs.Plain.{IpAddrV4Op, IpAddrV6Op, IpIsV4Op, IpPrefixV4Op, IpPrefixV6Op, PlainExtension, DecimalOf, Ipv4Of, Ipv6Of}
use Rattle.law_terms.specs.Plain.{DatetimeOf, DurationOf, BitVecLiteral, ExtensionLiteral, PlainTerm, LiteralTerm}

-- what an operator gives of a value, where it is an operator of the value's kind and family
abbrev pub part_of : ExtensionOp → PlainExtension → Option PlainTerm
part_of DecimalValOp (DecimalOf z) = Some (signed_literal z)
part_of DatetimeValOp (DatetimeOf z) = Some (signed_literal z)
part_of DurationValOp (DurationOf z) = Some (signed_literal z)
part_of IpIsV4Op (Ipv4Of a p) = Some true_term
part_of IpIsV4Op (Ipv6Of a p) = Some false_term
part_of IpAddrV4Op (Ipv4Of a p) = Some (bits_literal 32 a)
part_of IpAddrV6Op (Ipv6Of a p) = Some (bits_literal 128 a)
part_of IpPrefixV4Op (Ipv4Of a p) = Some (prefix_literal 5 p)
part_of IpPrefixV6Op (Ipv6Of a p) = Some (prefix_literal 7 p)
part_of o x = None

-- the value that an operator makes of a literal of bits, where these are 64
abbrev pub made_of : ExtensionOp → (width number : ℕ) → Option PlainTerm
made_of DatetimeOfBitVecOp n a = cond (n == 64) (Some (extension_literal (DatetimeOf (signed 64 a)))) None
made_of DurationOfBitVecOp n a = cond (n == 64) (Some (extension_literal (DurationOf (signed 64 a)))) None
made_of o n a = None

-- what an operator gives at a literal of an extension type or of bits, and nothing at any other term
abbrev pub given_at : ExtensionOp → PlainTerm → Option PlainTerm
given_at o (LiteralTerm (ExtensionLiteral x)) = part_of o x
given_at o (LiteralTerm (BitVecLiteral n a)) = made_of o n a
given_at o t = None
