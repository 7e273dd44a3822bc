-- The foldings of the operators of the extension types stand for the operators.
use Rattle.std.proofs.Common.{◌≡◌, ℕ, ◌^◌, ◌<◌, ◌≤◌, Bool, true, false, [], refl, sym, subst, arith}
use Rattle.std.specs.Prelude.{ℤ, cond, ◌==◌, Option, Some, None}
use Rattle.std.proofs.lemmas.Bool.{eqb-true}
use Rattle.law_numbers.specs.BitVectors.{bits_of, signed}
use Rattle.law_numbers.proofs.BitRanges as ranges
use Rattle.law_folding.specs.Applications.{bits_literal, extension_of}
use Rattle.law_folding.specs.FoldExtensions.{extension_literal, folded_extension, prefix_literal, signed_literal}
use Rattle.law_folding.specs.Refinement.{Refines}
use Rattle.law_folding.proofs.BitsStand.{bits_formed, literal_standing}
use Rattle.law_folding.proofs.ConnectivesStand.{argument}
use Rattle.law_folding.proofs.Standing.{itself, one_of, standing, truth_standing}
use Rattle.law_terms.specs.Defaults.{default_interpretation}
use Rattle.law_terms.specs.Formed.{IsFormed, IsFormedExtension, IsFormedNode, IsFormedType}
use Rattle.law_terms.specs.Meaning.{meaning}
use Rattle.law_terms.specs.Operators.{apply_extension, prefix_value}
use Rattle.law_terms.specs.Tables.{Interpretation}
use Rattle.law_terms.specs.Types.{extension_signature, kind_of}
use Rattle.law_terms.specs.TypeValues.{IsLong, IsPrefix}
use Rattle.law_terms.proofs.Soundness.{extension_result}
use Rattle.law_terms.specs.Plain.{OptionType, BitVecType, BoolType, ExtensionType, ExtensionOp, DatetimeOfBitVecOp, DatetimeValOp, DecimalValOp, DurationOfBitVecOp, DurationValOp, IpAddrV4Op, IpAddrV6Op, IpIsV4Op, IpPrefixV4Op, IpPrefixV6Op, ExtOp, PlainExtension, DecimalOf, Ipv4Of, Ipv6Of, DatetimeOf, DurationOf, BitVecLiteral, BoolLiteral, ExtensionLiteral, PlainTerm, LiteralTerm, NoneTerm, SomeTerm}
use Rattle.law_terms.specs.Values.{BitVecValue, BoolValue, ExtensionValue}

-- ---- a literal as the argument

formed_argument : (o : ExtensionOp) (x : PlainExtension) → IsFormed (extension_of o (extension_literal x)) → IsFormedExtension x
formed_argument o x f = (argument IsFormedNode (ExtOp o) (extension_literal x) (extension_signature o).1 f.literals).0

formed_bits : (o : ExtensionOp) (n a : ℕ) → IsFormed (extension_of o (bits_literal n a)) → a < 2 ^ n
formed_bits o n a f = (argument IsFormedNode (ExtOp o) (bits_literal n a) (extension_signature o).1 f.literals).0

-- ---- what an operator gives, where it has the operator's type and value

module _ (o : ExtensionOp) (t : PlainTerm) where
  bits_stand : (n a : ℕ) → BitVecType n ≡ (extension_signature o).1 → IsFormedType (BitVecType n) → (IsFormed (extension_of o t) → a < 2 ^ n) → ((I : Interpretation) → BitVecValue n a ≡ apply_extension I o (meaning I t)) → Refines (bits_literal n a) (extension_of o t)
  bits_stand n a e w l v = literal_standing (BitVecLiteral n a) (extension_of o t) (λ f. bits_formed n a (l f) w) (λ h. (refl, e)) (λ enums I h f g. v I)

  signed_stands : (z : ℤ) → BitVecType 64 ≡ (extension_signature o).1 → ((I : Interpretation) → BitVecValue 64 (bits_of 64 z) ≡ apply_extension I o (meaning I t)) → Refines (signed_literal z) (extension_of o t)
  signed_stands z e v = bits_stand 64 (bits_of 64 z) e ((omega arith, omega arith), tt) (λ f. ranges.bits_of-below 64 z) v

  truth_stands : (b : Bool) → (extension_signature o).1 ≡ BoolType → ((I : Interpretation) → BoolValue b ≡ apply_extension I o (meaning I t)) → Refines (LiteralTerm (BoolLiteral b)) (extension_of o t)
  truth_stands b e v = truth_standing b (extension_of o t) e (λ enums I h f g. v I)

  prefix_stands : (n : ℕ) (p : Option ℕ) → OptionType (BitVecType n) ≡ (extension_signature o).1 → (1 ≤ n) × (n ≤ 128) → (IsFormed (extension_of o t) → IsPrefix n p) → ((I : Interpretation) → prefix_value n p ≡ apply_extension I o (meaning I t)) → Refines (prefix_literal n p) (extension_of o t)
  prefix_stands n None e w l v =
      standing (NoneTerm (BitVecType n)) (extension_of o t) (λ P q h. (q (NoneTerm (BitVecType n)) (refl, refl, refl, refl), tt)) (λ f. record { literals = (tt, tt); types = ((w, (tt, tt)), tt) }) (λ h. (refl, e)) (λ enums I h f g. v I)
  prefix_stands n (Some p) e w l v =
      standing (SomeTerm (bits_literal n p)) (extension_of o t) (λ P q h. (q (bits_literal n p) (refl, refl, refl, refl), (q (SomeTerm (bits_literal n p)) (refl, refl, refl, refl), tt)))
      (λ f. record { literals = (l f, (tt, tt)); types = ((w, tt), ((w, (tt, tt)), tt)) }) (λ h. (refl, e)) (λ enums I h f g. v I)

-- the signed number of 64 bits
signed_fits : (a : ℕ) → a < 2 ^ 64 → IsLong (signed 64 a)
signed_fits a h = extension_result [] (default_interpretation []) DatetimeOfBitVecOp (BitVecValue 64 a) (refl, h) tt

module _ (o : ExtensionOp) (of : ℤ → PlainExtension) (n a : ℕ) where
  made_stands : (extension_signature o).1 ≡ ExtensionType (kind_of (of (signed 64 a))) → (IsLong (signed 64 a) → IsFormedExtension (of (signed 64 a))) → ((I : Interpretation) → ExtensionValue (of (signed 64 a)) ≡ apply_extension I o (BitVecValue n a))
      → Refines (cond (n == 64) (extension_literal (of (signed 64 a))) (extension_of o (bits_literal n a))) (extension_of o (bits_literal n a))
  made_stands e w v =
      one_of (n == 64) (extension_literal (of (signed 64 a))) (extension_of o (bits_literal n a)) (extension_of o (bits_literal n a))
      (λ h. literal_standing (ExtensionLiteral (of (signed 64 a))) (extension_of o (bits_literal n a))
      (λ f. record { literals = (w (signed_fits a (subst (λ k. a < 2 ^ k) (eqb-true n 64 h) (formed_bits o n a f))), tt); types = ((tt, tt), tt) }) (λ g. (refl, sym e)) (λ enums I g f i. v I))
      (itself (extension_of o (bits_literal n a)))

-- ---- each operator

pub stands_extension : (o : ExtensionOp) (t : PlainTerm) → Refines (folded_extension o t) (extension_of o t)
stands_extension DecimalValOp (LiteralTerm (ExtensionLiteral (DecimalOf z))) = signed_stands DecimalValOp (extension_literal (DecimalOf z)) z refl (λ I. refl)
stands_extension DatetimeValOp (LiteralTerm (ExtensionLiteral (DatetimeOf z))) = signed_stands DatetimeValOp (extension_literal (DatetimeOf z)) z refl (λ I. refl)
stands_extension DurationValOp (LiteralTerm (ExtensionLiteral (DurationOf z))) = signed_stands DurationValOp (extension_literal (DurationOf z)) z refl (λ I. refl)
stands_extension IpIsV4Op (LiteralTerm (ExtensionLiteral (Ipv4Of a p))) = truth_stands IpIsV4Op (extension_literal (Ipv4Of a p)) true refl (λ I. refl)
stands_extension IpIsV4Op (LiteralTerm (ExtensionLiteral (Ipv6Of a p))) = truth_stands IpIsV4Op (extension_literal (Ipv6Of a p)) false refl (λ I. refl)
stands_extension IpAddrV4Op (LiteralTerm (ExtensionLiteral (Ipv4Of a p))) =
    bits_stand IpAddrV4Op (extension_literal (Ipv4Of a p)) 32 a refl ((omega arith, omega arith), tt) (λ f. (formed_argument IpAddrV4Op (Ipv4Of a p) f).0) (λ I. refl)
stands_extension IpAddrV6Op (LiteralTerm (ExtensionLiteral (Ipv6Of a p))) =
    bits_stand IpAddrV6Op (extension_literal (Ipv6Of a p)) 128 a refl ((omega arith, omega arith), tt) (λ f. (formed_argument IpAddrV6Op (Ipv6Of a p) f).0) (λ I. refl)
stands_extension IpPrefixV4Op (LiteralTerm (ExtensionLiteral (Ipv4Of a p))) =
    prefix_stands IpPrefixV4Op (extension_literal (Ipv4Of a p)) 5 p refl (omega arith, omega arith) (λ f. (formed_argument IpPrefixV4Op (Ipv4Of a p) f).1) (λ I. refl)
stands_extension IpPrefixV6Op (LiteralTerm (ExtensionLiteral (Ipv6Of a p))) =
    prefix_stands IpPrefixV6Op (extension_literal (Ipv6Of a p)) 7 p refl (omega arith, omega arith) (λ f. (formed_argument IpPrefixV6Op (Ipv6Of a p) f).1) (λ I. refl)
stands_extension DatetimeOfBitVecOp (LiteralTerm (BitVecLiteral n a)) = made_stands DatetimeOfBitVecOp DatetimeOf n a refl (λ l. l) (λ I. refl)
stands_extension DurationOfBitVecOp (LiteralTerm (BitVecLiteral n a)) = made_stands DurationOfBitVecOp DurationOf n a refl (λ l. l) (λ I. refl)
stands_extension o t = itself (extension_of o t)
