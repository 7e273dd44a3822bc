-- What the code finds at literals, in the words of the foldings, and that this stands for what was asked for.
use Rattle.std.proofs.Common.{◌≡◌, ℕ, Bool, true, false, refl, ap, ◌∙◌, sym, subst}
use Rattle.std.specs.Prelude.{cond, ◌==◌, Some, None}
use Rattle.std.specs.Option.{unwrap_or}
use Rattle.law_numbers.specs.BitVectors.{signed}
use Rattle.law_folding.specs.Applications.{bits_literal, extension_of}
use Rattle.law_folding.specs.FoldExtensions.{extension_literal, folded_extension}
use Rattle.law_folding.specs.Refinement.{Refines}
use Rattle.law_folding.proofs.ExtensionsStand.{stands_extension}
use Rattle.law_terms.specs.Plain.{ExtensionOp, DatetimeOfBitVecOp, DatetimeValOp, DecimalValOp, DurationOfBitVecOp, DurationValOp, IpAddrV4Op, IpAddrV6Op, IpIsV4Op, IpPrefixV4Op, IpPrefixV6Op, PlainExtension, DatetimeOf, DecimalOf, DurationOf, BitVecLiteral, ExtensionLiteral, PlainTerm, LiteralTerm}
use Rattle.smt_factory_core.specs.Given.{given_at, made_of, part_of}

at_value : (o : ExtensionOp) (x : PlainExtension) → folded_extension o (extension_literal x) ≡ unwrap_or (part_of o x) (extension_of o (extension_literal x))
at_value DatetimeOfBitVecOp (DecimalOf z) = refl
at_value DatetimeValOp (DecimalOf z) = refl
at_value DecimalValOp (DecimalOf z) = refl
at_value DurationOfBitVecOp (DecimalOf z) = refl
at_value DurationValOp (DecimalOf z) = refl
at_value IpAddrV4Op (DecimalOf z) = refl
at_value IpAddrV6Op (DecimalOf z) = refl
at_value IpIsV4Op (DecimalOf z) = refl
at_value IpPrefixV4Op (DecimalOf z) = refl
at_value IpPrefixV6Op (DecimalOf z) = refl
at_value o x = refl

chosen : (b : Bool) (t u : PlainTerm) → cond b t u ≡ unwrap_or (cond b (Some t) None) u
chosen true t u = refl
chosen false t u = refl

at_bits : (o : ExtensionOp) (n a : ℕ) → folded_extension o (bits_literal n a) ≡ unwrap_or (made_of o n a) (extension_of o (bits_literal n a))
at_bits DatetimeOfBitVecOp n a = chosen (n == 64) (extension_literal (DatetimeOf (signed 64 a))) (extension_of DatetimeOfBitVecOp (bits_literal n a))
at_bits DurationOfBitVecOp n a = chosen (n == 64) (extension_literal (DurationOf (signed 64 a))) (extension_of DurationOfBitVecOp (bits_literal n a))
at_bits o n a = refl

pub folded-is : (o : ExtensionOp) (t : PlainTerm) → folded_extension o t ≡ unwrap_or (given_at o t) (extension_of o t)
folded-is o (LiteralTerm (ExtensionLiteral x)) = at_value o x
folded-is o (LiteralTerm (BitVecLiteral n a)) = at_bits o n a
folded-is DatetimeOfBitVecOp t = refl
folded-is DatetimeValOp t = refl
folded-is DecimalValOp t = refl
folded-is DurationOfBitVecOp t = refl
folded-is DurationValOp t = refl
folded-is IpAddrV4Op t = refl
folded-is IpAddrV6Op t = refl
folded-is IpIsV4Op t = refl
folded-is IpPrefixV4Op t = refl
folded-is IpPrefixV6Op t = refl

pub folded_extension-given : (o : ExtensionOp) (t u : PlainTerm) → Some u ≡ given_at o t → folded_extension o t ≡ u
folded_extension-given o t u h = folded-is o t ∙ ap (λ f. unwrap_or f (extension_of o t)) (sym h)

pub folded_extension-asked : (o : ExtensionOp) (t : PlainTerm) → None ≡ given_at o t → folded_extension o t ≡ extension_of o t
folded_extension-asked o t h = folded-is o t ∙ ap (λ f. unwrap_or f (extension_of o t)) (sym h)

pub stands_for_extension : (r : PlainTerm) (o : ExtensionOp) (t : PlainTerm) → r ≡ folded_extension o t → Refines r (extension_of o t)
stands_for_extension r o t e = subst (λ (u : PlainTerm). Refines u (extension_of o t)) (sym e) (stands_extension o t)

pub ruleset extending = (folded_extension-given, folded_extension-asked, stands_for_extension)
