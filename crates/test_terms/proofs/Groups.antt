-- The test of multicast ranges and the address of version 4 are a rule on ranges.
use Rattle.std.proofs.Common.{◌≡◌, [], arith, subst, sym}
use Rattle.law_extensions.specs.ExtensionFunctions.{is_multicast}
use Rattle.law_extensions.specs.Laws.{BothRefine}
use Rattle.law_extensions.specs.Rules.{IsRangeRule}
use Rattle.law_extensions.specs.Values.{HasRange}
use Rattle.law_extensions.proofs.Alike.{extension_alike}
use Rattle.law_extensions.proofs.OfValues.{at_range, multicast_at_values}
use Rattle.law_folding.specs.Applications.{extension_of}
use Rattle.law_folding.specs.Builder.{applied}
use Rattle.law_folding.specs.Refinement.{Refines}
use Rattle.law_terms.specs.Plain.{BitVecType, BoolType, IpAddrV4Op, PlainTerm}
use Rattle.law_terms.specs.Tables.{Interpretation}
use Rattle.law_terms.specs.Typing.{Typed}
use Rattle.smt_ext.specs.IpRanges.{Range}
use Rattle.test_terms.specs.Groups.{address_twice}

-- a shared address stands for the address too
pub twice_stands : (t a s : PlainTerm) → s ≡ a → Refines a (extension_of IpAddrV4Op t) → BothRefine (s, a) (address_twice t)
twice_stands t a s e h = (subst (λ (x : PlainTerm). Refines x (extension_of IpAddrV4Op t)) (sym e) h, h)

tests_typed : (I : Interpretation) (t : PlainTerm) (r : Range) → HasRange I t r → Typed (is_multicast applied t) BoolType
tests_typed I t r h = let a = multicast_at_values [] I t r h in record { parts = a.typed_second; type = a.type_second }

addresses_typed : (I : Interpretation) (t : PlainTerm) (r : Range) → HasRange I t r → Typed (extension_of IpAddrV4Op t) (BitVecType 32)
addresses_typed I t r h = let a = extension_alike [] I IpAddrV4Op ((omega arith, omega arith), tt) (at_range [] I r t h) in record { parts = a.typed_second; type = a.type_second }

pub groups_are_a_rule : IsRangeRule (is_multicast applied) address_twice
groups_are_a_rule = record {
  width = 32;
  tested = tests_typed;
  bounded = λ I t r h. (addresses_typed I t r h, addresses_typed I t r h);
  block = λ enums I t r h i e. omega arith;
}
