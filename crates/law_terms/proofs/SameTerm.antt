-- Operators, literals and terms that the order holds equal are equal.
use Rattle.std.proofs.Common.{◌≡◌, ℕ, refl, ap, sym, ◌∙◌}
use Rattle.std.specs.Prelude.{Option, Some, None}
use Rattle.std.specs.FinMap.{nat_cmp-IsAntisymmetric, int_cmp-IsAntisymmetric, slice_cmp-IsAntisymmetric}
use Rattle.std.specs.Ordering.{nat_cmp, ordering_then}
use Rattle.std.specs.declared.cmp.Ordering.TheVariants.{Equal}
use Rattle.law_terms.specs.Interpretations.{extension_op_place}
use Rattle.law_numbers.proofs.BitOperators.{OperatorClass, InNone, InBits, InTests, InOverflows, class_at, bits_class, test_class, overflow_class, bits_same, test_same, overflow_same}
use Rattle.law_terms.specs.Plain.{PlainFunction, ExtensionOp, DatetimeOfBitVecOp, DatetimeValOp, DecimalValOp, DurationOfBitVecOp, DurationValOp, IpAddrV4Op, IpAddrV6Op, IpIsV4Op, IpPrefixV4Op, IpPrefixV6Op, PatternPart, Character, Wildcard, PlainOp, AndOp, BvnegOp, BvnegoOp, EqOp, ExtOp, IteOp, NotOp, OptionGetOp, OrOp, RecordGetOp, SetInterOp, SetMemberOp, SetSubsetOp, StringLikeOp, UufOp, ZeroExtendOp, PlainExtension, DecimalOf, Ipv4Of, Ipv6Of, DatetimeOf, DurationOf, PlainLiteral, BitVecLiteral, BoolLiteral, EntityLiteral, ExtensionLiteral, StringLiteral, PlainTerm, Application, NoneTerm, LiteralTerm, RecordTerm, SetTerm, SomeTerm, VariableTerm, PlainTerms, no_terms, one_term, PlainFields, no_fields, one_field, BitsOp, TestOp, OverflowOp}
use Rattle.law_terms.specs.TermOrder.{part_cmp, function_cmp, op_place, op_fields_cmp, op_cmp, prefix_cmp, extension_literal_cmp, literal_cmp, term_cmp, terms_cmp, fields_cmp}
use Rattle.law_terms.specs.Types.{type_cmp}
use Rattle.law_terms.specs.ValueOrder.{text_cmp}
use Rattle.law_terms.proofs.TypeOrder.{type_same}
use Rattle.law_terms.proofs.ValueOrder.{text_same, bool_same, then_equal}

pub part_same : (x y : PatternPart) → part_cmp x y ≡ Equal → x ≡ y
part_same (Character c) (Character d) h = ap Character (nat_cmp-IsAntisymmetric c d h)
part_same (Character c) Wildcard h = cc
part_same Wildcard (Character d) h = cc
part_same Wildcard Wildcard h = refl

pub function_same : (f g : PlainFunction) → function_cmp f g ≡ Equal → f ≡ g
function_same f g h =
    let e : (text_cmp f.id g.id ≡ Equal) × (ordering_then (type_cmp f.argument g.argument) (type_cmp f.output g.output) ≡ Equal) = then_equal (text_cmp f.id g.id) (ordering_then (type_cmp f.argument g.argument) (type_cmp f.output g.output)) h in
    let k : (type_cmp f.argument g.argument ≡ Equal) × (type_cmp f.output g.output ≡ Equal) = then_equal (type_cmp f.argument g.argument) (type_cmp f.output g.output) e.1 in
    let o : f.id ≡ g.id = text_same f.id g.id e.0 in
    let p : f.argument ≡ g.argument = type_same f.argument g.argument k.0 in
    let q : f.output ≡ g.output = type_same f.output g.output k.1 in
    λ i. record { id = o i; argument = p i; output = q i }

pub extension_op_same : (o p : ExtensionOp) → nat_cmp (extension_op_place o) (extension_op_place p) ≡ Equal → o ≡ p
extension_op_same DatetimeOfBitVecOp DatetimeOfBitVecOp h = refl
extension_op_same DatetimeValOp DatetimeValOp h = refl
extension_op_same DecimalValOp DecimalValOp h = refl
extension_op_same DurationOfBitVecOp DurationOfBitVecOp h = refl
extension_op_same DurationValOp DurationValOp h = refl
extension_op_same IpAddrV4Op IpAddrV4Op h = refl
extension_op_same IpAddrV6Op IpAddrV6Op h = refl
extension_op_same IpIsV4Op IpIsV4Op h = refl
extension_op_same IpPrefixV4Op IpPrefixV4Op h = refl
extension_op_same IpPrefixV6Op IpPrefixV6Op h = refl
extension_op_same o p h = cc

-- the class of an operator on two bitvectors, which its place tells
abbrev class_of : PlainOp → OperatorClass
class_of (BitsOp o) = InBits
class_of (TestOp o) = InTests
class_of (OverflowOp o) = InOverflows
class_of o = InNone

placed : (o : PlainOp) → class_at (op_place o) ≡ class_of o
placed (BitsOp o) = bits_class o
placed (TestOp o) = test_class o
placed (OverflowOp o) = overflow_class o
placed o = refl

one_class : (o p : PlainOp) → nat_cmp (op_place o) (op_place p) ≡ Equal → class_of o ≡ class_of p
one_class o p h = sym (placed o) ∙ (ap class_at (nat_cmp-IsAntisymmetric (op_place o) (op_place p) h) ∙ placed p)

-- operators of one variant with equal fields
op_alike : (o p : PlainOp) → nat_cmp (op_place o) (op_place p) ≡ Equal → op_fields_cmp o p ≡ Equal → o ≡ p
op_alike AndOp AndOp h g = refl
op_alike (BitsOp o) (BitsOp p) h g = ap BitsOp (bits_same o p h)
op_alike (TestOp o) (TestOp p) h g = ap TestOp (test_same o p h)
op_alike (OverflowOp o) (OverflowOp p) h g = ap OverflowOp (overflow_same o p h)
op_alike BvnegOp BvnegOp h g = refl
op_alike BvnegoOp BvnegoOp h g = refl
op_alike EqOp EqOp h g = refl
op_alike (ExtOp o) (ExtOp p) h g = ap ExtOp (extension_op_same o p g)
op_alike IteOp IteOp h g = refl
op_alike NotOp NotOp h g = refl
op_alike OptionGetOp OptionGetOp h g = refl
op_alike OrOp OrOp h g = refl
op_alike (RecordGetOp x) (RecordGetOp y) h g = ap RecordGetOp (text_same x y g)
op_alike SetInterOp SetInterOp h g = refl
op_alike SetMemberOp SetMemberOp h g = refl
op_alike SetSubsetOp SetSubsetOp h g = refl
op_alike (StringLikeOp p) (StringLikeOp q) h g = ap StringLikeOp (slice_cmp-IsAntisymmetric part_same p q g)
op_alike (UufOp f) (UufOp k) h g = ap UufOp (function_same f k g)
op_alike (ZeroExtendOp k) (ZeroExtendOp l) h g = ap ZeroExtendOp (nat_cmp-IsAntisymmetric k l g)
op_alike o p h g = let k : class_of o ≡ class_of p = one_class o p h in cc

pub op_same : (o p : PlainOp) → op_cmp o p ≡ Equal → o ≡ p
op_same o p h = let e = then_equal (nat_cmp (op_place o) (op_place p)) (op_fields_cmp o p) h in op_alike o p e.0 e.1

prefix_same : (p q : Option ℕ) → prefix_cmp p q ≡ Equal → p ≡ q
prefix_same (Some a) (Some b) h = ap Some (nat_cmp-IsAntisymmetric a b h)
prefix_same (Some a) None h = cc
prefix_same None (Some b) h = cc
prefix_same None None h = refl

range_same : (a b : ℕ) (p q : Option ℕ) → ordering_then (nat_cmp a b) (prefix_cmp p q) ≡ Equal → (a ≡ b) × (p ≡ q)
range_same a b p q h =
    let e : (nat_cmp a b ≡ Equal) × (prefix_cmp p q ≡ Equal) = then_equal (nat_cmp a b) (prefix_cmp p q) h in
    (nat_cmp-IsAntisymmetric a b e.0, prefix_same p q e.1)

extension_same : (x y : PlainExtension) → extension_literal_cmp x y ≡ Equal → x ≡ y
extension_same (DecimalOf x) (DecimalOf y) h = ap DecimalOf (int_cmp-IsAntisymmetric x y h)
extension_same (Ipv4Of a p) (Ipv4Of b q) h = let e : (a ≡ b) × (p ≡ q) = range_same a b p q h in λ i. Ipv4Of (e.0 i) (e.1 i)
extension_same (Ipv6Of a p) (Ipv6Of b q) h = let e : (a ≡ b) × (p ≡ q) = range_same a b p q h in λ i. Ipv6Of (e.0 i) (e.1 i)
extension_same (DatetimeOf x) (DatetimeOf y) h = ap DatetimeOf (int_cmp-IsAntisymmetric x y h)
extension_same (DurationOf x) (DurationOf y) h = ap DurationOf (int_cmp-IsAntisymmetric x y h)
extension_same x y h = cc

pub literal_same : (l m : PlainLiteral) → literal_cmp l m ≡ Equal → l ≡ m
literal_same (BitVecLiteral n a) (BitVecLiteral m b) h =
    let e = then_equal (nat_cmp n m) (nat_cmp a b) h in
    let p : n ≡ m = nat_cmp-IsAntisymmetric n m e.0 in
    let q : a ≡ b = nat_cmp-IsAntisymmetric a b e.1 in
    λ i. BitVecLiteral (p i) (q i)
literal_same (BoolLiteral b) (BoolLiteral c) h = ap BoolLiteral (bool_same b c h)
literal_same (EntityLiteral e i) (EntityLiteral f j) h =
    let k = then_equal (text_cmp e f) (text_cmp i j) h in
    let p : e ≡ f = text_same e f k.0 in
    let q : i ≡ j = text_same i j k.1 in
    λ x. EntityLiteral (p x) (q x)
literal_same (ExtensionLiteral x) (ExtensionLiteral y) h = ap ExtensionLiteral (extension_same x y h)
literal_same (StringLiteral s) (StringLiteral t) h = ap StringLiteral (text_same s t h)
literal_same l m h = cc

mutual
  pub term_same : (t u : PlainTerm) → term_cmp t u ≡ Equal → t ≡ u
  term_same (Application o ts t) (Application p us u) h =
      let e = then_equal (op_cmp o p) (ordering_then (terms_cmp ts us) (type_cmp t u)) h in
      let f = then_equal (terms_cmp ts us) (type_cmp t u) e.1 in
      let i : o ≡ p = op_same o p e.0 in
      let j : ts ≡ us = terms_same ts us f.0 in
      let k : t ≡ u = type_same t u f.1 in
      λ x. Application (i x) (j x) (k x)
  term_same (NoneTerm t) (NoneTerm u) h = ap NoneTerm (type_same t u h)
  term_same (LiteralTerm l) (LiteralTerm m) h = ap LiteralTerm (literal_same l m h)
  term_same (RecordTerm fs) (RecordTerm gs) h = ap RecordTerm (fields_same fs gs h)
  term_same (SetTerm t ts) (SetTerm u us) h =
      let e = then_equal (type_cmp t u) (terms_cmp ts us) h in
      let i : t ≡ u = type_same t u e.0 in
      let j : ts ≡ us = terms_same ts us e.1 in
      λ x. SetTerm (i x) (j x)
  term_same (SomeTerm t) (SomeTerm u) h = ap SomeTerm (term_same t u h)
  term_same (VariableTerm a t) (VariableTerm b u) h =
      let e = then_equal (text_cmp a b) (type_cmp t u) h in
      let i : a ≡ b = text_same a b e.0 in
      let j : t ≡ u = type_same t u e.1 in
      λ x. VariableTerm (i x) (j x)
  term_same t u h = cc

  pub terms_same : (ts us : PlainTerms) → terms_cmp ts us ≡ Equal → ts ≡ us
  terms_same no_terms no_terms h = refl
  terms_same no_terms (one_term u us) h = cc
  terms_same (one_term t ts) no_terms h = cc
  terms_same (one_term t ts) (one_term u us) h =
      let e = then_equal (term_cmp t u) (terms_cmp ts us) h in
      let i : t ≡ u = term_same t u e.0 in
      let j : ts ≡ us = terms_same ts us e.1 in
      λ x. one_term (i x) (j x)

  fields_same : (fs gs : PlainFields) → fields_cmp fs gs ≡ Equal → fs ≡ gs
  fields_same no_fields no_fields h = refl
  fields_same no_fields (one_field b u gs) h = cc
  fields_same (one_field a t fs) no_fields h = cc
  fields_same (one_field a t fs) (one_field b u gs) h =
      let e = then_equal (ordering_then (text_cmp a b) (term_cmp t u)) (fields_cmp fs gs) h in
      let f = then_equal (text_cmp a b) (term_cmp t u) e.0 in
      let i : a ≡ b = text_same a b f.0 in
      let j : t ≡ u = term_same t u f.1 in
      let k : fs ≡ gs = fields_same fs gs e.1 in
      λ x. one_field (i x) (j x) (k x)
