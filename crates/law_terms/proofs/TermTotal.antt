-- The orders of types, operators, literals and terms are total, and the tests of equality decide it.
use Rattle.std.proofs.Common.{◌≡◌, ℕ, ◌<◌, ◌≤◌, ◌&&◌, Bool, true, refl, ap, ◌∙◌, sym, arith}
use Rattle.std.specs.Prelude.{Option, Some, None, nat_le, nat_lt, bytes_eq}
use Rattle.std.specs.Cmp.{IsTotalOrder, Equal-is, first_so, second_so}
use Rattle.std.specs.Cmp.Derive.{both_true}
use Rattle.std.specs.FinMap.{nat_cmp-IsAntisymmetric, slice_cmp-IsAntisymmetric}
use Rattle.std.specs.Ordering.{nat_cmp, ordering_then, ordering_reverse, is_eq}
use Rattle.std.specs.declared.cmp.Ordering.TheVariants.{Less, Equal}
use Rattle.std.proofs.lemmas.Bool.{leb-true, lt-ltb}
use Rattle.std.proofs.lemmas.Cmp.{int_cmp_total, lists_total}
use Rattle.std.proofs.lemmas.Slice.Eq.{bytes_eq-Decides}
use Rattle.law_terms.specs.Interpretations.{extension_op_place, function_eq}
use Rattle.law_terms.specs.Laws.{TypeEqualityIsDecided, FunctionEqualityIsDecided, PartOrderIsTotal, PartEqualityIsDecided, PatternOrderIsTotal, PatternEqualityIsDecided, OpEqualityIsDecided, TermEqualityIsDecided}
use Rattle.law_terms.specs.Plain.{PlainType, OptionType, BitVecType, BoolType, EntityType, ExtensionType, StringType, RecordType, SetType, AttributeTypes, no_attributes, attribute, PlainFunction, PatternPart, Character, Wildcard, PlainOp, AndOp, ExtOp, RecordGetOp, StringLikeOp, UufOp, ZeroExtendOp, PlainExtension, DecimalOf, Ipv4Of, Ipv6Of, DatetimeOf, DurationOf, PlainLiteral, BitVecLiteral, BoolLiteral, EntityLiteral, ExtensionLiteral, StringLiteral, PlainTerm, Application, NoneTerm, LiteralTerm, RecordTerm, SetTerm, SomeTerm, VariableTerm, PlainTerms, no_terms, one_term, PlainFields, no_fields, one_field}
use Rattle.law_terms.specs.TermOrder.{part_cmp, pattern_cmp, function_cmp, op_place, op_fields_cmp, op_cmp, prefix_cmp, extension_literal_place, extension_literal_cmp, literal_place, literal_cmp, term_place, term_cmp, terms_cmp, fields_cmp, term_eq}
use Rattle.law_terms.specs.Types.{extension_kind_place, type_place, type_cmp, attribute_types_cmp, type_eq}
use Rattle.law_terms.specs.ValueOrder.{text_cmp}
use Rattle.law_terms.proofs.SameTerm.{part_same, op_same, term_same, terms_same}
use Rattle.law_terms.proofs.TotalOrder.{then_chain, named_chain, nat_less, text_less, bool_less}
use Rattle.law_terms.proofs.TypeOrder.{type_same, type_itself, eq_same}
use Rattle.law_terms.proofs.ValueOrder.{then_both, nat_turned, text_turned, text_same, bytes_itself, bool_turned, own_turn}

-- ---- types

type_apart : (t u : PlainType) → nat_lt (type_place t) (type_place u) ≡ true → type_cmp t u ≡ Less
type_apart (OptionType t) (OptionType u) h = cc
type_apart (BitVecType n) (BitVecType m) h = cc
type_apart (EntityType e) (EntityType f) h = cc
type_apart (ExtensionType k) (ExtensionType l) h = cc
type_apart (RecordType x) (RecordType y) h = cc
type_apart (SetType t) (SetType u) h = cc
type_apart t u h = cc

type_ordered : (t u : PlainType) → type_cmp t u ≡ Less → nat_le (type_place t) (type_place u) ≡ true
type_ordered (OptionType t) (OptionType u) h = refl
type_ordered (BitVecType n) (BitVecType m) h = refl
type_ordered (EntityType e) (EntityType f) h = refl
type_ordered (ExtensionType k) (ExtensionType l) h = refl
type_ordered (RecordType x) (RecordType y) h = refl
type_ordered (SetType t) (SetType u) h = refl
type_ordered BoolType BoolType h = cc
type_ordered StringType StringType h = cc
type_ordered t u h = cc

mutual
  type_turned : (t u : PlainType) → type_cmp t u ≡ ordering_reverse (type_cmp u t)
  type_turned (OptionType t) (OptionType u) = type_turned t u
  type_turned (BitVecType n) (BitVecType m) = nat_turned n m
  type_turned (EntityType e) (EntityType f) = text_turned e f
  type_turned (ExtensionType k) (ExtensionType l) = nat_turned (extension_kind_place k) (extension_kind_place l)
  type_turned (RecordType x) (RecordType y) = attributes_turned x y
  type_turned (SetType t) (SetType u) = type_turned t u
  type_turned BoolType BoolType = refl
  type_turned StringType StringType = refl
  type_turned t u = refl

  attributes_turned : (x y : AttributeTypes) → attribute_types_cmp x y ≡ ordering_reverse (attribute_types_cmp y x)
  attributes_turned no_attributes no_attributes = refl
  attributes_turned no_attributes (attribute b u y) = refl
  attributes_turned (attribute a t x) no_attributes = refl
  attributes_turned (attribute a t x) (attribute b u y) = then_both _ _ _ _ (then_both _ _ _ _ (text_turned a b) (type_turned t u)) (attributes_turned x y)

mutual
  type_less : (t u w : PlainType) → type_cmp t u ≡ Less → type_cmp u w ≡ Less → type_cmp t w ≡ Less
  type_less (OptionType t) (OptionType u) (OptionType w) h g = type_less t u w h g
  type_less (BitVecType n) (BitVecType m) (BitVecType k) h g = nat_less n m k h g
  type_less (EntityType a) (EntityType b) (EntityType c) h g = text_less a b c h g
  type_less (ExtensionType j) (ExtensionType k) (ExtensionType l) h g = nat_less (extension_kind_place j) (extension_kind_place k) (extension_kind_place l) h g
  type_less (RecordType x) (RecordType y) (RecordType z) h g = attributes_less x y z h g
  type_less (SetType t) (SetType u) (SetType w) h g = type_less t u w h g
  type_less BoolType BoolType w h g = cc
  type_less StringType StringType w h g = cc
  type_less t u w h g =
      let p : type_place t ≤ type_place u = leb-true (type_place t) (type_place u) (type_ordered t u h) in
      let q : type_place u ≤ type_place w = leb-true (type_place u) (type_place w) (type_ordered u w g) in
      let r : type_place t < type_place w = omega arith in
      type_apart t w (lt-ltb (type_place t) (type_place w) r)

  attributes_less : (x y z : AttributeTypes) → attribute_types_cmp x y ≡ Less → attribute_types_cmp y z ≡ Less → attribute_types_cmp x z ≡ Less
  attributes_less (attribute a t x) (attribute b u y) (attribute c w z) h g = named_chain type_cmp type_same a b c t u w _ _ _ (type_less t u w) (attributes_less x y z) h g
  attributes_less no_attributes (attribute b u y) (attribute c w z) h g = refl
  attributes_less no_attributes no_attributes z h g = cc
  attributes_less (attribute a t x) no_attributes z h g = cc
  attributes_less x (attribute b u y) no_attributes h g = cc

pub types_total : IsTotalOrder type_cmp
types_total = record { antisymm = type_turned; trans = type_less; congr = λ t u w e. ap (λ x. type_cmp x w) (type_same t u e) }

pub types_decided : TypeEqualityIsDecided
types_decided t u = (eq_same t u, λ e. sym (ap (λ x. type_eq t x) e) ∙ ap is_eq (type_itself t))

-- ---- functions

function_turned : (f g : PlainFunction) → function_cmp f g ≡ ordering_reverse (function_cmp g f)
function_turned f g = then_both _ _ _ _ (text_turned f.id g.id) (then_both _ _ _ _ (type_turned f.argument g.argument) (type_turned f.output g.output))

function_less : (f g k : PlainFunction) → function_cmp f g ≡ Less → function_cmp g k ≡ Less → function_cmp f k ≡ Less
function_less f g k h l =
    then_chain text_cmp text_same f.id g.id k.id _ _ _ (text_less f.id g.id k.id)
    (then_chain type_cmp type_same f.argument g.argument k.argument _ _ _ (type_less f.argument g.argument k.argument) (type_less f.output g.output k.output)) h l

both_eq : (a b : Bool) → a && b ≡ true → (a ≡ true) × (b ≡ true)
both_eq a b h = (first_so a b h, second_so a b h)

pub functions_decided : FunctionEqualityIsDecided
functions_decided f g = (sound, λ e. sym (ap (λ x. function_eq f x) e) ∙ both_true (bytes_itself f.id) (both_true (ap is_eq (type_itself f.argument)) (ap is_eq (type_itself f.output))))
  where
    sound : function_eq f g ≡ true → f ≡ g
    sound h =
        let p = both_eq (bytes_eq f.id g.id) (type_eq f.argument g.argument && type_eq f.output g.output) h in
        let q = both_eq (type_eq f.argument g.argument) (type_eq f.output g.output) p.1 in
        let a : f.id ≡ g.id = (bytes_eq-Decides f.id g.id).0 p.0 in
        let b : f.argument ≡ g.argument = eq_same f.argument g.argument q.0 in
        let c : f.output ≡ g.output = eq_same f.output g.output q.1 in
        λ i. record { id = a i; argument = b i; output = c i }

-- ---- patterns and operators

part_turned : (x y : PatternPart) → part_cmp x y ≡ ordering_reverse (part_cmp y x)
part_turned (Character c) (Character d) = nat_turned c d
part_turned (Character c) Wildcard = refl
part_turned Wildcard (Character d) = refl
part_turned Wildcard Wildcard = refl

part_less : (x y z : PatternPart) → part_cmp x y ≡ Less → part_cmp y z ≡ Less → part_cmp x z ≡ Less
part_less (Character c) (Character d) (Character e) h g = nat_less c d e h g
part_less (Character c) y Wildcard h g = refl
part_less (Character c) Wildcard (Character e) h g = cc
part_less Wildcard (Character d) z h g = cc
part_less Wildcard Wildcard z h g = cc

part_level : (x y z : PatternPart) → part_cmp x y ≡ Equal → part_cmp x z ≡ part_cmp y z
part_level (Character c) (Character d) z h = ap (λ n. part_cmp (Character n) z) (nat_cmp-IsAntisymmetric c d h)
part_level (Character c) Wildcard z h = cc
part_level Wildcard (Character d) z h = cc
part_level Wildcard Wildcard z h = refl

pub parts_total : PartOrderIsTotal
parts_total = record { antisymm = part_turned; trans = part_less; congr = part_level }

pub parts_decided : PartEqualityIsDecided
parts_decided x y = (λ h. part_same x y ((Equal-is (part_cmp x y)).0 h), λ e. sym (ap (λ z. is_eq (part_cmp x z)) e) ∙ ap is_eq (own_turn (part_cmp x x) (part_turned x x)))

pub patterns_total : PatternOrderIsTotal
patterns_total = lists_total parts_total

pub patterns_decided : PatternEqualityIsDecided
patterns_decided p q =
    (λ h. slice_cmp-IsAntisymmetric part_same p q ((Equal-is (pattern_cmp p q)).0 h), λ e. sym (ap (λ r. is_eq (pattern_cmp p r)) e) ∙ ap is_eq (own_turn (pattern_cmp p p) (patterns_total.antisymm p p)))

op_fields_turned : (o p : PlainOp) → op_fields_cmp o p ≡ ordering_reverse (op_fields_cmp p o)
op_fields_turned (ExtOp o) (ExtOp p) = nat_turned (extension_op_place o) (extension_op_place p)
op_fields_turned (RecordGetOp x) (RecordGetOp y) = text_turned x y
op_fields_turned (StringLikeOp p) (StringLikeOp q) = patterns_total.antisymm p q
op_fields_turned (UufOp f) (UufOp g) = function_turned f g
op_fields_turned (ZeroExtendOp k) (ZeroExtendOp l) = nat_turned k l
op_fields_turned o AndOp = refl
op_fields_turned o p = refl

op_fields_less : (o p q : PlainOp) → op_fields_cmp o p ≡ Less → op_fields_cmp p q ≡ Less → op_fields_cmp o q ≡ Less
op_fields_less (ExtOp o) (ExtOp p) (ExtOp q) h g = nat_less (extension_op_place o) (extension_op_place p) (extension_op_place q) h g
op_fields_less (RecordGetOp x) (RecordGetOp y) (RecordGetOp z) h g = text_less x y z h g
op_fields_less (StringLikeOp p) (StringLikeOp q) (StringLikeOp r) h g = patterns_total.trans p q r h g
op_fields_less (UufOp f) (UufOp k) (UufOp l) h g = function_less f k l h g
op_fields_less (ZeroExtendOp j) (ZeroExtendOp k) (ZeroExtendOp l) h g = nat_less j k l h g
op_fields_less o p q h g = cc

op_turned : (o p : PlainOp) → op_cmp o p ≡ ordering_reverse (op_cmp p o)
op_turned o p = then_both _ _ _ _ (nat_turned (op_place o) (op_place p)) (op_fields_turned o p)

op_less : (o p q : PlainOp) → op_cmp o p ≡ Less → op_cmp p q ≡ Less → op_cmp o q ≡ Less
op_less o p q h g = then_chain nat_cmp nat_cmp-IsAntisymmetric (op_place o) (op_place p) (op_place q) _ _ _ (nat_less (op_place o) (op_place p) (op_place q)) (op_fields_less o p q) h g

pub ops_total : IsTotalOrder op_cmp
ops_total = record { antisymm = op_turned; trans = op_less; congr = λ o p q e. ap (λ x. op_cmp x q) (op_same o p e) }

pub ops_decided : OpEqualityIsDecided
ops_decided o p = (λ h. op_same o p ((Equal-is (op_cmp o p)).0 h), λ e. sym (ap (λ x. is_eq (op_cmp o x)) e) ∙ ap is_eq (own_turn (op_cmp o o) (op_turned o o)))

-- ---- literals

prefix_turned : (p q : Option ℕ) → prefix_cmp p q ≡ ordering_reverse (prefix_cmp q p)
prefix_turned (Some a) (Some b) = nat_turned a b
prefix_turned (Some a) None = refl
prefix_turned None (Some b) = refl
prefix_turned None None = refl

prefix_less : (p q r : Option ℕ) → prefix_cmp p q ≡ Less → prefix_cmp q r ≡ Less → prefix_cmp p r ≡ Less
prefix_less (Some a) (Some b) (Some c) h g = nat_less a b c h g
prefix_less (Some a) q None h g = refl
prefix_less (Some a) None (Some c) h g = cc
prefix_less None (Some b) r h g = cc
prefix_less None None r h g = cc

range_less : (a b c : ℕ) (p q r : Option ℕ) → ordering_then (nat_cmp a b) (prefix_cmp p q) ≡ Less → ordering_then (nat_cmp b c) (prefix_cmp q r) ≡ Less → ordering_then (nat_cmp a c) (prefix_cmp p r) ≡ Less
range_less a b c p q r h g = then_chain nat_cmp nat_cmp-IsAntisymmetric a b c _ _ _ (nat_less a b c) (prefix_less p q r) h g

extension_turned : (x y : PlainExtension) → extension_literal_cmp x y ≡ ordering_reverse (extension_literal_cmp y x)
extension_turned (DecimalOf x) (DecimalOf y) = int_cmp_total.antisymm x y
extension_turned (Ipv4Of a p) (Ipv4Of b q) = then_both _ _ _ _ (nat_turned a b) (prefix_turned p q)
extension_turned (Ipv6Of a p) (Ipv6Of b q) = then_both _ _ _ _ (nat_turned a b) (prefix_turned p q)
extension_turned (DatetimeOf x) (DatetimeOf y) = int_cmp_total.antisymm x y
extension_turned (DurationOf x) (DurationOf y) = int_cmp_total.antisymm x y
extension_turned x y = refl

extension_apart : (x y : PlainExtension) → nat_lt (extension_literal_place x) (extension_literal_place y) ≡ true → extension_literal_cmp x y ≡ Less
extension_apart (DecimalOf x) (DecimalOf y) h = cc
extension_apart (Ipv4Of a p) (Ipv4Of b q) h = cc
extension_apart (Ipv6Of a p) (Ipv6Of b q) h = cc
extension_apart (DatetimeOf x) (DatetimeOf y) h = cc
extension_apart (DurationOf x) (DurationOf y) h = cc
extension_apart x y h = cc

extension_ordered : (x y : PlainExtension) → extension_literal_cmp x y ≡ Less → nat_le (extension_literal_place x) (extension_literal_place y) ≡ true
extension_ordered (DecimalOf x) (DecimalOf y) h = refl
extension_ordered (Ipv4Of a p) (Ipv4Of b q) h = refl
extension_ordered (Ipv6Of a p) (Ipv6Of b q) h = refl
extension_ordered (DatetimeOf x) (DatetimeOf y) h = refl
extension_ordered (DurationOf x) (DurationOf y) h = refl
extension_ordered x y h = cc

extension_less : (x y z : PlainExtension) → extension_literal_cmp x y ≡ Less → extension_literal_cmp y z ≡ Less → extension_literal_cmp x z ≡ Less
extension_less (DecimalOf x) (DecimalOf y) (DecimalOf z) h g = int_cmp_total.trans x y z h g
extension_less (Ipv4Of a p) (Ipv4Of b q) (Ipv4Of c r) h g = range_less a b c p q r h g
extension_less (Ipv6Of a p) (Ipv6Of b q) (Ipv6Of c r) h g = range_less a b c p q r h g
extension_less (DatetimeOf x) (DatetimeOf y) (DatetimeOf z) h g = int_cmp_total.trans x y z h g
extension_less (DurationOf x) (DurationOf y) (DurationOf z) h g = int_cmp_total.trans x y z h g
extension_less x y z h g =
    let p : extension_literal_place x ≤ extension_literal_place y = leb-true (extension_literal_place x) (extension_literal_place y) (extension_ordered x y h) in
    let q : extension_literal_place y ≤ extension_literal_place z = leb-true (extension_literal_place y) (extension_literal_place z) (extension_ordered y z g) in
    let r : extension_literal_place x < extension_literal_place z = omega arith in
    extension_apart x z (lt-ltb (extension_literal_place x) (extension_literal_place z) r)

literal_turned : (l m : PlainLiteral) → literal_cmp l m ≡ ordering_reverse (literal_cmp m l)
literal_turned (BitVecLiteral n a) (BitVecLiteral m b) = then_both _ _ _ _ (nat_turned n m) (nat_turned a b)
literal_turned (BoolLiteral b) (BoolLiteral c) = bool_turned b c
literal_turned (EntityLiteral e i) (EntityLiteral f j) = then_both _ _ _ _ (text_turned e f) (text_turned i j)
literal_turned (ExtensionLiteral x) (ExtensionLiteral y) = extension_turned x y
literal_turned (StringLiteral s) (StringLiteral t) = text_turned s t
literal_turned l m = refl

literal_apart : (l m : PlainLiteral) → nat_lt (literal_place l) (literal_place m) ≡ true → literal_cmp l m ≡ Less
literal_apart (BitVecLiteral n a) (BitVecLiteral m b) h = cc
literal_apart (BoolLiteral b) (BoolLiteral c) h = cc
literal_apart (EntityLiteral e i) (EntityLiteral f j) h = cc
literal_apart (ExtensionLiteral x) (ExtensionLiteral y) h = cc
literal_apart (StringLiteral s) (StringLiteral t) h = cc
literal_apart l m h = cc

literal_ordered : (l m : PlainLiteral) → literal_cmp l m ≡ Less → nat_le (literal_place l) (literal_place m) ≡ true
literal_ordered (BitVecLiteral n a) (BitVecLiteral m b) h = refl
literal_ordered (BoolLiteral b) (BoolLiteral c) h = refl
literal_ordered (EntityLiteral e i) (EntityLiteral f j) h = refl
literal_ordered (ExtensionLiteral x) (ExtensionLiteral y) h = refl
literal_ordered (StringLiteral s) (StringLiteral t) h = refl
literal_ordered l m h = cc

literal_less : (l m k : PlainLiteral) → literal_cmp l m ≡ Less → literal_cmp m k ≡ Less → literal_cmp l k ≡ Less
literal_less (BitVecLiteral n a) (BitVecLiteral m b) (BitVecLiteral k c) h g = then_chain nat_cmp nat_cmp-IsAntisymmetric n m k _ _ _ (nat_less n m k) (nat_less a b c) h g
literal_less (BoolLiteral a) (BoolLiteral b) (BoolLiteral c) h g = bool_less a b c h g
literal_less (EntityLiteral s a) (EntityLiteral t b) (EntityLiteral r c) h g = then_chain text_cmp text_same s t r _ _ _ (text_less s t r) (text_less a b c) h g
literal_less (ExtensionLiteral x) (ExtensionLiteral y) (ExtensionLiteral z) h g = extension_less x y z h g
literal_less (StringLiteral s) (StringLiteral t) (StringLiteral r) h g = text_less s t r h g
literal_less l m k h g =
    let p : literal_place l ≤ literal_place m = leb-true (literal_place l) (literal_place m) (literal_ordered l m h) in
    let q : literal_place m ≤ literal_place k = leb-true (literal_place m) (literal_place k) (literal_ordered m k g) in
    let r : literal_place l < literal_place k = omega arith in
    literal_apart l k (lt-ltb (literal_place l) (literal_place k) r)

-- ---- terms

term_apart : (t u : PlainTerm) → nat_lt (term_place t) (term_place u) ≡ true → term_cmp t u ≡ Less
term_apart (Application o ts t) (Application p us u) h = cc
term_apart (NoneTerm t) (NoneTerm u) h = cc
term_apart (LiteralTerm l) (LiteralTerm m) h = cc
term_apart (RecordTerm fs) (RecordTerm gs) h = cc
term_apart (SetTerm t ts) (SetTerm u us) h = cc
term_apart (SomeTerm t) (SomeTerm u) h = cc
term_apart (VariableTerm a t) (VariableTerm b u) h = cc
term_apart t u h = cc

term_ordered : (t u : PlainTerm) → term_cmp t u ≡ Less → nat_le (term_place t) (term_place u) ≡ true
term_ordered (Application o ts t) (Application p us u) h = refl
term_ordered (NoneTerm t) (NoneTerm u) h = refl
term_ordered (LiteralTerm l) (LiteralTerm m) h = refl
term_ordered (RecordTerm fs) (RecordTerm gs) h = refl
term_ordered (SetTerm t ts) (SetTerm u us) h = refl
term_ordered (SomeTerm t) (SomeTerm u) h = refl
term_ordered (VariableTerm a t) (VariableTerm b u) h = refl
term_ordered t u h = cc

mutual
  term_turned : (t u : PlainTerm) → term_cmp t u ≡ ordering_reverse (term_cmp u t)
  term_turned (Application o ts t) (Application p us u) = then_both _ _ _ _ (op_turned o p) (then_both _ _ _ _ (terms_turned ts us) (type_turned t u))
  term_turned (NoneTerm t) (NoneTerm u) = type_turned t u
  term_turned (LiteralTerm l) (LiteralTerm m) = literal_turned l m
  term_turned (RecordTerm fs) (RecordTerm gs) = fields_turned fs gs
  term_turned (SetTerm t ts) (SetTerm u us) = then_both _ _ _ _ (type_turned t u) (terms_turned ts us)
  term_turned (SomeTerm t) (SomeTerm u) = term_turned t u
  term_turned (VariableTerm a t) (VariableTerm b u) = then_both _ _ _ _ (text_turned a b) (type_turned t u)
  term_turned t u = refl

  terms_turned : (ts us : PlainTerms) → terms_cmp ts us ≡ ordering_reverse (terms_cmp us ts)
  terms_turned no_terms no_terms = refl
  terms_turned no_terms (one_term u us) = refl
  terms_turned (one_term t ts) no_terms = refl
  terms_turned (one_term t ts) (one_term u us) = then_both _ _ _ _ (term_turned t u) (terms_turned ts us)

  fields_turned : (fs gs : PlainFields) → fields_cmp fs gs ≡ ordering_reverse (fields_cmp gs fs)
  fields_turned no_fields no_fields = refl
  fields_turned no_fields (one_field b u gs) = refl
  fields_turned (one_field a t fs) no_fields = refl
  fields_turned (one_field a t fs) (one_field b u gs) = then_both _ _ _ _ (then_both _ _ _ _ (text_turned a b) (term_turned t u)) (fields_turned fs gs)

mutual
  term_less : (t u w : PlainTerm) → term_cmp t u ≡ Less → term_cmp u w ≡ Less → term_cmp t w ≡ Less
  term_less (Application o ts t) (Application p us u) (Application q ws w) h g =
      then_chain op_cmp op_same o p q _ _ _ (op_less o p q) (then_chain terms_cmp terms_same ts us ws _ _ _ (terms_less ts us ws) (type_less t u w)) h g
  term_less (NoneTerm t) (NoneTerm u) (NoneTerm w) h g = type_less t u w h g
  term_less (LiteralTerm l) (LiteralTerm m) (LiteralTerm k) h g = literal_less l m k h g
  term_less (RecordTerm fs) (RecordTerm gs) (RecordTerm ks) h g = fields_less fs gs ks h g
  term_less (SetTerm t ts) (SetTerm u us) (SetTerm w ws) h g = then_chain type_cmp type_same t u w _ _ _ (type_less t u w) (terms_less ts us ws) h g
  term_less (SomeTerm t) (SomeTerm u) (SomeTerm w) h g = term_less t u w h g
  term_less (VariableTerm a t) (VariableTerm b u) (VariableTerm c w) h g = then_chain text_cmp text_same a b c _ _ _ (text_less a b c) (type_less t u w) h g
  term_less t u w h g =
      let p : term_place t ≤ term_place u = leb-true (term_place t) (term_place u) (term_ordered t u h) in
      let q : term_place u ≤ term_place w = leb-true (term_place u) (term_place w) (term_ordered u w g) in
      let r : term_place t < term_place w = omega arith in
      term_apart t w (lt-ltb (term_place t) (term_place w) r)

  terms_less : (ts us ws : PlainTerms) → terms_cmp ts us ≡ Less → terms_cmp us ws ≡ Less → terms_cmp ts ws ≡ Less
  terms_less (one_term t ts) (one_term u us) (one_term w ws) h g = then_chain term_cmp term_same t u w _ _ _ (term_less t u w) (terms_less ts us ws) h g
  terms_less no_terms (one_term u us) (one_term w ws) h g = refl
  terms_less no_terms no_terms ws h g = cc
  terms_less (one_term t ts) no_terms ws h g = cc
  terms_less ts (one_term u us) no_terms h g = cc

  fields_less : (fs gs ks : PlainFields) → fields_cmp fs gs ≡ Less → fields_cmp gs ks ≡ Less → fields_cmp fs ks ≡ Less
  fields_less (one_field a t fs) (one_field b u gs) (one_field c w ks) h g = named_chain term_cmp term_same a b c t u w _ _ _ (term_less t u w) (fields_less fs gs ks) h g
  fields_less no_fields (one_field b u gs) (one_field c w ks) h g = refl
  fields_less no_fields no_fields ks h g = cc
  fields_less (one_field a t fs) no_fields ks h g = cc
  fields_less fs (one_field b u gs) no_fields h g = cc

pub terms_total : IsTotalOrder term_cmp
terms_total = record { antisymm = term_turned; trans = term_less; congr = λ t u w e. ap (λ x. term_cmp x w) (term_same t u e) }

pub terms_decided : TermEqualityIsDecided
terms_decided t u = (λ h. term_same t u ((Equal-is (term_cmp t u)).0 h), λ e. sym (ap (λ x. term_eq t x) e) ∙ ap is_eq (own_turn (term_cmp t t) (term_turned t t)))
