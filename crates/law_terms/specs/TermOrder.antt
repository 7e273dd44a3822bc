-- The order of operators, literals and terms: by the variants and fields as declared, lists by their first difference.
use Rattle.std.specs.Prelude.{ℕ, Bool, List}
use Rattle.std.specs.Cmp.Lexicographic.{slice_cmp}
use Rattle.std.specs.Ordering.{nat_cmp, bool_cmp, ordering_then, is_eq}
use Rattle.std.specs.declared.cmp.Ordering.{Ordering}
use Rattle.std.specs.declared.cmp.Ordering.TheVariants.{Less, Equal, Greater}
pub use Rattle.law_numbers.specs.Extensions.{extension_literal_cmp, extension_literal_place, prefix_cmp}
use Rattle.law_numbers.specs.BitOperators.{bits_entry, test_entry, overflow_entry}
use Rattle.law_terms.specs.Interpretations.{extension_op_place}
use Rattle.law_terms.specs.Types.{type_cmp}
use Rattle.law_terms.specs.ValueOrder.{text_cmp}
use Rattle.law_terms.specs.Plain.{PlainFunction, PatternPart, Character, Wildcard, PlainOp, AndOp, BvnegOp, BvnegoOp, EqOp, ExtOp, IteOp}
use Rattle.law_terms.specs.Plain.{NotOp, OptionGetOp, OrOp, RecordGetOp, SetInterOp, SetMemberOp, SetSubsetOp, StringLikeOp, UufOp}
use Rattle.law_terms.specs.Plain.{ZeroExtendOp, PlainLiteral, BitVecLiteral, BoolLiteral, EntityLiteral, ExtensionLiteral, StringLiteral}
use Rattle.law_terms.specs.Plain.{PlainTerm, Application, NoneTerm, LiteralTerm, RecordTerm, SetTerm, SomeTerm, VariableTerm, PlainTerms}
use Rattle.law_terms.specs.Plain.{no_terms, one_term, PlainFields, no_fields, one_field, BitsOp, TestOp, OverflowOp}

-- characters by their code point, and the wildcard behind them
abbrev pub part_cmp : PatternPart → PatternPart → Ordering
part_cmp (Character c) (Character d) = nat_cmp c d
part_cmp (Character c) Wildcard = Less
part_cmp Wildcard (Character d) = Greater
part_cmp Wildcard Wildcard = Equal

-- patterns by their first different part, and a pattern before the longer ones that begin with it
abbrev pub pattern_cmp : List PatternPart → List PatternPart → Ordering
pattern_cmp p q = slice_cmp part_cmp p q

-- functions by their id, and then by the types of their argument and of what they give
abbrev pub function_cmp : PlainFunction → PlainFunction → Ordering
function_cmp f g = ordering_then (text_cmp f.id g.id) (ordering_then (type_cmp f.argument g.argument) (type_cmp f.output g.output))

-- the place of an operator: they stand in the order of their names in the program
abbrev pub op_place : PlainOp → ℕ
op_place AndOp = 0
op_place (BitsOp o) = (bits_entry o).place
op_place (TestOp o) = (test_entry o).place
op_place (OverflowOp o) = (overflow_entry o).place
op_place BvnegOp = 4
op_place BvnegoOp = 5
op_place EqOp = 20
op_place (ExtOp o) = 21
op_place IteOp = 22
op_place NotOp = 23
op_place OptionGetOp = 24
op_place OrOp = 25
op_place (RecordGetOp x) = 26
op_place SetInterOp = 27
op_place SetMemberOp = 28
op_place SetSubsetOp = 29
op_place (StringLikeOp p) = 30
op_place (UufOp f) = 31
op_place (ZeroExtendOp k) = 32

-- the order of what two operators of one variant hold
abbrev pub op_fields_cmp : PlainOp → PlainOp → Ordering
op_fields_cmp (ExtOp o) (ExtOp p) = nat_cmp (extension_op_place o) (extension_op_place p)
op_fields_cmp (RecordGetOp x) (RecordGetOp y) = text_cmp x y
op_fields_cmp (StringLikeOp p) (StringLikeOp q) = pattern_cmp p q
op_fields_cmp (UufOp f) (UufOp g) = function_cmp f g
op_fields_cmp (ZeroExtendOp k) (ZeroExtendOp l) = nat_cmp k l
op_fields_cmp o p = Equal

-- operators by their place, and those of one variant by what they hold
abbrev pub op_cmp : PlainOp → PlainOp → Ordering
op_cmp o p = ordering_then (nat_cmp (op_place o) (op_place p)) (op_fields_cmp o p)

-- the place of a literal's kind
abbrev pub literal_place : PlainLiteral → ℕ
literal_place (BitVecLiteral n a) = 0
literal_place (BoolLiteral b) = 1
literal_place (EntityLiteral e i) = 2
literal_place (ExtensionLiteral x) = 3
literal_place (StringLiteral s) = 4

-- literals by their kind, and then part by part; values of extension types have the order of the program's values
abbrev pub literal_cmp : PlainLiteral → PlainLiteral → Ordering
literal_cmp (BitVecLiteral n a) (BitVecLiteral m b) = ordering_then (nat_cmp n m) (nat_cmp a b)
literal_cmp (BoolLiteral b) (BoolLiteral c) = bool_cmp b c
literal_cmp (EntityLiteral e i) (EntityLiteral f j) = ordering_then (text_cmp e f) (text_cmp i j)
literal_cmp (ExtensionLiteral x) (ExtensionLiteral y) = extension_literal_cmp x y
literal_cmp (StringLiteral s) (StringLiteral t) = text_cmp s t
literal_cmp l m = nat_cmp (literal_place l) (literal_place m)

-- the place of a term's kind
abbrev pub term_place : PlainTerm → ℕ
term_place (Application o ts t) = 0
term_place (NoneTerm t) = 1
term_place (LiteralTerm l) = 2
term_place (RecordTerm fs) = 3
term_place (SetTerm t ts) = 4
term_place (SomeTerm t) = 5
term_place (VariableTerm id t) = 6

abbrev mutual
  -- the order of terms, by kind and then part by part, in which the elements of a set stand; it is not the order of their values
  pub term_cmp : PlainTerm → PlainTerm → Ordering
  term_cmp (Application o ts t) (Application p us u) = ordering_then (op_cmp o p) (ordering_then (terms_cmp ts us) (type_cmp t u))
  term_cmp (NoneTerm t) (NoneTerm u) = type_cmp t u
  term_cmp (LiteralTerm l) (LiteralTerm m) = literal_cmp l m
  term_cmp (RecordTerm fs) (RecordTerm gs) = fields_cmp fs gs
  term_cmp (SetTerm t ts) (SetTerm u us) = ordering_then (type_cmp t u) (terms_cmp ts us)
  term_cmp (SomeTerm t) (SomeTerm u) = term_cmp t u
  term_cmp (VariableTerm a t) (VariableTerm b u) = ordering_then (text_cmp a b) (type_cmp t u)
  term_cmp t u = nat_cmp (term_place t) (term_place u)

  -- lists of terms by their first difference, a proper prefix first
  pub terms_cmp : PlainTerms → PlainTerms → Ordering
  terms_cmp no_terms no_terms = Equal
  terms_cmp no_terms (one_term u us) = Less
  terms_cmp (one_term t ts) no_terms = Greater
  terms_cmp (one_term t ts) (one_term u us) = ordering_then (term_cmp t u) (terms_cmp ts us)

  -- records at their first difference, by the attribute and then the term, a proper prefix first
  pub fields_cmp : PlainFields → PlainFields → Ordering
  fields_cmp no_fields no_fields = Equal
  fields_cmp no_fields (one_field b u gs) = Less
  fields_cmp (one_field a t fs) no_fields = Greater
  fields_cmp (one_field a t fs) (one_field b u gs) = ordering_then (ordering_then (text_cmp a b) (term_cmp t u)) (fields_cmp fs gs)

-- equality of terms, as a test
abbrev pub term_eq : PlainTerm → PlainTerm → Bool
term_eq t u = is_eq (term_cmp t u)
