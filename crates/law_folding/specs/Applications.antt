-- The applications that calls of the factory are asked for, before any folding.
use Rattle.std.specs.Prelude.{ℕ, ◌+◌, Bool, true, false, List, [], ◌∷◌}
use Rattle.std.specs.Option.{unwrap_or}
use Rattle.law_terms.specs.Types.{attribute_type, extension_signature, type_of}
use Rattle.law_terms.specs.Plain.{PlainType, OptionType, BitVecType, BoolType, ExtensionOp, PatternPart, PlainOp, AndOp, BvnegOp, BvnegoOp}
use Rattle.law_terms.specs.Plain.{EqOp, ExtOp, IteOp, NotOp, OptionGetOp, OrOp, RecordGetOp, SetInterOp, SetMemberOp, SetSubsetOp}
use Rattle.law_terms.specs.Plain.{StringLikeOp, ZeroExtendOp, BitVecLiteral, BoolLiteral, PlainTerm, Application, LiteralTerm, terms}

-- a truth value as a literal
abbrev pub truth_literal : Bool → PlainTerm
truth_literal b = LiteralTerm (BoolLiteral b)

-- the literal true
abbrev pub true_term : PlainTerm
true_term = truth_literal true

-- the literal false
abbrev pub false_term : PlainTerm
false_term = truth_literal false

-- a bitvector as a literal: the number is meant to be below 2 to the width
abbrev pub bits_literal : (width number : ℕ) → PlainTerm
bits_literal n a = LiteralTerm (BitVecLiteral n a)

-- the negation of a term, by the core theory's `not`: typed where the term is Boolean, and false where it is not typed
abbrev pub not_of : PlainTerm → PlainTerm
not_of t = Application NotOp (terms (t ∷ [])) BoolType

-- the conjunction of two terms: `and` of the theory Core, always of two arguments here
abbrev pub and_of : PlainTerm → PlainTerm → PlainTerm
and_of t u = Application AndOp (terms (t ∷ u ∷ [])) BoolType

-- the disjunction of two terms: `or` of the theory Core, always of two arguments here
abbrev pub or_of : PlainTerm → PlainTerm → PlainTerm
or_of t u = Application OrOp (terms (t ∷ u ∷ [])) BoolType

-- the equality of two terms: `=` of the theory Core, typed where both terms are of one type
abbrev pub eq_of : PlainTerm → PlainTerm → PlainTerm
eq_of t u = Application EqOp (terms (t ∷ u ∷ [])) BoolType

-- false, said of a term: that it is not itself. It is false in every interpretation, and reaches what the term reaches.
abbrev pub never_of : PlainTerm → PlainTerm
never_of t = not_of (eq_of t t)

-- the choice by a guard (`ite` of the theory Core): its type is that of the first branch
abbrev pub ite_of : (guard : PlainTerm) → PlainTerm → PlainTerm → PlainTerm
ite_of g t u = Application IteOp (terms (g ∷ t ∷ u ∷ [])) (type_of t)

-- the two's complement negation of bits (theory FixedSizeBitVectors), of the same width
abbrev pub bvneg_of : PlainTerm → PlainTerm
bvneg_of t = Application BvnegOp (terms (t ∷ [])) (type_of t)

-- an operator from two bitvectors to bits: the type that is claimed is the first argument's
abbrev pub bits_of_two : PlainOp → PlainTerm → PlainTerm → PlainTerm
bits_of_two o t u = Application o (terms (t ∷ u ∷ [])) (type_of t)

-- a test of two bitvectors, a comparison or an overflow test: its type is Bool
abbrev pub test_of_two : PlainOp → PlainTerm → PlainTerm → PlainTerm
test_of_two o t u = Application o (terms (t ∷ u ∷ [])) BoolType

-- whether negation overflows (`bvnego` of the theory FixedSizeBitVectors): so it does at the least number of the width alone
abbrev pub bvnego_of : PlainTerm → PlainTerm
bvnego_of t = Application BvnegoOp (terms (t ∷ [])) BoolType

-- the type of bits that are wider by k places; another type stays
abbrev pub wider_type : ℕ → PlainType → PlainType
wider_type k (BitVecType n) = BitVecType (n + k)
wider_type k t = t

-- bits with k zeros in front (`zero_extend` of the theory FixedSizeBitVectors)
abbrev pub zero_extend_of : ℕ → PlainTerm → PlainTerm
zero_extend_of k t = Application (ZeroExtendOp k) (terms (t ∷ [])) (wider_type k (type_of t))

-- whether a string matches a pattern (`str.in_re` of the theory UnicodeStrings, at the pattern's regular expression)
abbrev pub string_like_of : PlainTerm → List PatternPart → PlainTerm
string_like_of t p = Application (StringLikeOp p) (terms (t ∷ [])) BoolType

-- whether the first term is an element of the second (`set.member` of cvc5's finite sets)
abbrev pub set_member_of : (element set : PlainTerm) → PlainTerm
set_member_of t u = Application SetMemberOp (terms (t ∷ u ∷ [])) BoolType

-- whether each element of the first set is one of the second (`set.subset` of cvc5's finite sets)
abbrev pub set_subset_of : PlainTerm → PlainTerm → PlainTerm
set_subset_of t u = Application SetSubsetOp (terms (t ∷ u ∷ [])) BoolType

-- the intersection of two sets (`set.inter` of cvc5's finite sets), with the type of the first
abbrev pub set_inter_of : PlainTerm → PlainTerm → PlainTerm
set_inter_of t u = Application SetInterOp (terms (t ∷ u ∷ [])) (type_of t)

-- the type inside an option type; another type stays
abbrev pub type_inside : PlainType → PlainType
type_inside (OptionType t) = t
type_inside t = t

-- what is inside an option: the selector `val` of the datatype `Option`, which an interpretation completes at none
abbrev pub option_get_of : PlainTerm → PlainTerm
option_get_of t = Application OptionGetOp (terms (t ∷ [])) (type_inside (type_of t))

-- the type of a record type's attribute; a type that does not have the attribute stays
abbrev pub type_at : (attribute : List ℕ) → PlainType → PlainType
type_at x t = unwrap_or (attribute_type x t) t

-- the value of a record's attribute: the selector of the datatype that stands for the record type
abbrev pub record_get_of : PlainTerm → (attribute : List ℕ) → PlainTerm
record_get_of t x = Application (RecordGetOp x) (terms (t ∷ [])) (type_at x (type_of t))

-- an operator of the extension types, whose result type is fixed by the operator
abbrev pub extension_of : ExtensionOp → PlainTerm → PlainTerm
extension_of o t = Application (ExtOp o) (terms (t ∷ [])) (extension_signature o).1
