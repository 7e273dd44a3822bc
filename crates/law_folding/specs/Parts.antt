-- What the foldings look for in a term.
use Rattle.std.specs.Prelude.{ℕ, Bool, true, false, List, [], ◌∷◌, Option, Some, None}
use Rattle.law_terms.specs.Literals.{are_literals}
use Rattle.law_terms.specs.Plain.{PlainType, SetType, BvnegOp, NotOp, BitVecLiteral, StringLiteral, PlainTerm, Application, LiteralTerm}
use Rattle.law_terms.specs.Plain.{NoneTerm, RecordTerm, SetTerm, SomeTerm, no_terms, one_term, list_of_terms}

-- the one term of a list that has exactly one
abbrev pub only_one : List PlainTerm → Option PlainTerm
only_one [] = None
only_one (t ∷ []) = Some t
only_one (t ∷ u ∷ ts) = None

-- what a negation of truth values is of
abbrev pub negated : PlainTerm → Option PlainTerm
negated (Application NotOp (one_term t no_terms) ty) = Some t
negated t = None

-- what a negation of bits is of
abbrev pub negated_bits : PlainTerm → Option PlainTerm
negated_bits (Application BvnegOp (one_term t no_terms) ty) = Some t
negated_bits t = None

-- the width and the number of a literal of bits
abbrev pub bits_inside : PlainTerm → Option (ℕ × ℕ)
bits_inside (LiteralTerm (BitVecLiteral n a)) = Some (n, a)
bits_inside t = None

-- the type of the elements of a set type
abbrev pub element_type : PlainType → Option PlainType
element_type (SetType t) = Some t
element_type t = None

-- the elements of a set that is given by them
abbrev pub elements_in : PlainTerm → List PlainTerm
elements_in (SetTerm ty ts) = list_of_terms ts
elements_in t = []

-- a set that is given by its elements
abbrev pub is_set_term : PlainTerm → Bool
is_set_term (SetTerm ty ts) = true
is_set_term t = false

-- a set without elements
abbrev pub is_empty_set : PlainTerm → Bool
is_empty_set (SetTerm ty no_terms) = true
is_empty_set t = false

-- a set whose elements are literals
abbrev pub is_set_literal : PlainTerm → Bool
is_set_literal (SetTerm ty ts) = are_literals ts
is_set_literal t = false

-- a record that is given by its terms
abbrev pub is_record_term : PlainTerm → Bool
is_record_term (RecordTerm fs) = true
is_record_term t = false

-- the text of a literal
abbrev pub text_inside : PlainTerm → Option (List ℕ)
text_inside (LiteralTerm (StringLiteral s)) = Some s
text_inside t = None

-- what `some` of a term holds
abbrev pub held : PlainTerm → Option PlainTerm
held (SomeTerm t) = Some t
held t = None

-- both terms are `some`
abbrev pub are_some : PlainTerm → PlainTerm → Bool
are_some (SomeTerm t) (SomeTerm u) = true
are_some t u = false

-- the term is the none of some type
abbrev pub is_none_term : PlainTerm → Bool
is_none_term (NoneTerm ty) = true
is_none_term t = false

-- the first term is `some`, and the second a none
abbrev pub are_some_and_none : PlainTerm → PlainTerm → Bool
are_some_and_none (SomeTerm t) (NoneTerm ty) = true
are_some_and_none t u = false
