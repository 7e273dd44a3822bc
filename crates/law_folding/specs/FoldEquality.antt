-- The folding of equality and of choice: the cases of each in the order in which they are tried.
use Rattle.std.specs.Prelude.{Bool, cond, ◌&&◌, ◌||◌}
use Rattle.law_folding.specs.Applications.{true_term, false_term, eq_of, ite_of}
use Rattle.law_folding.specs.FoldConnectives.{folded_not, folded_and, folded_or}
use Rattle.law_terms.specs.Literals.{is_literal}
use Rattle.law_terms.specs.TermOrder.{term_eq}
use Rattle.law_terms.specs.Types.{type_of, type_eq}
use Rattle.law_terms.specs.Plain.{BoolType, PlainTerm, NoneTerm, SomeTerm}

-- the term has the type Bool
abbrev pub is_boolean : PlainTerm → Bool
is_boolean t = type_eq (type_of t) BoolType

-- Equal terms: true; two literals: false; true and a Boolean term: that; false and a Boolean term: its negation; else the equality.
-- Two literals that differ as terms are not equal, since typed literals of one type are equal exactly where their values are.
abbrev pub folded_eq_inside : PlainTerm → PlainTerm → PlainTerm
folded_eq_inside t u =
    cond (term_eq t u) true_term
    (cond (is_literal t && is_literal u) false_term
    (cond (term_eq t true_term && is_boolean u) u
    (cond (term_eq u true_term && is_boolean t) t
    (cond (term_eq t false_term && is_boolean u) (folded_not u)
    (cond (term_eq u false_term && is_boolean t) (folded_not t) (eq_of t u))))))

-- equality, folded: two `some` by what they hold, `some` and none false, and all else as above
abbrev pub folded_eq : PlainTerm → PlainTerm → PlainTerm
folded_eq (SomeTerm t) (SomeTerm u) = folded_eq_inside t u
folded_eq (SomeTerm t) (NoneTerm ty) = false_term
folded_eq (NoneTerm ty) (SomeTerm u) = false_term
folded_eq t u = folded_eq_inside t u

-- The guard true, or equal branches: the first; the guard false: the second; true else false: the guard; false else true:
-- its negation; else false: the conjunction with the guard; true or else: the disjunction with the guard.
abbrev pub folded_ite_inside : (guard : PlainTerm) → PlainTerm → PlainTerm → PlainTerm
folded_ite_inside g t u =
    cond (term_eq g true_term || term_eq t u) t
    (cond (term_eq g false_term) u
    (cond (term_eq t true_term && term_eq u false_term) g
    (cond (term_eq t false_term && term_eq u true_term) (folded_not g)
    (cond (term_eq u false_term) (folded_and g t)
    (cond (term_eq t true_term) (folded_or g u) (ite_of g t u))))))

-- a choice, folded: between two `some` it is some of the choice between what they hold, and all else as above
abbrev pub folded_ite : (guard : PlainTerm) → PlainTerm → PlainTerm → PlainTerm
folded_ite g (SomeTerm t) (SomeTerm u) = SomeTerm (folded_ite_inside g t u)
folded_ite g t u = folded_ite_inside g t u
