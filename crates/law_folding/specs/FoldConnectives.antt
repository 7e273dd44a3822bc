-- The folding of the connectives: the cases of each in the order in which they are tried.
use Rattle.std.specs.Prelude.{Bool, false, cond, not, ◌||◌}
use Rattle.std.specs.Option.{option_map_or, unwrap_or}
use Rattle.law_folding.specs.Applications.{true_term, false_term, truth_literal, not_of, and_of, or_of}
use Rattle.law_folding.specs.Parts.{negated}
use Rattle.law_terms.specs.TermOrder.{term_eq}
use Rattle.law_terms.specs.Plain.{BoolLiteral, PlainTerm, LiteralTerm}

-- a literal's negation, and what a negation is of
abbrev pub folded_not : PlainTerm → PlainTerm
folded_not (LiteralTerm (BoolLiteral b)) = truth_literal (not b)
folded_not t = unwrap_or (negated t) (not_of t)

-- the second is the negation of the first
abbrev pub is_negation : PlainTerm → PlainTerm → Bool
is_negation t u = option_map_or (term_eq t) (negated u) false

-- one of the two is the negation of the other
abbrev pub are_opposites : PlainTerm → PlainTerm → Bool
are_opposites t u = is_negation t u || is_negation u t

-- equal terms, or the second true: the first; the first true: the second; a false one, or opposites: false; else the conjunction
abbrev pub folded_and : PlainTerm → PlainTerm → PlainTerm
folded_and t u =
    cond (term_eq t u || term_eq u true_term) t
    (cond (term_eq t true_term) u
    (cond (term_eq t false_term || (term_eq u false_term || are_opposites t u)) false_term (and_of t u)))

-- equal terms, or the second false: the first; the first false: the second; a true one, or opposites: true; else the disjunction
abbrev pub folded_or : PlainTerm → PlainTerm → PlainTerm
folded_or t u =
    cond (term_eq t u || term_eq u false_term) t
    (cond (term_eq t false_term) u
    (cond (term_eq t true_term || (term_eq u true_term || are_opposites t u)) true_term (or_of t u)))
