-- The folding of the calls on options: the cases of each in the order in which they are tried.
use Rattle.std.specs.Prelude.{List, [], ◌∷◌, Option, Some, None}
use Rattle.law_folding.specs.Applications.{true_term, false_term, option_get_of}
use Rattle.law_folding.specs.FoldConnectives.{folded_not}
use Rattle.law_terms.specs.Types.{inner_type, type_of}
use Rattle.law_terms.specs.Plain.{IteOp, PlainTerm, Application, NoneTerm, SomeTerm, list_of_terms}

-- `some` gives what it holds; what is no option stays
abbrev pub folded_option_get : PlainTerm → PlainTerm
folded_option_get (SomeTerm t) = t
folded_option_get t = elim (inner_type (type_of t)) [ Some ty ↦ option_get_of t | None ↦ t ]

-- Whether a choice between options is none, where the forms of its branches tell. Two `some`: false; some and none: the guard's
-- negation; none and some: the guard. Nothing is told by other branches.
abbrev pub none_by_branches : (guard first second : PlainTerm) → Option PlainTerm
none_by_branches g (SomeTerm t) (SomeTerm u) = Some false_term
none_by_branches g (SomeTerm t) (NoneTerm ty) = Some (folded_not g)
none_by_branches g (NoneTerm ty) (SomeTerm u) = Some g
none_by_branches g t u = None

-- the same of a choice by its three arguments: guard and branches
abbrev pub none_by_arguments : List PlainTerm → Option PlainTerm
none_by_arguments (g ∷ t ∷ u ∷ []) = none_by_branches g t u
none_by_arguments ts = None

-- whether an option is none, where its form tells: none is true, some is false, and a choice goes by its branches
abbrev pub none_by_form : PlainTerm → Option PlainTerm
none_by_form (NoneTerm ty) = Some true_term
none_by_form (SomeTerm t) = Some false_term
none_by_form (Application IteOp ts ty) = none_by_arguments (list_of_terms ts)
none_by_form t = None
