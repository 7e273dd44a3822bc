-- The calls that are made of other calls, each written once: `applied` gives the application that is asked for, `folding` what
-- the call gives.
use Rattle.std.specs.Prelude.{List, [], ◌∷◌, map, Some, None}
use Rattle.law_folding.specs.Applications.{false_term}
use Rattle.law_folding.specs.Builder.{Builder}
use Rattle.law_folding.specs.Parts.{element_type}
use Rattle.law_terms.specs.Types.{inner_type, type_of}
use Rattle.law_terms.specs.Plain.{PlainTerm, NoneTerm, SetTerm, SomeTerm, no_terms}

-- ---- connectives

-- the second holds where the first does
abbrev pub implies : Builder → PlainTerm → PlainTerm → PlainTerm
implies b t u = b.or (b.not t) u

-- what a disjunction has come to, and the terms that are left: each is put before what came of those in front of it
abbrev pub any_of_from : Builder → PlainTerm → List PlainTerm → PlainTerm
any_of_from b so_far [] = so_far
any_of_from b so_far (t ∷ ts) = any_of_from b (b.or t so_far) ts

-- the disjunction of a list of terms, from false on; of none it is false
abbrev pub any_of : Builder → List PlainTerm → PlainTerm
any_of b ts = any_of_from b false_term ts

-- ---- sets

-- a set is empty where it is the empty set of its elements' type; what is no set never is
abbrev pub empty_by_type : Builder → PlainTerm → PlainTerm
empty_by_type b t = elim (element_type (type_of t)) [ Some ty ↦ b.eq t (SetTerm ty no_terms) | None ↦ b.never t ]

-- whether a set is empty: by its form where that tells, and else by its type
abbrev pub set_is_empty : Builder → PlainTerm → PlainTerm
set_is_empty b t = elim (b.empty_by_form t) [ Some x ↦ x | None ↦ empty_by_type b t ]

-- two sets intersect where their intersection is not empty
abbrev pub set_intersects : Builder → PlainTerm → PlainTerm → PlainTerm
set_intersects b t u = b.not (set_is_empty b (b.set_inter t u))

-- ---- options

-- an option is none where it is the none of its type; what is no option never is
abbrev pub none_by_type : Builder → PlainTerm → PlainTerm
none_by_type b t = elim (inner_type (type_of t)) [ Some ty ↦ b.eq t (NoneTerm ty) | None ↦ b.never t ]

-- whether an option is none: by its form where that tells, and else by its type
abbrev pub is_none : Builder → PlainTerm → PlainTerm
is_none b t = elim (b.none_by_form t) [ Some x ↦ x | None ↦ none_by_type b t ]

-- whether an option is some: the negation of its being none. What is no option always is.
abbrev pub is_some : Builder → PlainTerm → PlainTerm
is_some b t = b.not (is_none b t)

-- some of the term where the guard is false, and else none
abbrev pub if_false : Builder → (guard : PlainTerm) → PlainTerm → PlainTerm
if_false b g t = b.ite g (NoneTerm (type_of t)) (SomeTerm t)

-- some of the term where the guard is true, and else none
abbrev pub if_true : Builder → (guard : PlainTerm) → PlainTerm → PlainTerm
if_true b g t = b.ite g (SomeTerm t) (NoneTerm (type_of t))

-- An option where the guard is false, and none where it is true: the term itself where it is an option, and else some of it.
-- So the result is an option in both cases, and never an option of an option.
abbrev pub unless : Builder → (guard : PlainTerm) → PlainTerm → PlainTerm
unless b g t = elim (inner_type (type_of t)) [ Some ty ↦ b.ite g (NoneTerm ty) t | None ↦ if_false b g t ]

-- the term as an option where another option is some, and else none
abbrev pub if_some : Builder → PlainTerm → PlainTerm → PlainTerm
if_some b g t = unless b (is_none b g) t

-- whether one of the options of a list is none
abbrev pub any_none : Builder → List PlainTerm → PlainTerm
any_none b gs = any_of b (map (is_none b) gs)

-- the term as an option where all options of a list are some, and else none
abbrev pub if_all_some : Builder → List PlainTerm → PlainTerm → PlainTerm
if_all_some b gs t = unless b (any_none b gs) t
