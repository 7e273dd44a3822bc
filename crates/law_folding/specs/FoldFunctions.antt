-- A function of one argument at a term: the application that is asked for, and its folding.
use Rattle.std.specs.Prelude.{cond, List, [], ◌∷◌}
use Rattle.std.specs.Map.{lookup}
use Rattle.std.specs.Option.{unwrap_or}
use Rattle.law_folding.specs.Builder.{Builder, applied, folding}
use Rattle.law_terms.specs.Functions.{PlainDefinition, PlainUnary, Uninterpreted, Defined}
use Rattle.law_terms.specs.Literals.{is_literal}
use Rattle.law_terms.specs.TermOrder.{term_eq}
use Rattle.law_terms.specs.Plain.{PlainFunction, UufOp, PlainTerm, Application, terms}

-- a function that an interpretation gives, at a term
abbrev pub uuf_of : PlainFunction → PlainTerm → PlainTerm
uuf_of f t = Application (UufOp f) (terms (t ∷ [])) f.output

-- nested choices by whether the argument is equal to each entry's key, in order, with the term elsewhere at the end
abbrev pub choice_among : Builder → List (PlainTerm × PlainTerm) → (elsewhere argument : PlainTerm) → PlainTerm
choice_among b [] d t = d
choice_among b (e ∷ es) d t = b.ite (b.eq t e.0) e.1 (choice_among b es d t)

-- a function that a table defines, at a term: the choice among the table's entries
abbrev pub choice_by : Builder → PlainDefinition → (argument : PlainTerm) → PlainTerm
choice_by b f t = choice_among b f.entries f.elsewhere t

-- the term of the entry that has the argument as its key, and else the term elsewhere
abbrev pub entry_at : PlainDefinition → (argument : PlainTerm) → PlainTerm
entry_at f t = unwrap_or (lookup (term_eq t) f.entries) f.elsewhere

-- the application that is asked for: of a function that a table defines, a choice by the table's keys
abbrev pub app_of : PlainUnary → (argument : PlainTerm) → PlainTerm
app_of (Uninterpreted f) t = uuf_of f t
app_of (Defined f) t = choice_by applied f t

-- A table at a literal: the entry; at another term: the choice, folded. The entry found by its key as a term is the one found by its
-- value where the keys are literals, since two literals of one type are equal exactly where their values are.
abbrev pub folded_app : PlainUnary → (argument : PlainTerm) → PlainTerm
folded_app (Uninterpreted f) t = uuf_of f t
folded_app (Defined f) t = cond (is_literal t) (entry_at f t) (choice_by folding f t)
