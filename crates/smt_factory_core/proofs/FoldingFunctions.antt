-- What the code finds of a function at a term, in the words of the folding, and that this stands for the application and has the
-- function's value.
use Rattle.std.proofs.Common.{◌≡◌, List, [], ◌∷◌, map, ap, sym, subst}
use Rattle.std.specs.Prelude.{Some, None}
use Rattle.std.specs.List.{AllByRecursion}
use Rattle.std.specs.Map.{lookup}
use Rattle.std.specs.Option.{unwrap_or}
use Rattle.law_folding.specs.AppOf.{IsAppOf}
use Rattle.law_folding.specs.FoldFunctions.{app_of, entry_at, folded_app}
use Rattle.law_folding.specs.Refinement.{Refines}
use Rattle.law_folding.proofs.FunctionsStand.{app_valued, stands_app}
use Rattle.law_terms.specs.Formed.{IsFormed}
use Rattle.law_terms.specs.Functions.{PlainDefinition, PlainUnary, HasLiteralKeys, IsTypedFunction, argument_type, defining_terms, entry_terms}
use Rattle.law_terms.specs.Plain.{PlainTerm}
use Rattle.law_terms.specs.TermOrder.{term_eq}
use Rattle.law_terms.specs.Typing.{Typed}
use Rattle.smt_term.specs.Functions.{plain_unary}
use Rattle.smt_term.specs.Tables.{plain_entry}
use Rattle.smt_term.specs.View.{plain_term}
use Rattle.smt_term.specs.declared.unary_function.UnaryFunction.{UnaryFunction}
use Rattle.smt_term.specs.declared.unary_function.UnaryFunction.TheVariants.{Uuf, Udf}
use Rattle.smt_term.specs.declared.term.Term.{Term}
use Rattle.smt_term.proofs.FormedTerms.{terms_are_formed}

-- ---- the entry of a literal

pub entry_at-found : (f : PlainDefinition) (t u : PlainTerm) → Some u ≡ lookup (term_eq t) f.entries → u ≡ entry_at f t
entry_at-found f t u e = ap (λ o. unwrap_or o f.elsewhere) e

pub entry_at-none : (f : PlainDefinition) (t : PlainTerm) → None ≡ lookup (term_eq t) f.entries → f.elsewhere ≡ entry_at f t
entry_at-none f t e = ap (λ o. unwrap_or o f.elsewhere) e

-- ---- what is folded stands for what was asked for, and has the function's value

pub stands_for_app : (r : PlainTerm) (f : PlainUnary) (t : PlainTerm) → HasLiteralKeys f → r ≡ folded_app f t → Refines r (app_of f t)
stands_for_app r f t k e = subst (λ (x : PlainTerm). Refines x (app_of f t)) (sym e) (stands_app f t k)

entries_formed : (es : List (Term × Term)) → AllByRecursion IsFormed (entry_terms (map plain_entry es))
entries_formed [] = tt
entries_formed (e ∷ es) = (terms_are_formed e.0, (terms_are_formed e.1, entries_formed es))

function_formed : (f : UnaryFunction) → AllByRecursion IsFormed (defining_terms (plain_unary f))
function_formed (Uuf f) = tt
function_formed (Udf f) = (terms_are_formed f.value.default, entries_formed f.value.table.items.value.items)

pub has_value : (r : PlainTerm) (f : UnaryFunction) (t : Term) → HasLiteralKeys (plain_unary f) → IsTypedFunction (plain_unary f) → Typed (plain_term t) (argument_type (plain_unary f)) → r ≡ folded_app (plain_unary f) (plain_term t) → IsAppOf (plain_unary f) (plain_term t) r
has_value r f t k y x e = subst (λ (u : PlainTerm). IsAppOf (plain_unary f) (plain_term t) u) (sym e) (app_valued (plain_unary f) (plain_term t) k y x (terms_are_formed t, function_formed f))

pub ruleset applying = (entry_at-found, entry_at-none)
