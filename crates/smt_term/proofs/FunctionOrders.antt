-- The derived orders of tables of terms, and of functions of one argument, agree with equality.
use Rattle.std.proofs.Common.{◌≡◌, List, refl, ap, ◌∙◌}
use Rattle.std.specs.FinMap.{slice_cmp-IsAntisymmetric}
use Rattle.std.specs.Ordering.{ordering_then}
use Rattle.std.specs.declared.cmp.Ordering.TheVariants.{Equal}
use Rattle.smt_term.specs.Ordered.{pair_cmp}
use Rattle.smt_term.proofs.Orders.{are_ordered, lists_by_said, pairs_same}
use Rattle.law_terms.proofs.SameTerm.{function_same, term_same}
use Rattle.law_terms.proofs.TypeOrder.{type_same}
use Rattle.law_terms.proofs.ValueOrder.{then_equal}
use Rattle.law_terms.specs.Functions.{PlainDefinition, PlainUnary, Uninterpreted, Defined}
use Rattle.law_terms.specs.Plain.{PlainTerm}
use Rattle.law_terms.specs.TermOrder.{term_cmp}
use Rattle.law_terms.specs.Types.{type_cmp}
use Rattle.smt_term.proofs.DerivedOrder.{derived_term_cmp, function_cmp-is, term_cmp-is}
use Rattle.smt_term.specs.View.{plain_term, plain_type}
use Rattle.smt_term.specs.declared.term.Term.{Term}
use Rattle.smt_term.proofs.DerivedTypeOrder.{derived_type_cmp, type_cmp-is}
use Rattle.smt_term.specs.Functions.{plain_definition, plain_unary}
use Rattle.smt_term.specs.Orders.{DefinitionsAreOrdered, FunctionsAreOrdered, TermTablesAreOrdered, definition_cmp, entries_cmp, unary_cmp}
use Rattle.smt_term.specs.Tables.{plain_entries, plain_entry}
use Rattle.smt_term.specs.contracts.unary_function.UdfOrd.TheImpl as definition_order
use Rattle.smt_term.specs.contracts.unary_function.UdfOrd.TheImpl.Laws as definition_laws
use Rattle.smt_term.specs.contracts.unary_function.UnaryFunctionOrd.TheImpl as function_order
use Rattle.smt_term.specs.contracts.unary_function.UnaryFunctionOrd.TheImpl.Laws as function_laws
use Rattle.smt_term.specs.contracts.table.TermTableOrd.TheImpl as table_order
use Rattle.smt_term.specs.contracts.table.TermTableOrd.TheImpl.Laws as table_laws
use Rattle.smt_term.specs.declared.unary_function.Udf.{Udf}
use Rattle.smt_term.specs.declared.unary_function.UnaryFunction.{UnaryFunction}
use Rattle.smt_term.specs.declared.unary_function.UnaryFunction.TheVariants.{Uuf, Udf as ByTable}
use Rattle.smt_term.specs.declared.table.TermTable.{TermTable}

-- ---- tables

entry_cmp-is : (p q : Term × Term) → pair_cmp derived_term_cmp derived_term_cmp p q ≡ pair_cmp term_cmp term_cmp (plain_entry p) (plain_entry q)
entry_cmp-is p q = ap (λ o. ordering_then o (derived_term_cmp p.1 q.1)) (term_cmp-is p.0 q.0) ∙ ap (λ o. ordering_then (term_cmp (plain_term p.0) (plain_term q.0)) o) (term_cmp-is p.1 q.1)

table_cmp-is : (a b : TermTable) → table_order.ghosts.cmp a b ≡ entries_cmp (plain_entries a) (plain_entries b)
table_cmp-is a b = lists_by_said (pair_cmp derived_term_cmp derived_term_cmp) plain_entry (pair_cmp term_cmp term_cmp) entry_cmp-is a.items.value.items b.items.value.items

entries_same : (ps qs : List (PlainTerm × PlainTerm)) → entries_cmp ps qs ≡ Equal → ps ≡ qs
entries_same = slice_cmp-IsAntisymmetric (pairs_same term_cmp term_cmp term_same term_same)

pub term_tables_are_ordered : TermTablesAreOrdered
term_tables_are_ordered = are_ordered _ _ plain_entries entries_cmp table_laws.total-law table_laws.matches_eq-law table_cmp-is entries_same

-- ---- functions that a table defines

definition_cmp-is : (f g : Udf) → definition_order.ghosts.cmp f g ≡ definition_cmp (plain_definition f) (plain_definition g)
definition_cmp-is f g =
    ap (λ o. ordering_then o (ordering_then (derived_type_cmp f.out g.out) (ordering_then (table_order.ghosts.cmp f.table g.table) (derived_term_cmp f.default g.default)))) (type_cmp-is f.arg g.arg)
    ∙ ap (λ o. ordering_then (type_cmp (plain_type f.arg) (plain_type g.arg)) (ordering_then o (ordering_then (table_order.ghosts.cmp f.table g.table) (derived_term_cmp f.default g.default)))) (type_cmp-is f.out g.out)
    ∙ ap (λ o. ordering_then (type_cmp (plain_type f.arg) (plain_type g.arg)) (ordering_then (type_cmp (plain_type f.out) (plain_type g.out)) (ordering_then o (derived_term_cmp f.default g.default)))) (table_cmp-is f.table g.table)
    ∙ ap (λ o. ordering_then (type_cmp (plain_type f.arg) (plain_type g.arg)) (ordering_then (type_cmp (plain_type f.out) (plain_type g.out)) (ordering_then (entries_cmp (plain_entries f.table) (plain_entries g.table)) o))) (term_cmp-is f.default g.default)

definition_same : (f g : PlainDefinition) → definition_cmp f g ≡ Equal → f ≡ g
definition_same f g h =
    let first = then_equal (type_cmp f.argument g.argument) _ h in
    let second = then_equal (type_cmp f.output g.output) _ first.1 in
    let third = then_equal (entries_cmp f.entries g.entries) (term_cmp f.elsewhere g.elsewhere) second.1 in
    let p : f.argument ≡ g.argument = type_same f.argument g.argument first.0 in
    let q : f.output ≡ g.output = type_same f.output g.output second.0 in
    let r : f.entries ≡ g.entries = entries_same f.entries g.entries third.0 in
    let s : f.elsewhere ≡ g.elsewhere = term_same f.elsewhere g.elsewhere third.1 in
    λ i. record { argument = p i; output = q i; entries = r i; elsewhere = s i }

pub definitions_are_ordered : DefinitionsAreOrdered
definitions_are_ordered = are_ordered _ _ plain_definition definition_cmp definition_laws.total-law definition_laws.matches_eq-law definition_cmp-is definition_same

-- ---- functions of both kinds

unary_cmp-is : (f g : UnaryFunction) → function_order.ghosts.cmp f g ≡ unary_cmp (plain_unary f) (plain_unary g)
unary_cmp-is (Uuf f) (Uuf g) = function_cmp-is f.value g.value
unary_cmp-is (Uuf f) (ByTable g) = refl
unary_cmp-is (ByTable f) (Uuf g) = refl
unary_cmp-is (ByTable f) (ByTable g) = definition_cmp-is f.value g.value

unary_same : (f g : PlainUnary) → unary_cmp f g ≡ Equal → f ≡ g
unary_same (Uninterpreted f) (Uninterpreted g) h = ap Uninterpreted (function_same f g h)
unary_same (Uninterpreted f) (Defined g) h = cc
unary_same (Defined f) (Uninterpreted g) h = cc
unary_same (Defined f) (Defined g) h = ap Defined (definition_same f g h)

pub functions_are_ordered : FunctionsAreOrdered
functions_are_ordered = are_ordered _ _ plain_unary unary_cmp function_laws.total-law function_laws.matches_eq-law unary_cmp-is unary_same
