-- The orders of tables of terms, and of functions of one argument, by what they say.
use Rattle.std.specs.Prelude.{List}
use Rattle.std.specs.Ordering.{ordering_then}
use Rattle.std.specs.Cmp.Lexicographic.{slice_cmp}
use Rattle.std.specs.declared.cmp.Ordering.{Ordering}
use Rattle.std.specs.declared.cmp.Ordering.TheVariants.{Less, Greater}
use Rattle.smt_term.specs.Ordered.{AreOrdered, pair_cmp}
use Rattle.law_terms.specs.Functions.{PlainDefinition, PlainUnary, Uninterpreted, Defined}
use Rattle.law_terms.specs.Plain.{PlainTerm}
use Rattle.law_terms.specs.TermOrder.{function_cmp, term_cmp}
use Rattle.law_terms.specs.Types.{type_cmp}
use Rattle.smt_term.specs.Functions.{plain_definition, plain_unary}
use Rattle.smt_term.specs.Tables.{plain_entries}
use Rattle.smt_term.specs.contracts.unary_function.UdfOrd.TheImpl as definition_order
use Rattle.smt_term.specs.contracts.unary_function.UdfPartialEq.TheImpl as definition_equality
use Rattle.smt_term.specs.contracts.unary_function.UnaryFunctionOrd.TheImpl as function_order
use Rattle.smt_term.specs.contracts.unary_function.UnaryFunctionPartialEq.TheImpl as function_equality
use Rattle.smt_term.specs.contracts.table.TermTableOrd.TheImpl as table_order
use Rattle.smt_term.specs.contracts.table.TermTablePartialEq.TheImpl as table_equality

-- the order of lists of entries by their first difference, of two entries by the keys and then by the values
abbrev pub entries_cmp : List (PlainTerm × PlainTerm) → List (PlainTerm × PlainTerm) → Ordering
entries_cmp = slice_cmp (pair_cmp term_cmp term_cmp)

-- the order of functions that tables define: by the types, then the entries, then the term elsewhere
abbrev pub definition_cmp : PlainDefinition → PlainDefinition → Ordering
definition_cmp f g =
    ordering_then (type_cmp f.argument g.argument)
    (ordering_then (type_cmp f.output g.output) (ordering_then (entries_cmp f.entries g.entries) (term_cmp f.elsewhere g.elsewhere)))

-- the order of functions of one argument: uninterpreted ones before those that a table defines
abbrev pub unary_cmp : PlainUnary → PlainUnary → Ordering
unary_cmp (Uninterpreted f) (Uninterpreted g) = function_cmp f g
unary_cmp (Uninterpreted f) (Defined g) = Less
unary_cmp (Defined f) (Uninterpreted g) = Greater
unary_cmp (Defined f) (Defined g) = definition_cmp f g

-- tables are ordered by their entries, and are equal where they say the same
abbrev pub TermTablesAreOrdered : Type 0
TermTablesAreOrdered = AreOrdered table_order.ghosts.cmp table_equality.ghosts.eq plain_entries entries_cmp

-- functions that tables define are in the order of their types, entries and terms elsewhere, and are equal where they say the same
abbrev pub DefinitionsAreOrdered : Type 0
DefinitionsAreOrdered = AreOrdered definition_order.ghosts.cmp definition_equality.ghosts.eq plain_definition definition_cmp

-- functions of one argument are in the order of what they say, uninterpreted ones first, and are equal where they say the same
abbrev pub FunctionsAreOrdered : Type 0
FunctionsAreOrdered = AreOrdered function_order.ghosts.cmp function_equality.ghosts.eq plain_unary unary_cmp
