-- What functions of one argument say.
use Rattle.law_terms.specs.Functions.{PlainDefinition, PlainUnary, Uninterpreted, Defined}
use Rattle.smt_term.specs.Tables.{plain_entries}
use Rattle.smt_term.specs.View.{plain_function, plain_term, plain_type}
use Rattle.smt_term.specs.declared.unary_function.Udf.{Udf}
use Rattle.smt_term.specs.declared.unary_function.UnaryFunction.{UnaryFunction}
use Rattle.smt_term.specs.declared.unary_function.UnaryFunction.TheVariants.{Uuf, Udf as ByTable}

-- what a function says that a table defines: its types, its entries in order, and its term elsewhere
abbrev pub plain_definition : Udf → PlainDefinition
plain_definition f =
    record { argument = plain_type f.arg; output = plain_type f.out; entries = plain_entries f.table; elsewhere = plain_term f.default }

-- what a function of one argument says: one that an interpretation gives, or one that a table defines
abbrev pub plain_unary : UnaryFunction → PlainUnary
plain_unary (Uuf f) = Uninterpreted (plain_function f.value)
plain_unary (ByTable f) = Defined (plain_definition f.value)
