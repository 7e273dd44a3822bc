-- What an assignment of the program says.
use Rattle.std.specs.Prelude.{ℕ, List, [], map}
use Rattle.std.specs.Rc.{rc_str_bytes}
use Rattle.std.specs.declared.alloc.Global.{Global}
use Rattle.std.specs.declared.rc.RcStr.{RcStr}
use Rattle.law_assignments.specs.Assignments.{PlainAssignment}
use Rattle.law_terms.specs.Functions.{PlainDefinition}
use Rattle.law_terms.specs.Plain.{ExtensionOp, PlainTerm, PlainType}
use Rattle.smt_term.specs.Functions.{plain_definition}
use Rattle.smt_term.specs.View.{plain_term, plain_type}
use Rattle.smt_term.specs.declared.term.Term.{Term}
use Rattle.smt_term.specs.declared.unary_function.Udf.{Udf}
use Rattle.smt_term.specs.ExtensionView.{plain_extension_op}
use Rattle.smt_term.specs.declared.extension.ExtOp.{ExtOp}
use Rattle.smt_term.specs.declared.types.TermType.{TermType}
use Rattle.smt_eval.specs.declared.assignment.Assignment.{Assignment}

-- a variable's id and the literal that it is given
abbrev pub plain_value : RcStr Global × Term → List ℕ × PlainTerm
plain_value e = (rc_str_bytes e.0, plain_term e.1)

-- a function's id and the table that it is given
abbrev pub plain_table : RcStr Global × Udf → List ℕ × PlainDefinition
plain_table e = (rc_str_bytes e.0, plain_definition e.1)

-- an inner type, and what `option.get` of none gives there
abbrev pub plain_get : TermType × Term → PlainType × PlainTerm
plain_get e = (plain_type e.0, plain_term e.1)

-- a selector of IP ranges and its table
abbrev pub plain_selector : ExtOp × Udf → ExtensionOp × PlainDefinition
plain_selector e = (plain_extension_op e.0, plain_definition e.1)

-- an assignment of the program: its entries, in the order in which they were given. The places by which they are found say no more.
abbrev pub plain_assignment : Assignment → PlainAssignment
plain_assignment a = record {
  variables = map plain_value a.variables.items.items;
  functions = map plain_table a.functions.items.items;
  gets = map plain_get a.gets.items.items;
  selectors = map plain_selector a.selectors.items;
}

-- the assignment that gives nothing
abbrev pub no_entries : PlainAssignment
no_entries = record { variables = []; functions = []; gets = []; selectors = [] }
