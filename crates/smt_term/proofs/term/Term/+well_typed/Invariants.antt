use Rattle.std.proofs.Common.{◌≡◌, drop}
use Rattle.smt_term.proofs.RecordFields.{are_typed_fields}
use Rattle.smt_term.proofs.TypedArguments.{typed_list}
use Rattle.smt_term.proofs.term.Term.+well_typed.Given as goal

-- whether the arguments that are left are typed decides it of all
abbrev pub invariant-loop-arg : goal.invariant-loop-arg
invariant-loop-arg l = typed_list (drop l.arg-index l.args) ≡ typed_list l.args

abbrev pub invariant-loop-element : goal.invariant-loop-element
invariant-loop-element l = typed_list (drop l.element-index l.elements) ≡ typed_list l.elements

abbrev pub invariant-loop-field : goal.invariant-loop-field
invariant-loop-field l = are_typed_fields (drop l.field-index l.fields) ≡ are_typed_fields l.fields
