use Rattle.std.proofs.Common.{◌≡◌, drop}
use Rattle.smt_term.proofs.LiteralElements.{literal_list}
use Rattle.smt_term.proofs.RecordFields.{literal_fields}
use Rattle.smt_term.proofs.term.Term.+is_literal.Given as goal

-- whether the elements that are left are literals decides it of all
abbrev pub invariant-loop-element : goal.invariant-loop-element
invariant-loop-element l = literal_list (drop l.element-index l.element-items) ≡ literal_list l.element-items

-- the same of the terms of a record
abbrev pub invariant-loop-field : goal.invariant-loop-field
invariant-loop-field l = literal_fields (drop l.field-index l.fields) ≡ literal_fields l.fields
