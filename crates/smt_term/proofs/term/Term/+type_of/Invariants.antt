use Rattle.std.proofs.Common.{◌≡◌, map, take}
use Rattle.smt_term.specs.View.{plain_attribute}
use Rattle.smt_term.proofs.RecordFields.{field_type}
use Rattle.smt_term.proofs.term.Term.+type_of.Given as goal

-- the types so far are those of the terms so far
abbrev pub invariant-loop-name : goal.invariant-loop-name
invariant-loop-name l = map plain_attribute l.types.items ≡ map field_type (take l.name-index l.fields)
