use Rattle.std.proofs.Common.{◌≡◌, drop, map}
use Rattle.std.specs.Rc.{rc_str_bytes}
use Rattle.smt_values.specs.PlainValues.{value_fields}
use Rattle.smt_values.specs.ValueView.{named_field}
use Rattle.smt_values.specs.TermOfValue.{field_named}
use Rattle.smt_values.proofs.from_cedar.field_named.Given as goal

-- what is found in the pairs that are left is found in all of them
abbrev pub invariant-loop-other : goal.invariant-loop-other
invariant-loop-other l =
    field_named (rc_str_bytes l.name) (value_fields (map named_field (drop l.other-index l.other-items))) ≡ field_named (rc_str_bytes l.name) (value_fields (map named_field l.other-items))
