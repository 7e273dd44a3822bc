use Rattle.std.proofs.Common.{◌≡◌, drop}
use Rattle.smt_term.proofs.RecordFields.{alike_types}
use Rattle.smt_term.proofs.+of_type.Given as goal

-- whether the attributes that are left are alike decides it of all
abbrev pub invariant-maps::TermMap::is_of_types-loop-i : goal.invariant-maps::TermMap::is_of_types-loop-i
invariant-maps::TermMap::is_of_types-loop-i l = alike_types (drop l.i l.fields) (drop l.i l.types) ≡ alike_types l.fields l.types
