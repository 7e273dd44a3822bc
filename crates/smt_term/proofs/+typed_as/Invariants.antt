use Rattle.std.proofs.Common.{◌≡◌, drop}
use Rattle.smt_term.proofs.RecordFields.{alike_terms}
use Rattle.smt_term.proofs.+typed_as.Given as goal

-- whether the attributes that are left are alike decides it of all
abbrev pub invariant-maps::TermMap::is_typed_as-loop-i : goal.invariant-maps::TermMap::is_typed_as-loop-i
invariant-maps::TermMap::is_typed_as-loop-i l = alike_terms (drop l.i l.fields) (drop l.i l.others) ≡ alike_terms l.fields l.others
