use Rattle.std.proofs.Common.{◌≡◌}
use Rattle.smt_term.proofs.ExtensionNames.{left_named, named}
use Rattle.smt_term.proofs.extension.ExtOp.of_name.Given as goal

-- what is found among the operators that are left is what is found among all
abbrev pub invariant-loop-op : goal.invariant-loop-op
invariant-loop-op l = left_named l.name l.op-index ≡ named l.name
