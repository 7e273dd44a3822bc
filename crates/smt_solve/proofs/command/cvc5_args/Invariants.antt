use Rattle.std.proofs.Common.{◌≡◌, ◌∷◌, codes, map, take}
use Rattle.std.specs.Rc.{rc_str_bytes}
use Rattle.smt_solve.proofs.command.cvc5_args.Given as goal

abbrev pub invariant-loop-arg : goal.invariant-loop-arg
invariant-loop-arg l = map rc_str_bytes l.all.items ≡ codes "--lang" ∷ codes "smt" ∷ map rc_str_bytes (take l.arg-index l.args)
