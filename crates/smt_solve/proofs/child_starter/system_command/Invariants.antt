use Rattle.std.proofs.Common.{◌≡◌, map, take}
use Rattle.std.specs.Process.{command_args, command_program}
use Rattle.std.specs.Rc.{rc_str_bytes}
use Rattle.smt_solve.proofs.child_starter.system_command.Given as goal

abbrev pub invariant-loop-arg : goal.invariant-loop-arg
invariant-loop-arg l = record {
  program : command_program l.command ≡ rc_str_bytes l.fn.cmd.program;
  args : command_args l.command ≡ map rc_str_bytes (take l.arg-index l.arg-items);
}
