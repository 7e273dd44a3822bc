use Rattle.std.proofs.Common.{sym}
use Rattle.smt_term.specs.View.{plain_op}
use Rattle.smt_term.proofs.TypedArguments.{not_taken}
use Rattle.smt_term.proofs.op.Op.takes.Goals as goal

pub returns-in_default-2 : goal.returns-in_default-2
returns-in_default-2 c = sym (not_taken (plain_op c.args.self.now) c.args.args.now c.in_default.len_at_least)
