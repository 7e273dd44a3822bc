use Rattle.std.proofs.Common.{map}
use Rattle.std.specs.Rc.{rc_str_bytes}
use Rattle.smt_job_terms.proofs.EnumsEntered.{enum_doubled, enum_entered}
use Rattle.smt_job_terms.proofs.enums.enter.Goals as goal

pub returns-then-branch : goal.returns-then-branch
returns-then-branch c enums has =
    enum_entered c.args.table.now enums has (rc_str_bytes c.in_ok-clone.field-0) (rc_str_bytes c.args.name.now) c.insert.new.self (map rc_str_bytes c.args.members.now) _ c.in_ok-clone.ensures.cases c.if-branch.true c.in_ok-insert.ensures.added c.in_ok-insert.ensures.placed c.in_ok-insert.ensures.entered

pub returns-else-branch : goal.returns-else-branch
returns-else-branch c enums has =
    enum_doubled c.args.table.now enums has (rc_str_bytes c.in_ok-clone.field-0) (rc_str_bytes c.args.name.now) (map rc_str_bytes c.args.members.now) _ c.duplicate.result c.in_ok-clone.ensures.cases c.if-branch.false c.in_ok-insert.ensures.added c.duplicate.ensures
