use Rattle.std.proofs.Common.{ap, ◌∙◌}
use Rattle.std.specs.Cmp.{tied_itself}
use Rattle.std.specs.Cmp.Lexicographic.{nat_list_cmp_total, slice_cmp}
use Rattle.std.specs.Ordering.{nat_cmp}
use Rattle.std.specs.Rc.{rc_str_bytes}
use Rattle.smt_eval.proofs.assignment.Assignment.give_function.Goals as goal

pub give-requires : goal.give-requires
give-requires c =
    ap (λ bytes. slice_cmp nat_cmp bytes (rc_str_bytes c.args.id)) c.in_ok-clone.ensures.cases ∙ tied_itself nat_list_cmp_total (rc_str_bytes c.args.id)
