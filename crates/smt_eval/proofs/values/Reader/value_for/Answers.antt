use Rattle.std.proofs.Common.{option_map, sym}
use Rattle.smt_sexpr.specs.View.{plain}
use Rattle.smt_term.specs.View.{plain_term, plain_type}
use Rattle.smt_term.specs.Enums.{enums_of}
use Rattle.smt_term.specs.ExtensionView.{plain_extension_op}
use Rattle.smt_eval.specs.ReaderView.{takes_key}
use Rattle.smt_eval.proofs.ReadValues.{states_no_key, states_no_value, states_value}
use Rattle.smt_eval.proofs.values.Reader.value_for.Goals as goal
use Rattle.smt_eval.proofs.values.Reader.value_for.Goals.{else-branch-via-then-branch+else-takes_key, else-branch-via-else-branch}

pub returns-then-takes_key-clause-stated : goal.returns-then-takes_key-clause-stated
returns-then-takes_key-clause-stated c ds reads =
    let stated = rw c.in-Some.is at c.in_ok-term.ensures.stated ds reads in
    sym (states_value ds (plain_type c.args.ty.now) (takes_key (option_map plain_extension_op c.args.selector)) (plain c.args.expression.now) (plain_term c.in-Some.term) stated
    (enums_of c.args.self.now.enums.now) c.in_ok-is_value.field-0 c.takes_key.result reads.lists c.in_ok-is_value.ensures.value c.takes_key.ensures c.if-branch.true c.if-takes_key.true)

pub returns-else-branch-clause-stated : goal.returns-else-branch-clause-stated
returns-else-branch-clause-stated c ds reads =
    let stated = rw c.in-Some.is at c.in_ok-term.ensures.stated ds reads in
    elim c.else-branch.branch [
      | else-branch-via-then-branch+else-takes_key w ↦ sym (states_no_key ds (plain_type c.args.ty.now) (takes_key (option_map plain_extension_op c.args.selector)) (plain c.args.expression.now) (plain_term c.in-Some.term) stated
          (enums_of c.args.self.now.enums.now) c.in_ok-is_value.field-0 w.takes_key.result reads.lists c.in_ok-is_value.ensures.value w.takes_key.ensures w.if-branch.true w.if-takes_key.false)
      | else-branch-via-else-branch w ↦ sym (states_no_value ds (plain_type c.args.ty.now) (takes_key (option_map plain_extension_op c.args.selector)) (plain c.args.expression.now) (plain_term c.in-Some.term) stated
          (enums_of c.args.self.now.enums.now) c.in_ok-is_value.field-0 reads.lists c.in_ok-is_value.ensures.value w.if-branch.false)
    ]
