use Rattle.std.proofs.Common.{rules, ◌≡◌, ◌+◌, length, arith, ap, sym, ◌∙◌}
use Rattle.smt_clauses.specs.Spans.{clauses_of}
use Rattle.smt_clauses.specs.Variables.{count_of}
use Rattle.smt_clauses.proofs.Pushed.{clauses-pushed, clauses-same, counted-pushed, within-pushed, within-same}
use Rattle.smt_clauses.proofs.clause_list.ClauseList.push.Goals as goal

pub invariant_of-self-in-Break-branch-2 : goal.invariant_of-self-in-Break-branch-2
invariant_of-self-in-Break-branch-2 c = record {
  within = within-same c.args.self.now.literals.items c.args.clause.now c.extend_from_slice.new.self.items c.args.self.now.spans.items c.push.new.self.items
      c.in_ok-extend_from_slice.ensures.items c.in_err-push.ensures.items c.args.self.now.within;
  counted = c.args.self.now.counted ∙ ap count_of (sym (clauses-same c.args.self.now.literals.items c.args.clause.now c.extend_from_slice.new.self.items c.args.self.now.spans.items c.push.new.self.items
      c.in_ok-extend_from_slice.ensures.items c.in_err-push.ensures.items c.args.self.now.within));
}

pub returns-in_err-push-clause-err : goal.returns-in_err-push-clause-err
returns-in_err-push-clause-err c =
    let same : clauses_of c.extend_from_slice.new.self.items c.push.new.self.items ≡ clauses_of c.args.self.now.literals.items c.args.self.now.spans.items = clauses-same c.args.self.now.literals.items c.args.clause.now c.extend_from_slice.new.self.items c.args.self.now.spans.items c.push.new.self.items
    c.in_ok-extend_from_slice.ensures.items c.in_err-push.ensures.items c.args.self.now.within in
    search (rules, same)

pub invariant_of-self-2 : goal.invariant_of-self-2
invariant_of-self-2 c =
    let start : c.len-start.result ≡ length c.args.self.now.literals.items = omega (arith, c.args.self.now.literals.ok) in
    let end : c.len-end.result ≡ length c.args.self.now.literals.items + length c.args.clause.now = omega (arith, c.args.self.now.literals.ok, c.in_ok-extend_from_slice.ensures.len) in
    record {
      within = within-pushed c.args.self.now.literals.items c.args.clause.now c.extend_from_slice.new.self.items c.args.self.now.spans.items c.push.new.self.items (record { start = c.len-start.result; end = c.len-end.result })
          c.in_ok-extend_from_slice.ensures.items c.in_ok-push.ensures.items c.args.self.now.within start end;
      counted = counted-pushed c.args.self.now.variables c.variables_in.result c.max-variables.result
          (clauses_of c.args.self.now.literals.items c.args.self.now.spans.items) (clauses_of c.extend_from_slice.new.self.items c.push.new.self.items) c.args.clause.now
          (clauses-pushed c.args.self.now.literals.items c.args.clause.now c.extend_from_slice.new.self.items c.args.self.now.spans.items c.push.new.self.items (record { start = c.len-start.result; end = c.len-end.result })
          c.in_ok-extend_from_slice.ensures.items c.in_ok-push.ensures.items c.args.self.now.within start end)
          c.args.self.now.counted c.variables_in.ensures c.max-variables.ensures;
    }

pub returns-clause-ok : goal.returns-clause-ok
returns-clause-ok c =
    let start : c.len-start.result ≡ length c.args.self.now.literals.items = omega (arith, c.args.self.now.literals.ok) in
    let end : c.len-end.result ≡ length c.args.self.now.literals.items + length c.args.clause.now = omega (arith, c.args.self.now.literals.ok, c.in_ok-extend_from_slice.ensures.len) in
    clauses-pushed c.args.self.now.literals.items c.args.clause.now c.extend_from_slice.new.self.items c.args.self.now.spans.items c.push.new.self.items (record { start = c.len-start.result; end = c.len-end.result })
    c.in_ok-extend_from_slice.ensures.items c.in_ok-push.ensures.items c.args.self.now.within start end
