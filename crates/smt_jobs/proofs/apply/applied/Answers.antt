use Rattle.std.proofs.Common.{◌≡◌, false, List, arith}
use Rattle.std.specs.Prelude.{IfNone, IfOk, IfSome}
use Rattle.law_terms.specs.Plain.{PlainTerm}
use Rattle.smt_jobs.specs.Applied.{IsBuilt, is_plainly_applied}
use Rattle.smt_term.specs.View.{plain_op}
use Rattle.smt_jobs.proofs.Applying.{first_there, many_left, one_there, second_there, third_there, three_there, two_there}
use Rattle.smt_jobs.proofs.apply.applied.Goals as goal

pub applied_to_one-requires-clause-a : goal.applied_to_one-requires-clause-a
applied_to_one-requires-clause-a c = first_there c.args.nodes.now c.intern_subject.new.self c.intern_subject.ensures.kept _ c.args.operands.now c.requires.operands c.in-len1.len_at_least

pub applied_to_two-requires-clause-a : goal.applied_to_two-requires-clause-a
applied_to_two-requires-clause-a c = first_there c.args.nodes.now c.intern_subject.new.self c.intern_subject.ensures.kept _ c.args.operands.now c.requires.operands (let l = c.in-len2.len_at_least in omega (arith, l))

pub applied_to_two-requires-clause-b : goal.applied_to_two-requires-clause-b
applied_to_two-requires-clause-b c = second_there c.args.nodes.now c.intern_subject.new.self c.intern_subject.ensures.kept _ c.args.operands.now c.requires.operands c.in-len2.len_at_least

pub applied_to_three-requires-clause-a : goal.applied_to_three-requires-clause-a
applied_to_three-requires-clause-a c = first_there c.args.nodes.now c.intern_subject.new.self c.intern_subject.ensures.kept _ c.args.operands.now c.requires.operands (let l = c.in-len3.len_at_least in omega (arith, l))

pub applied_to_three-requires-clause-b : goal.applied_to_three-requires-clause-b
applied_to_three-requires-clause-b c = second_there c.args.nodes.now c.intern_subject.new.self c.intern_subject.ensures.kept _ c.args.operands.now c.requires.operands (let l = c.in-len3.len_at_least in omega (arith, l))

pub applied_to_three-requires-clause-c : goal.applied_to_three-requires-clause-c
applied_to_three-requires-clause-c c = third_there c.args.nodes.now c.intern_subject.new.self c.intern_subject.ensures.kept _ c.args.operands.now c.requires.operands c.in-len3.len_at_least

pub returns-in-len1-clause-built : goal.returns-in-len1-clause-built
returns-in-len1-clause-built c ts s =
    one_there c.args.nodes.now c.intern_subject.new.self c.intern_subject.ensures.kept _ (λ (us : List PlainTerm). IfOk c.applied_to_one.result (λ found. IfSome found (IsBuilt c.applied_to_one.new.nodes (plain_op c.args.op.now) us))) c.args.operands.now ts s c.in-len1.len_at_least c.in-len1.len_below c.applied_to_one.ensures.built

pub returns-in-len2-clause-built : goal.returns-in-len2-clause-built
returns-in-len2-clause-built c ts s =
    two_there c.args.nodes.now c.intern_subject.new.self c.intern_subject.ensures.kept _ (λ (us : List PlainTerm). IfOk c.applied_to_two.result (λ found. IfSome found (IsBuilt c.applied_to_two.new.nodes (plain_op c.args.op.now) us))) c.args.operands.now ts s c.in-len2.len_at_least c.in-len2.len_below c.applied_to_two.ensures.built

pub returns-in-len3-clause-built : goal.returns-in-len3-clause-built
returns-in-len3-clause-built c ts s =
    three_there c.args.nodes.now c.intern_subject.new.self c.intern_subject.ensures.kept _ (λ (us : List PlainTerm). IfOk c.applied_to_three.result (λ found. IfSome found (IsBuilt c.applied_to_three.new.nodes (plain_op c.args.op.now) us))) c.args.operands.now ts s c.in-len3.len_at_least c.in-len3.len_below c.applied_to_three.ensures.built

pub returns-in-len1-clause-none : goal.returns-in-len1-clause-none
returns-in-len1-clause-none c ts s =
    one_there c.args.nodes.now c.intern_subject.new.self c.intern_subject.ensures.kept _ (λ (us : List PlainTerm). IfOk c.applied_to_one.result (λ found. IfNone found (is_plainly_applied (plain_op c.args.op.now) us ≡ false))) c.args.operands.now ts s c.in-len1.len_at_least c.in-len1.len_below c.applied_to_one.ensures.none

pub returns-in-len2-clause-none : goal.returns-in-len2-clause-none
returns-in-len2-clause-none c ts s =
    two_there c.args.nodes.now c.intern_subject.new.self c.intern_subject.ensures.kept _ (λ (us : List PlainTerm). IfOk c.applied_to_two.result (λ found. IfNone found (is_plainly_applied (plain_op c.args.op.now) us ≡ false))) c.args.operands.now ts s c.in-len2.len_at_least c.in-len2.len_below c.applied_to_two.ensures.none

pub returns-in-len3-clause-none : goal.returns-in-len3-clause-none
returns-in-len3-clause-none c ts s =
    three_there c.args.nodes.now c.intern_subject.new.self c.intern_subject.ensures.kept _ (λ (us : List PlainTerm). IfOk c.applied_to_three.result (λ found. IfNone found (is_plainly_applied (plain_op c.args.op.now) us ≡ false))) c.args.operands.now ts s c.in-len3.len_at_least c.in-len3.len_below c.applied_to_three.ensures.none

pub returns-in_default-2-clause-none : goal.returns-in_default-2-clause-none
returns-in_default-2-clause-none c ts s = many_left c.args.nodes.now c.args.operands.now ts s c.in_default.len_at_least (plain_op c.args.op.now)
