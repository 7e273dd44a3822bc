use Rattle.std.proofs.Common.{sym, ◌∙◌}
use Rattle.smt_stream.proofs.Talking.{answered_at_end, gone_on}
use Rattle.smt_stream.proofs.stream.Stream.take_in.Goals as goal

pub returns-then-ends-clause-heard : goal.returns-then-ends-clause-heard
returns-then-ends-clause-heard c =
    answered_at_end c.args.self.now c.keep.new.self c.answer.new.self c.args.byte c.answer.result c.requires.waiting c.requires.unbroken (sym c.ends_command-ends.ensures ∙ c.if-ends.true)
    c.in_ok-keep.ensures.same_mini c.in_ok-keep.ensures.same_stage c.in_ok-keep.ensures.kept c.answer.ensures.heard

pub returns-else-ends-clause-heard : goal.returns-else-ends-clause-heard
returns-else-ends-clause-heard c =
    gone_on c.args.self.now c.keep.new.self c.args.byte c.requires.waiting c.requires.unbroken (sym c.ends_command-ends.ensures ∙ c.if-ends.false)
    c.in_ok-keep.ensures.same_mini c.in_ok-keep.ensures.same_stage c.in_ok-keep.ensures.kept
