use Rattle.std.proofs.Common.{ap, subst, sym}
use Rattle.std.specs.Prelude.{IfSome}
use Rattle.law_texts.specs.Tokens.{IsReadWithin}
use Rattle.smt_sexpr.specs.View.{plain}
use Rattle.law_verdicts.specs.Streams.{asked}
use Rattle.law_verdicts.specs.Streams.{most_open}
use Rattle.smt_stream.proofs.Talking.{answered}
use Rattle.smt_stream.proofs.stream.Stream.answer.Goals as goal

pub returns-in-Some-clause-heard : goal.returns-in-Some-clause-heard
returns-in-Some-clause-heard c d h =
    let read = subst (λ o. IfSome o (λ e. IsReadWithin c.args.self.now.held.items most_open (plain e))) c.in-Some.is c.in_ok-command.ensures.found in
    answered d (plain c.in-Some.command) c.feed.result c.feed.new.self (subst (λ bytes. IsReadWithin bytes most_open (plain c.in-Some.command)) (sym (ap (λ x. x.held) h.2)) read) (c.feed.ensures.heard d (asked d.odd d.machine) (c.prepare.ensures d h))
