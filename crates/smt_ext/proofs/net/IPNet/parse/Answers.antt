use Rattle.std.proofs.Common.{Ok, ap}
use Rattle.smt_ext.specs.IpView.{range_of}
use Rattle.smt_ext.proofs.IpSame.{same_net}
use Rattle.smt_ext.proofs.IpSplits.{one_range}
use Rattle.smt_ext.proofs.net.IPNet.parse.Goals as goal

pub returns-in_err-from_str-in-None-clause-taken : goal.returns-in_err-from_str-in-None-clause-taken
returns-in_err-from_str-in-None-clause-taken c = λ net h. absurd (c.in-None.ensures.none (range_of net) h)

pub returns-in-Some-clause-taken : goal.returns-in-Some-clause-taken
returns-in-Some-clause-taken c =
    λ net h. ap Ok (same_net c.in-Some.net net (one_range c.args.s.now (range_of c.in-Some.net) (range_of net) c.in-Some.ensures.found h))

pub returns-in_ok-from_str-in-None-clause-taken : goal.returns-in_ok-from_str-in-None-clause-taken
returns-in_ok-from_str-in-None-clause-taken c = λ net h. absurd (c.in-None.ensures.none (range_of net) h)
