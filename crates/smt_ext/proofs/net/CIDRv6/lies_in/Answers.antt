use Rattle.std.proofs.Common.{refl}
use Rattle.smt_ext.specs.IpView.{v6_range}
use Rattle.smt_ext.proofs.IpContained.{test_of_ranges, below}
use Rattle.smt_ext.proofs.net.CIDRv6.lies_in.Goals as goal

pub returns : goal.returns
returns c =
    let small = below c.args.self.now.addr.bits 128 c.args.self.now.addr.width in
    test_of_ranges c.lies_in.result (v6_range c.args.self.now) (v6_range c.args.outer.now) _ _ _ _ c.block.ensures.address c.block-2.ensures.address c.block.ensures.free c.block-2.ensures.free refl small c.lies_in.ensures
