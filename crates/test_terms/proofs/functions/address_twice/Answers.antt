use Rattle.smt_term.specs.View.{plain_term}
use Rattle.test_terms.proofs.Groups.{twice_stands}
use Rattle.test_terms.proofs.functions.address_twice.Goals as goal

pub returns : goal.returns
returns c = twice_stands (plain_term c.args.t) (plain_term c.in_ok-address.address) (plain_term c.in_ok-share.field-0) c.in_ok-share.ensures c.in_ok-address.ensures.refines
