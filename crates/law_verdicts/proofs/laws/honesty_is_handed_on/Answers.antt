use Rattle.law_verdicts.proofs.InHand as laws
use Rattle.law_verdicts.proofs.laws.honesty_is_handed_on.Goals as goal

pub returns : goal.returns
returns g c = laws.honesty_is_handed_on (g.P.L.Link.allows c.args.link.now) (g.P.Starter.allows c.args.starter.now)
