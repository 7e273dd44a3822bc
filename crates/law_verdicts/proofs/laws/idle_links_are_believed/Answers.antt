use Rattle.law_verdicts.proofs.Idle as laws
use Rattle.law_verdicts.proofs.laws.idle_links_are_believed.Goals as goal

pub returns : goal.returns
returns g c =
    let allows = g.L.Link.allows c.args.link.now in
    record { believed = laws.idle_links_are_believed allows; again = laws.asked_links_are_idle_again allows }
