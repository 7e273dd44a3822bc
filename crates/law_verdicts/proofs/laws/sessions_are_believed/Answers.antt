use Rattle.law_verdicts.proofs.InHand as laws
use Rattle.law_verdicts.proofs.laws.sessions_are_believed.Goals as goal

pub returns : goal.returns
returns g c =
    let allows = g.L.Link.allows c.args.link.now in
    record { decision = laws.sessions_are_believed allows; with_model = laws.sessions_with_models_are_believed allows; again = laws.asked_links_are_blank_again allows }
