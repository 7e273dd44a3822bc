use Rattle.std.proofs.Common.{arith}
use Rattle.std.proofs.lemmas.Result.{IfOk-weaker}
use Rattle.smt_spelling.proofs.Kept.{at_most}
use Rattle.smt_spelling.proofs.Named.{counted}
use Rattle.smt_spelling.proofs.Numbered.{drawn_entity}
use Rattle.smt_spelling.proofs.names.Names.next_entity.Goals as goal

pub returns : goal.returns
returns c s are =
    let texts = c.args.self.now.texts in
    let most = at_most texts.texts.items in
    IfOk-weaker c.entity_name.result _ _ (λ name named. drawn_entity _ _ s (omega (arith, most, counted texts, texts.texts.small, texts.texts.ok)) are.types named) c.entity_name.ensures
