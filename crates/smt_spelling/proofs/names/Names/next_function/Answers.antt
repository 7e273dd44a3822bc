use Rattle.std.proofs.Common.{arith}
use Rattle.std.proofs.lemmas.Result.{IfOk-weaker}
use Rattle.smt_spelling.proofs.Kept.{at_most}
use Rattle.smt_spelling.proofs.Named.{counted}
use Rattle.smt_spelling.proofs.Numbered.{drawn_function}
use Rattle.smt_spelling.proofs.names.Names.next_function.Goals as goal

pub returns : goal.returns
returns c s are =
    let texts = c.args.self.now.texts in
    let most = at_most texts.texts.items in
    IfOk-weaker c.function_name.result _ _ (λ name named. drawn_function _ _ s (omega (arith, most, counted texts, texts.texts.small, texts.texts.ok)) are.functions named) c.function_name.ensures
