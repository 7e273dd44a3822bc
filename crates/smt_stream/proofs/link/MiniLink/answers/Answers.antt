use Rattle.std.proofs.Common.{subst, sym}
use mathlib.Core.Logic.{∥∥₁_map}
use Rattle.smt_stream.specs.Led.{IsAnswers}
use Rattle.smt_stream.specs.Links.{mini_sent}
use Rattle.smt_stream.proofs.link.MiniLink.answers.Goals as goal

pub returns-clause-put : goal.returns-clause-put
returns-clause-put c = subst (λ out. IsAnswers (mini_sent c.args.self.now) out) (sym c.as_slice.ensures.value) (∥∥₁_map c.args.self.now.led (λ l. (l.last, l.takes)))
