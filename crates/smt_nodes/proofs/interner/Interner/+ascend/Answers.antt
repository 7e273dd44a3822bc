use Rattle.std.proofs.Common.{◌∙◌, sym}
use Rattle.law_terms.specs.Meanings.{meanings}
use Rattle.smt_nodes.specs.Interned.{nodes_of}
use Rattle.std.proofs.lemmas.Bool.{false≢true}
use Rattle.smt_nodes.proofs.Ascending.{front}
use Rattle.smt_nodes.proofs.interner.Interner.+ascend.Goals as goal

pub returns-then-is_below : goal.returns-then-is_below
returns-then-is_below t c =
    front (meanings (nodes_of c.args.self.now)) c.args.ids.now c.in-Some.others.now c.in-Some.first.now c.is_below.result c.ascend.result c.in-Some.ensures.cases.0 c.is_below.ensures (λ h. c.ascend.ensures) (λ h. absurd (false≢true (sym h ∙ c.if-is_below.true)))

pub returns-else-is_below : goal.returns-else-is_below
returns-else-is_below t c =
    front (meanings (nodes_of c.args.self.now)) c.args.ids.now c.in-Some.others.now c.in-Some.first.now c.is_below.result c.is_below.result c.in-Some.ensures.cases.0 c.is_below.ensures (λ h. absurd (false≢true (sym c.if-is_below.false ∙ h))) (λ h. h)
