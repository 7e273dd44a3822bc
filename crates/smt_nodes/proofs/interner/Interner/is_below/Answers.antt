use Rattle.std.proofs.Common.{refl}
use Rattle.law_terms.specs.Meanings.{meanings}
use Rattle.smt_nodes.specs.Interned.{nodes_of}
use Rattle.law_terms.specs.Nodes.{TermMeaning}
use Rattle.smt_nodes.proofs.Ascending.{below}
use Rattle.smt_nodes.proofs.interner.Interner.is_below.Goals as goal

pub returns-in-Some : goal.returns-in-Some
returns-in-Some c t p =
    below (meanings (nodes_of c.args.self.now)) t c.args.others.now c.in-Some.field-0-1.now c.in-Some.next.now c.is_lt.result c.compare.result c.in-Some.ensures.cases.0 c.is_lt.ensures (λ u q. c.compare.ensures (TermMeaning t) (TermMeaning u) p q refl)
