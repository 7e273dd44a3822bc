use Rattle.std.proofs.Common.{[], refl, ap, subst}
use Rattle.std.specs.Prelude.{IsTrue}
use Rattle.law_terms.specs.Meanings.{meaning_at}
use Rattle.law_terms.proofs.Places.{some_same}
use Rattle.smt_nodes.proofs.Growing.{bool_there}
use Rattle.smt_nodes.specs.Interned.{nodes_of}
use Rattle.smt_nodes.specs.Kinds.{is_bool_at}
use Rattle.smt_nodes.specs.View.{place_of}
use Rattle.smt_nodes.proofs.interner.Interner.intern_bool_type.Goals as goal

pub returns-in-Some-clause-meaning : goal.returns-in-Some-clause-meaning
returns-in-Some-clause-meaning c = let s = c.args.self.now in bool_there (meaning_at (nodes_of s) (place_of c.in-Some.id)) (s.truths c.in-Some.id c.in-Some.is)

pub invariant_of-self : goal.invariant_of-self
invariant_of-self c =
    let s = c.enter.new.self in
    record { graph = s.graph; index = s.index; few = s.few; truths = λ id e. subst (λ i. IsTrue (is_bool_at (meaning_at (nodes_of s) (place_of i)))) (some_same c.in_ok-id.id id e) (ap is_bool_at (c.in_ok-id.ensures.meaning [] refl)) }
