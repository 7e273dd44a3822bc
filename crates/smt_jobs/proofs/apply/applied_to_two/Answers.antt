use Rattle.std.proofs.Common.{refl, [], ◌∷◌}
use Rattle.law_terms.specs.Nodes.{TermMeaning, TypeMeaning}
use Rattle.smt_nodes.specs.Interned.{nodes_of}
use Rattle.smt_term.specs.View.{plain_op}
use Rattle.smt_jobs.proofs.Applying.{built_so, three_found}
use Rattle.std.proofs.lemmas.Bool.{false≢true}
use Rattle.smt_jobs.proofs.Plainly.{left_at_two}
use Rattle.smt_jobs.proofs.apply.applied_to_two.Goals as goal

pub enter-requires-clause-no_function : goal.enter-requires-clause-no_function
enter-requires-clause-no_function c = c.in-Some.ensures.no_function

pub enter-requires-clause-parts : goal.enter-requires-clause-parts
enter-requires-clause-parts c =
    let t = c.requires.a in
    let u = c.requires.b in
    let given = c.in-Some.ensures.given t.0 u.0 c.requires.truth t.1 u.1 in
    (given.0, t.0 ∷ u.0 ∷ [], three_found (nodes_of c.args.nodes.now) c.in-Some.ty c.args.a c.args.b (TypeMeaning given.0) (TermMeaning t.0) (TermMeaning u.0) given.2 t.1 u.1)

pub returns-then-stays_at_two-clause-built : goal.returns-then-stays_at_two-clause-built
returns-then-stays_at_two-clause-built c t u h k =
    let given = c.in-Some.ensures.given t u c.requires.truth h k in
    built_so c.enter.result c.enter.new.nodes (plain_op c.args.op.now) (t ∷ u ∷ []) given.0 given.1 (c.if-stays_at_two.ensures.stays t u h k refl)
    (c.enter.ensures.meaning given.0 (t ∷ u ∷ []) (three_found (nodes_of c.args.nodes.now) c.in-Some.ty c.args.a c.args.b (TypeMeaning given.0) (TermMeaning t) (TermMeaning u) given.2 h k))

pub returns-else-stays_at_two-clause-none : goal.returns-else-stays_at_two-clause-none
returns-else-stays_at_two-clause-none c t u h k = left_at_two (plain_op c.args.op.now) t u (λ o p q d. false≢true (c.if-stays_at_two.ensures.plain t u h k o p q d))
