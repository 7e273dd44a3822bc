use Rattle.std.proofs.Common.{refl, [], ◌∷◌}
use Rattle.law_terms.specs.Nodes.{TermMeaning, TypeMeaning}
use Rattle.smt_nodes.specs.Interned.{nodes_of}
use Rattle.smt_term.specs.View.{plain_op}
use Rattle.smt_jobs.proofs.Applying.{built_so, four_found}
use Rattle.std.proofs.lemmas.Bool.{false≢true}
use Rattle.smt_jobs.proofs.Plainly.{left_at_three}
use Rattle.smt_jobs.proofs.apply.applied_to_three.Goals as goal

pub enter-requires-clause-no_function : goal.enter-requires-clause-no_function
enter-requires-clause-no_function c = c.in-Some.ensures.no_function

pub enter-requires-clause-parts : goal.enter-requires-clause-parts
enter-requires-clause-parts c =
    let g = c.requires.a in
    let t = c.requires.b in
    let u = c.requires.c in
    let given = c.in-Some.ensures.given g.0 t.0 u.0 c.requires.truth g.1 t.1 u.1 in
    (given.0, g.0 ∷ t.0 ∷ u.0 ∷ [], four_found (nodes_of c.args.nodes.now) c.in-Some.ty c.args.a c.args.b c.args.c (TypeMeaning given.0) (TermMeaning g.0) (TermMeaning t.0) (TermMeaning u.0) given.2 g.1 t.1 u.1)

pub returns-then-stays_at_three-clause-built : goal.returns-then-stays_at_three-clause-built
returns-then-stays_at_three-clause-built c g t u h k l =
    let given = c.in-Some.ensures.given g t u c.requires.truth h k l in
    built_so c.enter.result c.enter.new.nodes (plain_op c.args.op.now) (g ∷ t ∷ u ∷ []) given.0 given.1 (c.if-stays_at_three.ensures.stays g t u h k l refl)
    (c.enter.ensures.meaning given.0 (g ∷ t ∷ u ∷ []) (four_found (nodes_of c.args.nodes.now) c.in-Some.ty c.args.a c.args.b c.args.c (TypeMeaning given.0) (TermMeaning g) (TermMeaning t) (TermMeaning u) given.2 h k l))

pub returns-else-stays_at_three-clause-none : goal.returns-else-stays_at_three-clause-none
returns-else-stays_at_three-clause-none c g t u h k l = left_at_three (plain_op c.args.op.now) g t u (λ o p q r d. false≢true (c.if-stays_at_three.ensures.plain g t u h k l o p q r d))
