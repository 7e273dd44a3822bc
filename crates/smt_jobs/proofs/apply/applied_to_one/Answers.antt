use Rattle.std.proofs.Common.{refl, [], ◌∷◌}
use Rattle.law_terms.specs.Nodes.{TermMeaning, TypeMeaning}
use Rattle.smt_nodes.specs.Interned.{nodes_of}
use Rattle.smt_nodes.proofs.Interning.{two_found}
use Rattle.smt_term.specs.View.{plain_op}
use Rattle.smt_jobs.proofs.Applying.{built_so}
use Rattle.smt_jobs.proofs.apply.applied_to_one.Goals as goal

pub enter-requires-clause-no_function : goal.enter-requires-clause-no_function
enter-requires-clause-no_function c = c.in-Some.ensures.no_function

pub enter-requires-clause-parts : goal.enter-requires-clause-parts
enter-requires-clause-parts c =
    let t = c.requires.a in
    let given = c.in-Some.ensures.given t.0 c.requires.truth t.1 in
    (given.0, t.0 ∷ [], two_found (nodes_of c.args.nodes.now) c.in-Some.ty c.args.a (TypeMeaning given.0) (TermMeaning t.0) given.2 t.1)

pub returns-then-stays_at_one-clause-built : goal.returns-then-stays_at_one-clause-built
returns-then-stays_at_one-clause-built c t h =
    let given = c.in-Some.ensures.given t c.requires.truth h in
    built_so c.enter.result c.enter.new.nodes (plain_op c.args.op.now) (t ∷ []) given.0 given.1 (c.if-stays_at_one.ensures.stays t h refl)
    (c.enter.ensures.meaning given.0 (t ∷ []) (two_found (nodes_of c.args.nodes.now) c.in-Some.ty c.args.a (TypeMeaning given.0) (TermMeaning t) given.2 h))
