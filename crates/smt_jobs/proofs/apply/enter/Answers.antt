use Rattle.std.proofs.Common.{ap, ◌∙◌}
use Rattle.smt_nodes.specs.View.{places_of}
use Rattle.smt_term.specs.View.{plain_op}
use Rattle.law_terms.specs.Nodes.{ApplicationLabel}
use Rattle.smt_jobs.proofs.Applying.{node_fits, node_means}
use Rattle.smt_jobs.proofs.apply.enter.Goals as goal

pub add-requires : goal.add-requires
add-requires c =
    node_fits c.args.nodes.now (plain_op c.args.op.now) c.requires.no_function _ (ap ApplicationLabel c.in_ok-share.ensures) c.args.parts.now (ap places_of c.in_ok-new.ensures) c.requires.parts.0 c.requires.parts.1 c.requires.parts.2

pub returns-clause-meaning : goal.returns-clause-meaning
returns-clause-meaning c ty ts are =
    c.in_ok-add.ensures.meaning
    ∙ node_means c.args.nodes.now (plain_op c.args.op.now) c.requires.no_function _ (ap ApplicationLabel c.in_ok-share.ensures) c.args.parts.now (ap places_of c.in_ok-new.ensures) ty ts are
