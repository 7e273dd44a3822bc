use Rattle.std.proofs.lemmas.Result.{IfOk-weaker}
use Rattle.smt_factory.specs.Pairs.{plain_pair}
use Rattle.smt_factory.proofs.Rules.{lies_in_formed, lies_in_stands}
use Rattle.smt_factory.proofs.containment.in_range.Goals as goal
use Rattle.smt_term.specs.View.{plain_term}

pub returns-clause-refines : goal.returns-clause-refines
returns-clause-refines g c original given =
    IfOk-weaker c.lies_in.result _ _
    (λ r h. lies_in_stands original (plain_term c.args.t1) (plain_term c.args.t2) (plain_term r) (plain_pair c.in_ok-inner.inner) (plain_pair c.in_ok-range.field-0)
    (given c.args.t1 c.in_ok-inner.inner (rw c.in_ok-inner.was at c.range.ensures)) (given c.args.t2 c.in_ok-range.field-0 (rw c.in_ok-range.was at c.range-2.ensures)) h)
    c.lies_in.ensures

pub returns-clause-formed : goal.returns-clause-formed
returns-clause-formed g c given gives =
    IfOk-weaker c.lies_in.result _ _
    (λ r h. lies_in_formed given (plain_term c.args.t1) (plain_term c.args.t2) c.in_ok-inner.inner c.in_ok-range.field-0
    (gives c.args.t1 c.in_ok-inner.inner (rw c.in_ok-inner.was at c.range.ensures)) (gives c.args.t2 c.in_ok-range.field-0 (rw c.in_ok-range.was at c.range-2.ensures)))
    c.lies_in.ensures
