use Rattle.std.proofs.Common.{rules}
use Rattle.std.specs.String.{string_bytes}
use Rattle.smt_solve.specs.Model.{ReadsRest}
use Rattle.smt_solve.proofs.LinkLemmas.{same_allowed}
use Rattle.smt_solve.proofs.ModelLemmas.{none_so_far, rest_goes, rest_ends, rest_stops}
use Rattle.smt_solve.proofs.QuestionLemmas.{exits}
use Rattle.smt_solve.proofs.model.read_rest.Goals as goal

pub returns-in_err-read_next-clause-reads : goal.returns-in_err-read_next-clause-reads
returns-in_err-read_next-clause-reads g c =
    exits (ReadsRest (g.L.Link.allows c.args.link.now) (g.L.Link.state c.args.link.now) (g.L.Link.state c.read_next.new.link) (string_bytes c.args.model.now) (string_bytes c.read_next.new.model)) _ _ c.from_residual.ensures.1
    (rest_stops _ c.loop.invariant.read c.in_err-read_next.ensures.reads)

pub returns-then-branch-clause-reads : goal.returns-then-branch-clause-reads
returns-then-branch-clause-reads g c = rest_ends _ c.loop.invariant.allows.back c.loop.invariant.read c.in_ok-read_next.ensures.reads c.if-branch.true

pub loop-init : goal.loop-init
loop-init g c = record {
  read = none_so_far (g.L.Link.allows c.args.link.now) (g.L.Link.state c.args.link.now) (string_bytes c.args.model.now);
  allows = same_allowed (g.L.Link.allows c.args.link.now);
}

pub loop-preserved : goal.loop-preserved
loop-preserved g c = record {
  read = rest_goes _ c.loop.invariant.allows.back c.loop.invariant.read c.in_ok-read_next.ensures.reads c.if-branch.false;
  allows = search rules;
}
