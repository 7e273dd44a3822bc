use Rattle.std.specs.String.{string_bytes}
use Rattle.smt_solve.specs.Link.{AllowsTheSame}
use Rattle.smt_solve.proofs.ModelLemmas.{InnerSoFar}
use Rattle.smt_solve.proofs.model.read_rest.Given as goal

abbrev pub invariant-loop : goal.invariant-loop
invariant-loop g l = record {
  read : InnerSoFar (g.L.Link.allows l.fn.link) (g.L.Link.state l.fn.link) (g.L.Link.state l.link) (string_bytes l.fn.model) (string_bytes l.model);
  allows : AllowsTheSame (g.L.Link.allows l.fn.link) (g.L.Link.allows l.link);
}
