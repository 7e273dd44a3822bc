use Rattle.std.proofs.Common.{sym, ◌∙◌}
use Rattle.std.proofs.lemmas.Bool.{false≢true, not-true}
use Rattle.smt_jobs.proofs.Looking.{terms_differ}
use Rattle.smt_jobs.proofs.Plainly.{terms_same}
use Rattle.smt_jobs.proofs.stays.are_apart.Goals as goal

pub returns-clause-apart : goal.returns-clause-apart
returns-clause-apart c t u h k r = record {
  differ = terms_differ c.args.nodes.now c.args.a c.args.b t u (sym c.if-eq.ensures) h k;
  first = sym (c.if-is_truth.ensures t h);
  second = sym (c.is_truth-2.ensures u k) ∙ not-true _ r;
}

pub returns-then-eq-clause-plain : goal.returns-then-eq-clause-plain
returns-then-eq-clause-plain c t u h k a = absurd (false≢true (sym a.differ ∙ terms_same c.args.nodes.now c.args.a c.args.b t u (sym c.if-eq.ensures) h k))
