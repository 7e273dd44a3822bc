use Rattle.std.proofs.Common.{drop}
use Rattle.smt_factory_core.proofs.AnyAnswers.{Leads}
use Rattle.smt_term.specs.View.{plain_term}
use Rattle.smt_factory_core.proofs.any.any_true.Given as goal

-- whatever the terms that are left give, all give what comes to the same
abbrev pub invariant-loop-t : goal.invariant-loop-t
invariant-loop-t g l = Leads (λ x r. g.F.Fn.post l.fn.f (x, tt) r) l.ts (drop l.t-index l.ts) (plain_term l.any)
