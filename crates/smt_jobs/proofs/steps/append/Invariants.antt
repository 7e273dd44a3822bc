use Rattle.std.proofs.Common.{◌≡◌, ◌++◌, map, take}
use Rattle.smt_term.specs.View.{plain_term}
use Rattle.smt_jobs.proofs.steps.append.Given as goal

abbrev pub invariant-loop-term : goal.invariant-loop-term
invariant-loop-term l = map (λ term. plain_term term.now) l.current.items ≡ map (λ term. plain_term term.now) l.initial.current.items ++ map plain_term (take l.term-index l.terms)
