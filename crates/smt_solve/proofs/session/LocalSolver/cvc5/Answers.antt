use Rattle.smt_solve.proofs.session.LocalSolver.cvc5.Goals as goal

pub returns-clause-starts : goal.returns-clause-starts
returns-clause-starts g c = rw c.in-Ok.ensures.ok at c.cvc5_with_args.ensures.starts
