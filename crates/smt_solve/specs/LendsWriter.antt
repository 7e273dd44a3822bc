-- What a solver that only writes ends as, where what takes its lines is lent.
use Rattle.std.specs.Borrow.{Lends, Fml, RattleType, MutBor}
use Rattle.smt_solve.specs.contracts.writer_solver.WriterSolver.{the_row}
use Rattle.smt_solve.specs.declared.writer_solver.WriterSolver.{WriterSolver}

module _ (W : RattleType) (s : MutBor (WriterSolver W.Denot)) where
  -- A solver that only writes lends what takes its lines as `r`: when the loan is over, the solver has what `r` then is in its
  -- place.
  abbrev pub LendsWriter : MutBor W.Denot → Fml
  LendsWriter r = Lends (the_row W) W s r (λ w. record { w = w })
