-- What a session that a pool has handed out ends as, where its input is lent.
use Rattle.std.specs.Borrow.{Lends, Fml, RattleType, MutBor}
use Rattle.smt_solve.specs.contracts.input.SessionInput.{the_row as input_row}
use Rattle.smt_solve.specs.declared.input.SessionInput.{SessionInput}
use Rattle.smt_pool.specs.contracts.pooled.PooledSolver.{the_row}
use Rattle.smt_pool.specs.declared.pooled.PooledSolver.{PooledSolver}

module _ (L : RattleType) (s : MutBor (PooledSolver L.Denot)) where
  -- A session that a pool has handed out lends its input as `r`: when the loan is over, the session has what `r` then is for
  -- its input, and is as before otherwise.
  abbrev pub LendsInput : MutBor (SessionInput L.Denot) → Fml
  LendsInput r =
      Lends (the_row L) (input_row L) s r
      (λ w. record { session = record { input = w; alloc = s.now.session.alloc }; number = s.now.number })
