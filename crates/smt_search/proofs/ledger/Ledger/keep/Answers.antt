use Rattle.smt_search.proofs.ledger.Ledger.keep.Goals as goal

pub returns : goal.returns
returns c v a = record { clauses = c.in_ok-clauses.ensures v a.clauses; kept = a.kept; left = a.left }
