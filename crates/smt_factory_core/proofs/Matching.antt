-- What the code's tests decide: what a term is, and whether two are equal.
use Rattle.smt_term.specs.View.{views}
use Rattle.smt_term.proofs.DerivedEquality.{eq-is}

pub ruleset matching = (views, eq-is)
