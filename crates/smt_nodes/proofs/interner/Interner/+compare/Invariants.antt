use Rattle.smt_nodes.specs.View.{place_of}
use Rattle.smt_nodes.proofs.interner.Interner.+compare.Given as goal

abbrev pub decreases-compare : goal.decreases-compare
decreases-compare l = place_of l.a
