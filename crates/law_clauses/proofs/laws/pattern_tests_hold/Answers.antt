use Rattle.law_clauses.proofs.PatternTests.{pattern_tests_hold}
use Rattle.law_clauses.proofs.laws.pattern_tests_hold.Goals as goal

pub returns : goal.returns
returns c = pattern_tests_hold
