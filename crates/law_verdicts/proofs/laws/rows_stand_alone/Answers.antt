use Rattle.law_verdicts.proofs.TruthRows as laws
use Rattle.law_verdicts.proofs.laws.rows_stand_alone.Goals as goal

pub returns : goal.returns
returns c = record { formulas = laws.formulas_may_be; rows = laws.rows_stand_alone; least = laws.least_row_is_first; branches = laws.branches_may_be_dropped }
