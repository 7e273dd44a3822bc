use Rattle.law_cedar.proofs.Rows.{faults, tables}
use Rattle.law_cedar.proofs.laws.environments_by_example.Goals as goal

pub returns-clause-tables : goal.returns-clause-tables
returns-clause-tables c = tables

pub returns-clause-faults : goal.returns-clause-faults
returns-clause-faults c = faults
