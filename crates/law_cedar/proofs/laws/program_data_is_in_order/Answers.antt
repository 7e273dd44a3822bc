use Rattle.law_cedar.proofs.Program.{program_schemas, program_stores}
use Rattle.law_cedar.proofs.laws.program_data_is_in_order.Goals as goal

pub returns-clause-stores : goal.returns-clause-stores
returns-clause-stores c = program_stores

pub returns-clause-schemas : goal.returns-clause-schemas
returns-clause-schemas c = program_schemas
