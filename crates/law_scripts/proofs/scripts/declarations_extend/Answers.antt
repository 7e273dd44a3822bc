use Rattle.law_scripts.proofs.Grown as laws
use Rattle.law_scripts.proofs.scripts.declarations_extend.Goals as goal

pub returns : goal.returns
returns c = record { constants = laws.constants_extend; functions = laws.functions_extend; datatypes = laws.datatypes_extend; declared = laws.datatypes_declare }
