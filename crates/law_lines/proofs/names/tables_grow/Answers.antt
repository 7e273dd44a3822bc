use Rattle.law_lines.proofs.Grow as laws
use Rattle.law_lines.proofs.names.tables_grow.Goals as goal

pub returns : goal.returns
returns c = record { types = laws.type_grows; functions = laws.function_grows; terms = laws.term_grows; lists = laws.terms_grow; names = laws.names_stay }
