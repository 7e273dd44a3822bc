use Rattle.law_lines.proofs.Differ as laws
use Rattle.law_lines.proofs.names.names_differ_by_number.Goals as goal

pub returns : goal.returns
returns c = record { functions = laws.functions_differ; types = laws.types_differ; terms = laws.terms_differ }
