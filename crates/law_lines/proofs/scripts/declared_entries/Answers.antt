use Rattle.law_lines.proofs.Declared as laws
use Rattle.law_lines.proofs.scripts.declared_entries.Goals as goal

pub returns : goal.returns
returns c = record { terms = laws.terms_are_declared; types = laws.types_are_declared; functions = laws.functions_are_declared }
