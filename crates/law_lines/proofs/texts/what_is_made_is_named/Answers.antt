use Rattle.law_lines.proofs.Making as laws
use Rattle.law_lines.proofs.texts.what_is_made_is_named.Goals as goal

pub returns : goal.returns
returns c = record { types = laws.types_are_made; functions = laws.functions_are_made; terms = laws.terms_are_made }
