use Rattle.law_terms.proofs.TermTotal.{types_decided, functions_decided, parts_decided, patterns_decided, ops_decided, terms_decided}
use Rattle.law_terms.proofs.laws.equality_is_decided.Goals as goal

pub returns : goal.returns
returns c = record { types = types_decided; functions = functions_decided; parts = parts_decided; patterns = patterns_decided; operators = ops_decided; terms = terms_decided }
