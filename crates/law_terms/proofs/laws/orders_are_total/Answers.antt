use Rattle.law_terms.proofs.TermTotal.{types_total, parts_total, patterns_total, ops_total, terms_total}
use Rattle.law_terms.proofs.laws.orders_are_total.Goals as goal

pub returns : goal.returns
returns c = record { types = types_total; parts = parts_total; patterns = patterns_total; operators = ops_total; terms = terms_total }
