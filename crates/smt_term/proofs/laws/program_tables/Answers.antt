use Rattle.std.proofs.Common.{refl}
use Rattle.smt_term.proofs.LastPairs.{last_pairs}
use Rattle.law_terms.proofs.SameTerm.{term_same}
use Rattle.law_terms.proofs.TermTotal.{terms_total}
use Rattle.law_terms.specs.TermOrder.{term_cmp, term_eq}
use Rattle.smt_term.proofs.TermTables.{term_tables_ascend}
use Rattle.smt_term.proofs.laws.program_tables.Goals as goal

pub returns : goal.returns
returns c = record {
  tables = term_tables_ascend;
  pairs = last_pairs term_cmp term_eq terms_total term_same (λ x y. refl);
}
