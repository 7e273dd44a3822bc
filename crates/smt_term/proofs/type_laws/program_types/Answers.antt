use Rattle.std.proofs.Common.{sym}
use Rattle.std.proofs.lemmas.Cmp.{nat_list_cmp_total}
use Rattle.std.proofs.lemmas.Map.Text.{is_eq-slice_cmp}
use Rattle.std.specs.Prelude.{bytes_eq}
use Rattle.law_terms.specs.ValueOrder.{text_cmp}
use Rattle.law_terms.proofs.ValueOrder.{text_same}
use Rattle.smt_term.proofs.LastPairs.{last_pairs}
use Rattle.smt_term.proofs.DerivedTypeOrder.{type_cmp-is}
use Rattle.smt_term.proofs.SameType.{eq_from_same_type, same_type_from_eq}
use Rattle.smt_term.proofs.type_laws.program_types.Goals as goal

pub returns : goal.returns
returns c = record {
  equality = λ s t. (same_type_from_eq s t, eq_from_same_type s t);
  order = type_cmp-is;
  pairs = last_pairs text_cmp bytes_eq nat_list_cmp_total text_same (λ x y. sym (is_eq-slice_cmp x y));
}
