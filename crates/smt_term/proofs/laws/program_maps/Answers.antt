use Rattle.std.proofs.lemmas.Cmp.{nat_list_cmp_total}
use Rattle.std.proofs.lemmas.Map.Text.{is_eq-slice_cmp}
use Rattle.std.proofs.Common.{sym}
use Rattle.law_terms.specs.ValueOrder.{text_cmp}
use Rattle.law_terms.proofs.ValueOrder.{text_same}
use Rattle.std.specs.Prelude.{bytes_eq}
use Rattle.smt_term.proofs.LastPairs.{last_pairs}
use Rattle.smt_term.proofs.laws.program_maps.Goals as goal

pub returns : goal.returns
returns c = record {
  type_pairs = last_pairs text_cmp bytes_eq nat_list_cmp_total text_same (λ x y. sym (is_eq-slice_cmp x y));
  field_pairs = last_pairs text_cmp bytes_eq nat_list_cmp_total text_same (λ x y. sym (is_eq-slice_cmp x y));
}
