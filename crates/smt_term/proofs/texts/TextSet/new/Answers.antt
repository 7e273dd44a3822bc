use Rattle.std.proofs.Common.{map, ap, ◌∙◌}
use Rattle.std.proofs.lemmas.Cmp.{nat_list_cmp_total}
use Rattle.std.specs.Rc.{rc_str_bytes}
use Rattle.law_terms.proofs.Sorted.{ascends-sorted}
use Rattle.law_terms.specs.ValueOrder.{ascends, text_cmp}
use Rattle.smt_term.proofs.texts.TextSet.new.Goals as goal

pub invariant_of-result : goal.invariant_of-result
invariant_of-result c = record {
  ascending = ap (ascends text_cmp) (ap (λ v. map rc_str_bytes v.items) c.in_ok-new.ensures.ok ∙ c.in_ok-texts.ensures) ∙ ascends-sorted text_cmp nat_list_cmp_total (map rc_str_bytes c.args.items.now);
}
