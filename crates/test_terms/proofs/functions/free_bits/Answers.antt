use Rattle.std.proofs.Common.{sym, ◌∙◌}
use Rattle.law_terms.proofs.TermTotal.{types_decided}
use Rattle.smt_term.proofs.SameType.{type_eq-is}
use Rattle.smt_term.specs.View.{plain_type}
use Rattle.test_terms.proofs.functions.free_bits.Goals as goal

pub subnet_width-requires-clause-option : goal.subnet_width-requires-clause-option
unfolding plain_type
subnet_width-requires-clause-option c =
    sym c.in_ok-type_of.ensures
    ∙ (types_decided (plain_type c.in_ok-type_of.field-0) (plain_type c.in_ok-asked.asked)).0 (sym (type_eq-is c.in_ok-type_of.field-0 c.in_ok-asked.asked) ∙ sym c.eq.ensures ∙ c.if-eq.true)
    ∙ c.in_ok-asked.ensures
