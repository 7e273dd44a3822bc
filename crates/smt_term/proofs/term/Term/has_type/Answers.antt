use Rattle.std.proofs.Common.{sym, ap, ◌∙◌}
use Rattle.std.specs.Ordering.{is_eq}
use Rattle.law_terms.specs.Types.{type_eq}
use Rattle.smt_term.specs.View.{plain_type}
use Rattle.law_terms.proofs.TypeOrder.{eq_same, type_itself}
use Rattle.smt_term.proofs.term.Term.has_type.Goals as goal

pub returns-then-well_typed : goal.returns-then-well_typed
returns-then-well_typed c = (
  λ h. record { parts = sym c.well_typed.ensures ∙ c.if-well_typed.true; type = eq_same _ _ (sym c.is_of_type.ensures.same ∙ h) },
  λ t. c.is_of_type.ensures.same ∙ ap (λ u. type_eq u (plain_type c.args.ty.now)) t.type ∙ ap is_eq (type_itself (plain_type c.args.ty.now)),
)
