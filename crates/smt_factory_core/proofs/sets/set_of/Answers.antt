use Rattle.std.proofs.Common.{map, ap, ◌∙◌}
use Rattle.law_folding.proofs.SetOfElements.{set_of_elements}
use Rattle.smt_factory_core.proofs.sets.set_of.Goals as goal
use Rattle.law_terms.specs.Plain.{SetTerm, terms}
use Rattle.smt_term.specs.View.{plain_term-Set, plain_term, plain_type}

pub returns-clause-set : goal.returns-clause-set
returns-clause-set c typed =
    set_of_elements (plain_type c.args.elts_ty) (map plain_term c.args.ts.now) _ (plain_term-Set c.args.elts_ty c.in_ok-elts.elts ∙ ap (λ us. SetTerm (plain_type c.args.elts_ty) (terms us)) c.in_ok-elts.ensures) typed
