use Rattle.std.proofs.Common.{◌≡◌, ap, ◌∙◌}
use Rattle.law_folding.specs.Parts.{elements_in}
use Rattle.smt_factory_core.proofs.FoldingSets.{elements_in-set}
use Rattle.smt_factory_core.proofs.sets.given_elements.Goals as goal
use Rattle.law_terms.specs.Plain.{SetTerm, terms}
use Rattle.smt_term.specs.View.{plain_elements, plain_term, plain_term-Set, plain_type}

pub returns-in-Set-clause-elements : goal.returns-in-Set-clause-elements
returns-in-Set-clause-elements c =
    let e : plain_term c.args.t.now ≡ SetTerm (plain_type c.in-Set.elts_ty) (terms (plain_elements c.in-Set.elts)) = ap plain_term c.in-Set.is ∙ plain_term-Set c.in-Set.elts_ty c.in-Set.elts in
    ap elements_in e ∙ elements_in-set (plain_type c.in-Set.elts_ty) (plain_elements c.in-Set.elts)
