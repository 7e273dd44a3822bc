use Rattle.std.proofs.Common.{◌≡◌, sym, subst}
use Rattle.std.proofs.lemmas.Result.{IfOk-weaker}
use Rattle.law_folding.specs.Builder.{applied, folding}
use Rattle.law_folding.specs.Composites.{set_is_empty}
use Rattle.law_folding.specs.Refinement.{Refines}
use Rattle.law_folding.proofs.SetsStand.{stands_set_is_empty}
use Rattle.smt_factory_core.proofs.sets.set_is_empty.Goals as goal
use Rattle.law_terms.specs.Plain.{PlainTerm}
use Rattle.smt_term.specs.View.{plain_term}

pub returns-clause-refines : goal.returns-clause-refines
returns-clause-refines c =
    let t = plain_term c.args.t in
    let P : PlainTerm → Type 0 = λ x. Refines x (set_is_empty applied t) in
    IfOk-weaker c.folded_set_is_empty.result (λ r. plain_term r ≡ set_is_empty folding t) (λ r. P (plain_term r)) (λ r e. subst P (sym e) (stands_set_is_empty t)) c.folded_set_is_empty.ensures
