use Rattle.std.proofs.Common.{[], ◌∷◌, map, ap, sym, ◌∙◌}
use Rattle.std.specs.Bool.{then_some}
use Rattle.std.proofs.lemmas.List.{map-append}
use Rattle.smt_term.specs.PatternView.{plain_part}
use Rattle.smt_term.specs.declared.pattern.PatternElem.TheVariants.{Wildcard as AnyText}
use Rattle.law_terms.specs.Plain.{Wildcard}
use Rattle.smt_job_terms.proofs.pattern.push_wildcard.Goals as goal

pub returns-in_ok-push : goal.returns-in_ok-push
returns-in_ok-push c = (
  Wildcard ∷ [],
  ap (λ b. then_some b (Wildcard ∷ [])) (sym c.eq.ensures ∙ c.if-eq.true),
  ap (map plain_part) c.in_ok-push.ensures.items ∙ map-append plain_part c.args.elems.now.items (AnyText ∷ []),
)
