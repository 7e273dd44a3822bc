use Rattle.std.proofs.Common.{Ok, sym, ap, ◌∙◌}
use Rattle.law_terms.specs.Plain.{EntityType}
use Rattle.smt_term.specs.View.{plain_type-Entity}
use Rattle.smt_values.proofs.TypesGiven.{sole_entity}
use Rattle.smt_values.proofs.of_type.entity_type.Goals as goal

pub returns-in_ok-share-in-len1 : goal.returns-in_ok-share-in-len1
returns-in_ok-share-in-len1 c =
    sole_entity c.args.types.now c.sole-item.result c.in-len1.len_at_least c.in-len1.len_below c.sole-item.is
    ∙ ap (λ n. Ok (EntityType n)) (sym c.in_ok-share-in-len1.ensures)
    ∙ ap Ok (sym (plain_type-Entity c.in_ok-share-in-len1.field-0))
