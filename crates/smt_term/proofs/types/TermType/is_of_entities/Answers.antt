use Rattle.std.proofs.Common.{ap, sym, ◌∙◌}
use Rattle.law_terms.specs.Plain.{EntityType}
use Rattle.law_terms.specs.Types.{type_eq}
use Rattle.smt_term.specs.Entities.{bytes_of_type}
use Rattle.smt_term.specs.TypeView.{plain_type, plain_type-Entity}
use Rattle.smt_term.proofs.SameType.{entity_eq-is, type_eq-turned}
use Rattle.smt_term.proofs.types.TermType.is_of_entities.Goals as goal

pub returns-in-Entity-clause-same : goal.returns-in-Entity-clause-same
returns-in-Entity-clause-same c =
    c.eq.ensures ∙ entity_eq-is c.args.ety.now c.in-Entity.own
    ∙ ap (type_eq (EntityType (bytes_of_type c.args.ety.now))) (sym (ap plain_type c.in-Entity.is ∙ plain_type-Entity c.in-Entity.own))

pub returns-in-Entity-clause-turned : goal.returns-in-Entity-clause-turned
returns-in-Entity-clause-turned c =
    returns-in-Entity-clause-same c ∙ type_eq-turned (EntityType (bytes_of_type c.args.ety.now)) (plain_type c.args.self.now)
