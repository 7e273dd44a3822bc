use Rattle.std.proofs.Common.{ap, sym, ◌∙◌}
use Rattle.law_terms.specs.Plain.{EntityType}
use Rattle.law_terms.specs.Types.{literal_type, type_eq}
use Rattle.smt_term.specs.Entities.{bytes_of_type}
use Rattle.smt_term.specs.View.{plain_literal}
use Rattle.smt_term.proofs.SameType.{entity_eq-is}
use Rattle.smt_term.proofs.term.TermPrim.is_entity_of.Goals as goal

pub returns-in-Entity : goal.returns-in-Entity
returns-in-Entity c =
    c.eq.ensures ∙ entity_eq-is c.args.ety.now c.in-Entity.entity.ety
    ∙ ap (λ l. type_eq (EntityType (bytes_of_type c.args.ety.now)) (literal_type (plain_literal l))) (sym c.in-Entity.is)
