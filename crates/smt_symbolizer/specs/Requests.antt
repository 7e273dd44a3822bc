-- Symbolic requests by their parts, and symbolic environments by a request and what there is to say of entities.
use Rattle.std.specs.Prelude.{Ok}
use Rattle.law_terms.specs.Plain.{PlainTerm}
use Rattle.smt_values.specs.Uids.{Uid}
use Rattle.smt_values.specs.Outcomes.{Outcome, ◌>>=◌}
use Rattle.law_cedar.specs.Plain.{PlainEntities, PlainSymbolicRequest, PlainSymbolicEnvironment}
use Rattle.law_cedar.specs.Tables.{entity_term}

-- the symbolic request whose principal, action and resource are the literals of these entities, and whose context is this term
abbrev pub request_with : (principal action resource : Uid) → (context : PlainTerm) → PlainSymbolicRequest
request_with principal action resource context =
    record { principal = entity_term principal; action = entity_term action; resource = entity_term resource; context = context }

-- the symbolic environment of a symbolic request and of what is said of entities, or the fault of the latter
abbrev pub with_request : PlainSymbolicRequest → Outcome PlainEntities → Outcome PlainSymbolicEnvironment
with_request request outcome = outcome >>= λ entities. Ok (record { request = request; entities = entities })
