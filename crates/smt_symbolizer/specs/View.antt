-- The plain form of symbolic environments: what they say, without where it lies in memory.
use Rattle.smt_term.specs.View.{plain_term}
use Rattle.law_cedar.specs.Plain.{PlainSymbolicRequest, PlainSymbolicEnvironment}
use Rattle.smt_symbolizer.specs.EntityView.{plain_entities}
use Rattle.smt_symbolizer.specs.declared.environment.SymEnv.{SymEnv}
use Rattle.smt_symbolizer.specs.declared.environment.SymRequest.{SymRequest}

-- the plain form of a symbolic request: the plain forms of its four terms
abbrev pub plain_request : SymRequest → PlainSymbolicRequest
plain_request request = record {
  principal = plain_term request.principal;
  action = plain_term request.action;
  resource = plain_term request.resource;
  context = plain_term request.context;
}

-- the plain form of a symbolic environment: those of its request and of what it says of entities
abbrev pub plain_environment : SymEnv → PlainSymbolicEnvironment
plain_environment env = record { request = plain_request env.request; entities = plain_entities env.entities }
