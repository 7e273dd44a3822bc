-- Symbolic environments without where they lie in memory. A text is the list of its UTF-8 bytes.
use Rattle.std.specs.Prelude.{ℕ, List, Option}
use Rattle.law_terms.specs.Functions.{PlainUnary}
use Rattle.law_terms.specs.Plain.{PlainTerm}

-- the tags of the entities of a type, as two functions: the set of an entity's keys, and a tag's value by entity and key together
pub record PlainTags : Type 0 where
  pub keys : PlainUnary
  pub tag_values : PlainUnary

-- What there is to say of the entities of a type, as functions from the term of an entity: what is stored of it is what they give
-- there, and elsewhere they give a default.
pub record PlainData : Type 0 where
  -- the record of an entity's attributes
  pub attributes : PlainUnary
  -- by types in the order of their bytes: the set of an entity's ancestors of that type
  pub ancestors : List (List ℕ × PlainUnary)
  -- the ids of all of the type's entities, where these are listed
  pub members : Option (List (List ℕ))
  -- its tags, where it may have any
  pub tags : Option PlainTags

-- what is said of entities, by their types in the order of bytes
abbrev pub PlainEntities : Type 0
PlainEntities = List (List ℕ × PlainData)

-- a request as terms: literals of its principal, action and resource, and the record of its context
pub record PlainSymbolicRequest : Type 0 where
  pub principal : PlainTerm
  pub action : PlainTerm
  pub resource : PlainTerm
  pub context : PlainTerm

-- the terms of a request, and what is said of the entities of each type: all that Cedar's policies are symbolized over
pub record PlainSymbolicEnvironment : Type 0 where
  pub request : PlainSymbolicRequest
  pub entities : PlainEntities
