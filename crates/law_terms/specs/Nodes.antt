-- Numbered nodes: a node says what it is by its label, and by the places of its parts, which stand before it.
use Rattle.std.specs.Prelude.{ℕ, List}
use Rattle.law_terms.specs.Plain.{ExtensionKind, PlainFunction, PlainLiteral, PlainOp, PlainTerm, PlainType}

-- What a type, a function or a term is, apart from its parts: the types, then the functions, then the terms. It has the operator of an
-- application, the id of a variable or a function, and the names of a record's attributes.
pub data PlainLabel : Type 0 where
  OptionLabel : PlainLabel
  BitVecLabel : (width : ℕ) → PlainLabel
  BoolLabel : PlainLabel
  EntityLabel : (name : List ℕ) → PlainLabel
  ExtensionLabel : ExtensionKind → PlainLabel
  StringLabel : PlainLabel
  RecordLabel : (attributes : List (List ℕ)) → PlainLabel
  SetLabel : PlainLabel
  FunctionLabel : (id : List ℕ) → PlainLabel
  ApplicationLabel : PlainOp → PlainLabel
  CallLabel : PlainLabel
  NoneLabel : PlainLabel
  LiteralLabel : PlainLiteral → PlainLabel
  RecordOfLabel : (attributes : List (List ℕ)) → PlainLabel
  SetOfLabel : PlainLabel
  SomeLabel : PlainLabel
  VariableLabel : (id : List ℕ) → PlainLabel

-- A node: its label, and the places of its parts, which are nodes before it. A function has its argument type and its output type, a
-- term first its type; a call has then its function.
pub record PlainNode : Type 0 where
  pub label : PlainLabel
  pub parts : List ℕ

-- what a node stands for
pub data Meaning : Type 0 where
  TypeMeaning : PlainType → Meaning
  FunctionMeaning : PlainFunction → Meaning
  TermMeaning : PlainTerm → Meaning
