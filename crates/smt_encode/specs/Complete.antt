-- When what terms reach is written.
use Rattle.std.specs.Prelude.{IsTrue, List}
use Rattle.std.specs.List.{AllByRecursion}
use Rattle.law_terms.specs.Nodes.{Meaning, TermMeaning}
use Rattle.law_terms.specs.Plain.{PlainTerm}
use Rattle.smt_nodes.specs.declared.interner.Interner.{Interner}
use Rattle.smt_spelling.specs.NodeTexts.{kept_now}
use Rattle.smt_spelling.specs.Whole.{is_typed, HaveWrittenParts, IsWritten}
use Rattle.smt_spelling.specs.declared.node_names.NodeNames.{NodeNames}

-- Each of these terms has a number and a text, and so has each part of what is typed and has a text. So where the terms are typed, each
-- node of their graph has a number and a text.
pub record AreWritten (nodes : Interner) (names : NodeNames) (ts : List PlainTerm) : Type 0 where
  pub given : AllByRecursion (λ t. IsWritten nodes (kept_now names).texts (TermMeaning t)) ts
  pub closed : ∥ HaveWrittenParts nodes (kept_now names).texts ∥₁

-- each of these is a type, a function, or a term that is typed
abbrev pub AreTypedMeanings : List Meaning → Type 0
AreTypedMeanings ms = AllByRecursion (λ m. IsTrue (is_typed m)) ms
