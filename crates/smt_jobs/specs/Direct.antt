-- Terms that are read from their bytes as numbered nodes, without an expression of the program.
use Rattle.std.specs.Prelude.{ℕ, Bool, true, false, ◌≡◌, ◌≤◌, ◌++◌, ◌∷◌, [], List, Ok, Some, map}
use Rattle.law_folding.specs.Built.{built}
use Rattle.law_terms.specs.Nodes.{TermMeaning}
use Rattle.law_terms.specs.Plain.{PlainType, BitVecType, BoolType, EntityType, ExtensionType, StringType, PlainTerm}
use Rattle.law_texts.specs.Lexicon.{End, Name}
use Rattle.law_texts.specs.Reading.{Expression, Leaf, Node, Expressions, Cons, brackets, deepest, inside, nesting}
use Rattle.law_texts.specs.Tokens.{Spans}
use Rattle.law_jobs.specs.Declarations.{Declared as Stated}
use Rattle.law_jobs.specs.Terms.{condition_of, term_of, terms_of}
use Rattle.smt_job_terms.specs.DeclarationView.{HasDeclared}
use Rattle.smt_job_terms.specs.declared.declaration.Declared.{Declared}
use Rattle.smt_nodes.specs.Interned.{meaning_in, StandFor}
use Rattle.smt_nodes.specs.declared.id.NodeId.{NodeId}
use Rattle.smt_nodes.specs.declared.interner.Interner.{Interner}

-- The bytes before the rest are one expression within the depth, of which P holds.
pub record ReadsOf (P : Expression → Type 0) (bytes : List ℕ) (depth : ℕ) (rest : List ℕ) : Type 0 where
  pub read : Expression
  pub span : Spans bytes (brackets read) rest
  pub shallow : nesting read ≤ depth
  pub is_so : P read

-- The bytes before the rest are what stands in brackets behind a head, within the depth, with the bracket that closes, and P holds of it.
pub record ReadsBehind (P : Expressions → Type 0) (bytes : List ℕ) (depth : ℕ) (rest : List ℕ) : Type 0 where
  pub read : Expressions
  pub span : Spans bytes (inside read ++ End ∷ []) rest
  pub shallow : deepest read ≤ depth
  pub is_so : P read

-- the expression of a head and of what stands behind it
abbrev pub with_head : (head : List ℕ) → Expressions → Expression
with_head head es = Node (Cons (Leaf (Name head)) es)

-- The number stands for a term, which is the one that the expression states, as it is built.
abbrev pub IsNumbered : Declared → Interner → NodeId → Expression → Type 0
IsNumbered d i id e =
    (t : PlainTerm) × (meaning_in i id ≡ Some (TermMeaning t))
    × ((ds : Stated) → HasDeclared d ds → (written : PlainTerm) × (term_of ds e ≡ Ok written) × (t ≡ built written))

-- The numbers stand for terms, which are those that the expressions state, as they are built.
abbrev pub AreNumbered : Declared → Interner → List NodeId → Expressions → Type 0
AreNumbered d i ids es =
    (ts : List PlainTerm) × StandFor i ids ts
    × ((ds : Stated) → HasDeclared d ds → (written : List PlainTerm) × (terms_of ds es ≡ Ok written) × (ts ≡ map built written))

-- The term is Boolean, and it is the one that the expression states, as it is built.
abbrev pub IsCondition : Declared → PlainTerm → Expression → Type 0
IsCondition d t e = (ds : Stated) → HasDeclared d ds → (written : PlainTerm) × (condition_of ds e ≡ Ok written) × (t ≡ built written)

-- The number stands for the Boolean term that the expression states, as it is built.
abbrev pub IsConditionNumbered : Declared → Interner → NodeId → Expression → Type 0
IsConditionNumbered d i id e = (t : PlainTerm) × (meaning_in i id ≡ Some (TermMeaning t)) × IsCondition d t e

-- The Boolean term that the expression states was taken behind the others, as it is built.
abbrev pub IsTakenCondition : Declared → (old new : List PlainTerm) → Expression → Type 0
IsTakenCondition d old new e = (t : PlainTerm) × (new ≡ old ++ t ∷ []) × IsCondition d t e

-- a type that has no types inside it
abbrev pub is_atomic : PlainType → Bool
is_atomic (BitVecType n) = true
is_atomic BoolType = true
is_atomic (EntityType e) = true
is_atomic (ExtensionType k) = true
is_atomic StringType = true
is_atomic x = false
