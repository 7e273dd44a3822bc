-- Clauses of statements, and what valid clauses show.
use Rattle.std.specs.Prelude.{◌≡◌, ℕ, true, List, [], ◌∷◌, ◌++◌, map}
use Rattle.std.specs.List.{AllByRecursion, list_any}
use Rattle.law_clauses.specs.Clauses.{HaveNoSolution}
use Rattle.law_clauses.specs.Gates.{no, yes}
use Rattle.law_terms.specs.Interpretations.{IsInterpretation}
use Rattle.law_terms.specs.Meaning.{AreTrue}
use Rattle.law_terms.specs.Plain.{PlainTerm}
use Rattle.law_terms.specs.Tables.{Interpretation}
use Rattle.law_terms.specs.TypeValues.{Enums}
use Rattle.law_clauses.specs.Statements.{Atom, TruthOf, atom_truth}

-- a clause of statements: where all premises are true, one of the conclusions is
pub record Sequent : Type 0 where
  pub premises : List Atom
  pub conclusions : List Atom

infix 26 ◌⊢◌
-- from some statements one of others
abbrev pub ◌⊢◌ : List Atom → List Atom → Sequent
ps ⊢ cs = record { premises = ps; conclusions = cs }

-- a statement is true
abbrev pub always : Atom → Sequent
always a = [] ⊢ (a ∷ [])

-- one of two statements is true
abbrev pub either : Atom → Atom → Sequent
either a b = [] ⊢ (a ∷ b ∷ [])

-- where one statement is true, so is another
abbrev pub implies : Atom → Atom → Sequent
implies a b = (a ∷ []) ⊢ (b ∷ [])

-- each statement is true
abbrev pub Hold : Interpretation → List Atom → Type 0
Hold I xs = AllByRecursion (λ a. atom_truth I a ≡ true) xs

-- the clause is true in an interpretation
abbrev pub Follows : Interpretation → Sequent → Type 0
Follows I s = Hold I s.premises → list_any (atom_truth I) s.conclusions ≡ true

-- true in every interpretation, whatever it gives to what
abbrev pub IsAlwaysValid : Sequent → Type 0
IsAlwaysValid s = (I : Interpretation) → Follows I s

-- each of the clauses is
abbrev pub AreAlwaysValid : List Sequent → Type 0
AreAlwaysValid ss = AllByRecursion IsAlwaysValid ss

-- true in every interpretation of these terms
abbrev pub IsValid : Enums → List PlainTerm → Sequent → Type 0
IsValid enums ts s = (I : Interpretation) → IsInterpretation enums ts I → Follows I s

-- each of the clauses is
abbrev pub AreValid : Enums → List PlainTerm → List Sequent → Type 0
AreValid enums ts ss = AllByRecursion (IsValid enums ts) ss

-- a clause of numbered statements
pub record Numbered : Type 0 where
  pub premises : List ℕ
  pub conclusions : List ℕ

-- what it says of the statements that have the numbers; nothing is asked of the numbers, and one statement may have several
abbrev pub stated : (ℕ → Atom) → Numbered → Sequent
stated atom c = map atom c.premises ⊢ map atom c.conclusions

-- its literals: a premise negated, a conclusion as it is
abbrev pub literals : Numbered → List ℕ
literals c = map no c.premises ++ map yes c.conclusions

-- the clauses by their literals, with one of a single literal for each root: that it is true
abbrev pub refutation : List Numbered → List ℕ → List (List ℕ)
refutation cs roots = map literals cs ++ map (λ k. yes k ∷ []) roots

-- clauses of numbered statements that refute the roots: these have the numbers, each clause is valid, and with a clause for each root
-- they have no solution
pub record Refute (enums : Enums) (roots : List PlainTerm) (atom : ℕ → Atom) (cs : List Numbered) (numbers : List ℕ) : Type 0 where
  pub roots_numbered : map atom numbers ≡ map TruthOf roots
  pub valid : AllByRecursion (λ c. IsValid enums roots (stated atom c)) cs
  pub unsolved : HaveNoSolution (refutation cs numbers)

-- where clauses refute the roots, no interpretation makes the roots true
abbrev pub RefutedByValidClauses : Type 0
RefutedByValidClauses =
    (enums : Enums) (roots : List PlainTerm) (atom : ℕ → Atom) (cs : List Numbered) (numbers : List ℕ)
    → Refute enums roots atom cs numbers → (I : Interpretation) → IsInterpretation enums roots I → AreTrue I roots → ⊥
