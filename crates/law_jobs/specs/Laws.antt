-- What is known of jobs.
use Rattle.std.specs.Prelude.{ℕ, ◌≡◌, IfSome, IsTrue, map, List, ◌++◌, Some}
use Rattle.std.specs.List.{AllByRecursion}
use Rattle.law_folding.specs.Built.{built}
use Rattle.law_terms.specs.Formed.{IsFormed}
use Rattle.law_terms.specs.Names.{extension_op_name, op_name}
use Rattle.law_terms.specs.Plain.{BoolType, PlainOp, ExtOp, PlainTerm}
use Rattle.law_terms.specs.TypeValues.{Enums, AreEnums}
use Rattle.law_terms.specs.Typing.{Typed}
use Rattle.law_terms.specs.ValueOrder.{ascends, text_cmp}
use Rattle.law_jobs.specs.Jobs.{HasFault, IsJob, IsTooLong, PlainJob}
use Rattle.law_jobs.specs.Outcomes.{JobFault}
use Rattle.law_jobs.specs.Steps.{PlainStep, AreBalanced, asserted, built_steps, current}
use Rattle.law_jobs.specs.Terms.{extension_operators, named_operators, operator_named}

-- a term that is typed with the type Bool, and formed: what the theorem asks of each term
pub record IsCondition (t : PlainTerm) : Type 0 where
  pub boolean : Typed t BoolType
  pub formed : IsFormed t

-- Each term that a job asserts is typed with the type Bool, and formed: it is a condition. So is each that is current anywhere in it.
pub record JobsHaveConditions : Type 0 where
  pub asserted : (bytes : List ℕ) (job : PlainJob) → IsJob bytes job → AllByRecursion IsCondition (asserted job.steps)
  pub current : (bytes : List ℕ) (job : PlainJob) (before behind : List PlainStep) → IsJob bytes job → job.steps ≡ before ++ behind →
      AllByRecursion IsCondition (current before)

-- No step of a job closes a level where none is open.
abbrev pub JobsAreBalanced : Type 0
JobsAreBalanced = (bytes : List ℕ) (job : PlainJob) → IsJob bytes job → AreBalanced 0 job.steps

-- What is built of the steps asserts and has as current what is built of the terms, and is balanced where they are.
pub record StepsAreBuilt : Type 0 where
  pub asserted : (steps : List PlainStep) → asserted (built_steps steps) ≡ map built (asserted steps)
  pub current : (steps : List PlainStep) → current (built_steps steps) ≡ map built (current steps)
  pub balanced : (levels : ℕ) (steps : List PlainStep) → AreBalanced levels steps → AreBalanced levels (built_steps steps)

-- The enum types stand in the order of their names, each name once, and so do the members of each, which are texts in UTF-8.
pub record AreInOrder (enums : Enums) : Type 0 where
  pub names : IsTrue (ascends (λ p q. text_cmp p.0 q.0) enums)
  pub members : AreEnums enums

-- The enum types of a job stand in the order of their names, and the members of each in the order of their bytes, each once.
abbrev pub JobsHaveEnumsInOrder : Type 0
JobsHaveEnumsInOrder = (bytes : List ℕ) (job : PlainJob) → IsJob bytes job → AreInOrder job.enums

-- Bytes that are a job are not too many, and have no fault. So they are refused for want of memory alone.
pub record JobsAreNotRefused : Type 0 where
  pub short : (bytes : List ℕ) (job : PlainJob) → IsJob bytes job → IsTooLong bytes → ⊥
  pub sound : (bytes : List ℕ) (job : PlainJob) (fault : JobFault) → IsJob bytes job → HasFault bytes fault → ⊥

-- the name of an operator in jobs: an operator on extension values has a name of its own, and others have that of terms
abbrev pub job_name : PlainOp → List ℕ
job_name (ExtOp o) = extension_op_name o
job_name o = op_name o

-- A name finds the operator that has it, and no other, and each operator of jobs is found by its name.
pub record OperatorsAreFoundByName : Type 0 where
  pub named : (n : List ℕ) → IfSome (operator_named n) (λ o. job_name o ≡ n)
  pub found : AllByRecursion (λ e. operator_named e.0 ≡ Some e.1) named_operators
  pub found_on_extensions : AllByRecursion (λ o. operator_named (extension_op_name o) ≡ Some (ExtOp o)) extension_operators
