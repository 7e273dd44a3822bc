-- What a run does, and what it says.
use Rattle.std.specs.Prelude.{ℕ, ◌≡◌, ◌⊎◌, List, Option, Some, None, Result}
use Rattle.std.specs.Io.KnownBytes.{append_known}
use Rattle.law_clauses.specs.Clauses.{HaveNoSolution, Solves, Truths}
use Rattle.smt_dimacs.specs.Formulas.{IsFormula}
use Rattle.smt_script.specs.Sink.{Puts}
use Rattle.smt_script.specs.declared.sink.SinkError.{SinkError}
use Rattle.smt_sat_run.specs.Answers.{SaysTruths, unknown_line, unsatisfiable_line}
use Rattle.smt_sat_run.specs.Around.{Around, Reads}
use Rattle.smt_sat_run.specs.Causes.{HasCause, LeavesOutput}
use Rattle.smt_sat_run.specs.Refusal.{line_of, proof_line, status_of}
use Rattle.smt_sat_run.specs.Words.{help_text, version_text}
use Rattle.smt_sat_run.specs.declared.command.Command.{Command}
use Rattle.smt_sat_run.specs.declared.command.Command.TheVariants.{Search, Check, Help, Version}
use Rattle.smt_sat_run.specs.declared.refusal.Refusal.{Refusal}
use Rattle.smt_sat_run.specs.declared.verdict.ProofRefusal.{ProofRefusal}
use Rattle.smt_sat_run.specs.declared.verdict.Verdict.{Verdict}
use Rattle.smt_sat_run.specs.declared.verdict.Verdict.TheVariants.{Satisfiable, Unsatisfiable, Unknown, Refused, Told}

-- ---- what is said of a formula

-- The bytes are a formula, truths that make its clauses true are found, and these truths are put.
pub record IsSatisfied (old new : Option (List ℕ)) (bytes : List ℕ) : Type 0 where
  pub variables : ℕ
  pub cs : List (List ℕ)
  pub is_formula : IsFormula bytes variables cs
  pub truths : Truths
  pub solves : Solves truths cs
  pub text : List ℕ
  pub says : SaysTruths truths variables text
  pub put : new ≡ append_known old text

-- The bytes are a formula whose clauses no truths make true, and that is put.
pub record IsRefuted (old new : Option (List ℕ)) (bytes : List ℕ) : Type 0 where
  pub variables : ℕ
  pub cs : List (List ℕ)
  pub is_formula : IsFormula bytes variables cs
  pub no_solution : HaveNoSolution cs
  pub put : new ≡ append_known old unsatisfiable_line

-- The bytes are a formula, and it is put that nothing was found.
pub record IsUndecided (old new : Option (List ℕ)) (bytes : List ℕ) : Type 0 where
  pub variables : ℕ
  pub cs : List (List ℕ)
  pub is_formula : IsFormula bytes variables cs
  pub put : new ≡ append_known old unknown_line

-- the formula of a source, which had this left, is read whole, and this verdict on it was put
abbrev pub Answers : (left left' held held' : Option (List ℕ)) → Verdict → Type 0
Answers left left' held held' Satisfiable = Reads (IsSatisfied held held') left left'
Answers left left' held held' Unsatisfiable = Reads (IsRefuted held held') left left'
Answers left left' held held' Unknown = Reads (IsUndecided held held') left left'
Answers left left' held held' (Refused why) = Reads (IsUndecided held held') left left'
Answers left left' held held' Told = ⊥

module _ (before after : Around) where
  -- this text was put, and no verdict
  abbrev pub Tells : List ℕ → Verdict → Type 0
  Tells text Told = after.held ≡ append_known before.held text
  Tells text verdict = ⊥

  -- what was asked for is done, with this verdict
  abbrev pub IsSaid : Option Command → Verdict → Type 0
  IsSaid (Some (Search most)) verdict = Answers before.left after.left before.held after.held verdict
  IsSaid (Some Check) verdict = Answers before.left after.left before.held after.held verdict
  IsSaid (Some Help) verdict = Tells help_text verdict
  IsSaid (Some Version) verdict = Tells version_text verdict
  IsSaid None verdict = ⊥

  -- with 0 the text of a word was put, or that nothing was found
  abbrev pub EndsWithZero : Option Command → Type 0
  EndsWithZero (Some (Search most)) = Reads (IsUndecided before.held after.held) before.left after.left
  EndsWithZero (Some Check) = Reads (IsUndecided before.held after.held) before.left after.left
  EndsWithZero (Some Help) = after.held ≡ append_known before.held help_text
  EndsWithZero (Some Version) = after.held ≡ append_known before.held version_text
  EndsWithZero None = ⊥

  -- ---- what a status says

  -- 20 is said of no formula but one without a solution, 10 of no formula but one of which truths that solve it were put, and 0 where it
  -- is put that nothing was found, or the text of a word.
  pub record IsDone (command : Option Command) (status : ℕ) : Type 0 where
    pub unsatisfiable : status ≡ 20 → Reads (IsRefuted before.held after.held) before.left after.left
    pub satisfiable : status ≡ 10 → Reads (IsSatisfied before.held after.held) before.left after.left
    pub zero : status ≡ 0 → EndsWithZero command

-- ---- what is said beside it

module _ {S : Type 0} (contents : S → Option (List ℕ)) (faults : S → ℕ) (has_room : S → ℕ → Type 0) (place : S → List ℕ) (old new : S) where
  -- a line is put, as far as that goes; where there was no memory for it, nothing is
  pub record PutsLine (line : List ℕ) : Type 0 where
    pub outcome : Result (Unit {0}) SinkError
    pub put : Puts contents faults has_room place old new line outcome

  abbrev pub MayPutLine : List ℕ → Type 0
  MayPutLine line = PutsLine line ⊎ (new ≡ old)

  -- A refusal with this status has its cause, and its line was put; what else was put is what the refusal leaves.
  pub record SaysRefusal (before after : Around) (command : Option Command) (status : ℕ) : Type 0 where
    pub refusal : Refusal
    pub status_is : status ≡ status_of refusal
    pub cause : HasCause before after command refusal
    pub output : LeavesOutput before.held after.held refusal
    pub line : MayPutLine (line_of refusal)

  -- A proof was refused, and the line that says why was put.
  pub record SaysProofRefusal (status : ℕ) : Type 0 where
    pub status_is : status ≡ 0
    pub why : ProofRefusal
    pub line : MayPutLine (proof_line why)

  -- with 0, 10 and 20 nothing is said beside the answer, but why a proof was refused
  abbrev pub Reports : (before after : Around) → Option Command → ℕ → Type 0
  Reports before after command status =
      ((new ≡ old) × ((status ≡ 0) ⊎ (status ≡ 10) ⊎ (status ≡ 20)))
      ⊎ (SaysProofRefusal status ⊎ SaysRefusal before after command status)
