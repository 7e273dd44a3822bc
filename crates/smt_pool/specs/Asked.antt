-- Why a session in hand gives no verdict on a script.
use Rattle.std.specs.Prelude.{◌≡◌, ◌⊎◌, ⊤, Bool, false, IsTrue, List, ℕ, [], ◌++◌}
use Rattle.smt_script.specs.CommandTexts.{check_sat_text}
use Rattle.smt_solve.specs.Answers.{IsNoDecision}
use Rattle.smt_solve.specs.Link.{LinkState}
use Rattle.smt_solve.specs.Question.{Exchanges, FailsToSend, IsNothing, KillsOnly, Refuses, RefusesEnded, Spares}
use Rattle.smt_solve.specs.declared.error.SolverError.{SolverError}
use Rattle.smt_solve.specs.declared.error.SolverError.TheVariants.{SolverMarkedFailed, Memory as SolverWant}
use Rattle.law_verdicts.specs.Verdicts.{logic_text}

-- Lines before the check could not be sent, and the solver was not killed.
pub record FailsBeforeCheck (before now : LinkState) (e : SolverError) : Type 0 where
  pub failed : FailsToSend before now e
  pub spared : Spares before now

-- A link was sent the logic and this script, and then the check failed. The solver was killed only for what it answered.
pub record FailsAtCheck (before now : LinkState) (script : List ℕ) (e : SolverError) : Type 0 where
  pub asked : LinkState
  pub sent : Exchanges before asked (logic_text ++ script) []
  pub spared : Spares before asked
  pub why : RefusesEnded asked now e
      ⊎ Refuses (Exchanges asked now check_sat_text) (Exchanges asked now check_sat_text) IsNoDecision asked now e
  pub kills : KillsOnly IsNothing asked now check_sat_text

-- Why a session in hand gives no verdict, by whether it had failed before and by what its link told before and tells now: it had,
-- and nothing was sent or read; or it fails now, since lines could not be sent, or at the check; or there was no memory.
abbrev pub WhyUnanswered : (had_failed : Bool) → (before now : LinkState) → (script : List ℕ) → SolverError → Type 0
WhyUnanswered had_failed before now script SolverMarkedFailed = IsTrue had_failed × (now ≡ before)
WhyUnanswered had_failed before now script SolverWant = ⊤
WhyUnanswered had_failed before now script e = (had_failed ≡ false) × (FailsBeforeCheck before now e ⊎ FailsAtCheck before now script e)
