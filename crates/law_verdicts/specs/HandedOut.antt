-- What a session was sent when it is handed out: the texts of those that held it before, each with `(reset)` behind it.
use Rattle.std.specs.Prelude.{◌≡◌, ℕ, true, false, List, [], ◌∷◌, ◌++◌}
use Rattle.std.specs.List.{AllByRecursion}
use Rattle.smt_script.specs.CommandTexts.{reset_text}
use Rattle.law_scripts.specs.Script.{State, Script, HasWholeLines, assertions_of, declared_sorts, names_of}
use Rattle.law_scripts.specs.Written.{IsOpenScript}
use Rattle.law_verdicts.specs.Verdicts.{IsBlankScript}

-- The text is whole commands that can be obeyed, none of which is `(exit)`.
pub record IsLeftOpen (text : List ℕ) : Type 0 where
  pub state : State
  pub script : IsOpenScript text state

-- Nothing is declared and asserted, no level is pushed, and more commands may come.
pub record IsEmptyState (s : State) : Type 0 where
  pub sorts : declared_sorts s ≡ []
  pub names : names_of s ≡ []
  pub assertions : assertions_of s ≡ []
  pub levels : s.below ≡ []
  pub running : s.ended ≡ false

-- what was sent where holders sent these texts one after the other, and `(reset)` followed each
abbrev pub sent_by_holders : List (List ℕ) → List ℕ
sent_by_holders [] = []
sent_by_holders (text ∷ texts) = (text ++ reset_text) ++ sent_by_holders texts

-- Whatever was sent before, if it was left open, `(reset)` behind it leaves nothing of it.
abbrev pub ResetLeavesNothing : Type 0
ResetLeavesNothing = (text : List ℕ) → IsLeftOpen text → IsBlankScript (text ++ reset_text)

-- So a session whose holders each left their text open is handed out with nothing declared or asserted.
abbrev pub HandOutsAreBlank : Type 0
HandOutsAreBlank = (texts : List (List ℕ)) → AllByRecursion IsLeftOpen texts → IsBlankScript (sent_by_holders texts)

-- The state that a blank script comes to is the empty one.
abbrev pub BlankScriptsAreEmpty : Type 0
BlankScriptsAreEmpty = (bytes : List ℕ) (s : State) → IsBlankScript bytes → Script bytes s → IsEmptyState s

-- Behind a blank script a text comes to what it comes to alone, so that the next holder finds nothing of those before.
abbrev pub HoldersStandAlone : Type 0
HoldersStandAlone =
    (before text : List ℕ) (alone behind : State) → IsBlankScript before → Script text alone → Script (before ++ text) behind →
    behind ≡ alone

-- No `(reset)` helps behind `(exit)`: the state stays. This is why a text has to be left open.
abbrev pub ExitStays : Type 0
ExitStays = (text : List ℕ) (s : State) → HasWholeLines text → Script text s → s.ended ≡ true → Script (text ++ reset_text) s
