-- What `(reset)` leaves of the texts before it.
use Rattle.std.proofs.Common.{◌≡◌, ℕ, true, false, List, [], ◌∷◌, ◌++◌, refl, subst, Some}
use Rattle.std.proofs.lemmas.Bool.{not-true}
use Rattle.smt_script.specs.CommandTexts.{reset_text}
use Rattle.law_scripts.specs.Script.{Reset, State, start, run}
use Rattle.law_scripts.specs.Written.{IsLine}
use Rattle.law_scripts.proofs.Append.{script_append, whole_append}
use Rattle.law_scripts.proofs.Commands.{one_state}
use Rattle.law_scripts.proofs.Laid.{plain_lines}
use Rattle.law_lines.proofs.Spelled.{lines_hold, whole_line}
use Rattle.law_verdicts.specs.HandedOut.{BlankScriptsAreEmpty, ExitStays, HandOutsAreBlank, HoldersStandAlone, IsEmptyState, ResetLeavesNothing, sent_by_holders}
use Rattle.law_verdicts.specs.Verdicts.{IsBlankScript}

reset_line : IsLine reset_text (Reset ∷ [])
reset_line = plain_lines.2

-- before an `exit`
pub reset_empties : (s : State) → s.ended ≡ false → run (Reset ∷ []) s ≡ Some start
reset_empties s e = rw e refl

-- and behind one
reset_is_not_obeyed : (s : State) → s.ended ≡ true → run (Reset ∷ []) s ≡ Some s
reset_is_not_obeyed s e = rw e refl

pub blank_append : (a b : List ℕ) → IsBlankScript a → IsBlankScript b → IsBlankScript (a ++ b)
blank_append a b p q = record {
  whole = whole_append a b p.whole q.whole;
  script = script_append a b start q.script.commands start p.whole p.script q.script.holds q.script.runs;
}

pub nothing_sent : IsBlankScript []
nothing_sent = record { whole = tt; script = record { commands = []; holds = (lines_hold [] refl).0; runs = refl } }

pub reset_leaves_nothing : ResetLeavesNothing
reset_leaves_nothing text left = record {
  whole = whole_append text reset_text left.script.whole (whole_line reset_text (Reset ∷ []) reset_line);
  script = script_append text reset_text left.state (Reset ∷ []) start left.script.whole left.script.script reset_line.holds
      (reset_empties left.state (not-true left.state.ended left.script.running));
}

pub hand_outs_are_blank : HandOutsAreBlank
hand_outs_are_blank [] left = nothing_sent
hand_outs_are_blank (text ∷ texts) left = blank_append (text ++ reset_text) (sent_by_holders texts) (reset_leaves_nothing text left.0) (hand_outs_are_blank texts left.1)

pub blank_scripts_are_empty : BlankScriptsAreEmpty
blank_scripts_are_empty bytes s blank script =
    subst IsEmptyState (one_state bytes start s blank.script script) (record { sorts = refl; names = refl; assertions = refl; levels = refl; running = refl })

pub holders_stand_alone : HoldersStandAlone
holders_stand_alone before text alone behind blank script both =
    one_state (before ++ text) behind alone both (script_append before text start script.commands alone blank.whole blank.script script.holds script.runs)

pub exit_stays : ExitStays
exit_stays text s whole script e = script_append text reset_text s (Reset ∷ []) s whole script reset_line.holds (reset_is_not_obeyed s e)
