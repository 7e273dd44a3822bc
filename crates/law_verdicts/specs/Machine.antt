-- A small solver as a machine: its state, what it replies to an expression, and what it puts for a text.
use Rattle.std.specs.Prelude.{◌≡◌, ◌⊎◌, ℕ, nat_le, Bool, true, false, IsTrue, if◌then◌else◌, codes, length, map, List, [], ◌∷◌, ◌++◌}
use Rattle.std.specs.Prelude.{Option, Some, None}
use Rattle.law_texts.specs.Reading.{Expression}
use Rattle.law_scripts.specs.Script.{Command, CheckSat, GetModel, Exit, State, start, stated, obey, run, step}
use Rattle.law_verdicts.specs.Fragment.{Lead, command_in, command_of, is_within}
use Rattle.law_verdicts.specs.FirstModel.{HasNone, IsFirst, constants_of, first_model}
use Rattle.law_lines.specs.TermTexts.{bool_name}

-- ---- states and replies

-- what a small solver remembers between two commands
pub record Machine : Type 0 where
  -- what the script comes to, as long as no command was outside
  pub state : State
  -- a command was outside the fragment, so that no later check is decided
  pub outside : Bool
  -- the last command was a check, and its answer was `sat`
  pub shown : Bool

-- what a small solver puts for one expression
pub data Reply : Type 0 where
  Nothing : Reply
  -- one line, without its line feed
  Line : List ℕ → Reply
  -- the lines of a model
  Model : List ℕ → Reply
  -- `exit`
  Ended : Reply

-- the machine before the first command
abbrev pub new : Machine
new = record { state = start; outside = false; shown = false }

-- no script with more constants than these is searched for a model
abbrev pub most_constants : ℕ
most_constants = 20

-- ---- answers

-- the word for what a search says, which tries all truths
abbrev pub word_for : Option (List Bool) → List ℕ
word_for (Some bs) = codes "sat"
word_for None = codes "unsat"

-- the answer to a check: with few constants what the search says, and `unknown` with more
abbrev pub verdict : State → List ℕ
verdict s = if nat_le (length (constants_of s)) most_constants then word_for (first_model s) else codes "unknown"

-- the search found a model
abbrev pub is_found : Option (List Bool) → Bool
is_found (Some bs) = true
is_found None = false

-- a check of this state is answered `sat`, so that a model may be shown behind it
abbrev pub shows : State → Bool
shows s = if nat_le (length (constants_of s)) most_constants then is_found (first_model s) else false

-- the line of a constant in a model: its definition (SMT-LIB 2.7, chapter 4, "Commands", `get-model`)
abbrev pub truth_line : List ℕ → Bool → List ℕ
truth_line n b = codes "  (define-fun " ++ (n ++ (codes " () Bool " ++ (bool_name b ++ codes ")\n")))

-- the lines of constants with their truths, in order
abbrev pub truth_lines : List (List ℕ) → List Bool → List ℕ
truth_lines [] bs = []
truth_lines (n ∷ ns) [] = []
truth_lines (n ∷ ns) (b ∷ bs) = truth_line n b ++ truth_lines ns bs

-- a model that gives these names these truths, as `get-model` is answered: definitions in brackets
abbrev pub model_text : List (List ℕ) → List Bool → List ℕ
model_text ns bs = codes "(\n" ++ (truth_lines ns bs ++ codes ")\n")

-- the reply to `get-model` where no model may be shown: an error
abbrev pub no_model : Reply
no_model = Line (codes "(error \"no model\")")

-- the first model, where there is one
abbrev pub model_reply : State → Option (List Bool) → Reply
model_reply s (Some bs) = Model (model_text (constants_of s) bs)
model_reply s None = no_model

-- ---- turns

-- behind a command other than a check
abbrev pub quiet : State → Machine
quiet s = record { state = s; outside = false; shown = false }

-- What a command of the fragment is replied that left this state. A model is shown directly behind `sat` alone.
abbrev pub replied : (shown : Bool) → Command → State → Reply × Machine
replied shown CheckSat s = (Line (verdict s), record { state = s; outside = false; shown = shows s })
replied true GetModel s = (model_reply s (first_model s), quiet s)
replied false GetModel s = (no_model, quiet s)
replied shown Exit s = (Ended, quiet s)
replied shown c s = (Nothing, quiet s)

-- the machine behind a command that lies outside the fragment: the state is that before it, and no later check is decided
abbrev pub blind : State → Machine
blind s = record { state = s; outside = true; shown = false }

-- what a command is replied behind one that was outside
abbrev pub replied_blindly : Option Command → State → Reply × Machine
replied_blindly (Some CheckSat) s = (Line (codes "unknown"), blind s)
replied_blindly (Some GetModel) s = (no_model, blind s)
replied_blindly (Some Exit) s = (Ended, blind (record s { ended = true }))
replied_blindly c s = (Nothing, blind s)

-- the reply to a command of the fragment, where it can be obeyed; there is none where the script breaks a rule
abbrev pub then_replied : Bool → Command → Option State → Option (Reply × Machine)
then_replied shown c (Some s) = Some (replied shown c s)
then_replied shown c None = None

-- a command of the fragment, or one that is outside
abbrev pub taken : Option Command → Bool → State → Option (Reply × Machine)
taken (Some c) shown s = then_replied shown c (obey c s)
taken None shown s = Some (Nothing, blind s)

-- What the machine replies to an expression, and the machine behind it. There is no turn where the commands with this one are
-- no script, or behind `exit`.
abbrev pub turn : Machine → Expression → Option (Reply × Machine)
turn m e =
    if m.state.ended then None
    else (if m.outside then Some (replied_blindly (command_of e) m.state) else taken (command_in m.state e) m.shown m.state)

-- The machine takes its turns at these expressions, with these replies.
abbrev pub AreTurns : Machine → List Expression → List Reply → Machine → Type 0
AreTurns m [] [] last = m ≡ last
AreTurns m [] (r ∷ rs) last = ⊥
AreTurns m (e ∷ es) [] last = ⊥
AreTurns m (e ∷ es) (r ∷ rs) last = (next : Machine) × (turn m e ≡ Some (r, next)) × AreTurns next es rs last

-- ---- what is put

-- what is put where the commands so far are no script: an error
abbrev pub refusal_line : List ℕ
refusal_line = codes "(error \"not a script\")\n"

-- a reply, and what comes behind it; nothing comes behind `exit`
abbrev pub put_then : Reply → List ℕ → List ℕ
put_then Nothing rest = rest
put_then (Line text) rest = text ++ 10 ∷ rest
put_then (Model text) rest = text ++ rest
put_then Ended rest = []

-- what is put for expressions, up to the first that is refused, or to `exit`
abbrev pub put_at : Option (Reply × Machine) → (Machine → List ℕ) → List ℕ
put_at (Some (r, next)) behind = put_then r (behind next)
put_at None behind = refusal_line

-- what is put for expressions one after the other, up to the first that is refused, or to `exit`
abbrev pub put_for : Machine → List Expression → List ℕ
put_for m [] = []
put_for m (e ∷ es) = put_at (turn m e) (λ next. put_for next es)

-- ---- the laws

-- While no command was outside, the machine's state is what the commands so far come to, and each lies in the fragment.
abbrev pub TurnsAreScripts : Type 0
TurnsAreScripts = (es : List Expression) (rs : List Reply) (m : Machine) → AreTurns new es rs m → m.outside ≡ false
    → (cs : List Command) × (map stated cs ≡ es) × Lead cs start m.state × (run cs start ≡ Some m.state)

-- The word of a check tells the truth: with few constants it is `sat`, and there is a first model, or `unsat`, and there is none.
-- With more it is `unknown`.
pub record IsTrueWord (s : State) (word : List ℕ) : Type 0 where
  pub few : IsTrue (nat_le (length (constants_of s)) most_constants)
      → ((word ≡ codes "sat") × (bs : List Bool) × (first_model s ≡ Some bs) × IsFirst s bs) ⊎ ((word ≡ codes "unsat") × HasNone s)
  pub many : nat_le (length (constants_of s)) most_constants ≡ false → word ≡ codes "unknown"

-- What a check is answered behind such turns. Once a command was outside, each later check is answered `unknown`.
pub record ChecksAreAnswered : Type 0 where
  pub decided : (es : List Expression) (rs : List Reply) (m : Machine) → AreTurns new es rs m → m.outside ≡ false → m.state.ended ≡ false
      → (word : List ℕ) × (next : Machine) × (turn m (stated CheckSat) ≡ Some (Line word, next)) × IsTrueWord m.state word
  pub outside : (m : Machine) (e : Expression) → m.outside ≡ false → m.state.ended ≡ false → command_in m.state e ≡ None →
      turn m e ≡ Some (Nothing, blind m.state)
  pub undecided : (m : Machine) (es : List Expression) (rs : List Reply) (last : Machine) → m.outside ≡ true → AreTurns m es rs last →
      last.state.ended ≡ false
      → (next : Machine) × (turn last (stated CheckSat) ≡ Some (Line (codes "unknown"), next))

-- Directly behind `sat` the first model is shown, and none behind anything else.
pub record ModelsAreShown : Type 0 where
  pub shown : (es : List Expression) (rs : List Reply) (m next : Machine) → AreTurns new es rs m →
      turn m (stated CheckSat) ≡ Some (Line (codes "sat"), next)
      → (bs : List Bool) × IsFirst m.state bs
      × (turn next (stated GetModel) ≡ Some (Model (model_text (constants_of m.state) bs), quiet m.state))
  pub hidden : (m : Machine) → m.state.ended ≡ false → m.shown ≡ false →
      (next : Machine) × (turn m (stated GetModel) ≡ Some (no_model, next))

-- The commands of the fragment that an expression adds to those so far are no script.
pub record AddsNoScript (m : Machine) (e : Expression) : Type 0 where
  pub command : Command
  pub states : stated command ≡ e
  pub clear : m.outside ≡ false
  pub within : IsTrue (is_within m.state command)
  pub no_script : step command m.state ≡ None

-- An expression is refused exactly behind `exit`, and where all commands lie in the fragment and are no script.
abbrev pub RefusalsAreMeant : Type 0
RefusalsAreMeant =
    (m : Machine) (e : Expression) →
    (turn m e ≡ None → (m.state.ended ≡ true) ⊎ AddsNoScript m e) × ((m.state.ended ≡ true) ⊎ AddsNoScript m e → turn m e ≡ None)
