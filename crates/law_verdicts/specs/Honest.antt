-- A solver that puts what the machine puts is honest, also where it stops early.
use Rattle.std.specs.Prelude.{◌≡◌, ◌⊎◌, ℕ, map, List, [], ◌∷◌, ◌++◌, Option, Some, None}
use Rattle.law_texts.specs.Reading.{Expression}
use Rattle.law_scripts.specs.Script.{Command, Holds, stated}
use Rattle.smt_solve.specs.Answers.{error_line}
use Rattle.smt_solve.specs.Link.{HasNoLineFeed}
use Rattle.law_verdicts.specs.Honesty.{IsHonest}
use Rattle.law_verdicts.specs.Machine.{Ended, Line, Machine, Model, Nothing, Reply, new, put_for, refusal_line, turn}

-- Here it stops, as at a limit or for want of memory: nothing more is put, or one line that tells of an error.
abbrev pub Stops : List ℕ → Type 0
Stops out = (out ≡ []) ⊎ ((message : List ℕ) × HasNoLineFeed message × (out ≡ error_line message ++ 10 ∷ []))

-- what is put at a turn, and such bytes behind it
abbrev pub PutsAt : Option (Reply × Machine) → (Machine → List ℕ → Type 0) → List ℕ → Type 0
PutsAt (Some (Nothing, next)) Behind out = Behind next out
PutsAt (Some (Line text, next)) Behind out = (rest : List ℕ) × (out ≡ text ++ 10 ∷ rest) × Behind next rest
PutsAt (Some (Model text, next)) Behind out = (rest : List ℕ) × (out ≡ text ++ rest) × Behind next rest
PutsAt (Some (Ended, next)) Behind out = out ≡ []
PutsAt None Behind out = out ≡ refusal_line

-- These bytes may be put for expressions: what the machine replies, up to where it stops.
abbrev pub MayPut : Machine → List Expression → List ℕ → Type 0
MayPut m [] out = Stops out
MayPut m (e ∷ es) out = Stops out ⊎ PutsAt (turn m e) (λ next rest. MayPut next es rest) out

-- These bytes may be put for a text: where the text is commands as scripts have them, those that may be put for these. For any
-- other text they may be any.
abbrev pub MayBePut : (sent out : List ℕ) → Type 0
MayBePut sent out = (commands : List Command) → Holds sent commands → MayPut new (map stated commands) out

-- The line may be read next: what is put for the text that was sent begins with what was read and this line.
pub record MayBeRead (sent was_read line : List ℕ) : Type 0 where
  pub out : List ℕ
  pub rest : List ℕ
  pub put : MayBePut sent out
  pub reads : out ≡ was_read ++ (line ++ rest)

-- Where a line may be read so and says `unsat` to a check in turn, the text that was sent is a script without a model. So every
-- link is honest that gives no other lines.
abbrev pub MachinesAreHonest : Type 0
MachinesAreHonest = IsHonest MayBeRead

-- What the machine puts is what may be put.
abbrev pub MachinesMayPut : Type 0
MachinesMayPut = (m : Machine) (es : List Expression) → MayPut m es (put_for m es)
