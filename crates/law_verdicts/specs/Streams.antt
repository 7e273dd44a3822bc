-- A small solver over a stream of bytes: what it puts for each byte that comes (SMT-LIB 2.7, chapter 3, "Lexicon", and chapter 4).
use Rattle.std.specs.Prelude.{◌≡◌, ◌⊎◌, ℕ, suc, length, nat_le, nat_lt, Bool, true, false, not, ◌&&◌, ◌||◌, ◌==◌, if◌then◌else◌, codes}
use Rattle.std.specs.Prelude.{List, [], ◌∷◌, ◌++◌, map, Option, Some, None}
use Rattle.law_texts.specs.Lexicon.{is_printable, is_space}
use Rattle.law_texts.specs.Reading.{Expression, Reads}
use Rattle.law_texts.specs.Tokens.{IsReadWithin}
use Rattle.law_scripts.specs.Script.{Command, HasWholeLines, Holds, stated}
use Rattle.law_verdicts.specs.Honest.{MayBePut, MayBeRead}
use Rattle.law_verdicts.specs.Honesty.{IsHonest}
use Rattle.law_verdicts.specs.Machine.{Machine, Reply, Ended, blind, put_at, put_for, refusal_line, turn, new}
use Rattle.law_verdicts.specs.Scan.{InComment, InString, Place, Scan, Between, at_depth, ends_command, is_between, scanned}

-- ---- limits

-- no command has more brackets open at a place
abbrev pub most_open : ℕ
most_open = 1024

-- no command has more bytes, from its first bracket to its last
abbrev pub longest_command : ℕ
longest_command = 16777216

-- no more bytes are taken in all
abbrev pub most_bytes : ℕ
most_bytes = 1099511627776

-- why a stream stops before its end: the bytes are no script, a command or all bytes together are too many, or a command is too deep
pub data Stop : Type 0 where
  NotScript : Stop
  TooLong : Stop
  TooDeep : Stop

-- the line that is put where a stream stops: an error
abbrev pub stop_line : Stop → List ℕ
stop_line NotScript = refusal_line
stop_line TooLong = codes "(error \"too long\")\n"
stop_line TooDeep = codes "(error \"too deep\")\n"

-- ---- bytes at their places

-- white space, or the first byte of a comment or of a command
abbrev pub is_blank_or_opens : ℕ → Bool
is_blank_or_opens b = is_space b || ((b == 59) || (b == 40))

-- the byte is of a token outside brackets
abbrev pub is_stray : Scan → ℕ → Bool
is_stray s b = (s.depth == 0) && (is_between s.place && not (is_blank_or_opens b))

-- the byte opens one bracket too many
abbrev pub is_too_deep : Scan → ℕ → Bool
is_too_deep s b = (b == 40) && (is_between s.place && nat_le most_open s.depth)

-- the byte is one of a command: a bracket is open before it, or it opens one
abbrev pub is_kept : Scan → ℕ → Bool
is_kept s b = nat_lt 0 s.depth || (is_between s.place && (b == 40))

-- the byte is one that no script has at this place: a form feed outside comments and strings, or in a string a byte that is no printable
-- character of ASCII
abbrev pub is_odd_at : Place → ℕ → Bool
is_odd_at Between b = b == 12
is_odd_at InString b = not (is_printable b)
is_odd_at InComment b = false

-- the same of a scan
abbrev pub is_odd : Scan → ℕ → Bool
is_odd s b = is_odd_at s.place b

-- one of the bytes is one that no script has at its place
abbrev pub any_odd : Scan → List ℕ → Bool
any_odd s [] = false
any_odd s (b ∷ bs) = is_odd s b || any_odd (scanned s b) bs

-- ---- where a stream stands

-- what is remembered while more bytes are waited for
pub record Course : Type 0 where
  -- the machine behind the commands so far
  pub machine : Machine
  -- where the scan stands
  pub scan : Scan
  -- the bytes of the command that has not ended
  pub held : List ℕ
  -- behind the last command a byte came that no script has at its place
  pub odd : Bool
  -- how many bytes came in all
  pub total : ℕ

-- where a stream stands: more bytes are waited for, `exit` came, or it stopped with an error
pub data Standing : Type 0 where
  Waiting : Course → Standing
  Exited : Standing
  Stopped : Standing

-- behind a command, with this machine and so many bytes in all
abbrev pub course_at : Machine → ℕ → Course
course_at m n = record { machine = m; scan = at_depth 0 Between; held = []; odd = false; total = n }

-- before the first byte
abbrev pub first_course : Course
first_course = course_at new 0

-- ---- one byte

-- why the stream stops at a byte: at this byte there are more bytes in all than are taken, a token stands outside brackets, or the
-- command is too deep or too long
abbrev pub breach : Course → ℕ → Option Stop
breach c b =
    if nat_le most_bytes c.total then Some TooLong
    else (if is_stray c.scan b then Some NotScript
    else (if is_too_deep c.scan b then Some TooDeep
    else (if is_kept c.scan b && nat_le longest_command (length c.held) then Some TooLong else None)))

-- the course with one byte more, whatever it ends
abbrev pub with_byte : Course → ℕ → Course
with_byte c b = record {
  machine = c.machine;
  scan = scanned c.scan b;
  held = if is_kept c.scan b then c.held ++ b ∷ [] else c.held;
  odd = c.odd || is_odd c.scan b;
  total = suc c.total;
}

-- the machine behind a command outside that is not read; behind `exit` it stays as it is
abbrev pub marked_outside : Machine → Machine
marked_outside m = if m.state.ended then m else blind m.state

-- the machine that is asked: a command with bytes that no script has lies outside
abbrev pub asked : Bool → Machine → Machine
asked odd m = if odd then marked_outside m else m

-- where the stream stands behind a turn, with so many bytes in all
abbrev pub behind_turn : Scan → ℕ → Option (Reply × Machine) → Standing
behind_turn s n None = Stopped
behind_turn s n (Some (Ended, m)) = Exited
behind_turn s n (Some (r, m)) = Waiting (record { machine = m; scan = s; held = []; odd = false; total = n })

-- The bytes that are held are a command to which these bytes are put: no expression, so that they are no script; or one at which the
-- machine takes its turn.
abbrev pub IsAnswered : Course → List ℕ → Standing → Type 0
IsAnswered c out last =
    (((e : Expression) → IsReadWithin c.held most_open e → ⊥) × (out ≡ stop_line NotScript) × (last ≡ Stopped))
    ⊎ ((e : Expression) × IsReadWithin c.held most_open e × (out ≡ put_at (turn (asked c.odd c.machine) e) (λ m. []))
    × (last ≡ behind_turn c.scan c.total (turn (asked c.odd c.machine) e)))

-- what is put at a byte, by whether the stream stops there, or a command ends
abbrev pub IsPutAt : Option Stop → (ends : Bool) → Course → List ℕ → Standing → Type 0
IsPutAt (Some stop) ends c out last = (out ≡ stop_line stop) × (last ≡ Stopped)
IsPutAt None true c out last = IsAnswered c out last
IsPutAt None false c out last = (out ≡ []) × (last ≡ Waiting c)

-- At this byte these bytes are put, and then the stream stands there. Nothing is put behind `exit`, and where it stopped.
abbrev pub Takes : Standing → ℕ → List ℕ → Standing → Type 0
Takes (Waiting c) b out last = IsPutAt (breach c b) (ends_command c.scan b) (with_byte c b) out last
Takes Exited b out last = (out ≡ []) × (last ≡ Exited)
Takes Stopped b out last = (out ≡ []) × (last ≡ Stopped)

-- ---- many bytes

-- These bytes are put for bytes that come one after the other.
abbrev pub TakesAll : Standing → List ℕ → List ℕ → Standing → Type 0
TakesAll first [] out last = (out ≡ []) × (last ≡ first)
TakesAll first (b ∷ bs) out last =
    (now later : List ℕ) × (next : Standing) × Takes first b now next × TakesAll next bs later last × (out ≡ now ++ later)

-- what is put where the bytes end here: an error inside a command
abbrev pub put_at_end : Standing → List ℕ
put_at_end (Waiting c) = if c.scan.depth == 0 then [] else stop_line NotScript
put_at_end Exited = []
put_at_end Stopped = []

-- the status with which a run ends here: 0 behind `exit` and outside commands, and 3 behind an error
abbrev pub status_at : Standing → ℕ
status_at (Waiting c) = if c.scan.depth == 0 then 0 else 3
status_at Exited = 0
status_at Stopped = 3

-- The line may be read next of what a stream put. It is a fact alone, without what shows it, so that a link can keep it.
abbrev pub MayBeHeard : (sent was_read line : List ℕ) → Type 0
MayBeHeard sent was_read line = ∥ MayBeRead sent was_read line ∥₁

-- ---- requests

-- A command of a stream: its expression, and whether up to its last bracket a byte came that no script has at its place.
pub record Request : Type 0 where
  pub expression : Expression
  pub odd : Bool

-- The bytes are a request: white space and comments, and then one expression within the limits.
pub record IsRequest (bytes : List ℕ) (r : Request) : Type 0 where
  pub blank : List ℕ
  pub command : List ℕ
  pub whole : bytes ≡ blank ++ command
  pub is_blank : Reads blank []
  pub reads : IsReadWithin command most_open r.expression
  pub odd_is : r.odd ≡ any_odd (at_depth 0 Between) bytes

-- The bytes are these requests, one behind the other, and then this rest.
abbrev pub AreRequests : (bytes : List ℕ) → List Request → (rest : List ℕ) → Type 0
AreRequests bytes [] rest = bytes ≡ rest
AreRequests bytes (r ∷ rs) rest = (first behind : List ℕ) × (bytes ≡ first ++ behind) × IsRequest first r × AreRequests behind rs rest

-- what the machine replies to requests one after the other, up to the first that is refused, or to `exit`
abbrev pub put_for_requests : Machine → List Request → List ℕ
put_for_requests m [] = []
put_for_requests m (r ∷ rs) = put_at (turn (asked r.odd m) r.expression) (λ next. put_for_requests next rs)

-- The bytes are requests, and what was put is what the machine replies to them. Behind the last stands white space and comments, or the
-- last is `exit`.
pub record IsAccepted (m : Machine) (bytes out : List ℕ) (last : Standing) : Type 0 where
  pub requests : List Request
  pub rest : List ℕ
  pub are : AreRequests bytes requests rest
  pub put : out ≡ put_for_requests m requests
  pub ends : Reads rest [] ⊎ (last ≡ Exited)

-- ---- the laws

-- What a stream puts for a text of commands is what the machine replies to them, up to where it stops.
pub record StreamsReply : Type 0 where
  -- what is put may be put, so that a link that gives nothing else is honest
  pub may_be : (sent out : List ℕ) (last : Standing) → TakesAll (Waiting first_course) sent out last → MayBePut sent out
  -- such a link, then, is honest
  pub honest : IsHonest MayBeHeard
  -- what is put are whole lines
  pub lines : (sent out : List ℕ) (last : Standing) → TakesAll (Waiting first_course) sent out last → HasWholeLines out
  -- where no error was put, it is what the machine replies to all commands, up to `exit`
  pub exactly : (sent out : List ℕ) (last : Standing) (commands : List Command) → TakesAll (Waiting first_course) sent out last →
      (last ≡ Stopped → ⊥)
      → Holds sent commands → out ≡ put_for new (map stated commands)
  -- where a stream ends with status 0, whatever its bytes are, it was put what the machine replies to the requests that they are
  pub accepted : (sent out : List ℕ) (last : Standing) → TakesAll (Waiting first_course) sent out last → status_at last ≡ 0 →
      IsAccepted new sent out last
