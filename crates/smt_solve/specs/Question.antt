-- What is asked of the solver of a link, and what comes of it.
use Rattle.std.specs.Prelude.{ℕ, ◌<◌, ◌≤◌, ◌≡◌, ◌≢◌, ◌⊎◌, ⊤, IsTrue, List, [], length, MatchBool, MatchResult, IfOk, IfSome, IfErr, IsErr}
use Rattle.std.specs.Prelude.{OnOk, is_some, Result}
use Rattle.std.specs.Io.KnownBytes.{append_known}
use Rattle.std.specs.Rc.{rc_str_bytes}
use Rattle.std.specs.Str.{IsUtf8}
use Rattle.smt_script.specs.CommandTexts.{check_sat_text}
use Rattle.smt_script.specs.Sink.{AppendsPart, Rose}
use Rattle.smt_solve.specs.Answers.{IsNoDecision, IsNoError, StripsTo, decision_word, end_message, error_line, is_parse_error, line_limit}
use Rattle.smt_solve.specs.Link.{HasNoLineFeed, IsAllowed, IsKilled, IsLine, IsOver, KeepsEnd, LinkState}
use Rattle.smt_solve.specs.declared.answer.Decision.{Decision}
use Rattle.smt_solve.specs.declared.error.SolverError.{SolverError}
use Rattle.smt_solve.specs.declared.error.SolverError.TheVariants.{Io, Solver, UnrecognizedSolverOutput, SolverMarkedFailed, AnswerTooLong}
use Rattle.smt_solve.specs.declared.error.SolverError.TheVariants.{Memory}
use Rattle.smt_solve.specs.declared.link.Ended.{Ended}
use Rattle.smt_solve.specs.declared.link.Ended.TheVariants.{Running, Killed}

-- Exactly this text was sent and exactly these bytes were read.
pub record Exchanges (old new : LinkState) (text bytes : List ℕ) : Type 0 where
  pub sent : new.sent ≡ append_known old.sent text
  pub was_read : new.was_read ≡ append_known old.was_read bytes
  pub later : old.faults ≤ new.faults

-- A first part of this text was sent, and some bytes were read.
pub record BeginsExchange (old new : LinkState) (text : List ℕ) : Type 0 where
  pub sent : AppendsPart old.sent new.sent text
  pub bytes : List ℕ
  pub was_read : new.was_read ≡ append_known old.was_read bytes
  pub later : old.faults ≤ new.faults

-- Nothing was sent or read, and nothing changed of what is to come.
pub record Leaves (old new : LinkState) : Type 0 where
  pub same_sent : new.sent ≡ old.sent
  pub same_read : new.was_read ≡ old.was_read
  pub same_to_come : new.to_come ≡ old.to_come
  pub later : old.faults ≤ new.faults

-- The solver was not killed, and where it has ended it stays as it ended.
pub record Spares (old new : LinkState) : Type 0 where
  pub same_killed : new.killed ≡ old.killed
  pub end : KeepsEnd old.ended new.ended

-- What is to come is told after a call exactly where it was told before.
abbrev pub TellsToComeAlike : (old new : LinkState) → Type 0
TellsToComeAlike old new = is_some new.to_come ≡ is_some old.to_come

-- No answer is to come any more, where that is told.
abbrev pub AnswersEnded : LinkState → Type 0
AnswersEnded s = IfSome s.to_come (λ left. left ≡ [])

-- The bytes are a line with its line feed, or what came before the end of the answers.
abbrev pub IsPiece : (new : LinkState) → List ℕ → Type 0
IsPiece new line = IsLine line ⊎ (HasNoLineFeed line × (length line < line_limit) × AnswersEnded new)

-- The bytes are not too long for a line: they are one, or fewer than are read at most.
abbrev pub IsNotLong : List ℕ → Type 0
IsNotLong line = IsLine line ⊎ (length line < line_limit)

-- This text was sent, and these bytes were read: one line, or what came before the end of the answers.
pub record IsReply (allows : List ℕ → List ℕ → List ℕ → Type 0) (old new : LinkState) (text line : List ℕ) : Type 0 where
  pub exchanged : Exchanges old new text line
  pub short : length line ≤ line_limit
  pub piece : IsPiece new line
  -- unless the answers ended without a byte, the link allows the line there
  pub allowed : line ≢ [] → IsAllowed allows new.sent old.was_read line

-- This text was sent, and one line was read, which says this, blanks at its ends aside, and which the link allows there. The
-- end of the answers counts as its line feed.
pub record Answers (allows : List ℕ → List ℕ → List ℕ → Type 0) (old new : LinkState) (text said : List ℕ) : Type 0 where
  pub line : List ℕ
  pub reply : IsReply allows old new text line
  pub allowed : IsAllowed allows new.sent old.was_read line
  pub says : StripsTo line said
  pub spared : Spares old new

-- As many bytes were read last as are read at most, and they are no line. The solver was not killed.
abbrev pub IsTooLong : (reads : List ℕ → Type 0) → (old new : LinkState) → Type 0
IsTooLong reads old new = (line : List ℕ) × reads line × HasNoLineFeed line × (length line ≡ line_limit) × Spares old new

-- The bytes that were read last are no text in UTF-8. The solver was not killed.
abbrev pub IsNoText : (reads : List ℕ → Type 0) → (old new : LinkState) → Type 0
IsNoText reads old new = (line : List ℕ) × reads line × IsNotLong line × (IsUtf8 line → ⊥) × Spares old new

-- The answers ended where a line was to begin, so that the solver was killed, and the message tells that.
abbrev pub EndsEarly : (reads : List ℕ → Type 0) → (old new : LinkState) → (message : List ℕ) → Type 0
EndsEarly reads old new message = reads [] × AnswersEnded new × (message ≡ end_message Killed) × IsKilled old new

-- The solver was killed exactly where the message says that it could not read what it was sent.
abbrev pub KillsFor : (message : List ℕ) → (old new : LinkState) → Type 0
KillsFor message old new = MatchBool (is_parse_error message) (IsKilled old new) (Spares old new)

-- The line that was read last tells of an error with this message.
abbrev pub TellsError : (judged : List ℕ → Type 0) → (old new : LinkState) → (message : List ℕ) → Type 0
TellsError judged old new message =
    (line : List ℕ) × judged line × IsNotLong line × StripsTo line (error_line message) × KillsFor message old new

-- The line that was read last says something that is not expected, and tells of no error. The solver was not killed.
abbrev pub SaysOther : (judged other : List ℕ → Type 0) → (old new : LinkState) → (said : List ℕ) → Type 0
SaysOther judged other old new said =
    (line : List ℕ) × judged line × IsNotLong line × (line ≢ []) × StripsTo line said × other said × IsNoError said × Spares old new

-- Why there is no answer, where `reads` says of bytes that they were read last, `judged` that they were read last as a line
-- that decides, and `other` of a text that it is not expected.
abbrev pub Refuses : (reads judged other : List ℕ → Type 0) → (old new : LinkState) → SolverError → Type 0
Refuses reads judged other old new Io = Rose old.faults new.faults ⊎ IsNoText reads old new
Refuses reads judged other old new (Solver message) =
    EndsEarly reads old new (rc_str_bytes message) ⊎ TellsError judged old new (rc_str_bytes message)
Refuses reads judged other old new (UnrecognizedSolverOutput message) = SaysOther judged other old new (rc_str_bytes message)
Refuses reads judged other old new SolverMarkedFailed = ⊥
Refuses reads judged other old new AnswerTooLong = IsTooLong reads old new
Refuses reads judged other old new Memory = ⊤

-- The bytes that were read are a reason to kill the solver: the answers ended behind them, or they say that the solver could
-- not read what it was sent.
abbrev pub CallsForKill : (begins : List ℕ → Type 0) → (new : LinkState) → (bytes : List ℕ) → Type 0
CallsForKill begins new bytes =
    (begins bytes × AnswersEnded new) ⊎ ((message : List ℕ) × StripsTo bytes (error_line message) × IsTrue (is_parse_error message))

-- The solver is killed only where all of this text was sent and what was read is a reason to kill it.
abbrev pub KillsOnly : (begins : List ℕ → Type 0) → (old new : LinkState) → (text : List ℕ) → Type 0
KillsOnly begins old new text =
    Spares old new ⊎ ((bytes : List ℕ) × Exchanges old new text bytes × CallsForKill begins new bytes × IsKilled old new)

-- There are no bytes.
abbrev pub IsNothing : List ℕ → Type 0
IsNothing bytes = bytes ≡ []

-- This holds of no bytes.
abbrev pub IsNever : List ℕ → Type 0
IsNever bytes = ⊥

-- The error of a call on a solver that had ended so: its message tells how, unless the link failed or there was no memory.
abbrev pub TellsEnd : (old new : LinkState) → Ended → SolverError → Type 0
TellsEnd old new how Io = Rose old.faults new.faults
TellsEnd old new how (Solver message) = rc_str_bytes message ≡ end_message how
TellsEnd old new how (UnrecognizedSolverOutput message) = ⊥
TellsEnd old new how SolverMarkedFailed = ⊥
TellsEnd old new how AnswerTooLong = ⊥
TellsEnd old new how Memory = ⊤

-- A solver that had ended is not asked: nothing is sent or read, and the error tells how it ended.
pub record IsNotAsked {T : Type 0} (old new : LinkState) (how : Ended) (result : Result T SolverError) : Type 0 where
  pub left : Leaves old new
  pub spared : Spares old new
  pub tells : MatchResult result (λ x. ⊥) (TellsEnd old new how)

-- The solver had ended, by what the link told, and this message tells how.
abbrev pub HadEnded : (old : LinkState) → (message : List ℕ) → Type 0
HadEnded old message = (how : Ended) × (how ≢ Running) × IfSome old.ended (λ told. told ≡ how) × (message ≡ end_message how)

-- The error of a solver that had ended, so that nothing was sent, read or killed; or the link failed to tell, or there was no
-- memory.
abbrev pub RefusesEnded : (old new : LinkState) → SolverError → Type 0
RefusesEnded old new Io = Rose old.faults new.faults
RefusesEnded old new (Solver message) = HadEnded old (rc_str_bytes message) × Leaves old new × Spares old new
RefusesEnded old new (UnrecognizedSolverOutput message) = ⊥
RefusesEnded old new SolverMarkedFailed = ⊥
RefusesEnded old new AnswerTooLong = ⊥
RefusesEnded old new Memory = ⊤

-- A call asks a solver for a decision: it is sent `(check-sat)`, and answers by one line (SMT-LIB 2.7, chapter 4).
pub record AsksDecision (allows : List ℕ → List ℕ → List ℕ → Type 0) (old new : LinkState) (result : Result Decision SolverError) :
    Type 0 where
  pub ok : IfOk result (λ decision. Answers allows old new check_sat_text (decision_word decision))
  pub err :
      IfErr result
      (λ e. RefusesEnded old new e ⊎ Refuses (Exchanges old new check_sat_text) (Exchanges old new check_sat_text) IsNoDecision old new e)
  -- a solver that had ended is not asked
  pub ended : IfSome old.ended (λ how. how ≢ Running → IsNotAsked old new how result)
  pub begun : BeginsExchange old new check_sat_text
  pub kills : KillsOnly IsNothing old new check_sat_text
  -- what is to come is told after an answer exactly where it was told before
  pub told : IfOk result (λ decision. TellsToComeAlike old new)
  -- a link whose answers ended inside a line answers nothing more
  pub over : IsOver old → IsErr result × IsOver new

-- ---- the steps of a question for a decision

-- A step asks whether the solver runs: Ok says that it does, as far as that is told.
pub record AsksRunning {T : Type 0} (old new : LinkState) (result : Result T SolverError) : Type 0 where
  pub ok : OnOk result (IfSome old.ended (λ told. told ≡ Running))
  pub err : IfErr result (RefusesEnded old new)
  pub ended : IfSome old.ended (λ how. IfErr result (TellsEnd old new how))
  pub left : Leaves old new
  pub spared : Spares old new

-- A step asks a solver that runs for a decision.
pub record AsksRunner (allows : List ℕ → List ℕ → List ℕ → Type 0) (old new : LinkState) (result : Result Decision SolverError) :
    Type 0 where
  pub ok : IfOk result (λ decision. Answers allows old new check_sat_text (decision_word decision))
  pub err : IfErr result (Refuses (Exchanges old new check_sat_text) (Exchanges old new check_sat_text) IsNoDecision old new)
  pub begun : BeginsExchange old new check_sat_text
  pub kills : KillsOnly IsNothing old new check_sat_text
  pub told : IfOk result (λ decision. TellsToComeAlike old new)
  pub over : IsOver old → IsErr result × IsOver new

-- The error is one that only the link gives: it failed, or there was no memory.
abbrev pub FailsToSend : (old new : LinkState) → SolverError → Type 0
FailsToSend old new Io = Rose old.faults new.faults
FailsToSend old new (Solver message) = ⊥
FailsToSend old new (UnrecognizedSolverOutput message) = ⊥
FailsToSend old new SolverMarkedFailed = ⊥
FailsToSend old new AnswerTooLong = ⊥
FailsToSend old new Memory = ⊤

-- A step sends this command and hands it on to the solver.
pub record SendsCommand {T : Type 0} (old new : LinkState) (text : List ℕ) (result : Result T SolverError) : Type 0 where
  pub ok : OnOk result (Exchanges old new text [])
  pub err : IfErr result (FailsToSend old new)
  pub begun : BeginsExchange old new text
  pub spared : Spares old new
  -- what is to come may change, and is told where it was
  pub told : TellsToComeAlike old new
  -- nothing more is to come where the answers ended inside a line
  pub over : IsOver old → IsOver new

-- A step kills the solver of a link: with Ok it is killed always, and with an error maybe.
pub record KillsLink {T : Type 0} (old new : LinkState) (result : Result T SolverError) : Type 0 where
  pub ok : OnOk result (IsKilled old new)
  pub err : IfErr result (λ e. FailsToSend old new e × (IsKilled old new ⊎ Spares old new))
  pub left : Leaves old new

-- A step reads a line, which has no byte where the answers have ended.
pub record ReadsReply {T : Type 0} (allows : List ℕ → List ℕ → List ℕ → Type 0) (old new : LinkState) (line : T → List ℕ)
    (result : Result T SolverError) : Type 0 where
  pub ok : IfOk result (λ x. IsReply allows old new [] (line x))
  pub err : IfErr result (Refuses (Exchanges old new []) IsNever IsNever old new)
  pub begun : BeginsExchange old new []
  pub spared : Spares old new
  pub told : TellsToComeAlike old new
  pub over : IsOver old → IfOk result (λ x. line x ≡ []) × IsOver new

-- Why a line that was read is refused, where `other` says of a text that it is not expected.
abbrev pub RefusesLine : (other : List ℕ → Type 0) → (line : List ℕ) → (old new : LinkState) → SolverError → Type 0
RefusesLine other line old new Io = Rose old.faults new.faults ⊎ ((IsUtf8 line → ⊥) × Spares old new)
RefusesLine other line old new (Solver message) = ((line ≡ []) × (rc_str_bytes message ≡ end_message Killed) × IsKilled old new)
    ⊎ (StripsTo line (error_line (rc_str_bytes message)) × KillsFor (rc_str_bytes message) old new)
RefusesLine other line old new (UnrecognizedSolverOutput message) =
    (line ≢ []) × StripsTo line (rc_str_bytes message) × other (rc_str_bytes message) × IsNoError (rc_str_bytes message) × Spares old new
RefusesLine other line old new SolverMarkedFailed = ⊥
RefusesLine other line old new AnswerTooLong = ⊥
RefusesLine other line old new Memory = ⊤

-- The solver is killed only for a line that has no byte, or that says that the solver could not read what it was sent.
abbrev pub KillsForLine : (line : List ℕ) → (old new : LinkState) → Type 0
KillsForLine line old new =
    Spares old new
    ⊎ (((line ≡ []) ⊎ ((message : List ℕ) × StripsTo line (error_line message) × IsTrue (is_parse_error message))) × IsKilled old new)

-- The error by which a line that was read is refused. Nothing more is sent or read for it.
pub record GivesRefusal (other : List ℕ → Type 0) (line : List ℕ) (old new : LinkState) (e : SolverError) : Type 0 where
  pub why : RefusesLine other line old new e
  pub left : Leaves old new
  pub kills : KillsForLine line old new

-- A step judges a line that was read: Ok gives what is good, and an error says why the line is refused.
pub record JudgesLine {T : Type 0} (good : T → Type 0) (other : List ℕ → Type 0) (line : List ℕ) (old new : LinkState)
    (result : Result T SolverError) : Type 0 where
  pub ok : IfOk result (λ x. good x × Spares old new × Leaves old new)
  pub err : IfErr result (GivesRefusal other line old new)

-- The error of the text of a line that is refused: it tells of the message, where the text is an error line, and else of the
-- text; or the link failed, the text is not in UTF-8, or there was no memory.
abbrev pub TellsText : (text : List ℕ) → (old new : LinkState) → SolverError → Type 0
TellsText text old new Io = Rose old.faults new.faults ⊎ ((IsUtf8 text → ⊥) × Spares old new)
TellsText text old new (Solver message) = (text ≡ error_line (rc_str_bytes message)) × KillsFor (rc_str_bytes message) old new
TellsText text old new (UnrecognizedSolverOutput message) = (text ≡ rc_str_bytes message) × IsNoError text × Spares old new
TellsText text old new SolverMarkedFailed = ⊥
TellsText text old new AnswerTooLong = ⊥
TellsText text old new Memory = ⊤

-- The text of a line is refused by an error that tells of it, and the solver is killed only where the text says that it could
-- not read what it was sent.
pub record RefusesText (text : List ℕ) (old new : LinkState) (e : SolverError) : Type 0 where
  pub why : TellsText text old new e
  pub left : Leaves old new
  pub kills : Spares old new ⊎ (((message : List ℕ) × (text ≡ error_line message) × IsTrue (is_parse_error message)) × IsKilled old new)

-- The error tells how the solver has ended, or there was no memory for it.
abbrev pub IsEndError : Ended → SolverError → Type 0
IsEndError how Io = ⊥
IsEndError how (Solver message) = rc_str_bytes message ≡ end_message how
IsEndError how (UnrecognizedSolverOutput message) = ⊥
IsEndError how SolverMarkedFailed = ⊥
IsEndError how AnswerTooLong = ⊥
IsEndError how Memory = ⊤

-- The error that tells that the answers have ended, for which the solver was killed; or the link failed, or there was no
-- memory.
abbrev pub TellsKilled : (old new : LinkState) → SolverError → Type 0
TellsKilled old new Io = Rose old.faults new.faults
TellsKilled old new (Solver message) = (rc_str_bytes message ≡ end_message Killed) × IsKilled old new
TellsKilled old new (UnrecognizedSolverOutput message) = ⊥
TellsKilled old new SolverMarkedFailed = ⊥
TellsKilled old new AnswerTooLong = ⊥
TellsKilled old new Memory = ⊤

-- The answers have ended, so that the solver is killed, and the error tells that.
pub record EndsAnswers (old new : LinkState) (e : SolverError) : Type 0 where
  pub why : TellsKilled old new e
  pub left : Leaves old new
  pub kills : IsKilled old new ⊎ Spares old new

-- The error that tells of the message of an error line, before which the solver is killed where it could not read; or the link
-- failed, the message is not in UTF-8, or there was no memory.
abbrev pub TellsMessageAs : (message : List ℕ) → (old new : LinkState) → SolverError → Type 0
TellsMessageAs message old new Io = Rose old.faults new.faults ⊎ ((IsUtf8 message → ⊥) × Spares old new)
TellsMessageAs message old new (Solver told) = (rc_str_bytes told ≡ message) × KillsFor message old new
TellsMessageAs message old new (UnrecognizedSolverOutput told) = ⊥
TellsMessageAs message old new SolverMarkedFailed = ⊥
TellsMessageAs message old new AnswerTooLong = ⊥
TellsMessageAs message old new Memory = ⊤

-- The error tells of the message of an error line, and the solver is killed only where the message says that it could not read
-- what it was sent.
pub record TellsMessage (message : List ℕ) (old new : LinkState) (e : SolverError) : Type 0 where
  pub why : TellsMessageAs message old new e
  pub left : Leaves old new
  pub kills : Spares old new ⊎ (IsTrue (is_parse_error message) × IsKilled old new)

-- The error tells of a text that is no error line, or the text is not in UTF-8, or there was no memory.
abbrev pub TellsOther : (text : List ℕ) → SolverError → Type 0
TellsOther text Io = IsUtf8 text → ⊥
TellsOther text (Solver told) = ⊥
TellsOther text (UnrecognizedSolverOutput told) = rc_str_bytes told ≡ text
TellsOther text SolverMarkedFailed = ⊥
TellsOther text AnswerTooLong = ⊥
TellsOther text Memory = ⊤
