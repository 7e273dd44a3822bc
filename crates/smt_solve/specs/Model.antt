-- The model that a solver gives, and what comes of the question for it.
use Rattle.std.specs.Prelude.{ℕ, ◌<◌, ◌≤◌, ◌≡◌, ◌≢◌, ◌⊎◌, ⊤, Bool, List, [], ◌∷◌, ◌++◌, length, IfOk, IfErr, OnOk, Option, MatchBool}
use Rattle.std.specs.Prelude.{Result, Ok, Err}
use Rattle.std.specs.List.{AllByRecursion, concat}
use Rattle.std.specs.Io.KnownBytes.{append_known}
use Rattle.std.specs.Rc.{rc_str_bytes}
use Rattle.std.specs.Str.{IsUtf8}
use Rattle.smt_script.specs.CommandTexts.{get_model_text}
use Rattle.smt_solve.specs.Answers.{StripsTo, closing, end_message, line_limit, model_limit, opening}
use Rattle.smt_solve.specs.Link.{HasNoLineFeed, IsAllowed, IsKilled, IsLine, LinkState}
use Rattle.smt_solve.specs.Question.{AnswersEnded, AsksDecision, BeginsExchange, Exchanges, GivesRefusal, IsNever, IsNothing, KillsOnly}
use Rattle.smt_solve.specs.Question.{Leaves, Refuses, Spares}
use Rattle.smt_solve.specs.declared.answer.Decision.{Decision}
use Rattle.smt_solve.specs.declared.answer.Decision.TheVariants.{Sat, Unsat, Unknown}
use Rattle.smt_solve.specs.declared.answer.DecisionWithModel.{DecisionWithModel}
use Rattle.smt_solve.specs.declared.answer.DecisionWithModel.TheVariants.{Unsat as UnsatWith, Unknown as UnknownWith, Sat as SatWith}
use Rattle.smt_script.specs.Sink.{Rose}
use Rattle.smt_solve.specs.declared.link.Ended.TheVariants.{Killed}
use Rattle.smt_solve.specs.declared.error.SolverError.{SolverError}
use Rattle.smt_solve.specs.declared.error.SolverError.TheVariants.{Io, Solver, UnrecognizedSolverOutput, SolverMarkedFailed, AnswerTooLong}
use Rattle.smt_solve.specs.declared.error.SolverError.TheVariants.{Memory}

-- The bytes are a line inside a model: there are some, and without the blanks at its ends the line is not `)`.
abbrev pub IsInner : List ℕ → Type 0
IsInner line = (line ≢ []) × (said : List ℕ) × StripsTo line said × (said ≢ closing)

-- All of these are lines inside a model.
abbrev pub AreInner : List (List ℕ) → Type 0
AreInner lines = AllByRecursion IsInner lines

-- The link allows these bytes behind what was sent and read. They are a line with its line feed, or what came before the end of
-- the answers, and are not too long.
abbrev pub IsPieceAt : (allows : List ℕ → List ℕ → List ℕ → Type 0) → (sent was_read : Option (List ℕ)) → List ℕ → Type 0
IsPieceAt allows sent was_read line =
    IsAllowed allows sent was_read line × (length line ≤ line_limit) × (IsLine line ⊎ (HasNoLineFeed line × (length line < line_limit)))

-- Each of these lines is one that the link allows behind what was sent, what was read, and the lines before it.
abbrev pub ArePieces : (allows : List ℕ → List ℕ → List ℕ → Type 0) → (sent was_read : Option (List ℕ)) → List (List ℕ) → Type 0
ArePieces allows sent was_read [] = ⊤
ArePieces allows sent was_read (line ∷ lines) =
    IsPieceAt allows sent was_read line × ArePieces allows sent (append_known was_read line) lines

-- The bytes are a model, in the lines by which cvc5 answers `(get-model)` (SMT-LIB 2.7, chapter 4): the line `(`, lines none of
-- which is `)`, and the line `)`, each of which the link allows where it is read.
pub record IsModel (allows : List ℕ → List ℕ → List ℕ → Type 0) (sent was_read : Option (List ℕ)) (bytes : List ℕ) : Type 0 where
  pub first : List ℕ
  pub inner : List (List ℕ)
  pub last : List ℕ
  pub whole : bytes ≡ first ++ concat (inner ++ last ∷ [])
  pub opens : StripsTo first opening
  pub between : AreInner inner
  pub closes : StripsTo last closing
  pub pieces : ArePieces allows sent was_read (first ∷ (inner ++ last ∷ []))
  pub short : length bytes ≤ model_limit

-- The bytes are how a model begins: nothing, or the line `(` and lines none of which is `)`.
abbrev pub BeginsModel : List ℕ → Type 0
BeginsModel bytes =
    (bytes ≡ []) ⊎ ((first : List ℕ) × (inner : List (List ℕ)) × (bytes ≡ first ++ concat inner) × StripsTo first opening × AreInner inner)

-- `(get-model)` was sent, and these bytes were read last, behind how a model begins.
abbrev pub ReadsInModel : (old new : LinkState) → List ℕ → Type 0
ReadsInModel old new line = (before : List ℕ) × BeginsModel before × Exchanges old new get_model_text (before ++ line)

-- The error is that the bytes which were read, from the first line of the model, are more than a model has at most.
abbrev pub IsPastModel : (old new : LinkState) → SolverError → Type 0
IsPastModel old new e =
    (e ≡ AnswerTooLong) × (before : List ℕ) × (line : List ℕ) × BeginsModel before × Exchanges old new get_model_text (before ++ line)
    × (model_limit < length (before ++ line)) × Spares old new

-- The text is not `(`.
abbrev pub IsNotOpening : List ℕ → Type 0
IsNotOpening text = text ≢ opening

-- Why there is no model: a line was refused, or the model is too long.
abbrev pub RefusesModel : (old new : LinkState) → SolverError → Type 0
RefusesModel old new e = Refuses (ReadsInModel old new) (Exchanges old new get_model_text) IsNotOpening old new e ⊎ IsPastModel old new e

-- `(get-model)` is sent and this model is read. No other byte is sent or read, and the solver is not killed.
pub record GivesModel (allows : List ℕ → List ℕ → List ℕ → Type 0) (old new : LinkState) (model : List ℕ) : Type 0 where
  pub exchanged : Exchanges old new get_model_text model
  pub is_model : IsModel allows new.sent old.was_read model
  pub spared : Spares old new

-- A call asks for the model of a solver: Ok gives it, and an error says why there is none.
pub record AsksModel {T : Type 0} (allows : List ℕ → List ℕ → List ℕ → Type 0) (old new : LinkState) (model : T → List ℕ)
    (result : Result T SolverError) : Type 0 where
  pub ok : IfOk result (λ x. GivesModel allows old new (model x))
  pub err : IfErr result (RefusesModel old new)
  pub begun : BeginsExchange old new get_model_text
  pub kills : KillsOnly BeginsModel old new get_model_text

-- The answer with a model is that of the question for a decision, which is not `sat`.
abbrev pub IsDecidedAs : Result Decision SolverError → Result DecisionWithModel SolverError → Type 0
IsDecidedAs (Ok Sat) result = ⊥
IsDecidedAs (Ok Unsat) result = result ≡ Ok UnsatWith
IsDecidedAs (Ok Unknown) result = result ≡ Ok UnknownWith
IsDecidedAs (Err e) result = result ≡ Err e

-- The answer has the model that was asked for behind `sat`, or is the error that says why there is none.
abbrev pub IsModelOf : (allows : List ℕ → List ℕ → List ℕ → Type 0) → (old new : LinkState) → Result DecisionWithModel SolverError → Type 0
IsModelOf allows old new (Ok (SatWith model)) = GivesModel allows old new (rc_str_bytes model)
IsModelOf allows old new (Ok UnsatWith) = ⊥
IsModelOf allows old new (Ok UnknownWith) = ⊥
IsModelOf allows old new (Err e) = RefusesModel old new e

-- The model is asked for behind `sat`.
pub record GoesForModel (allows : List ℕ → List ℕ → List ℕ → Type 0) (old new : LinkState) (result : Result DecisionWithModel SolverError) :
    Type 0 where
  pub gives : IsModelOf allows old new result
  pub begun : BeginsExchange old new get_model_text
  pub kills : KillsOnly BeginsModel old new get_model_text

-- A call asks for a decision, and behind `sat` for the model too.
abbrev pub AsksWithModel : (allows : List ℕ → List ℕ → List ℕ → Type 0) → (old new : LinkState) → Result DecisionWithModel SolverError →
    Type 0
AsksWithModel allows old new result =
    ((decided : Result Decision SolverError) × AsksDecision allows old new decided × IsDecidedAs decided result)
    ⊎ ((between : LinkState) × AsksDecision allows old between (Ok Sat) × GoesForModel allows between new result)

-- ---- the steps of the question for a model

-- Why a line is not appended to a model, which would have the bytes `after` with it.
abbrev pub RefusesPush : (line after : List ℕ) → SolverError → Type 0
RefusesPush line after Io = IsUtf8 line → ⊥
RefusesPush line after (Solver message) = ⊥
RefusesPush line after (UnrecognizedSolverOutput message) = ⊥
RefusesPush line after SolverMarkedFailed = ⊥
RefusesPush line after AnswerTooLong = model_limit < length after
RefusesPush line after Memory = ⊤

-- A step appends a line to a model, or refuses it.
pub record PushesLine {T : Type 0} (before after line : List ℕ) (result : Result T SolverError) : Type 0 where
  pub ok : OnOk result ((after ≡ before ++ line) × (length after ≤ model_limit))
  pub err : IfErr result (RefusesPush line (before ++ line))

-- A step reads the first line of a model, which is `(`.
pub record ReadsOpening {T : Type 0} (allows : List ℕ → List ℕ → List ℕ → Type 0) (old new : LinkState) (after : List ℕ)
    (result : Result T SolverError) : Type 0 where
  pub ok : OnOk result (Exchanges old new [] after × StripsTo after opening × IsPieceAt allows new.sent old.was_read after × Spares old new)
  pub err : IfErr result (Refuses (Exchanges old new []) (Exchanges old new []) IsNotOpening old new)
  pub begun : BeginsExchange old new []
  pub kills : KillsOnly IsNothing old new []

-- A further line of a model was read behind the bytes `before`, and `closes` says whether it is `)`.
pub record IsNextLine (allows : List ℕ → List ℕ → List ℕ → Type 0) (old new : LinkState) (before after : List ℕ) (closes : Bool) :
    Type 0 where
  pub line : List ℕ
  pub exchanged : Exchanges old new [] line
  pub appended : after ≡ before ++ line
  pub short : length after ≤ model_limit
  pub piece : IsPieceAt allows new.sent old.was_read line
  pub says : MatchBool closes (StripsTo line closing) (IsInner line)
  pub spared : Spares old new

-- The solver is killed only where all of this text was sent, and the answers ended behind bytes of which `begins` holds.
abbrev pub KillsAtEnd : (begins : List ℕ → Type 0) → (old new : LinkState) → (text : List ℕ) → Type 0
KillsAtEnd begins old new text =
    Spares old new ⊎ ((bytes : List ℕ) × Exchanges old new text bytes × begins bytes × AnswersEnded new × IsKilled old new)

-- The error is that the line which was read last makes the model too long.
abbrev pub IsPastLine : (old new : LinkState) → (before : List ℕ) → SolverError → Type 0
IsPastLine old new before e =
    (e ≡ AnswerTooLong) × (line : List ℕ) × Exchanges old new [] line × (model_limit < length (before ++ line)) × Spares old new

-- A step reads a further line of a model: Ok says whether it is `)`.
pub record ReadsNextLine (allows : List ℕ → List ℕ → List ℕ → Type 0) (old new : LinkState) (before after : List ℕ)
    (result : Result Bool SolverError) : Type 0 where
  pub ok : IfOk result (IsNextLine allows old new before after)
  pub err : IfErr result (λ e. Refuses (Exchanges old new []) IsNever IsNever old new e ⊎ IsPastLine old new before e)
  pub begun : BeginsExchange old new []
  pub kills : KillsAtEnd IsNothing old new []

-- The rest of a model was read behind the bytes `before`, up to its line `)`.
pub record IsRest (allows : List ℕ → List ℕ → List ℕ → Type 0) (old new : LinkState) (before after : List ℕ) : Type 0 where
  pub inner : List (List ℕ)
  pub last : List ℕ
  pub exchanged : Exchanges old new [] (concat (inner ++ last ∷ []))
  pub appended : after ≡ before ++ concat (inner ++ last ∷ [])
  pub short : length after ≤ model_limit
  pub between : AreInner inner
  pub closes : StripsTo last closing
  pub pieces : ArePieces allows new.sent old.was_read (inner ++ last ∷ [])
  pub spared : Spares old new

-- The bytes are how the rest of a model begins: lines none of which is `)`.
abbrev pub BeginsRest : List ℕ → Type 0
BeginsRest bytes = (inner : List (List ℕ)) × (bytes ≡ concat inner) × AreInner inner

-- These bytes were read last, behind how the rest of a model begins.
abbrev pub ReadsInRest : (old new : LinkState) → List ℕ → Type 0
ReadsInRest old new line = (inner : List ℕ) × BeginsRest inner × Exchanges old new [] (inner ++ line)

-- The error is that the line which was read last makes the model too long, behind how its rest begins.
abbrev pub IsPastRest : (old new : LinkState) → (before : List ℕ) → SolverError → Type 0
IsPastRest old new before e =
    (e ≡ AnswerTooLong) × (inner : List ℕ) × (line : List ℕ) × BeginsRest inner × Exchanges old new [] (inner ++ line)
    × (model_limit < length (before ++ (inner ++ line))) × Spares old new

-- A step reads all further lines of a model, up to its line `)`.
pub record ReadsRest {T : Type 0} (allows : List ℕ → List ℕ → List ℕ → Type 0) (old new : LinkState) (before after : List ℕ)
    (result : Result T SolverError) : Type 0 where
  pub ok : OnOk result (IsRest allows old new before after)
  pub err : IfErr result (λ e. Refuses (ReadsInRest old new) IsNever IsNever old new e ⊎ IsPastRest old new before e)
  pub begun : BeginsExchange old new []
  pub kills : KillsAtEnd BeginsRest old new []

-- A step asks for the model of a solver and reads it into these bytes.
pub record ReadsModel {T : Type 0} (allows : List ℕ → List ℕ → List ℕ → Type 0) (old new : LinkState) (after : List ℕ)
    (result : Result T SolverError) : Type 0 where
  pub ok : OnOk result (GivesModel allows old new after)
  pub err : IfErr result (RefusesModel old new)
  pub begun : BeginsExchange old new get_model_text
  pub kills : KillsOnly BeginsModel old new get_model_text

-- The error is that this line makes the model too long. Nothing more was sent or read, and the solver is not killed.
abbrev pub GivesPast : (line before : List ℕ) → (old new : LinkState) → SolverError → Type 0
GivesPast line before old new e = (e ≡ AnswerTooLong) × (model_limit < length (before ++ line)) × Spares old new × Leaves old new

-- A step takes a line that was read as the first line of a model, which is `(`.
pub record TakesOpening {T : Type 0} (line : List ℕ) (old new : LinkState) (after : List ℕ) (result : Result T SolverError) : Type 0 where
  pub ok : OnOk result ((after ≡ line) × StripsTo line opening × Spares old new × Leaves old new)
  pub err : IfErr result (λ e. GivesRefusal IsNotOpening line old new e ⊎ GivesPast line [] old new e)

-- Why a line that was read is not taken as a further line of a model.
abbrev pub RefusesNext : (line before : List ℕ) → (old new : LinkState) → SolverError → Type 0
RefusesNext line before old new Io = Rose old.faults new.faults ⊎ ((IsUtf8 line → ⊥) × Spares old new)
RefusesNext line before old new (Solver message) = (line ≡ []) × (rc_str_bytes message ≡ end_message Killed) × IsKilled old new
RefusesNext line before old new (UnrecognizedSolverOutput message) = ⊥
RefusesNext line before old new SolverMarkedFailed = ⊥
RefusesNext line before old new AnswerTooLong = (model_limit < length (before ++ line)) × Spares old new
RefusesNext line before old new Memory = ⊤

-- The error by which a line that was read is not taken as a further line of a model. The solver is killed only where there was
-- no line.
pub record GivesNextRefusal (line before : List ℕ) (old new : LinkState) (e : SolverError) : Type 0 where
  pub why : RefusesNext line before old new e
  pub left : Leaves old new
  pub kills : Spares old new ⊎ ((line ≡ []) × IsKilled old new)

-- A step takes a line that was read as a further line of a model: Ok says whether it is `)`.
pub record TakesLine (line : List ℕ) (old new : LinkState) (before after : List ℕ) (result : Result Bool SolverError) : Type 0 where
  pub ok :
      IfOk result (λ closes.
      (after ≡ before ++ line) × (length after ≤ model_limit) × (line ≢ []) × MatchBool closes (StripsTo line closing) (IsInner line)
      × Spares old new × Leaves old new)
  pub err : IfErr result (GivesNextRefusal line before old new)
