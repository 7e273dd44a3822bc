-- Which refusal of a run an error of a review becomes.
use Rattle.smt_encode.specs.declared.error.EncodeError.{EncodeError}
use Rattle.smt_encode.specs.declared.error.EncodeError.TheVariants.{EmptyEnum as EnumRefused, EncodeStringFailed as StringRefused}
use Rattle.smt_encode.specs.declared.error.EncodeError.TheVariants.{EncodePatternFailed as PatternRefused}
use Rattle.smt_encode.specs.declared.error.EncodeError.TheVariants.{EnumMissingMember as EntityRefused}
use Rattle.smt_pool.specs.declared.check_error.SessionFault.TheVariants.{Io, Solver, UnrecognizedSolverOutput, AnswerTooLong}
use Rattle.smt_runs.specs.declared.refusal.EncodeRefusal.TheVariants.{EmptyEnum, EncodeStringFailed, EncodePatternFailed, EnumMissingMember}
use Rattle.smt_runs.specs.declared.refusal.Refusal.{Refusal}
use Rattle.smt_runs.specs.declared.refusal.Refusal.TheVariants.{Encode, Start, Session, Memory}
use Rattle.smt_solve.specs.declared.error.SolverError.{SolverError}
use Rattle.smt_solve.specs.declared.error.SolverError.TheVariants.{Io as IoError, Solver as SolverSays}
use Rattle.smt_solve.specs.declared.error.SolverError.TheVariants.{UnrecognizedSolverOutput as OtherOutput, SolverMarkedFailed}
use Rattle.smt_solve.specs.declared.error.SolverError.TheVariants.{AnswerTooLong as TooLongAnswer, Memory as SolverWant}
use Rattle.smt_review.specs.declared.error.ReviewError.{ReviewError}
use Rattle.smt_review.specs.declared.error.ReviewError.TheVariants.{Encode as ReviewEncode, Pool as ReviewPool, Solver as ReviewSolver}
use Rattle.smt_review.specs.declared.error.ReviewError.TheVariants.{Memory as ReviewWant}

-- The refusal of a run, where a difference was not written. A difference of typed terms, a new encoder and a sink in memory give no other
-- error than the first four, but for want of memory.
abbrev pub encode_kind : EncodeError → Refusal
encode_kind (EntityRefused e) = Encode EnumMissingMember
encode_kind (StringRefused text) = Encode EncodeStringFailed
encode_kind (PatternRefused p) = Encode EncodePatternFailed
encode_kind (EnumRefused ety) = Encode EmptyEnum
encode_kind e = Memory

-- the refusal of a run, where a session failed that had not failed before
abbrev pub session_kind : SolverError → Refusal
session_kind IoError = Session Io
session_kind (SolverSays message) = Session Solver
session_kind (OtherOutput text) = Session UnrecognizedSolverOutput
session_kind TooLongAnswer = Session AnswerTooLong
session_kind SolverMarkedFailed = Memory
session_kind SolverWant = Memory

-- the refusal of a run, where nothing was found
abbrev pub review_refusal : ReviewError → Refusal
review_refusal (ReviewEncode e) = encode_kind e
review_refusal (ReviewPool e) = Start
review_refusal (ReviewSolver e) = session_kind e
review_refusal ReviewWant = Memory
