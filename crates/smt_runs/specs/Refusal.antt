-- What is said of a refusal of a program that reads a job, and which refusal an error becomes.
use Rattle.std.specs.Prelude.{ℕ, List, codes}
use Rattle.smt_script.specs.declared.input.InputError.{InputError}
use Rattle.smt_script.specs.declared.input.InputError.TheVariants.{Fault as InputFault, TooLarge as InputTooLarge, Memory as InputWant}
use Rattle.smt_job_terms.specs.declared.error.JobError.{JobError}
use Rattle.smt_job_terms.specs.declared.error.JobError.TheVariants.{TooLarge as JobTooLarge, Parse as JobParse, TooDeep as JobTooDeep}
use Rattle.smt_job_terms.specs.declared.error.JobError.TheVariants.{BadForm as JobBadForm, UnknownName as JobUnknownName}
use Rattle.smt_job_terms.specs.declared.error.JobError.TheVariants.{DuplicateName as JobDuplicateName, BadType as JobBadType}
use Rattle.smt_job_terms.specs.declared.error.JobError.TheVariants.{BadWidth as JobBadWidth, BadLiteral as JobBadLiteral}
use Rattle.smt_job_terms.specs.declared.error.JobError.TheVariants.{IllTyped as JobIllTyped, NotBool as JobNotBool}
use Rattle.smt_job_terms.specs.declared.error.JobError.TheVariants.{Unbalanced as JobUnbalanced, Memory as JobWant}
use Rattle.smt_encode.specs.declared.error.EncodeError.{EncodeError}
use Rattle.smt_encode.specs.declared.error.EncodeError.TheVariants.{Io as SinkFails, Memory as EncodeWant, NoScope as NoLevel}
use Rattle.smt_encode.specs.declared.error.EncodeError.TheVariants.{Spent as IsSpent, EmptyEnum as EnumRefused}
use Rattle.smt_encode.specs.declared.error.EncodeError.TheVariants.{EncodeStringFailed as StringRefused}
use Rattle.smt_encode.specs.declared.error.EncodeError.TheVariants.{EncodePatternFailed as PatternRefused}
use Rattle.smt_encode.specs.declared.error.EncodeError.TheVariants.{EnumMissingMember as EntityRefused, ExpectRecord as NoRecordRefused}
use Rattle.smt_encode.specs.declared.error.EncodeError.TheVariants.{MalformedRecordGet as NoOperandRefused}
use Rattle.smt_encode.specs.declared.error.EncodeError.TheVariants.{MissingTypeEncoding as TypeRefused}
use Rattle.smt_encode.specs.declared.error.EncodeError.TheVariants.{RecordMissingAttr as AttributeRefused, BitVecError as BitsRefused}
use Rattle.smt_script.specs.declared.sink.SinkError.{SinkError}
use Rattle.smt_script.specs.declared.sink.SinkError.TheVariants.{Fault as SinkFault, Memory as SinkWant}
use Rattle.smt_pool.specs.declared.check_error.CheckError.{CheckError}
use Rattle.smt_pool.specs.declared.check_error.CheckError.TheVariants.{Start as NoStart, Session as NoSession, Memory as CheckWant}
use Rattle.smt_runs.specs.declared.refusal.EncodeRefusal.{EncodeRefusal}
use Rattle.smt_runs.specs.declared.refusal.EncodeRefusal.TheVariants.{EmptyEnum, EncodeStringFailed, EncodePatternFailed, EnumMissingMember}
use Rattle.smt_runs.specs.declared.refusal.EncodeRefusal.TheVariants.{ExpectRecord, MalformedRecordGet, MissingTypeEncoding}
use Rattle.smt_runs.specs.declared.refusal.EncodeRefusal.TheVariants.{RecordMissingAttr}
use Rattle.smt_runs.specs.declared.refusal.JobRefusal.{JobRefusal}
use Rattle.smt_runs.specs.declared.refusal.JobRefusal.TheVariants.{TooLarge, Parse, TooDeep, BadForm, UnknownName, DuplicateName, BadType}
use Rattle.smt_runs.specs.declared.refusal.JobRefusal.TheVariants.{BadWidth, BadLiteral, IllTyped, NotBool, Unbalanced}
use Rattle.smt_runs.specs.declared.refusal.BlastRefusal.{BlastRefusal}
use Rattle.smt_runs.specs.declared.refusal.BlastRefusal.TheVariants.{Unsupported, UnsupportedType}
use Rattle.smt_runs.specs.declared.refusal.InputRefusal.{InputRefusal}
use Rattle.smt_runs.specs.declared.refusal.InputRefusal.TheVariants as input
use Rattle.smt_runs.specs.declared.refusal.Refusal.{Refusal}
use Rattle.smt_runs.specs.declared.refusal.Refusal.TheVariants.{Job, Input, NotTwo, Encode, Blast, Source, Sink, Start, Session, Memory}
use Rattle.smt_pool.specs.declared.check_error.SessionFault.{SessionFault}
use Rattle.smt_pool.specs.declared.check_error.SessionFault.TheVariants.{Io, Solver, UnrecognizedSolverOutput, AnswerTooLong}

-- ---- what is said

-- the status with which a run ends that is refused so
abbrev pub status_of : Refusal → ℕ
status_of (Job why) = 3
status_of (Input why) = 3
status_of NotTwo = 3
status_of (Encode why) = 4
status_of Source = 5
status_of Sink = 6
status_of Memory = 7
status_of (Session kind) = 8
status_of Start = 9
status_of (Blast why) = 10

-- the line that says why bytes are no job
abbrev pub job_line : JobRefusal → List ℕ
job_line TooLarge = codes "job refused: TooLarge\n"
job_line Parse = codes "job refused: Parse\n"
job_line TooDeep = codes "job refused: TooDeep\n"
job_line BadForm = codes "job refused: BadForm\n"
job_line UnknownName = codes "job refused: UnknownName\n"
job_line DuplicateName = codes "job refused: DuplicateName\n"
job_line BadType = codes "job refused: BadType\n"
job_line BadWidth = codes "job refused: BadWidth\n"
job_line BadLiteral = codes "job refused: BadLiteral\n"
job_line IllTyped = codes "job refused: IllTyped\n"
job_line NotBool = codes "job refused: NotBool\n"
job_line Unbalanced = codes "job refused: Unbalanced\n"

-- the line that says why a term has no script
abbrev pub encode_line : EncodeRefusal → List ℕ
encode_line EnumMissingMember = codes "encode refused: EnumMissingMember\n"
encode_line EncodeStringFailed = codes "encode refused: EncodeStringFailed\n"
encode_line EncodePatternFailed = codes "encode refused: EncodePatternFailed\n"
encode_line EmptyEnum = codes "encode refused: EmptyEnum\n"
encode_line MalformedRecordGet = codes "encode refused: MalformedRecordGet\n"
encode_line MissingTypeEncoding = codes "encode refused: MissingTypeEncoding\n"
encode_line ExpectRecord = codes "encode refused: ExpectRecord\n"
encode_line RecordMissingAttr = codes "encode refused: RecordMissingAttr\n"

-- the line that says why bytes are no job with an assignment
abbrev pub input_line : InputRefusal → List ℕ
input_line input.TooLarge = codes "eval refused: TooLarge\n"
input_line input.Parse = codes "eval refused: Parse\n"
input_line input.TooDeep = codes "eval refused: TooDeep\n"
input_line input.BadForm = codes "eval refused: BadForm\n"
input_line input.Job = codes "eval refused: Job\n"
input_line input.UnknownName = codes "eval refused: UnknownName\n"
input_line input.DuplicateName = codes "eval refused: DuplicateName\n"
input_line input.NotValue = codes "eval refused: NotValue\n"
input_line input.Missing = codes "eval refused: Missing\n"

-- the line that says why terms have no circuits
abbrev pub blast_line : BlastRefusal → List ℕ
blast_line Unsupported = codes "blast refused: Unsupported\n"
blast_line UnsupportedType = codes "blast refused: UnsupportedType\n"

-- the line that says why a session failed
abbrev pub session_line : SessionFault → List ℕ
session_line Io = codes "session fault: Io\n"
session_line Solver = codes "session fault: Solver\n"
session_line UnrecognizedSolverOutput = codes "session fault: UnrecognizedSolverOutput\n"
session_line AnswerTooLong = codes "session fault: AnswerTooLong\n"

-- the line that says a refusal
abbrev pub line_of : Refusal → List ℕ
line_of (Job why) = job_line why
line_of (Input why) = input_line why
line_of NotTwo = codes "job refused: NotTwo\n"
line_of (Encode why) = encode_line why
line_of (Blast why) = blast_line why
line_of Source = codes "source fault\n"
line_of Sink = codes "sink fault\n"
line_of Start = codes "no start\n"
line_of (Session kind) = session_line kind
line_of Memory = codes "memory\n"

-- ---- which refusal an error becomes

-- why no job is read, where its bytes were not
abbrev pub input_refusal : InputError → Refusal
input_refusal InputTooLarge = Job TooLarge
input_refusal InputFault = Source
input_refusal InputWant = Memory

-- why no job is read, by the error of the reader of jobs
abbrev pub job_refusal : JobError → Refusal
job_refusal JobTooLarge = Job TooLarge
job_refusal (JobParse fault) = Job Parse
job_refusal JobTooDeep = Job TooDeep
job_refusal JobBadForm = Job BadForm
job_refusal (JobUnknownName text) = Job UnknownName
job_refusal (JobDuplicateName text) = Job DuplicateName
job_refusal JobBadType = Job BadType
job_refusal JobBadWidth = Job BadWidth
job_refusal (JobBadLiteral text) = Job BadLiteral
job_refusal JobIllTyped = Job IllTyped
job_refusal JobNotBool = Job NotBool
job_refusal JobUnbalanced = Job Unbalanced
job_refusal JobWant = Memory

-- Why a script is not printed, by the error of its encoder. The last three never come of a new encoder that closes open levels alone.
abbrev pub refusal_of : EncodeError → Refusal
refusal_of SinkFails = Sink
refusal_of (EntityRefused e) = Encode EnumMissingMember
refusal_of (StringRefused text) = Encode EncodeStringFailed
refusal_of (PatternRefused p) = Encode EncodePatternFailed
refusal_of (EnumRefused ety) = Encode EmptyEnum
refusal_of NoOperandRefused = Encode MalformedRecordGet
refusal_of (TypeRefused ty) = Encode MissingTypeEncoding
refusal_of (NoRecordRefused ty) = Encode ExpectRecord
refusal_of (AttributeRefused name) = Encode RecordMissingAttr
refusal_of EncodeWant = Memory
refusal_of IsSpent = Memory
refusal_of NoLevel = Memory
refusal_of (BitsRefused why) = Memory

-- why a solver is not asked, by the error of a check
abbrev pub check_refusal : CheckError → Refusal
check_refusal NoStart = Start
check_refusal (NoSession kind) = Session kind
check_refusal CheckWant = Memory

-- why a text was not put
abbrev pub sink_refusal : SinkError → Refusal
sink_refusal SinkFault = Sink
sink_refusal SinkWant = Memory
