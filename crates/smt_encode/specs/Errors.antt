-- Errors of sinks, of texts and of selectors as errors of the encoder.
use Rattle.smt_script.specs.declared.sink.SinkError.{SinkError}
use Rattle.smt_script.specs.declared.sink.SinkError.TheVariants.{Fault, Memory as NoRoom}
use Rattle.smt_encode.specs.declared.error.EncodeError.{EncodeError}
use Rattle.smt_encode.specs.declared.error.EncodeError.TheVariants.{Io, EmptyEnum, EncodeStringFailed, EncodePatternFailed}
use Rattle.smt_encode.specs.declared.error.EncodeError.TheVariants.{EnumMissingMember, ExpectRecord, MalformedRecordGet, Memory}
use Rattle.smt_encode.specs.declared.error.EncodeError.TheVariants.{MissingTypeEncoding, RecordMissingAttr}
use Rattle.smt_spelling.specs.declared.error.TextError.{TextError}
use Rattle.smt_spelling.specs.declared.error.TextError.TheVariants.{MissingMember, StringFailed, PatternFailed, EmptyEnum as NoMembers}
use Rattle.smt_spelling.specs.declared.error.TextError.TheVariants.{Memory as NoMemory}
use Rattle.smt_spelling.specs.declared.selector_error.SelectorError.{SelectorError}
use Rattle.smt_spelling.specs.declared.selector_error.SelectorError.TheVariants.{Lacks, NoOperand, NoRecord, Unnamed, Memory as NoSpace}
use Rattle.smt_encode.specs.declared.error.WriteError.{WriteError}
use Rattle.smt_encode.specs.declared.error.WriteError.TheVariants.{Selector, Sink, Text}

-- the error of the encoder where a sink did not take a line
abbrev pub refusal_at : SinkError → EncodeError
refusal_at Fault = Io
refusal_at NoRoom = Memory

-- the error of the encoder where a term or a type has no text
abbrev pub refusal_of : TextError → EncodeError
refusal_of (MissingMember entity) = EnumMissingMember entity
refusal_of (StringFailed text) = EncodeStringFailed text
refusal_of (PatternFailed pattern) = EncodePatternFailed pattern
refusal_of (NoMembers ety) = EmptyEnum ety
refusal_of NoMemory = Memory

-- the error of the encoder where an attribute has no selector
abbrev pub refusal_from : SelectorError → EncodeError
refusal_from NoOperand = MalformedRecordGet
refusal_from (Unnamed ty) = MissingTypeEncoding ty
refusal_from (NoRecord ty) = ExpectRecord ty
refusal_from (Lacks attribute) = RecordMissingAttr attribute
refusal_from NoSpace = Memory

-- the error of the encoder where terms were not written
abbrev pub encode_error : WriteError → EncodeError
encode_error (Sink error) = refusal_at error
encode_error (Text error) = refusal_of error
encode_error (Selector error) = refusal_from error
