-- Which fault a refusal names, and when each answer comes.
use Rattle.std.specs.Prelude.{ℕ, ◌≡◌, Bool, false, IsErrOf, IsOkUnless, OnOk, Option, Some, None, Result}
use Rattle.std.specs.Rc.{rc_str_bytes}
use Rattle.std.specs.declared.alloc.Global.{Global}
use Rattle.std.specs.declared.rc.RcStr.{RcStr}
use Rattle.law_terms.specs.Faults.{Fault, EmptyEnum, EncodeStringFailed, EncodePatternFailed, EnumMissingMember, ExpectRecord}
use Rattle.law_terms.specs.Faults.{MalformedRecordGet, MissingTypeEncoding, RecordMissingAttr}
use Rattle.smt_script.specs.Sink.{Rose}
use Rattle.smt_term.specs.Entities.{bytes_of_id, bytes_of_type}
use Rattle.smt_term.specs.PatternView.{plain_ord_pattern}
use Rattle.smt_term.specs.declared.entity.EntityType.{EntityType}
use Rattle.smt_term.specs.declared.entity.EntityUID.{EntityUID}
use Rattle.smt_term.specs.declared.pattern.OrdPattern.{OrdPattern}
use Rattle.smt_spelling.specs.TextFaults.{text_fault}
use Rattle.smt_bits.specs.declared.error.BitVecError.{BitVecError}
use Rattle.smt_encode.specs.declared.error.EncodeError.{EncodeError}
use Rattle.smt_encode.specs.declared.error.EncodeError.TheVariants.{Io, Memory, NoScope, EmptyEnum as EnumRefused}
use Rattle.smt_encode.specs.declared.error.EncodeError.TheVariants.{EncodeStringFailed as StringRefused}
use Rattle.smt_encode.specs.declared.error.EncodeError.TheVariants.{EncodePatternFailed as PatternRefused}
use Rattle.smt_encode.specs.declared.error.EncodeError.TheVariants.{EnumMissingMember as EntityRefused, ExpectRecord as NoRecordRefused}
use Rattle.smt_encode.specs.declared.error.EncodeError.TheVariants.{MalformedRecordGet as NoOperandRefused}
use Rattle.smt_encode.specs.declared.error.EncodeError.TheVariants.{MissingTypeEncoding as TypeRefused}
use Rattle.smt_encode.specs.declared.error.EncodeError.TheVariants.{RecordMissingAttr as AttributeRefused, BitVecError as BitsRefused}
use Rattle.smt_spelling.specs.SelectorFaults.{selector_fault}
use Rattle.smt_encode.specs.declared.error.WriteError.{WriteError}
use Rattle.smt_encode.specs.declared.error.WriteError.TheVariants.{Selector, Sink, Text}
use Rattle.smt_term.specs.View.{plain_type}
use Rattle.smt_term.specs.declared.types.TermType.{TermType}

-- the fault of terms that were not written
abbrev pub write_fault : WriteError → Option Fault
write_fault (Sink e) = None
write_fault (Text e) = text_fault e
write_fault (Selector e) = selector_fault e

-- The cause of each refusal: `Io` comes only where the sink's count of faults rose, and one of a term only where this is the first fault of
-- the terms; a refusal of bitvectors never comes, nor one of a level.
pub record HasCause {T : Type 0} (before after : ℕ) (fault : Option Fault) (result : Result T EncodeError) : Type 0 where
  pub io : IsErrOf result Io → Rose before after
  pub string : (text : RcStr Global) → IsErrOf result (StringRefused text) → fault ≡ Some (EncodeStringFailed (rc_str_bytes text))
  pub pattern : (p : OrdPattern) → IsErrOf result (PatternRefused p) → fault ≡ Some (EncodePatternFailed (plain_ord_pattern p))
  pub empty : (ety : EntityType) → IsErrOf result (EnumRefused ety) → fault ≡ Some (EmptyEnum (bytes_of_type ety))
  pub member : (e : EntityUID) → IsErrOf result (EntityRefused e) →
      fault ≡ Some (EnumMissingMember (bytes_of_type e.ety) (bytes_of_id e.id))
  pub no_operand : IsErrOf result NoOperandRefused → fault ≡ Some MalformedRecordGet
  pub type : (ty : TermType) → IsErrOf result (TypeRefused ty) → fault ≡ Some (MissingTypeEncoding (plain_type ty))
  pub no_record : (ty : TermType) → IsErrOf result (NoRecordRefused ty) → fault ≡ Some (ExpectRecord (plain_type ty))
  pub attribute : (name : RcStr Global) → IsErrOf result (AttributeRefused name) → fault ≡ Some (RecordMissingAttr (rc_str_bytes name))
  pub bits : (e : BitVecError) → IsErrOf result (BitsRefused e) → ⊥
  pub scope : IsErrOf result NoScope → ⊥

-- The four faults on records do not come: no attribute is taken of no term, of a type without a name, of a type that is no record type, or
-- of a record that has it not.
pub record TakesAttributes {T : Type 0} (result : Result T EncodeError) : Type 0 where
  pub no_operand : IsErrOf result NoOperandRefused → ⊥
  pub type : (ty : TermType) → IsErrOf result (TypeRefused ty) → ⊥
  pub no_record : (ty : TermType) → IsErrOf result (NoRecordRefused ty) → ⊥
  pub attribute : (name : RcStr Global) → IsErrOf result (AttributeRefused name) → ⊥

-- Ok comes only where the terms have no fault. There an encoder that was not spent answers Ok or `Memory`, if the sink's count of faults
-- did not rise.
pub record IsComplete {T : Type 0} (spent : Bool) (before after : ℕ) (fault : Option Fault) (result : Result T EncodeError) : Type 0 where
  pub faultless : OnOk result (fault ≡ None)
  pub answered : spent ≡ false → fault ≡ None → (Rose before after → ⊥) → IsOkUnless result Memory
