-- Which fault an error of a text names.
use Rattle.std.specs.Prelude.{◌≡◌, Option, Some, None, Result, Ok, Err}
use Rattle.std.specs.List.{list_all}
use Rattle.std.specs.Rc.{rc_str_bytes}
use Rattle.smt_term.specs.Entities.{bytes_of_id, bytes_of_type}
use Rattle.smt_term.specs.PatternView.{plain_ord_pattern}
use Rattle.law_terms.specs.Faults.{Fault, EmptyEnum, EncodeStringFailed, EncodePatternFailed, EnumMissingMember, fault_unless}
use Rattle.law_terms.specs.Faults.{is_pattern_part}
use Rattle.law_terms.specs.Plain.{PlainOp, StringLikeOp}
use Rattle.smt_spelling.specs.declared.error.TextError.{TextError}
use Rattle.smt_spelling.specs.declared.error.TextError.TheVariants.{MissingMember, StringFailed, PatternFailed, EmptyEnum as NoMembers}

-- the fault that an error of a text names, where it names one
abbrev pub text_fault : TextError → Option Fault
text_fault (MissingMember entity) = Some (EnumMissingMember (bytes_of_type entity.ety) (bytes_of_id entity.id))
text_fault (StringFailed text) = Some (EncodeStringFailed (rc_str_bytes text))
text_fault (PatternFailed pattern) = Some (EncodePatternFailed (plain_ord_pattern pattern))
text_fault (NoMembers ety) = Some (EmptyEnum (bytes_of_type ety))
text_fault e = None

-- Of what was walked this is the first fault: on Ok there is none, and an error names no other one.
abbrev pub Finds : {T E : Type 0} → (E → Option Fault) → Option Fault → Result T E → Type 0
Finds named fault (Ok x) = fault ≡ None
Finds named fault (Err e) = (f : Fault) → named e ≡ Some f → fault ≡ Some f

-- a pattern with a character that no string can have
abbrev pub pattern_fault : PlainOp → Option Fault
pattern_fault (StringLikeOp p) = fault_unless (list_all is_pattern_part p) (EncodePatternFailed p)
pattern_fault op = None
