-- Why there is no selector of an attribute.
use Rattle.std.specs.Prelude.{ℕ, List, [], ◌∷◌, Option, Some, None}
use Rattle.std.specs.Rc.{rc_str_bytes}
use Rattle.law_terms.specs.Faults.{Fault, ExpectRecord, MalformedRecordGet, MissingTypeEncoding, RecordMissingAttr, record_get_fault}
use Rattle.law_terms.specs.Plain.{PlainType}
use Rattle.law_lines.specs.NameTables.{Tables, name_of_type}
use Rattle.smt_term.specs.View.{plain_type}
use Rattle.smt_spelling.specs.declared.selector_error.SelectorError.{SelectorError}
use Rattle.smt_spelling.specs.declared.selector_error.SelectorError.TheVariants.{Lacks, NoOperand, NoRecord, Unnamed, Memory as NoSpace}

-- the fault of an attribute without a selector
abbrev pub selector_fault : SelectorError → Option Fault
selector_fault NoOperand = Some MalformedRecordGet
selector_fault (Unnamed ty) = Some (MissingTypeEncoding (plain_type ty))
selector_fault (NoRecord ty) = Some (ExpectRecord (plain_type ty))
selector_fault (Lacks attribute) = Some (RecordMissingAttr (rc_str_bytes attribute))
selector_fault NoSpace = None

-- the fault of an attribute that is taken of a value of a type: first that the type has no name
abbrev pub fault_of_selection : Tables → (attribute : List ℕ) → PlainType → Option Fault
fault_of_selection s a t = elim (name_of_type s t) [ None ↦ Some (MissingTypeEncoding t) | Some n ↦ record_get_fault a (t ∷ []) ]
