-- The kinds of labels: of types, of functions and of terms.
use Rattle.std.specs.Prelude.{Bool, true, false, bytes_eq, nat_eq}
use Rattle.law_terms.specs.Plain.{PlainLiteral, BitVecLiteral, BoolLiteral, EntityLiteral, ExtensionLiteral, StringLiteral}
use Rattle.law_terms.specs.Types.{extension_kind_place, kind_of}
use Rattle.law_terms.specs.Nodes.{PlainLabel, OptionLabel, BitVecLabel, BoolLabel, EntityLabel, ExtensionLabel, StringLabel, RecordLabel}
use Rattle.law_terms.specs.Nodes.{SetLabel, FunctionLabel}

-- a label of types
abbrev pub is_type_label : PlainLabel → Bool
is_type_label OptionLabel = true
is_type_label (BitVecLabel n) = true
is_type_label BoolLabel = true
is_type_label (EntityLabel e) = true
is_type_label (ExtensionLabel k) = true
is_type_label StringLabel = true
is_type_label (RecordLabel names) = true
is_type_label SetLabel = true
is_type_label l = false

-- a label of functions
abbrev pub is_function_label : PlainLabel → Bool
is_function_label (FunctionLabel id) = true
is_function_label l = false

-- a label of terms: all that are none of types or functions
abbrev pub is_term_label : PlainLabel → Bool
is_term_label OptionLabel = false
is_term_label (BitVecLabel n) = false
is_term_label BoolLabel = false
is_term_label (EntityLabel e) = false
is_term_label (ExtensionLabel k) = false
is_term_label StringLabel = false
is_term_label (RecordLabel names) = false
is_term_label SetLabel = false
is_term_label (FunctionLabel id) = false
is_term_label l = true

-- the label of the type of a literal
abbrev pub is_literal_label : PlainLiteral → PlainLabel → Bool
is_literal_label (BitVecLiteral n a) (BitVecLabel m) = nat_eq n m
is_literal_label (BoolLiteral b) BoolLabel = true
is_literal_label (EntityLiteral e i) (EntityLabel f) = bytes_eq e f
is_literal_label (ExtensionLiteral x) (ExtensionLabel k) = nat_eq (extension_kind_place (kind_of x)) (extension_kind_place k)
is_literal_label (StringLiteral s) StringLabel = true
is_literal_label l m = false
