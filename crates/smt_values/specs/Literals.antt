-- What terms of values are.
use Rattle.std.specs.Prelude.{◌≡◌, IsTrue, Ok}
use Rattle.law_terms.specs.Literals.{is_literal}
use Rattle.law_terms.specs.Plain.{PlainTerm}
use Rattle.smt_values.specs.Cedar.{PlainCedar}
use Rattle.smt_values.specs.PlainValues.{PlainValue}
use Rattle.smt_values.specs.TermOfValue.{term_of_value}

-- every term of a value, at every type, is a literal: it has no variable and no application in it
abbrev pub TermsAreLiterals : Type 0
TermsAreLiterals = (type : PlainCedar) (v : PlainValue) (t : PlainTerm) → term_of_value type v ≡ Ok t → IsTrue (is_literal t)
