-- Typed terms have none of the four faults on records.
use Rattle.std.proofs.Common.{◌≡◌, ℕ, true, false, List, [], ◌∷◌, refl, sym, subst, ◌∙◌, Option, Some, None, Result}
use Rattle.std.specs.Option.{option_or}
use Rattle.std.specs.Prelude.{IfSome}
use Rattle.std.proofs.lemmas.Bool.{false≢true}
use Rattle.law_terms.specs.Faults.{Fault, first_fault, is_about_records, term_fault}
use Rattle.law_terms.specs.Plain.{PlainTerm}
use Rattle.law_terms.specs.Typing.{AreTyped}
use Rattle.law_terms.specs.TypeValues.{Enums}
use Rattle.law_terms.proofs.RecordFaults.{fine}
use Rattle.smt_encode.specs.Refusals.{HasCause, TakesAttributes}
use Rattle.smt_encode.specs.declared.error.EncodeError.{EncodeError}

abbrev IsOther : Option Fault → Type 0
IsOther fault = IfSome fault (λ f. is_about_records f ≡ false)

either : (a b : Option Fault) → IsOther a → IsOther b → IsOther (option_or a b)
either None b p q = q
either (Some f) b p q = p

pub first_is_other : (enums : Enums) (ts : List PlainTerm) → AreTyped ts → IsOther (first_fault enums ts)
first_is_other enums [] h = tt
first_is_other enums (t ∷ ts) h = either (term_fault enums t) (first_fault enums ts) (fine enums t h.0) (first_is_other enums ts h.1)

no_such : (fault : Option Fault) (f : Fault) → IsOther fault → is_about_records f ≡ true → fault ≡ Some f → ⊥
no_such fault f other about is = false≢true (sym (subst IsOther is other) ∙ about)

pub takes : {T : Type 0} {before after : ℕ} (fault : Option Fault) (result : Result T EncodeError) → IsOther fault → HasCause before after fault result → TakesAttributes result
takes fault result other cause = record {
  no_operand = λ i. no_such fault _ other refl (cause.no_operand i);
  type = λ ty i. no_such fault _ other refl (cause.type ty i);
  no_record = λ ty i. no_such fault _ other refl (cause.no_record ty i);
  attribute = λ name i. no_such fault _ other refl (cause.attribute name i);
}
