-- Errors that are handed on, and the faults that they name.
use Rattle.std.proofs.Common.{◌≡◌, sym, ap, ◌∙◌, Option, Some, Result, Ok, Err}
use Rattle.std.specs.Result.{IsErrAnd}
use Rattle.law_terms.specs.Faults.{Fault}
use Rattle.smt_encode.specs.Refusals.{write_fault}
use Rattle.smt_spelling.specs.TextFaults.{text_fault, Finds}
use Rattle.smt_spelling.specs.declared.error.TextError.{TextError}
use Rattle.smt_spelling.specs.SelectorFaults.{selector_fault}
use Rattle.smt_spelling.specs.declared.selector_error.SelectorError.{SelectorError}
use Rattle.smt_encode.specs.declared.error.WriteError.{WriteError}
use Rattle.smt_encode.specs.declared.error.WriteError.TheVariants.{Selector, Text}

-- an error of a text, handed on, names the fault that it named
pub handed_on : {T : Type 0} (fault : Option Fault) (e : TextError) (result : Result T WriteError) → IsErrAnd result (λ y. y ≡ Text e) → ((f : Fault) → text_fault e ≡ Some f → fault ≡ Some f) → Finds write_fault fault result
handed_on fault e (Ok x) same h = absurd same
handed_on fault e (Err y) same h = λ f k. h f (ap write_fault (sym same) ∙ k)

-- and so does an error of a selector
pub handed_from : {T : Type 0} (fault : Option Fault) (e : SelectorError) (result : Result T WriteError) → IsErrAnd result (λ y. y ≡ Selector e) → ((f : Fault) → selector_fault e ≡ Some f → fault ≡ Some f) → Finds write_fault fault result
handed_from fault e (Ok x) same h = absurd same
handed_from fault e (Err y) same h = λ f k. h f (ap write_fault (sym same) ∙ k)

-- and one of what was written
pub handed_over : {T : Type 0} (fault : Option Fault) (e : WriteError) (result : Result T WriteError) → IsErrAnd result (λ y. y ≡ e) → ((f : Fault) → write_fault e ≡ Some f → fault ≡ Some f) → Finds write_fault fault result
handed_over fault e (Ok x) same h = absurd same
handed_over fault e (Err y) same h = λ f k. h f (ap write_fault (sym same) ∙ k)
