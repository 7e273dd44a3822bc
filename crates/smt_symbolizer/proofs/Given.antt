-- What is given, and what is refused.
use Rattle.std.proofs.Common.{◌≡◌, IfErr, IfOk, Ok, Err, Result}
use Rattle.smt_values.specs.Outcomes.{Outcome}
use Rattle.smt_values.specs.Refused.{IsGiven, IsRefusal}
use Rattle.smt_values.specs.declared.error.SymbolizeError.{SymbolizeError}

pub ok_given : {A B : Type 0} (view : A → B) (r : Result A SymbolizeError) (outcome : Outcome B) → IsGiven view r outcome → IfOk r (λ x. outcome ≡ Ok (view x))
ok_given view (Ok x) outcome h = h
ok_given view (Err e) outcome h = tt

pub err_given : {A B : Type 0} (view : A → B) (r : Result A SymbolizeError) (outcome : Outcome B) → IsGiven view r outcome → IfErr r (λ e. IsRefusal e outcome)
err_given view (Ok x) outcome h = tt
err_given view (Err e) outcome h = h
