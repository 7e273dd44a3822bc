-- What holds of what a source told, and of a result.
use Rattle.std.proofs.Common.{ℕ, List, Option, Some, None, Ok, Err, Result}
use Rattle.std.specs.Prelude.{IfErr, IfSome, OnOk}

-- what holds of all that is told
pub of_told : (P Q : List ℕ → Type 0) (left : Option (List ℕ)) → ((bytes : List ℕ) → P bytes → Q bytes) → IfSome left P → IfSome left Q
of_told P Q None so h = tt
of_told P Q (Some bytes) so h = so bytes h

-- what holds of all bytes
pub always : (P : List ℕ → Type 0) (left : Option (List ℕ)) → ((bytes : List ℕ) → P bytes) → IfSome left P
always P (Some bytes) p = p bytes
always P None p = tt

-- what holds where all went well
pub on_ok : {T E : Type 0} (P Q : Type 0) (r : Result T E) → (P → Q) → OnOk r P → OnOk r Q
on_ok P Q (Ok x) so h = so h
on_ok P Q (Err e) so h = tt

-- what holds of an error
pub of_error : {T E : Type 0} (P Q : E → Type 0) (r : Result T E) → ((e : E) → P e → Q e) → IfErr r P → IfErr r Q
of_error P Q (Ok x) so h = tt
of_error P Q (Err e) so h = so e h
