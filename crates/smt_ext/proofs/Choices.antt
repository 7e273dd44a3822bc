-- What follows from an answer's variant.
use Rattle.std.proofs.Common.{◌≡◌, Option, Some, None, Result, Ok, Err, sym, subst}
use Rattle.std.proofs.lemmas.Option.{none-some, same_Some}
use Rattle.std.specs.Result.{result_ok, IfOk}
use Rattle.std.specs.Option.{SomeIff, IfNone}

pub none_then : {A : Type 0} {P Q : Type 0} (r : Option A) (v : A) → SomeIff r P v → ((P → ⊥) → Q) → IfNone r Q
none_then (Some x) v s f = tt
none_then None v s f = f s

pub value_in_ok : {A E : Type 0} (r : Result A E) (P : A → Type 0) (x : A) → Some x ≡ result_ok r → IfOk r P → P x
value_in_ok (Ok y) P x e h = subst P (sym (same_Some x y e)) h
value_in_ok (Err e) P x f h = absurd (none-some x (sym f))
