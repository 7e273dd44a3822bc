-- Operators of jobs are found by the names that they have.
use Rattle.std.proofs.Common.{◌≡◌, ℕ, Bool, true, false, List, [], ◌∷◌, Option, Some, None, bytes_eq, cond, map, refl, sym, ◌∙◌}
use Rattle.std.specs.Prelude.{IfSome}
use Rattle.std.specs.List.{AllByRecursion}
use Rattle.std.specs.Map.{lookup}
use Rattle.std.specs.Option.{option_or}
use Rattle.std.proofs.lemmas.Slice.Eq.{bytes_eq-Decides}
use Rattle.law_terms.specs.Names.{extension_op_name}
use Rattle.law_terms.specs.Plain.{ExtensionOp, ExtOp, PlainOp}
use Rattle.law_jobs.specs.Laws.{OperatorsAreFoundByName, job_name}
use Rattle.law_jobs.specs.Terms.{extension_named, extension_operators, named_operators, other_named}

abbrev HasName : List ℕ → PlainOp → Type 0
HasName n o = job_name o ≡ n

first_has : (n m : List ℕ) (o : PlainOp) (b : Bool) (others : Option PlainOp) → bytes_eq n m ≡ b → HasName m o → IfSome others (HasName n) → IfSome (cond b (Some o) others) (HasName n)
first_has n m o true others e has h = has ∙ sym ((bytes_eq-Decides n m).0 e)
first_has n m o false others e has h = h

named_by : (n : List ℕ) (os : List (List ℕ × PlainOp)) → AllByRecursion (λ e. HasName e.0 e.1) os → IfSome (lookup (bytes_eq n) os) (HasName n)
named_by n [] has = tt
named_by n ((m, o) ∷ os) has = first_has n m o (bytes_eq n m) (lookup (bytes_eq n) os) refl has.0 (named_by n os has.1)

extensions_have : (os : List ExtensionOp) → AllByRecursion (λ (e : List ℕ × PlainOp). HasName e.0 e.1) (map (λ o. (extension_op_name o, ExtOp o)) os)
extensions_have [] = tt
extensions_have (o ∷ os) = (refl, extensions_have os)

either_has : (n : List ℕ) (a b : Option PlainOp) → IfSome a (HasName n) → IfSome b (HasName n) → IfSome (option_or a b) (HasName n)
either_has n (Some o) b h k = h
either_has n None b h k = k

others_have : AllByRecursion (λ e. HasName e.0 e.1) named_operators
others_have = (refl, (refl, (refl, (refl, (refl, (refl, (refl, (refl, (refl, (refl, (refl, (refl, (refl, (refl, (refl, (refl, (refl, (refl, (refl, (refl, (refl, (refl, (refl, (refl, (refl, (refl, (refl, (refl, tt))))))))))))))))))))))))))))

pub found_by_name : OperatorsAreFoundByName
found_by_name = record {
  named = λ n. either_has n (other_named n) (extension_named n) (named_by n named_operators others_have) (named_by n (map (λ o. (extension_op_name o, ExtOp o)) extension_operators) (extensions_have extension_operators));
  found = (refl, (refl, (refl, (refl, (refl, (refl, (refl, (refl, (refl, (refl, (refl, (refl, (refl, (refl, (refl, (refl, (refl, (refl, (refl, (refl, (refl, (refl, (refl, (refl, (refl, (refl, (refl, (refl, tt))))))))))))))))))))))))))));
  found_on_extensions = (refl, (refl, (refl, (refl, (refl, (refl, (refl, (refl, (refl, (refl, tt))))))))));
}
