-- Links that are given back one after the other.
use Rattle.std.specs.Prelude.{IsOkUnless, OnOk}
use Rattle.std.specs.Result.{result_and}
use Rattle.std.proofs.Common.{Result, Ok, Err, subst, ◌≡◌, ℕ, List, [], ◌∷◌, Option, Some, None, refl, sym, ap, ◌∙◌, append_assoc}
use Rattle.smt_solve.specs.Link.{AllowsTheSame}
use Rattle.smt_solve.specs.declared.starter.StartError.{StartError}
use Rattle.smt_solve.specs.Starter.{add_told}
use Rattle.smt_pool.specs.Sessions.{add_all}

add_first : {X : Type 0} (told : Option (List X)) (x : X) (xs : List X) → add_all (add_told told x) xs ≡ add_all told (x ∷ xs)
add_first None x xs = refl
add_first (Some ys) x xs = ap (λ (zs : List _). Some zs) (append_assoc ys (x ∷ []) xs)

pub returned_more : {T L : Type 0} (between new whole : Option (List L)) (x : L) (rest : List L) (done finished result : Result T StartError) → result ≡ result_and done finished
    → OnOk done (add_all between (x ∷ rest) ≡ whole) → OnOk finished (new ≡ add_told between x) → OnOk result (add_all new rest ≡ whole)
returned_more {T = T} {L = L} between new whole x rest (Ok u) (Ok v) result e d f =
    subst (λ (r : Result T StartError). OnOk r (add_all new rest ≡ whole)) (sym e) (ap (λ (o : Option (List L)). add_all o rest) f ∙ (add_first between x rest ∙ d))
returned_more {T = T} between new whole x rest (Ok u) (Err v) result e d f = subst (λ (r : Result T StartError). OnOk r (add_all new rest ≡ whole)) (sym e) tt
returned_more {T = T} between new whole x rest (Err u) finished result e d f = subst (λ (r : Result T StartError). OnOk r (add_all new rest ≡ whole)) (sym e) tt

pub refused_more : {T : Type 0} (done finished result : Result T StartError) (m : StartError) → result ≡ result_and done finished → IsOkUnless done m → IsOkUnless finished m → IsOkUnless result m
refused_more {T = T} (Ok u) finished result m e d f = subst (λ (r : Result T StartError). IsOkUnless r m) (sym e) f
refused_more {T = T} (Err u) finished result m e d f = subst (λ (r : Result T StartError). IsOkUnless r m) (sym e) d

pub allows_then : (first second third : List ℕ → List ℕ → List ℕ → Type 0) → AllowsTheSame first second → AllowsTheSame second third → AllowsTheSame first third
allows_then first second third p q = record { there = λ text earlier line h. q.there text earlier line (p.there text earlier line h); back = λ text earlier line h. p.back text earlier line (q.back text earlier line h) }
