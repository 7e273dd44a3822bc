-- Reads one after another: what a loop of reads has got so far, and what its exits give.
use Rattle.std.proofs.Math.Seq.{take-append_seam}
use Rattle.std.proofs.lemmas.List.{take-append-drop, drop-drop}
use Rattle.std.proofs.Common.{take, drop, length, ℕ, ◌+◌, ◌<◌, ◌≤◌, ◌≡◌, ◌∙◌, List, [], ◌++◌, Option, None, Some, Result, Ok, Err, IsOk, IsErrAnd, IsOkUnless, IfSome, refl, sym, ap, append_assoc, append-nil, length-append, length-take, subst, arith}
use Rattle.std.specs.Io.KnownBytes.{prepend_known}
use Rattle.smt_script.specs.Source.{ReadsNext}
use Rattle.smt_script.specs.Input.{ReadsAll, ReadsOn}
use Rattle.smt_script.specs.declared.source.SourceFault.{SourceFault}

-- the bytes at a buffer's front, and what is left behind them
pub front_and_rest : (xs buffer ys : List ℕ) (at n : ℕ) → ys ≡ take n (drop at xs) → length ys ≡ n
    → drop at xs ≡ take n (ys ++ drop n buffer) ++ drop (at + n) xs
front_and_rest xs buffer ys at n e h =
    let f : take n (ys ++ drop n buffer) ≡ ys = rw (sym h) (take-append_seam ys (drop (length ys) buffer)) in
    rw (f, e, ← drop-drop) (sym (take-append-drop n (drop at xs)))

prepends_nothing : (a : Option (List ℕ)) → a ≡ prepend_known [] a
prepends_nothing None = refl
prepends_nothing (Some x) = refl

prepends_then : (a b c : Option (List ℕ)) (xs ys : List ℕ) → a ≡ prepend_known xs b → b ≡ prepend_known ys c
    → a ≡ prepend_known (xs ++ ys) c
prepends_then a b None xs ys p q = rw (p, q)
prepends_then a b (Some z) xs ys p q = rw (p, q, append_assoc)

-- Reads gave these bytes, and none failed.
pub record SoFar {S : Type 0} (remaining : S → Option (List ℕ)) (faults : S → ℕ) (never_fails : S → Type 0) (place : S → List ℕ) (old new : S) (bytes : List ℕ) : Type 0 where
  pub from_left : remaining old ≡ prepend_known bytes (remaining new)
  pub later : faults old ≤ faults new
  pub certain : never_fails old → never_fails new
  pub same_place : place new ≡ place old

pub none_read : {S : Type 0} {remaining : S → Option (List ℕ)} {faults : S → ℕ} {never_fails : S → Type 0} {place : S → List ℕ} (a : S) → SoFar remaining faults never_fails place a a []
none_read {remaining = remaining} a = record {
  from_left = prepends_nothing (remaining a);
  later = omega arith;
  certain = λ h. h;
  same_place = refl;
}

-- one more read gave bytes
pub reads_then : {S : Type 0} {remaining : S → Option (List ℕ)} {faults : S → ℕ} {never_fails : S → Type 0} {place : S → List ℕ} {a b c : S} {bytes buffer : List ℕ} {n : ℕ}
    → SoFar remaining faults never_fails place a b bytes → ReadsNext remaining faults never_fails place b c buffer (Ok n)
    → SoFar remaining faults never_fails place a c (bytes ++ take n buffer)
reads_then {remaining = remaining} {a = a} {b} {c} {bytes} {buffer} {n} p q = record {
  from_left = prepends_then (remaining a) (remaining b) (remaining c) bytes (take n buffer) p.from_left q.bytes;
  later = omega (arith, p.later, q.later);
  certain = λ h. (q.certain (p.certain h)).1;
  same_place = q.same_place ∙ p.same_place;
}

-- one more read failed
pub reads_wrong : {S : Type 0} {remaining : S → Option (List ℕ)} {faults : S → ℕ} {never_fails : S → Type 0} {place : S → List ℕ} {a b c : S} {bytes buffer : List ℕ} {e : SourceFault}
    → SoFar remaining faults never_fails place a b bytes → ReadsNext remaining faults never_fails place b c buffer (Err e)
    → SoFar remaining faults never_fails place a c bytes
reads_wrong {bytes = bytes} p q = record {
  from_left = p.from_left ∙ ap (λ t. prepend_known bytes t) (sym q.kept);
  later = omega (arith, p.later, q.later);
  certain = λ h. (q.certain (p.certain h)).1;
  same_place = q.same_place ∙ p.same_place;
}

-- what any exit says of them
pub reads_on : {S : Type 0} {remaining : S → Option (List ℕ)} {faults : S → ℕ} {never_fails : S → Type 0} {place : S → List ℕ} {a b : S} {bytes : List ℕ}
    → SoFar remaining faults never_fails place a b bytes → ReadsOn remaining faults never_fails place a b
reads_on {bytes = bytes} p = record {
  given = bytes;
  from_left = p.from_left;
  later = p.later;
  certain = p.certain;
  same_place = p.same_place;
}

-- the same bytes, grouped in another way
pub along : {S : Type 0} {remaining : S → Option (List ℕ)} {faults : S → ℕ} {never_fails : S → Type 0} {place : S → List ℕ} {a b : S} {bytes bytes' : List ℕ}
    → bytes ≡ bytes' → SoFar remaining faults never_fails place a b bytes → SoFar remaining faults never_fails place a b bytes'
along {remaining = remaining} {faults} {never_fails} {place} {a} {b} e p =
    let f : List ℕ → Type 0 = λ t. SoFar remaining faults never_fails place a b t in
    subst f e p

gives_nothing : (bytes buffer : List ℕ) (n : ℕ) → n ≡ 0 → bytes ≡ bytes ++ take n buffer
gives_nothing bytes buffer n e = rw (e, append-nil) refl

ends_all : (a b : Option (List ℕ)) (bytes : List ℕ) → a ≡ prepend_known bytes b → IfSome b (λ rest. rest ≡ []) → ReadsAll a b bytes
ends_all a None bytes p q = record { whole = rw p tt; nothing_left = rw p refl }
ends_all a (Some rest) bytes p q = record { whole = rw (p, q, append-nil) refl; nothing_left = rw (p, q) refl }

-- the end is reached
pub reads_all : {S : Type 0} {remaining : S → Option (List ℕ)} {faults : S → ℕ} {never_fails : S → Type 0} {place : S → List ℕ} {a b c : S} {bytes buffer : List ℕ} {n : ℕ}
    → n ≡ 0 → SoFar remaining faults never_fails place a b bytes → ReadsNext remaining faults never_fails place b c buffer (Ok n)
    → ReadsAll (remaining a) (remaining c) bytes
reads_all {remaining = remaining} {a = a} {c = c} {bytes} {buffer} {n} e p q =
    let s = along (sym (gives_nothing bytes buffer n e)) (reads_then p q) in
    ends_all (remaining a) (remaining c) bytes s.from_left (q.end (ap Ok e))

passes : (a b : Option (List ℕ)) (bytes : List ℕ) (greatest : ℕ) → a ≡ prepend_known bytes b → greatest < length bytes → IfSome a (λ all. greatest < length all)
passes a None bytes greatest p q = rw p tt
passes a (Some rest) bytes greatest p q = rw p (omega (arith, q, length-append bytes rest))

-- more bytes came than are allowed
pub reads_past : {S : Type 0} {remaining : S → Option (List ℕ)} {faults : S → ℕ} {never_fails : S → Type 0} {place : S → List ℕ} {a b c : S} {bytes buffer : List ℕ} {n : ℕ} (greatest : ℕ)
    → greatest < length bytes + n → SoFar remaining faults never_fails place a b bytes → ReadsNext remaining faults never_fails place b c buffer (Ok n)
    → IfSome (remaining a) (λ all. greatest < length all)
reads_past {remaining = remaining} {a = a} {c = c} {bytes} {buffer} {n} greatest h p q =
    let bound : n ≤ length buffer = q.bound in
    passes (remaining a) (remaining c) (bytes ++ take n buffer) greatest (reads_then p q).from_left
    (omega (arith, h, bound, length-append bytes (take n buffer), length-take n buffer))

-- whatever is left
pub allowed : (P : Type 0) (remaining : Option (List ℕ)) (greatest : ℕ) → P → IfSome remaining (λ all. length all ≤ greatest → P)
allowed P None greatest p = tt
allowed P (Some all) greatest p = λ _. p

-- more is left than is allowed
pub not_allowed : (P : Type 0) (remaining : Option (List ℕ)) (greatest : ℕ) → IfSome remaining (λ all. greatest < length all) → IfSome remaining (λ all. length all ≤ greatest → P)
not_allowed P None greatest h = tt
not_allowed P (Some all) greatest h = λ k. absurd (omega (arith, h, k))

-- a read that failed is none of a source that gives
pub gave : {S P : Type 0} {remaining : S → Option (List ℕ)} {faults : S → ℕ} {never_fails : S → Type 0} {place : S → List ℕ} {a b c : S} {bytes buffer : List ℕ} {e : SourceFault}
    → SoFar remaining faults never_fails place a b bytes → ReadsNext remaining faults never_fails place b c buffer (Err e) → never_fails a → P
gave {S} {P} {e = e} p q h = let ok : IsOk {T = ℕ} (Err e) = (q.certain (p.certain h)).0 in absurd (cc)

-- the exit of a `?`, which hands on an error that is free
pub unless_that : {T E : Type 0} (r : Result T E) (e : E) → IsErrAnd r (λ y. y ≡ e) → IsOkUnless r e
unless_that (Ok x) e h = tt
unless_that (Err y) e h = h
