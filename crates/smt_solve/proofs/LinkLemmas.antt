-- Facts about what links tell.
use Rattle.std.proofs.Common.{◌≡◌, ◌≢◌, ℕ, ◌+◌, ◌<◌, List, [], ◌∷◌, length, take, get_or, Option, None, Some, refl, sym, subst, arith, suc, zero}
use Rattle.std.proofs.lemmas.List.{take_more}
use Rattle.std.proofs.lemmas.List.Elements.{All-append}
use Rattle.smt_script.proofs.PutsLemmas.{appends_nothing}
use Rattle.smt_script.specs.Sink.{AppendsPart}
use Rattle.smt_solve.specs.Link.{KeepsEnd, HasNoLineFeed, IsLine, AllowsTheSame}
use Rattle.smt_solve.specs.declared.link.Ended.{Ended}
use Rattle.smt_solve.specs.declared.link.Ended.TheVariants.{Running, Code, Killed}

-- An end stays as it is.
pub same_end : (e : Option Ended) → KeepsEnd e e
same_end None = refl
same_end (Some Running) = refl
same_end (Some (Code code)) = refl
same_end (Some Killed) = refl

-- the part that has no byte
pub no_part : (told : Option (List ℕ)) (bytes : List ℕ) → AppendsPart told told bytes
no_part told bytes = record { part = []; rest = bytes; whole = refl; appended = appends_nothing told }

pub same_allowed : (allows : List ℕ → List ℕ → List ℕ → Type 0) → AllowsTheSame allows allows
same_allowed allows = record { there = λ text earlier line h. h; back = λ text earlier line h. h }

one_without : (b : ℕ) → b ≢ 10 → HasNoLineFeed (b ∷ [])
one_without b h zero d l = h
one_without b h (suc k) d l = absurd (omega (arith, l))

-- one more byte is no line feed
pub one_more_without : (bytes : List ℕ) (at : ℕ) → at < length bytes → get_or bytes at 0 ≢ 10 → HasNoLineFeed (take at bytes) → HasNoLineFeed (take (at + 1) bytes)
one_more_without bytes at l h p =
    let f : List ℕ → Type 0 = λ t. HasNoLineFeed t in
    subst f (sym (take_more bytes at 0 l)) (All-append (λ b. b ≢ 10) (take at bytes) (get_or bytes at 0 ∷ []) p (one_without (get_or bytes at 0) h))

-- one more byte is the line feed
pub ends_line : (bytes : List ℕ) (at : ℕ) → at < length bytes → get_or bytes at 0 ≡ 10 → HasNoLineFeed (take at bytes) → IsLine (take (at + 1) bytes)
ends_line bytes at l e p =
    (take at bytes, p, rw (← e) (take_more bytes at 0 l))

pub none_without : (bytes : List ℕ) → HasNoLineFeed (take 0 bytes)
none_without bytes k d l = absurd (omega (arith, l))
