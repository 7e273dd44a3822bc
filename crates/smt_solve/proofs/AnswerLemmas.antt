-- Blanks at the ends of a line.
use Rattle.std.proofs.Common.{◌≡◌, ℕ, ◌+◌, ◌-◌, ◌<◌, ◌≤◌, List, [], ◌∷◌, ◌++◌, length, take, drop, get_or, IsTrue, suc, zero, sym, ap, ◌∙◌, subst, arith, length-take, length-drop, drop-cons}
use Rattle.std.proofs.lemmas.List.{take_more, take-append-drop, get_or-take, get_or-drop, take_all}
use Rattle.std.proofs.lemmas.List.Elements.{All-append}
use Rattle.smt_solve.specs.Answers.{is_blank, AllBlank, HasSharpEnds, StripsTo}

one : (b : ℕ) → IsTrue (is_blank b) → AllBlank (b ∷ [])
one b h zero d l = h
one b h (suc k) d l = absurd (omega (arith, l))

pub none_blank : (bytes : List ℕ) → AllBlank (take 0 bytes)
none_blank bytes k d l = absurd (omega (arith, l))

-- one more byte at the front is blank
pub blank_on : (bytes : List ℕ) (at : ℕ) → at < length bytes → IsTrue (is_blank (get_or bytes at 0)) → AllBlank (take at bytes) → AllBlank (take (at + 1) bytes)
blank_on bytes at l h p =
    let f : List ℕ → Type 0 = λ t. AllBlank t in
    subst f (sym (take_more bytes at 0 l)) (All-append (λ b. IsTrue (is_blank b)) (take at bytes) (get_or bytes at 0 ∷ []) p (one (get_or bytes at 0) h))

from_here : (bytes : List ℕ) (at : ℕ) → at < length bytes → drop at bytes ≡ get_or bytes at 0 ∷ drop (suc at) bytes
from_here bytes at l = drop-cons bytes at 0 l

-- one more byte at the end is blank
pub blank_back : (bytes : List ℕ) (end : ℕ) → 0 < end → end ≤ length bytes → IsTrue (is_blank (get_or bytes (end - 1) 0)) → AllBlank (drop end bytes) → AllBlank (drop (end - 1) bytes)
blank_back bytes zero l m h p = absurd (omega (arith, l))
blank_back bytes (suc at) l m h p =
    let f : List ℕ → Type 0 = λ t. AllBlank t in
    let e : suc at - 1 ≡ at = omega arith in
    let here : at < length bytes = omega (arith, m) in
    let k : IsTrue (is_blank (get_or bytes at 0)) = rw e at h in
    rw e (subst f (sym (from_here bytes at here)) (All-append (λ b. IsTrue (is_blank b)) (get_or bytes at 0 ∷ []) (drop (suc at) bytes) (one (get_or bytes at 0) k) p))

sharp : (line : List ℕ) (n m : ℕ) → n ≤ length line → (n < length line → ¬ IsTrue (is_blank (get_or line n 0)))
    → m ≤ length (drop n line) → (0 < m → ¬ IsTrue (is_blank (get_or (drop n line) (m - 1) 0))) → HasSharpEnds (take m (drop n line))
sharp line n m l front k back =
    let size : length (take m (drop n line)) ≡ m = omega (arith, length-take m (drop n line), k) in
    record {
      first = λ h.
          let some : 0 < m = omega (arith, size, h) in
          let inside : n < length line = omega (arith, length-drop n line, k, some) in
          let here : n + 0 ≡ n = omega arith in
          rw (get_or-take m (drop n line) 0 0 some, get_or-drop n line 0 0, here) (front inside);
      last = λ h.
          let some : 0 < m = omega (arith, size, h) in
          let before : m - 1 < m = omega (arith, some) in
          rw (size, get_or-take m (drop n line) (m - 1) 0 before) (back some);
    }

pub strips : (line rest : List ℕ) (n m : ℕ) → rest ≡ drop n line → n ≤ length line → AllBlank (take n line) → (n < length line → ¬ IsTrue (is_blank (get_or line n 0)))
    → m ≤ length rest → AllBlank (drop m rest) → (0 < m → ¬ IsTrue (is_blank (get_or rest (m - 1) 0))) → StripsTo line (take m rest)
strips line rest n m e l blanks front k behind back =
    rw e (record {
      front = take n line;
      back = drop m (drop n line);
      whole = sym (take-append-drop n line) ∙ ap (λ t. take n line ++ t) (sym (take-append-drop m (drop n line)));
      blank_front = blanks;
      blank_back = rw e at behind;
      sharp = sharp line n m l front (rw e at k) (rw e at back);
    })

pub rest_from : (line : List ℕ) (n : ℕ) → take (length line - n) (drop n line) ≡ drop n line
rest_from line n = take_all (length line - n) (drop n line) (omega (arith, length-drop n line))
