-- What a last line without a line feed leaves.
use Rattle.std.proofs.Common.{◌≡◌, ◌≢◌, ◌<◌, ◌⊎◌, ℕ, zero, suc, IsTrue, List, [], ◌∷◌, ◌++◌, length, Option, Some, None, refl, sym, ap, ◌∙◌, append_assoc, arith, inl, inr}
use Rattle.std.specs.Io.KnownBytes.{append_known}
use Rattle.std.specs.Prelude.{IfSome, is_some}
use Rattle.smt_solve.proofs.QuestionLemmas.{says_bytes, word_bytes}
use Rattle.smt_solve.specs.Answers.{decision_word}
use Rattle.smt_solve.specs.Link.{EndsInside, HasNoLineFeed, IsLine, IsOver, LinkState}
use Rattle.smt_solve.specs.Question.{IsPiece}
use Rattle.law_verdicts.specs.Broken.{BrokenAnswersAreLast}

has_bytes : (line : List ℕ) → line ≢ [] → 0 < length line
has_bytes [] n = absurd (n refl)
has_bytes (x ∷ xs) n = omega arith

-- the last byte of a line that has one and no line feed
ends_inside : (line : List ℕ) → 0 < length line → HasNoLineFeed line → EndsInside line
ends_inside [] l h = absurd (omega (arith, l))
ends_inside (x ∷ []) l h = ([], x, refl, h zero zero (omega arith))
ends_inside (x ∷ y ∷ ys) l h =
    let rest = ends_inside (y ∷ ys) (omega arith) (λ k d m. h (suc k) d (omega (arith, m))) in
    (x ∷ rest.0, rest.1, ap (λ (t : List ℕ). x ∷ t) rest.2, rest.3)

-- bytes that end inside a line, behind others
ends_behind : (earlier line : List ℕ) → EndsInside line → EndsInside (earlier ++ line)
ends_behind earlier line h = (earlier ++ h.0, h.1, ap (λ (t : List ℕ). earlier ++ t) h.2 ∙ sym (append_assoc earlier h.0 (h.1 ∷ [])), h.3)

pub told_none : (t : Option (List ℕ)) → IsTrue (is_some t) → IfSome t (λ left. left ≡ []) → t ≡ Some []
told_none None k h = absurd (cc)
told_none (Some left) k h = ap (λ (x : List ℕ). Some x) h

is_over : (old : Option (List ℕ)) (new : LinkState) (line : List ℕ) → IsTrue (is_some new.was_read) → new.to_come ≡ Some [] → new.was_read ≡ append_known old line → EndsInside line → IsOver new
is_over None new line k e f h = absurd (cc)
is_over (Some earlier) new line k e f h = record { to_come = e; answers = earlier ++ line; was_read = f; inside = ends_behind earlier line h }

last_line : (old new : LinkState) (line : List ℕ) → IsTrue (is_some new.was_read) → IsTrue (is_some new.to_come) → 0 < length line → new.was_read ≡ append_known old.was_read line → IsPiece new line → IsLine line ⊎ IsOver new
last_line old new line k m l f (inl h) = inl h
last_line old new line k m l f (inr h) = inr (is_over old.was_read new line k (told_none new.to_come m h.2) f (ends_inside line l h.0))

pub broken_answers_are_last : BrokenAnswersAreLast
broken_answers_are_last old new text line d k m x piece says = last_line old new line k m (has_bytes line (says_bytes line (decision_word d) (word_bytes d) says)) x.was_read piece
