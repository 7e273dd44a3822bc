-- Answers that end inside a line.
use Rattle.std.specs.Prelude.{ℕ, ◌⊎◌, IsTrue, is_some, List}
use Rattle.smt_solve.specs.Answers.{StripsTo, decision_word}
use Rattle.smt_solve.specs.Link.{IsLine, IsOver, LinkState}
use Rattle.smt_solve.specs.Question.{Exchanges, IsPiece}
use Rattle.smt_solve.specs.declared.answer.Decision.{Decision}

-- A check may be answered by a last line without a line feed. Then the link is over, where it tells what it read and what is to
-- come, so that no later check of it is answered. So each answer behind which another comes ends with its line feed.
abbrev pub BrokenAnswersAreLast : Type 0
BrokenAnswersAreLast =
    (old new : LinkState) (text line : List ℕ) (d : Decision) → IsTrue (is_some new.was_read) → IsTrue (is_some new.to_come) →
    Exchanges old new text line → IsPiece new line → StripsTo line (decision_word d) → IsLine line ⊎ IsOver new
