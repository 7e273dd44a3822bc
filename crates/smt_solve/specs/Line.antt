-- What is appended where a line is read from a reader.
use Rattle.std.specs.Prelude.{ℕ, ◌<◌, ◌≡◌, List, ◌++◌, length, IfOk, OnSome, None, Option, Ok, Result}
use Rattle.std.specs.Io.KnownBytes.{Consumes, IsAtEnd}
use Rattle.smt_solve.specs.Link.{EndsAs, HasNoLineFeed}
use Rattle.smt_solve.specs.declared.link.LineEnd.{LineEnd}
use Rattle.smt_solve.specs.declared.link.LineEnd.TheVariants.{End}
use Rattle.smt_solve.specs.declared.child_line.Step.{Step}
use Rattle.smt_solve.specs.declared.child_line.Step.TheVariants.{More, Ended}

-- A step of reading a line appended `piece`, where there was room for `room` bytes: a part of the line, or its last part, up to
-- where the line ended.
abbrev pub StepsAs : Step → (piece : List ℕ) → (room : ℕ) → Type 0
StepsAs (More count) piece room = HasNoLineFeed piece × (length piece ≡ count) × (count < room)
StepsAs (Ended end) piece room = EndsAs end piece room None

-- A step of reading appended a piece of a line. `left` is what the reader had to give before it, and `left'` after it, where it
-- tells these.
pub record AppendsStep {E : Type 0} (left left' : Option (List ℕ)) (before after : List ℕ) (room : ℕ) (result : Result Step E) :
    Type 0 where
  pub piece : List ℕ
  pub appended : after ≡ before ++ piece
  -- the piece, and no other bytes, was taken from the reader
  pub taken : Consumes left left' piece
  pub came : IfOk result (λ step. StepsAs step piece room)
  pub at_end : result ≡ Ok (Ended End) → OnSome left (IsAtEnd left')

-- A line of at most `limit` bytes was appended, or on an error some bytes. `left` is what the reader had to give before, and
-- `left'` after, where it tells these.
pub record AppendsLine {E : Type 0} (left left' : Option (List ℕ)) (before after : List ℕ) (limit : ℕ) (result : Result LineEnd E) :
    Type 0 where
  pub piece : List ℕ
  pub appended : after ≡ before ++ piece
  -- the piece, and no other bytes, was taken from the reader
  pub taken : Consumes left left' piece
  pub ending : IfOk result (λ end. EndsAs end piece limit None)
  pub at_end : result ≡ Ok End → OnSome left (IsAtEnd left')
