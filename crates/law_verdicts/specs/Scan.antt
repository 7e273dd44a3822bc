-- Where a command ends, by a scan of the bytes alone.
use Rattle.std.specs.Prelude.{◌≡◌, ℕ, suc, pred, Bool, true, false, ◌&&◌, ◌==◌, if◌then◌else◌, List, [], ◌∷◌, ◌++◌, Option, Some, None}
use Rattle.law_texts.specs.Lexicon.{is_line_end}
use Rattle.law_scripts.specs.Script.{Command, Holds}
use Rattle.law_texts.specs.Options.{◌>>=◌}
use Rattle.law_verdicts.specs.Chunks.{IsChunk}

-- where a scan stands: between quotes, in a comment, or in neither
pub data Place : Type 0 where
  Between : Place
  InString : Place
  InComment : Place

-- where a scan stands behind some bytes
pub record Scan : Type 0 where
  -- how many brackets are open
  pub depth : ℕ
  pub place : Place

-- at this place, with so many open brackets
abbrev pub at_depth : ℕ → Place → Scan
at_depth d p = record { depth = d; place = p }

-- A quote, a semicolon and a bracket count in neither alone. A doubled quote leaves a string and enters it again.
abbrev pub scanned_at : ℕ → Place → ℕ → Scan
scanned_at d InString b = if b == 34 then at_depth d Between else at_depth d InString
scanned_at d InComment b = if is_line_end b then at_depth d Between else at_depth d InComment
scanned_at d Between b =
    if b == 34 then at_depth d InString
    else (if b == 59 then at_depth d InComment
    else (if b == 40 then at_depth (suc d) Between
    else (if b == 41 then at_depth (pred d) Between else at_depth d Between)))

-- where a scan stands behind one byte more
abbrev pub scanned : Scan → ℕ → Scan
scanned s b = scanned_at s.depth s.place b

-- the place lies neither in a string nor in a comment
abbrev pub is_between : Place → Bool
is_between Between = true
is_between p = false

-- the byte is the last bracket of a command: it closes the only one that is open
abbrev pub ends_command : Scan → ℕ → Bool
ends_command s b = (b == 41) && (is_between s.place && (s.depth == 1))

-- these bytes in front of what was cut off, if something was
abbrev pub in_front : List ℕ → Option (List ℕ × List ℕ) → Option (List ℕ × List ℕ)
in_front bytes o = o >>= λ p. Some (bytes ++ p.0, p.1)

-- the bytes up to the last bracket of the first command, and those behind
abbrev pub first_command : Scan → List ℕ → Option (List ℕ × List ℕ)
first_command s [] = None
first_command s (b ∷ bs) = if ends_command s b then Some (b ∷ [], bs) else in_front (b ∷ []) (first_command (scanned s b) bs)

-- Where the bytes begin with a command, the scan finds its end.
abbrev pub ChunksAreScanned : Type 0
ChunksAreScanned =
    (chunk rest : List ℕ) (c : Command) → IsChunk chunk c → first_command (at_depth 0 Between) (chunk ++ rest) ≡ Some (chunk, rest)

-- And what the scan cuts off, if it is read as one command, ends with its last bracket.
abbrev pub ScannedAreChunks : Type 0
ScannedAreChunks =
    (bytes chunk rest : List ℕ) (c : Command) → first_command (at_depth 0 Between) bytes ≡ Some (chunk, rest) → Holds chunk (c ∷ []) →
    (bytes ≡ chunk ++ rest) × IsChunk chunk c
