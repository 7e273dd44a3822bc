-- The lines of a text in the format DIMACS, and the words in them.
use Rattle.std.specs.Prelude.{ℕ, Bool, false, not, ◌==◌, if◌then◌else◌, filter, length, map, List, [], ◌∷◌}
use Rattle.std.specs.Char.{is_ascii_whitespace}
use Rattle.std.specs.List.{slice_split}

-- there is at least one
abbrev pub has_some : {X : Type 0} → List X → Bool
has_some xs = not (length xs == 0)

-- the lines of a text: what stands between the line feeds
abbrev pub lines_of : List ℕ → List (List ℕ)
lines_of text = slice_split (λ b. b == 10) text

-- a line whose first character is c is a comment
abbrev pub is_comment : List ℕ → Bool
is_comment [] = false
is_comment (b ∷ rest) = b == 99

-- the runs of bytes between white space, the longest that stand there
abbrev pub runs_of : List ℕ → List (List ℕ)
runs_of line = filter has_some (slice_split is_ascii_whitespace line)

-- the words of a line: a comment has none
abbrev pub words_of : List ℕ → List (List ℕ)
words_of line = if is_comment line then [] else runs_of line

-- of some lines the words of each that has words
abbrev pub worded : List (List ℕ) → List (List (List ℕ))
worded lines = filter has_some (map words_of lines)
