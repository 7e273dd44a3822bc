-- Commands that come one by one, each up to its last bracket.
use Rattle.std.specs.Prelude.{◌≡◌, ℕ, List, [], ◌∷◌, ◌++◌}
use Rattle.law_texts.specs.Lexicon.{Piece, Close}
use Rattle.law_scripts.specs.Script.{Command, Holds}

-- The bytes are one command, with white space and comments before it, and end with its last bracket.
pub record IsChunk (bytes : List ℕ) (c : Command) : Type 0 where
  pub holds : Holds bytes (c ∷ [])
  pub front : List Piece
  pub ends : holds.reads.pieces ≡ front ++ Close ∷ []

-- The bytes are chunks of these commands, one behind the other, and behind the last stands no more than white space and comments.
abbrev pub AreChunks : List ℕ → List Command → Type 0
AreChunks bytes [] = Holds bytes []
AreChunks bytes (c ∷ cs) = (chunk rest : List ℕ) × (bytes ≡ chunk ++ rest) × IsChunk chunk c × AreChunks rest cs

-- Chunks are commands of the whole, and no others: where they are cut does not matter.
pub record ChunksAreCommands : Type 0 where
  pub whole : (bytes : List ℕ) (cs : List Command) → AreChunks bytes cs → Holds bytes cs
  pub others : (bytes : List ℕ) (cs ds : List Command) → AreChunks bytes cs → Holds bytes ds → cs ≡ ds
