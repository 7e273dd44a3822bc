-- What quoting gives is read again (SMT-LIB 2.7, theory UnicodeStrings).
use Rattle.std.specs.Prelude.{ℕ, IsTrue, List, [], ◌∷◌}
use Rattle.std.specs.List.{list_all}
use Rattle.law_texts.specs.Characters.{is_code_point}
pub use Rattle.law_texts.specs.Escapes.{escaped}
pub use Rattle.law_texts.specs.Quoting.{quoted_character, quoted}
use Rattle.law_texts.specs.Lexicon.{Text}
use Rattle.law_texts.specs.Reading.{Leaf, Reads}

-- What quoting gives is read as the one string that was quoted.
abbrev pub QuotedTextsAreRead : Type 0
QuotedTextsAreRead = (cs : List ℕ) → IsTrue (list_all is_code_point cs) → Reads (quoted cs) (Leaf (Text cs) ∷ [])
