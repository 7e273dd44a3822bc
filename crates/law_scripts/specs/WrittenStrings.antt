-- How code points are written in a string, and patterns.
use Rattle.std.specs.Prelude.{◌≡◌, ℕ, IsTrue, Some, map, codes, List, [], ◌∷◌, ◌++◌}
use Rattle.std.specs.List.{list_all}
use Rattle.law_terms.specs.Faults.{is_pattern_part}
use Rattle.law_terms.specs.TypeValues.{is_code_point}
use Rattle.law_terms.specs.Plain.{PatternPart, Character, Wildcard}
use Rattle.law_scripts.specs.Script.{group, name, pattern}
use Rattle.law_scripts.specs.CommandLines.{spaced_parts}
use Rattle.law_texts.specs.Lexicon.{Text}
pub use Rattle.law_texts.specs.QuotedTexts.{escaped, quoted_character, quoted}
use Rattle.law_texts.specs.Reading.{Expression, Leaf}
use Rattle.law_scripts.specs.Written.{ReadsAs}

-- What is written of code points up to 196607 is read as these.
abbrev pub TextsWrite : Type 0
TextsWrite = (cs : List ℕ) → IsTrue (list_all is_code_point cs) → ReadsAs (quoted cs) (Leaf (Text cs))

-- ---- patterns

-- `(str.to_re "c")` for a character and `(re.* re.allchar)` for a wildcard, as they are written (theory UnicodeStrings)
abbrev pub part_text : PatternPart → List ℕ
part_text (Character c) = codes "(str.to_re " ++ (quoted (c ∷ []) ++ codes ")")
part_text Wildcard = codes "(re.* re.allchar)"

-- the expression that is written of a part of a pattern
abbrev pub part_expr : PatternPart → Expression
part_expr (Character c) = group (name (codes "str.to_re") ∷ Leaf (Text (c ∷ [])) ∷ [])
part_expr Wildcard = group (name (codes "re.*") ∷ name (codes "re.allchar") ∷ [])

-- a pattern as it is written: `(str.to_re "")` for no part, one part alone, or `(re.++ p q ..)` (theory UnicodeStrings)
abbrev pub pattern_text : List PatternPart → List ℕ
pattern_text [] = codes "(str.to_re \"\")"
pattern_text (x ∷ []) = part_text x
pattern_text (x ∷ y ∷ ps) =
    codes "(re.++" ++ spaced_parts (map (λ p. record { text = part_text p; expr = part_expr p }) (x ∷ y ∷ ps)) (codes ")")

-- the expression that is written of a pattern
abbrev pub pattern_expr : List PatternPart → Expression
pattern_expr [] = group (name (codes "str.to_re") ∷ Leaf (Text []) ∷ [])
pattern_expr (x ∷ []) = part_expr x
pattern_expr (x ∷ y ∷ ps) = group (name (codes "re.++") ∷ map part_expr (x ∷ y ∷ ps))

-- What is written of a pattern is read as it.
abbrev pub PatternsWrite : Type 0
PatternsWrite =
    (ps : List PatternPart) → IsTrue (list_all is_pattern_part ps) →
    ReadsAs (pattern_text ps) (pattern_expr ps) × (pattern (pattern_expr ps) ≡ Some ps)
