-- Laws of the bytes of expressions and of calls.
use Rattle.std.specs.Prelude.{◌≡◌, map, List, ◌∷◌, ◌++◌}
use Rattle.law_texts.specs.Reading.{Expression}
use Rattle.law_scripts.specs.Script.{name, group}
use Rattle.law_lines.specs.Spelling.{spelled}
use Rattle.law_lines.specs.Lines.{Call, Encoding, after_calls, lines_of_calls}
use Rattle.law_terms.specs.TypeValues.{Enums}
use Rattle.law_lines.specs.Line.{Line, spelled_lines}

-- what is written in place of an expression is its text alone
abbrev pub TextsReplaceExpressions : Type 0
TextsReplaceExpressions =
    (e : Expression) (es : List Expression) → spelled (group (e ∷ es)) ≡ spelled (group (name (spelled e) ∷ map (λ x. name (spelled x)) es))

-- lines one after the other have their bytes one after the other
abbrev pub LinesJoin : Type 0
LinesJoin = (ls ms : List Line) → spelled_lines (ls ++ ms) ≡ spelled_lines ls ++ spelled_lines ms

-- calls one after the other write their lines one after the other
abbrev pub CallsJoin : Type 0
CallsJoin = (enums : Enums) (cs ds : List Call) (s : Encoding)
    → (lines_of_calls enums (cs ++ ds) s ≡ lines_of_calls enums cs s ++ lines_of_calls enums ds (after_calls enums cs s))
    × (after_calls enums (cs ++ ds) s ≡ after_calls enums ds (after_calls enums cs s))
