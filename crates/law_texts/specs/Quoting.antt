-- Texts between quotes: the strings of scripts (SMT-LIB 2.7, theory UnicodeStrings), and ids in comments.
use Rattle.std.specs.Prelude.{ℕ, ◌||◌, if◌then◌else◌, ◌==◌, nat_lt, codes, List, [], ◌∷◌, ◌++◌}
use Rattle.std.specs.List.{flat_map}
use Rattle.law_texts.specs.Characters.{is_printable}
use Rattle.law_texts.specs.Escapes.{escaped}

-- ---- strings

-- inside a string a quote is written twice
abbrev pub quote_twice : ℕ → List ℕ
quote_twice b = if b == 34 then (34 ∷ 34 ∷ []) else (b ∷ [])

-- A character between the quotes of a string: a quote is written twice, a backslash and what is not printable as an escape, and any
-- other character as itself.
abbrev pub quoted_character : ℕ → List ℕ
quoted_character c =
    if c == 34 then codes "\"\""
    else (if c == 92 then codes "\\u{5c}"
    else (if is_printable c then c ∷ [] else escaped c))

-- the characters of a string and the two quotes around them
abbrev pub quoted : List ℕ → List ℕ
quoted characters = codes "\"" ++ (flat_map quoted_character characters ++ codes "\"")

-- ---- ids in comments

-- a byte of an id between quotes, so that the id stands on one line
abbrev pub quoted_id_byte : ℕ → List ℕ
quoted_id_byte b =
    if b == 0 then codes "\\0"
    else (if b == 9 then codes "\\t"
    else (if b == 10 then codes "\\n"
    else (if b == 13 then codes "\\r"
    else (if b == 34 then codes "\\\""
    else (if b == 92 then codes "\\\\"
    else (if nat_lt b 32 || (b == 127) then escaped b else b ∷ []))))))

-- the bytes of an id and the two quotes around them
abbrev pub quoted_id : List ℕ → List ℕ
quoted_id id = codes "\"" ++ (flat_map quoted_id_byte id ++ codes "\"")
