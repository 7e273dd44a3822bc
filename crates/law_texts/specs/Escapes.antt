-- Escapes in the strings of scripts, and the characters that they stand for (SMT-LIB 2.7, theory UnicodeStrings).
use Rattle.std.specs.Prelude.{ℕ, zero, suc, pred, bytes_eq, length, take, drop, Option, Some, None, ◌+◌, false, ◌&&◌, if◌then◌else◌, ◌==◌}
use Rattle.std.specs.Prelude.{codes, List, [], ◌∷◌, ◌++◌}
use Rattle.std.specs.Fmt.{digits}
use Rattle.std.specs.List.{list_all}
use Rattle.std.specs.Option.{option_or}
use Rattle.law_texts.specs.Characters.{is_code_point, is_hexadecimal}
use Rattle.law_texts.specs.Digits.{number_in}

-- `\u{..}`, in lower-case hexadecimal without leading zeros
abbrev pub escaped : ℕ → List ℕ
escaped c = codes "\\u{" ++ (digits 16 false c ++ codes "}")

-- ---- how they are read

-- one escape in a string: its length and its code point
pub record Escape : Type 0 where
  pub len : ℕ
  pub point : ℕ

-- four digits behind `\u`
abbrev pub short_escape : List ℕ → Option Escape
short_escape bs =
    if bytes_eq (take 2 bs) (codes "\\u") && (length (take 4 (drop 2 bs)) == 4) && list_all is_hexadecimal (take 4 (drop 2 bs))
    then Some (record { len = 6; point = number_in 16 (take 4 (drop 2 bs)) })
    else None

-- k digits between braces behind `\u`
abbrev pub braced_escape : ℕ → List ℕ → Option Escape
braced_escape k bs =
    if bytes_eq (take 3 bs) (codes "\\u{") && bytes_eq (take 1 (drop (3 + k) bs)) (codes "}")
    && list_all is_hexadecimal (take k (drop 3 bs)) && is_code_point (number_in 16 (take k (drop 3 bs)))
    then Some (record { len = k + 4; point = number_in 16 (take k (drop 3 bs)) })
    else None

-- the escape that stands first, if one does: four digits, or one to five of them between braces and a value up to 196607
abbrev pub escape : List ℕ → Option Escape
escape bs =
    option_or (short_escape bs) (option_or (braced_escape 1 bs)
    (option_or (braced_escape 2 bs) (option_or (braced_escape 3 bs) (option_or (braced_escape 4 bs) (braced_escape 5 bs)))))

-- The code points of a string, behind skipped bytes that an escape has taken: an escape gives its own, any other byte itself.
abbrev pub decoded : ℕ → List ℕ → List ℕ
decoded skipped [] = []
decoded (suc skipped) (b ∷ bs) = decoded skipped bs
decoded zero (b ∷ bs) = elim (escape (b ∷ bs)) [ None ↦ b ∷ decoded 0 bs | Some e ↦ e.point ∷ decoded (pred e.len) bs ]
