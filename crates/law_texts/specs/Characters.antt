-- Characters of strings and of scripts, as SMT-LIB 2.7 has them.
use Rattle.std.specs.Prelude.{ℕ, Bool, ◌&&◌, ◌||◌, ◌==◌, nat_le}

-- the greatest code point of a character of a string, 2FFFF in hexadecimal (theory UnicodeStrings)
abbrev pub greatest_code_point : ℕ
greatest_code_point = 196607

-- the code points of that theory
abbrev pub is_code_point : ℕ → Bool
is_code_point c = nat_le c greatest_code_point

-- '0' to '9', as in the numerals of scripts (chapter 3, Lexicon) and in the texts of extension values
abbrev pub is_digit : ℕ → Bool
is_digit b = nat_le 48 b && nat_le b 57

-- '0' to '9', 'A' to 'F' and 'a' to 'f', as in the literals of scripts in base 16 and in escapes
abbrev pub is_hexadecimal : ℕ → Bool
is_hexadecimal b = is_digit b || (nat_le 65 b && nat_le b 70) || (nat_le 97 b && nat_le b 102)

-- what is printed of ASCII, and the space
abbrev pub is_printable : ℕ → Bool
is_printable b = nat_le 32 b && nat_le b 126

-- CR or LF: either ends a line, and a comment with it (chapter 3, Lexicon)
abbrev pub is_line_end : ℕ → Bool
is_line_end b = (b == 10) || (b == 13)
