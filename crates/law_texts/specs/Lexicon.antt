-- The lexicon of SMT-LIB: the pieces that a text is cut into, each with its spelling.
use Rattle.std.specs.Prelude.{◌≡◌, ℕ, length, ◌*◌, Bool, true, false, not, ◌&&◌, ◌||◌, IsTrue, ◌==◌, nat_le, codes, List, [], ◌∷◌, ◌++◌}
use Rattle.std.specs.List.{flat_map, list_all, list_any}
use Rattle.std.specs.Str.{is_utf8}
pub use Rattle.law_texts.specs.Characters.{is_digit, is_hexadecimal, is_line_end, is_printable}
pub use Rattle.law_texts.specs.Digits.{digit_value, number_in, some_all}
pub use Rattle.law_texts.specs.Escapes.{decoded}
pub use Rattle.law_texts.specs.Quoting.{quote_twice}

-- ---- bytes

-- space, tab, LF, CR, form feed
abbrev pub is_space : ℕ → Bool
is_space b = (b == 32) || (b == 9) || is_line_end b || (b == 12)

-- '0' and '1'
abbrev pub is_binary : ℕ → Bool
is_binary b = (b == 48) || (b == 49)

-- what ends a symbol: white space, a bracket, ';', '"' or '#'
abbrev pub ends_symbol : ℕ → Bool
ends_symbol b = is_space b || (b == 40) || (b == 41) || (b == 59) || (b == 34) || (b == 35)

-- what a symbol may have: any byte that ends none
abbrev pub is_symbol_byte : ℕ → Bool
is_symbol_byte b = not (ends_symbol b)

-- ---- pieces

-- What a text is cut into; white space and comments are pieces too (SMT-LIB 2.7, chapter 3, "Lexicon"). A keyword is a symbol that
-- begins with a colon, and a reserved word is one too. Decimals, and symbols between bars, are left out.
pub data Piece : Type 0 where
  -- one byte of white space
  Space : ℕ → Piece
  -- the bytes after the semicolon
  Comment : List ℕ → Piece
  Open : Piece
  Close : Piece
  -- the bytes between the quotes, a doubled quote counted once
  Quoted : List ℕ → Piece
  -- the digits
  Binary : List ℕ → Piece
  Hexadecimal : List ℕ → Piece
  Numeral : List ℕ → Piece
  Symbol : List ℕ → Piece

-- the bytes of a piece
abbrev pub spelling : Piece → List ℕ
spelling (Space b) = b ∷ []
spelling (Comment text) = codes ";" ++ text
spelling Open = codes "("
spelling Close = codes ")"
spelling (Quoted text) = codes "\"" ++ flat_map quote_twice text ++ codes "\""
spelling (Binary digits) = codes "#b" ++ digits
spelling (Hexadecimal digits) = codes "#x" ++ digits
spelling (Numeral digits) = digits
spelling (Symbol name) = name

-- at least one byte of a symbol, and no digit first
abbrev pub is_symbol : List ℕ → Bool
is_symbol [] = false
is_symbol (b ∷ bs) = not (is_digit b) && some_all is_symbol_byte (b ∷ bs)

-- The pieces that there are. A symbol is UTF-8: the longest run of a symbol's bytes is taken, and where it is no UTF-8,
-- no piece stands there.
abbrev pub is_piece : Piece → Bool
is_piece (Space b) = is_space b
is_piece (Comment text) = list_all (λ b. not (is_line_end b)) text
is_piece Open = true
is_piece Close = true
is_piece (Quoted text) = true
is_piece (Binary digits) = some_all is_binary digits
is_piece (Hexadecimal digits) = some_all is_hexadecimal digits
is_piece (Numeral digits) = some_all is_digit digits
is_piece (Symbol name) = is_symbol name && is_utf8 name

-- a byte that would make the piece longer
abbrev pub goes_on : Piece → ℕ → Bool
goes_on (Space a) b = false
goes_on (Comment text) b = not (is_line_end b)
goes_on Open b = false
goes_on Close b = false
goes_on (Quoted text) b = b == 34
goes_on (Binary digits) b = is_binary b
goes_on (Hexadecimal digits) b = is_hexadecimal b
goes_on (Numeral digits) b = is_digit b
goes_on (Symbol name) b = is_symbol_byte b

-- no byte after the piece makes it longer
abbrev pub stops : Piece → List ℕ → Bool
stops x [] = true
stops x (b ∷ rest) = not (goes_on x b)

-- the bytes of pieces, one behind the other
abbrev pub spell : List Piece → List ℕ
spell pieces = flat_map spelling pieces

-- each is a piece, and the longest that stands there
abbrev pub each_longest : List Piece → Bool
each_longest [] = true
each_longest (x ∷ xs) = is_piece x && (stops x (spell xs) && each_longest xs)

-- The text is the spellings of these pieces, each the longest. More is taken than the standard has: numerals with zeros in front,
-- any bytes in comments, and a symbol directly behind a numeral.
pub record IsCutInto (bytes : List ℕ) (pieces : List Piece) : Type 0 where
  pub spelled : bytes ≡ spell pieces
  pub longest : IsTrue (each_longest pieces)

-- ---- tokens

-- What an expression has besides brackets: a literal of bits, a numeral, a string, or a name, which may be a keyword.
pub data Atom : Type 0 where
  -- width and number
  Bits : ℕ → ℕ → Atom
  Number : ℕ → Atom
  -- code points
  Text : List ℕ → Atom
  Name : List ℕ → Atom

-- a bracket or an atom
pub data Token : Type 0 where
  Begin : Token
  End : Token
  Word : Atom → Token

-- white space and comments stand between tokens
abbrev pub token : Piece → List Token
token (Space b) = []
token (Comment text) = []
token Open = Begin ∷ []
token Close = End ∷ []
token (Quoted text) = Word (Text (decoded 0 text)) ∷ []
token (Binary digits) = Word (Bits (length digits) (number_in 2 digits)) ∷ []
token (Hexadecimal digits) = Word (Bits (4 * length digits) (number_in 16 digits)) ∷ []
token (Numeral digits) = Word (Number (number_in 10 digits)) ∷ []
token (Symbol name) = Word (Name name) ∷ []

-- the tokens of pieces, in order
abbrev pub tokens : List Piece → List Token
tokens pieces = flat_map token pieces

-- 'A' to 'Z' and 'a' to 'z'
abbrev pub is_letter : ℕ → Bool
is_letter b = (nat_le 65 b && nat_le b 90) || (nat_le 97 b && nat_le b 122)

-- a letter, a digit, or one of the other characters of simple symbols (SMT-LIB 2.7, chapter 3, "Lexicon")
abbrev pub is_plain_byte : ℕ → Bool
is_plain_byte b = is_letter b || is_digit b || list_any (λ c. b == c) (codes "~!@$%^&*_-+=<>.?/")

-- a symbol whose bytes are all plain, with a colon in front where it is a keyword
abbrev pub is_plain_symbol : List ℕ → Bool
is_plain_symbol [] = false
is_plain_symbol (b ∷ bs) = (is_plain_byte b || (b == 58)) && list_all is_plain_byte bs

-- a piece that a script of our profile may hold: no form feed outside comments, strings of printable ASCII, plain symbols
abbrev pub in_script : Piece → Bool
in_script (Space b) = not (b == 12)
in_script (Comment text) = true
in_script Open = true
in_script Close = true
in_script (Quoted text) = list_all is_printable text
in_script (Binary digits) = true
in_script (Hexadecimal digits) = true
in_script (Numeral digits) = true
in_script (Symbol name) = is_plain_symbol name
