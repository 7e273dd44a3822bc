-- Why a text is refused (SMT-LIB 2.7, chapter 3, Lexicon and S-expressions): the first token fault from the left, and where
-- there is none in the whole text, the first bracket fault.
use Rattle.std.specs.Prelude.{◌≡◌, ℕ, ◌^◌, ◌<◌, ◌≤◌, ◌⊎◌, false, ◌||◌, ◌==◌, length, IsTrue, List, [], ◌∷◌, ◌++◌}
use Rattle.std.specs.List.{flat_map}
use Rattle.std.specs.Str.{is_utf8}
use Rattle.std.proofs.Math.Utf8.{scalars}
use Rattle.law_texts.specs.Front.{begins_without, IsRun}
use Rattle.law_texts.specs.Reads.{IsQuoted}
use Rattle.law_texts.specs.Lexicon.{Piece, Quoted, is_symbol, is_symbol_byte, is_binary, is_hexadecimal, Bits, Number, Token, Begin, End}
use Rattle.law_texts.specs.Lexicon.{Word, tokens, token, quote_twice, decoded}
use Rattle.law_texts.specs.Reading.{Expression, brackets, nesting}
use Rattle.law_texts.specs.Tokens.{StandsFirst, IsCut, AreHeld}
use Rattle.smt_script.specs.Bytes.{bytes_in}
use Rattle.smt_sexpr.specs.declared.error.IntFault.TheVariants.{Empty, PosOverflow}
use Rattle.smt_sexpr.specs.declared.error.SExprParseError.{SExprParseError}
use Rattle.smt_sexpr.specs.declared.error.SExprParseError.TheVariants.{UnexpectedEnd, Utf8Error, StringParseError, ParseIntError}
use Rattle.smt_sexpr.specs.declared.error.SExprParseError.TheVariants.{UnclosedSExpr, TrailingTokens, IntegerOverflow, ZeroWidthBitVec}
use Rattle.smt_sexpr.specs.declared.error.SExprParseError.TheVariants.{TooDeep, Memory}

-- ---- tokens

-- '#' with neither 'b' nor 'x' behind it
abbrev pub HasNoBase : List ℕ → Type 0
HasNoBase bytes = (inside : List ℕ) × (bytes ≡ 35 ∷ inside) × IsTrue (begins_without (λ b. (b == 98) || (b == 120)) inside)

-- '#b' or '#x' with no digit behind it
abbrev pub HasNoDigit : List ℕ → Type 0
HasNoDigit bytes =
    ((inside : List ℕ) × (bytes ≡ 35 ∷ 98 ∷ inside) × IsTrue (begins_without is_binary inside))
    ⊎ ((inside : List ℕ) × (bytes ≡ 35 ∷ 120 ∷ inside) × IsTrue (begins_without is_hexadecimal inside))

-- a quote that opens and none that closes
abbrev pub HasNoEnd : List ℕ → Type 0
HasNoEnd bytes = (inside : List ℕ) × (bytes ≡ 34 ∷ inside) × ((text rest : List ℕ) → IsQuoted inside text rest → ⊥)

-- the longest run of a symbol's bytes, which isn't UTF-8
abbrev pub HasNoText : List ℕ → Type 0
HasNoText bytes = (name rest : List ℕ) × IsRun is_symbol_byte bytes name rest × IsTrue (is_symbol name) × (is_utf8 name ≡ false)

-- the number that the digits of a numeral or of a literal stand for
abbrev pub number_of_token : Token → ℕ
number_of_token (Word (Bits width n)) = n
number_of_token (Word (Number n)) = n
number_of_token t = 0

-- The token stands at the front.
abbrev pub BeginsWithToken : List ℕ → Token → Type 0
BeginsWithToken bytes t = (x : Piece) × (rest : List ℕ) × StandsFirst bytes x rest × (token x ≡ t ∷ [])

-- What stands at the front is no piece, or its token is not held: a literal above 128 bits, a numeral of 2 to the 128 or more, or a
-- string with a surrogate. Of memory nothing is said.
abbrev pub IsTokenFault : SExprParseError → List ℕ → Type 0
IsTokenFault UnexpectedEnd bytes = HasNoBase bytes ⊎ HasNoEnd bytes
IsTokenFault Utf8Error bytes = HasNoText bytes
IsTokenFault (StringParseError raw) bytes =
    (text rest : List ℕ) × StandsFirst bytes (Quoted text) rest × (scalars (decoded 0 text) ≡ false)
    × (bytes_in raw ≡ flat_map quote_twice text)
IsTokenFault (ParseIntError Empty) bytes = HasNoDigit bytes
IsTokenFault (ParseIntError PosOverflow) bytes = (t : Token) × BeginsWithToken bytes t × (2 ^ 128 ≤ number_of_token t)
IsTokenFault UnclosedSExpr bytes = ⊥
IsTokenFault TrailingTokens bytes = ⊥
IsTokenFault IntegerOverflow bytes = (width n : ℕ) × BeginsWithToken bytes (Word (Bits width n)) × (n < 2 ^ 128) × (128 < width)
IsTokenFault ZeroWidthBitVec bytes = ⊥
IsTokenFault TooDeep bytes = ⊥
IsTokenFault Memory bytes = Unit {0}

-- What stands before the fault is cut into pieces, and its tokens are held.
pub record HasTokenFault (fault : SExprParseError) (bytes : List ℕ) : Type 0 where
  pub pieces : List Piece
  pub rest : List ℕ
  pub cut : IsCut pieces bytes rest
  pub held : AreHeld (tokens pieces)
  pub at_rest : IsTokenFault fault rest

-- ---- brackets

-- the tokens of a list that is open: it begins, and has these expressions so far
abbrev pub open_list : List Expression → List Token
open_list es = Begin ∷ flat_map brackets es

-- the tokens of lists that are open, one inside the other, the outermost first
abbrev pub open_lists : List (List Expression) → List Token
open_lists lists = flat_map open_list lists

-- The tokens begin with a bracket that closes; with more open lists than the depth; with an expression within the depth
-- and another token; or they are where an expression within the depth could go on.
abbrev pub IsBracketFault : SExprParseError → ℕ → List Token → Type 0
IsBracketFault UnexpectedEnd depth ts =
    (e : Expression) × (t : Token) × (more : List Token) × (ts ++ t ∷ more ≡ brackets e) × (nesting e ≤ depth)
IsBracketFault Utf8Error depth ts = ⊥
IsBracketFault (StringParseError raw) depth ts = ⊥
IsBracketFault (ParseIntError e) depth ts = ⊥
IsBracketFault UnclosedSExpr depth ts = (after : List Token) × (ts ≡ End ∷ after)
IsBracketFault TrailingTokens depth ts =
    (e : Expression) × (t : Token) × (after : List Token) × (ts ≡ brackets e ++ t ∷ after) × (nesting e ≤ depth)
IsBracketFault IntegerOverflow depth ts = ⊥
IsBracketFault ZeroWidthBitVec depth ts = ⊥
IsBracketFault TooDeep depth ts =
    (lists : List (List Expression)) × (after : List Token) × (ts ≡ open_lists lists ++ after) × (depth < length lists)
IsBracketFault Memory depth ts = ⊥

-- All of the text is cut into pieces, and its tokens are held.
pub record HasBracketFault (fault : SExprParseError) (depth : ℕ) (bytes : List ℕ) : Type 0 where
  pub pieces : List Piece
  pub cut : IsCut pieces bytes []
  pub held : AreHeld (tokens pieces)
  pub of_tokens : IsBracketFault fault depth (tokens pieces)

-- Why a text is no expression of nesting at most a depth: the first token fault from the left, or else, of a text all of whose tokens
-- are held, the first bracket fault.
abbrev pub IsRefused : SExprParseError → ℕ → List ℕ → Type 0
IsRefused fault depth bytes = HasTokenFault fault bytes ⊎ HasBracketFault fault depth bytes

-- The refusal of a string between whose quotes these bytes stand, unless memory ran out.
abbrev pub IsRawString : List ℕ → SExprParseError → Type 0
IsRawString bytes (StringParseError raw) = bytes_in raw ≡ bytes
IsRawString bytes Memory = Unit {0}
IsRawString bytes e = ⊥
