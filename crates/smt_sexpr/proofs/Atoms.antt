-- The piece that stands at the front of a text, by its first bytes, and why none does.
use Rattle.std.proofs.Common.{inl, inr, ◌⊎◌, ap₂, ◌≡◌, ℕ, ◌+◌, ◌*◌, ◌^◌, ◌<◌, ◌≤◌, Bool, true, false, not, ◌&&◌, ◌||◌, eqb, List, [], ◌∷◌, ◌++◌, refl, sym, ap, ◌∙◌, append_assoc, arith, length, length-append, take}
use Rattle.std.specs.Prelude.{nat_le, nat_lt}
use Rattle.std.specs.List.{flat_map, list_all}
use Rattle.std.specs.Str.{IsUtf8, is_utf8}
use Rattle.std.proofs.Math.Seq.{take-append_seam}
use Rattle.std.proofs.Math.Utf8.{scalars}
use Rattle.std.proofs.lemmas.Str.{is_utf8-from_IsUtf8, IsUtf8-from_is_utf8}
use Rattle.std.proofs.lemmas.Bool.{and_parts, and_from, cases_Bool, false≢true, not_from_false}
use Rattle.std.proofs.lemmas.Bool.Decides.{nat_tests}
use Rattle.law_texts.specs.Front.{begins_without, IsRun}
use Rattle.law_texts.proofs.Runs.{head_is}
use Rattle.smt_bits.specs.BitVec.{width_of, number_of}
use Rattle.smt_bits.specs.declared.bitvec.BitVec.{BitVec}
use Rattle.law_texts.specs.Reads.{IsQuoted, begins_number}
use Rattle.law_texts.specs.Lexicon.{Piece, Space, Comment, Open, Close, Quoted, Binary, Hexadecimal, Numeral, Symbol, Bits, Number, Text, Name, Begin, End, Word, some_all, is_symbol, goes_on, stops, quote_twice, is_digit, is_binary, is_hexadecimal, is_line_end, is_symbol_byte, is_space, number_in, decoded}
use Rattle.law_texts.proofs.Blanks.{digits_some}
use Rattle.smt_sexpr.specs.Literals.{IsLiteral, IsLiteralFault}
use Rattle.law_texts.specs.Tokens.{StandsFirst}
use Rattle.smt_sexpr.specs.Pieces.{StandsFor, begins_atom, begins_symbol}
use Rattle.smt_sexpr.specs.Refusals.{IsTokenFault, IsRawString}
use Rattle.smt_sexpr.specs.declared.error.IntFault.TheVariants.{Empty, PosOverflow}
use Rattle.smt_sexpr.specs.declared.error.SExprParseError.{SExprParseError}
use Rattle.smt_sexpr.specs.declared.error.SExprParseError.TheVariants.{UnexpectedEnd, Utf8Error, StringParseError, ParseIntError, UnclosedSExpr, TrailingTokens, IntegerOverflow, ZeroWidthBitVec, TooDeep, Memory}

some_all_from : (test : ℕ → Bool) (bs : List ℕ) → 0 < length bs → list_all test bs ≡ true → some_all test bs ≡ true
some_all_from test [] l h = absurd (omega arith)
some_all_from test (b ∷ bs) l h = h

stops_run : (x : Piece) (rest : List ℕ) → begins_without (goes_on x) rest ≡ true → stops x rest ≡ true
stops_run x [] h = refl
stops_run x (b ∷ bs) h = h

le_test : (n m : ℕ) → n ≤ m → nat_le n m ≡ true
le_test n m h = grind (arith, nat_tests)

lt_test : (n m : ℕ) → n < m → nat_lt n m ≡ true
lt_test n m h = grind (arith, nat_tests)

-- ---- literals

binary_first : (src digits rest : List ℕ) → IsRun is_binary src digits rest → 0 < length digits → StandsFirst (35 ∷ 98 ∷ src) (Binary digits) rest
binary_first src digits rest r l = record {
  spelled = ap (λ (v : List ℕ). 35 ∷ 98 ∷ v) r.whole;
  is_one = some_all_from is_binary digits l r.each;
  longest = stops_run (Binary digits) rest r.longest;
}

hexadecimal_first : (src digits rest : List ℕ) → IsRun is_hexadecimal src digits rest → 0 < length digits → StandsFirst (35 ∷ 120 ∷ src) (Hexadecimal digits) rest
hexadecimal_first src digits rest r l = record {
  spelled = ap (λ (v : List ℕ). 35 ∷ 120 ∷ v) r.whole;
  is_one = some_all_from is_hexadecimal digits l r.each;
  longest = stops_run (Hexadecimal digits) rest r.longest;
}

pub binary_stands : (src digits rest : List ℕ) (b : BitVec) → IsRun is_binary src digits rest → IsLiteral 2 1 digits b → StandsFor (Word (Bits (width_of b) (number_of b)) ∷ []) (35 ∷ 98 ∷ src) rest
binary_stands src digits rest b r h =
    let w = h.width in
    let l = h.held in
    let same : length digits ≡ width_of b = omega arith in
    let small : width_of b ≤ 128 = omega arith in
    record {
      piece = Binary digits;
      first = binary_first src digits rest r h.some;
      tokens_are = ap₂ (λ v n. Word (Bits v n) ∷ []) same (sym h.number);
      held = and_from (nat_le (width_of b) 128) true (le_test (width_of b) 128 small) refl;
    }

pub hexadecimal_stands : (src digits rest : List ℕ) (b : BitVec) → IsRun is_hexadecimal src digits rest → IsLiteral 16 4 digits b → StandsFor (Word (Bits (width_of b) (number_of b)) ∷ []) (35 ∷ 120 ∷ src) rest
hexadecimal_stands src digits rest b r h =
    let w = h.width in
    let l = h.held in
    let small : width_of b ≤ 128 = omega arith in
    record {
      piece = Hexadecimal digits;
      first = hexadecimal_first src digits rest r h.some;
      tokens_are = ap₂ (λ v n. Word (Bits v n) ∷ []) (sym w) (sym h.number);
      held = and_from (nat_le (width_of b) 128) true (le_test (width_of b) 128 small) refl;
    }

no_run : (test : ℕ → Bool) (src digits rest : List ℕ) → IsRun test src digits rest → digits ≡ [] → begins_without test src ≡ true
no_run test src digits rest r e = ap (begins_without test) (r.whole ∙ ap (λ v. v ++ rest) e) ∙ r.longest

pub binary_fault : (src digits rest : List ℕ) (e : SExprParseError) → IsRun is_binary src digits rest → IsLiteralFault 2 1 digits e → IsTokenFault e (35 ∷ 98 ∷ src)
binary_fault src digits rest (ParseIntError Empty) r f = inl (src, refl, no_run is_binary src digits rest r f)
binary_fault src digits rest (ParseIntError PosOverflow) r f = (Word (Bits (length digits) (number_in 2 digits)), (Binary digits, rest, binary_first src digits rest r f.0, refl), f.1)
binary_fault src digits rest IntegerOverflow r f =
    let wide = f.1 in
    (length digits, number_in 2 digits, (Binary digits, rest, binary_first src digits rest r (omega arith), refl), f.0, omega arith)
binary_fault src digits rest UnexpectedEnd r f = absurd f
binary_fault src digits rest Utf8Error r f = absurd f
binary_fault src digits rest (StringParseError raw) r f = absurd f
binary_fault src digits rest UnclosedSExpr r f = absurd f
binary_fault src digits rest TrailingTokens r f = absurd f
binary_fault src digits rest ZeroWidthBitVec r f = absurd f
binary_fault src digits rest TooDeep r f = absurd f
binary_fault src digits rest Memory r f = absurd f

pub hexadecimal_fault : (src digits rest : List ℕ) (e : SExprParseError) → IsRun is_hexadecimal src digits rest → IsLiteralFault 16 4 digits e → IsTokenFault e (35 ∷ 120 ∷ src)
hexadecimal_fault src digits rest (ParseIntError Empty) r f = inr (src, refl, no_run is_hexadecimal src digits rest r f)
hexadecimal_fault src digits rest (ParseIntError PosOverflow) r f = (Word (Bits (4 * length digits) (number_in 16 digits)), (Hexadecimal digits, rest, hexadecimal_first src digits rest r f.0, refl), f.1)
hexadecimal_fault src digits rest IntegerOverflow r f =
    let wide = f.1 in
    (4 * length digits, number_in 16 digits, (Hexadecimal digits, rest, hexadecimal_first src digits rest r (omega arith), refl), f.0, wide)
hexadecimal_fault src digits rest UnexpectedEnd r f = absurd f
hexadecimal_fault src digits rest Utf8Error r f = absurd f
hexadecimal_fault src digits rest (StringParseError raw) r f = absurd f
hexadecimal_fault src digits rest UnclosedSExpr r f = absurd f
hexadecimal_fault src digits rest TrailingTokens r f = absurd f
hexadecimal_fault src digits rest ZeroWidthBitVec r f = absurd f
hexadecimal_fault src digits rest TooDeep r f = absurd f
hexadecimal_fault src digits rest Memory r f = absurd f

pub no_base_at_end : (src : List ℕ) → length src ≡ 0 → IsTokenFault UnexpectedEnd (35 ∷ src)
no_base_at_end [] h = inl ([], refl, refl)
no_base_at_end (b ∷ bs) h = absurd (omega arith)

pub no_base : (src rest : List ℕ) (b : ℕ) → src ≡ b ∷ rest → eqb b 98 ≡ false → eqb b 120 ≡ false → IsTokenFault UnexpectedEnd (35 ∷ src)
no_base src rest b e f g = inl (src, refl, ap (begins_without (λ (k : ℕ). eqb k 98 || eqb k 120)) e ∙ not_from_false (eqb b 98 || eqb b 120) (rw (f, g) refl))

-- ---- numerals

numeral_first : (src digits rest : List ℕ) → IsRun is_digit src digits rest → begins_number src ≡ true → StandsFirst src (Numeral digits) rest
numeral_first src digits rest r h = record {
  spelled = r.whole;
  is_one = some_all_from is_digit digits (digits_some src digits rest r h) r.each;
  longest = stops_run (Numeral digits) rest r.longest;
}

pub numeral_stands : (src digits rest : List ℕ) (n : ℕ) → IsRun is_digit src digits rest → begins_number src ≡ true → number_in 10 digits < 2 ^ 128 → number_in 10 digits ≡ n → StandsFor (Word (Number n) ∷ []) src rest
numeral_stands src digits rest n r h small e = record {
  piece = Numeral digits;
  first = numeral_first src digits rest r h;
  tokens_are = ap (λ v. Word (Number v) ∷ []) e;
  held = and_from (nat_lt n (2 ^ 128)) true (lt_test n (2 ^ 128) (omega arith)) refl;
}

pub numeral_fault : (src digits rest : List ℕ) → IsRun is_digit src digits rest → begins_number src ≡ true → (number_in 10 digits < 2 ^ 128 → ⊥) → IsTokenFault (ParseIntError PosOverflow) src
numeral_fault src digits rest r h big =
    (Word (Number (number_in 10 digits)), (Numeral digits, rest, numeral_first src digits rest r h, refl), omega (arith, big))

-- ---- symbols

name_is : (src name rest : List ℕ) → IsRun is_symbol_byte src name rest → begins_symbol src ≡ true → is_symbol name ≡ true
name_is [] name rest r h = absurd (false≢true h)
name_is (b ∷ bs) [] [] r h = absurd (let e = r.whole in cc)
name_is (b ∷ bs) [] (c ∷ cs) r h =
    let p = and_parts (not (is_digit b)) (is_symbol_byte b) h in
    absurd (false≢true (sym (ap not (ap is_symbol_byte (sym (head_is b c bs cs r.whole).0) ∙ p.1)) ∙ r.longest))
name_is (b ∷ bs) (c ∷ cs) rest r h =
    let p = and_parts (not (is_digit b)) (is_symbol_byte b) h in
    let same = (head_is b c bs (cs ++ rest) r.whole).0 in
    and_from (not (is_digit c)) (some_all is_symbol_byte (c ∷ cs)) (ap (λ v. not (is_digit v)) (sym same) ∙ p.0) r.each

pub name_stands : (src name rest text : List ℕ) → IsRun is_symbol_byte src name rest → begins_symbol src ≡ true → IsUtf8 name → text ≡ name → StandsFor (Word (Name text) ∷ []) src rest
name_stands src name rest text r h u e = record {
  piece = Symbol name;
  first = record {
    spelled = r.whole;
    is_one = and_from (is_symbol name) (is_utf8 name) (name_is src name rest r h) (is_utf8-from_IsUtf8 name u);
    longest = stops_run (Symbol name) rest r.longest;
  };
  tokens_are = ap (λ v. Word (Name v) ∷ []) (sym e);
  held = refl;
}

pub name_fault : (src name rest : List ℕ) → IsRun is_symbol_byte src name rest → begins_symbol src ≡ true → (IsUtf8 name → ⊥) → IsTokenFault Utf8Error src
name_fault src name rest r h u = (name, rest, r, name_is src name rest r h, none (cases_Bool (is_utf8 name)))
  where
    none : (is_utf8 name ≡ true) ⊎ (is_utf8 name ≡ false) → is_utf8 name ≡ false
    none (inl e) = absurd (u (IsUtf8-from_is_utf8 name e))
    none (inr e) = e

-- ---- strings

string_first : (src text rest : List ℕ) → IsQuoted src text rest → StandsFirst (34 ∷ src) (Quoted text) rest
string_first src text rest q = record {
  spelled = ap (λ (v : List ℕ). 34 ∷ v) (q.spelled ∙ sym (append_assoc (flat_map quote_twice text) (34 ∷ []) rest));
  is_one = refl;
  longest = q.closed;
}

pub string_stands : (src text rest points : List ℕ) → IsQuoted src text rest → points ≡ decoded 0 text → true ≡ scalars (decoded 0 text) → StandsFor (Word (Text points) ∷ []) (34 ∷ src) rest
string_stands src text rest points q e s = record {
  piece = Quoted text;
  first = string_first src text rest q;
  tokens_are = ap (λ v. Word (Text v) ∷ []) (sym e);
  held = and_from (scalars points) true (ap scalars e ∙ sym s) refl;
}

pub string_fault : (src text rest raw : List ℕ) (e : SExprParseError) → IsQuoted src text rest → false ≡ scalars (decoded 0 text) → raw ≡ flat_map quote_twice text → IsRawString raw e → IsTokenFault e (34 ∷ src)
string_fault src text rest raw (StringParseError b) q s w h = (text, rest, string_first src text rest q, sym s, h ∙ w)
string_fault src text rest raw Memory q s w h = tt
string_fault src text rest raw (ParseIntError e) q s w h = absurd h
string_fault src text rest raw IntegerOverflow q s w h = absurd h
string_fault src text rest raw UnexpectedEnd q s w h = absurd h
string_fault src text rest raw Utf8Error q s w h = absurd h
string_fault src text rest raw UnclosedSExpr q s w h = absurd h
string_fault src text rest raw TrailingTokens q s w h = absurd h
string_fault src text rest raw ZeroWidthBitVec q s w h = absurd h
string_fault src text rest raw TooDeep q s w h = absurd h

pub quoted_length : (src text rest : List ℕ) → IsQuoted src text rest → length src ≡ length (flat_map quote_twice text) + 1 + length rest
quoted_length src text rest q = omega (arith, ap length q.spelled, length-append (flat_map quote_twice text) (34 ∷ rest))

pub raw_is : (src text rest raw : List ℕ) (n : ℕ) → IsQuoted src text rest → raw ≡ take n src → n + 1 + length rest ≡ length src → raw ≡ flat_map quote_twice text
raw_is src text rest raw n q e l =
    let m = quoted_length src text rest q in
    let same : n ≡ length (flat_map quote_twice text) = omega arith in
    e ∙ ap₂ (λ i (v : List ℕ). take i v) same q.spelled ∙ take-append_seam (flat_map quote_twice text) (34 ∷ rest)

-- ---- what begins

pub symbol_left : (b : ℕ) (bs : List ℕ) → begins_atom (b ∷ bs) ≡ true → eqb b 34 ≡ false → eqb b 35 ≡ false → is_digit b ≡ false → begins_symbol (b ∷ bs) ≡ true
symbol_left b bs h e f g = go (is_space b) (eqb b 40) (eqb b 41) (eqb b 59) h
  where
    go : (s o c k : Bool) → not (((s || o) || c) || k) ≡ true → not (is_digit b) && not (((((s || o) || c) || k) || eqb b 34) || eqb b 35) ≡ true
    go true o c k h = absurd (false≢true h)
    go false true c k h = absurd (false≢true h)
    go false false true k h = absurd (false≢true h)
    go false false false true h = absurd (false≢true h)
    go false false false false h = rw (e, f, g) refl

pub blank_stands : (src inside : List ℕ) (b : ℕ) → src ≡ b ∷ inside → is_space b ≡ true → StandsFor [] src inside
blank_stands src inside b e h = record {
  piece = Space b;
  first = record { spelled = e; is_one = h; longest = stops_run (Space b) inside (no_more inside) };
  tokens_are = refl;
  held = refl;
}
  where
    no_more : (bs : List ℕ) → begins_without (λ k. false) bs ≡ true
    no_more [] = refl
    no_more (k ∷ ks) = refl

pub comment_stands : (src inside text rest : List ℕ) → src ≡ 59 ∷ inside → IsRun (λ b. not (is_line_end b)) inside text rest → StandsFor [] src rest
comment_stands src inside text rest e r = record {
  piece = Comment text;
  first = record { spelled = e ∙ ap (λ (v : List ℕ). 59 ∷ v) r.whole; is_one = r.each; longest = stops_run (Comment text) rest r.longest };
  tokens_are = refl;
  held = refl;
}

pub open_stands : (src inside : List ℕ) → src ≡ 40 ∷ inside → StandsFor (Begin ∷ []) src inside
open_stands src inside e = record {
  piece = Open;
  first = record { spelled = e; is_one = refl; longest = none inside };
  tokens_are = refl;
  held = refl;
}
  where
    none : (bs : List ℕ) → stops Open bs ≡ true
    none [] = refl
    none (k ∷ ks) = refl

pub close_stands : (src inside : List ℕ) → src ≡ 41 ∷ inside → StandsFor (End ∷ []) src inside
close_stands src inside e = record {
  piece = Close;
  first = record { spelled = e; is_one = refl; longest = none inside };
  tokens_are = refl;
  held = refl;
}
  where
    none : (bs : List ℕ) → stops Close bs ≡ true
    none [] = refl
    none (k ∷ ks) = refl
