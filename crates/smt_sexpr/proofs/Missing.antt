-- Atoms that do not stand at the front of a text, where a reader finds none.
use Rattle.std.proofs.Common.{◌≡◌, ℕ, ◌≤◌, ◌^◌, true, false, not, List, [], ◌∷◌, ◌++◌, refl, sym, ap, ◌∙◌, subst, arith, append_assoc}
use Rattle.std.specs.Prelude.{nat_lt}
use Rattle.std.specs.List.{flat_map, list_all}
use Rattle.std.specs.Str.{is_utf8}
use Rattle.std.proofs.lemmas.Bool.{and_parts, and_from, false≢true}
use Rattle.std.proofs.lemmas.Bool.Decides.{nat_tests}
use Rattle.law_texts.specs.Front.{IsRun}
use Rattle.law_texts.specs.Lexicon.{Piece, Space, Comment, Quoted, Numeral, Symbol, Token, Word, Name, Number, is_digit, is_piece, is_symbol, is_symbol_byte, quote_twice, some_all, spelling, stops, token, tokens}
use Rattle.law_texts.specs.Reads.{begins_number}
use Rattle.law_texts.specs.Tokens.{IsCut, Spans, StandsFirst}
use Rattle.law_texts.proofs.Runs.{head_is, one_run}
use Rattle.law_texts.proofs.Strings.{twice_none}
use Rattle.law_texts.proofs.Unique.{all_of_symbol, first_one, run_ends}
use Rattle.smt_sexpr.specs.Pieces.{HasPlainText, begins_blank, begins_symbol, stands_as_itself}
use Rattle.smt_sexpr.specs.Refusals.{IsTokenFault, number_of_token}
use Rattle.smt_sexpr.specs.declared.error.IntFault.TheVariants.{PosOverflow}
use Rattle.smt_sexpr.specs.declared.error.SExprParseError.TheVariants.{Utf8Error, ParseIntError}
use Rattle.smt_sexpr.proofs.Fronts.{IsFirst, comment_begins, first_piece, space_begins}
use Rattle.smt_sexpr.proofs.PlainTexts.{no_quotes}

-- ---- the first token

-- Behind pieces without tokens those of the token stand.
record IsBehind (between rest : List ℕ) (t : Token) : Type 0 where
  pub pieces : List Piece
  pub cut : IsCut pieces between rest
  pub tokens_are : tokens pieces ≡ t ∷ []

both_empty : (ts us : List Token) → ts ++ us ≡ [] → (ts ≡ []) × (us ≡ [])
both_empty [] us e = (refl, e)
both_empty (t ∷ ts) us e = absurd (cc)

behind_pieces : (xs ys : List Piece) (bytes between rest : List ℕ) (t : Token) → IsCut xs bytes between → tokens xs ≡ [] → IsCut ys bytes rest → tokens ys ≡ t ∷ [] → IsBehind between rest t
behind_pieces [] ys bytes between rest t e n d h = record { pieces = ys; cut = subst (λ v. IsCut ys v rest) e d; tokens_are = h }
behind_pieces (x ∷ xs) [] bytes between rest t c n e h = absurd (cc)
behind_pieces (x ∷ xs) (y ∷ ys) bytes between rest t c n d h =
    let f = first_one x y c.0 d.0 c.1.is_one d.1.is_one c.1.longest d.1.longest (sym c.1.spelled ∙ d.1.spelled) in
    let p = both_empty (token x) (tokens xs) n in
    behind_pieces xs ys c.0 between rest t c.2 p.1 (subst (λ v. IsCut ys v rest) (sym f.1) d.2) (ap (λ v. v ++ tokens ys) (sym p.0 ∙ ap token f.0) ∙ h)

first_token : (bytes text rest : List ℕ) (t : Token) → Spans bytes [] text → begins_blank text ≡ false → Spans bytes (t ∷ []) rest → IsFirst text t
first_token bytes text rest t s n h =
    let b = behind_pieces s.pieces h.pieces bytes text rest t s.cut s.tokens_are h.cut h.tokens_are in
    first_piece b.pieces text rest t [] b.cut n b.tokens_are

-- no piece without a token stands where no blank begins
no_blank_here : (x : Piece) (xs : List Piece) (bytes rest : List ℕ) → StandsFirst bytes x rest → tokens (x ∷ xs) ≡ [] → begins_blank bytes ≡ false → ⊥
no_blank_here (Space b) xs bytes rest f h n = false≢true (sym n ∙ ap begins_blank f.spelled ∙ space_begins b rest f.is_one)
no_blank_here (Comment t) xs bytes rest f h n = false≢true (sym n ∙ ap begins_blank f.spelled ∙ comment_begins t rest)
no_blank_here x xs bytes rest f h n = absurd (cc)

-- ---- symbols

symbol_of : (x : Piece) (name : List ℕ) → token x ≡ Word (Name name) ∷ [] → x ≡ Symbol name
symbol_of (Symbol s) name e = cc
symbol_of x name e = absurd (cc)

symbol_begins : (name after : List ℕ) → is_symbol name ≡ true → begins_symbol (name ++ after) ≡ true
symbol_begins [] after h = absurd (false≢true h)
symbol_begins (b ∷ bs) after h =
    let p = and_parts (not (is_digit b)) (some_all is_symbol_byte (b ∷ bs)) h in
    and_from (not (is_digit b)) (is_symbol_byte b) p.0 (and_parts (is_symbol_byte b) (list_all is_symbol_byte bs) p.1).0

module _ (bytes text name rest : List ℕ) (s : Spans bytes [] text) (n : begins_blank text ≡ false) (h : Spans bytes (Word (Name name) ∷ []) rest) where
  first_symbol : (after : List ℕ) × StandsFirst text (Symbol name) after
  first_symbol = (let f = first_token bytes text rest (Word (Name name)) s n h in (f.rest, subst (λ v. StandsFirst text v f.rest) (symbol_of f.piece name f.token_is) f.stands))

  -- where no symbol begins
  pub no_symbol : begins_symbol text ≡ false → ⊥
  no_symbol none =
      let f = first_symbol in
      false≢true (sym none ∙ ap begins_symbol f.1.spelled ∙ symbol_begins name f.0 (and_parts (is_symbol name) (is_utf8 name) f.1.is_one).0)

  -- where the longest run of its bytes is no UTF-8
  pub no_utf8 : IsTokenFault Utf8Error text → ⊥
  no_utf8 fault =
      let f = first_symbol in
      let p = and_parts (is_symbol name) (is_utf8 name) f.1.is_one in
      let same = one_run is_symbol_byte fault.0 name fault.1 f.0 fault.2.each (all_of_symbol name p.0) fault.2.longest (run_ends (Symbol name) f.0 f.1.longest) (sym fault.2.whole ∙ f.1.spelled) in
      false≢true (sym fault.4 ∙ ap is_utf8 same.0 ∙ p.1)

-- ---- numerals

numeral_begins : (x : Piece) (n : ℕ) (after : List ℕ) → token x ≡ Word (Number n) ∷ [] → is_piece x ≡ true → begins_number (spelling x ++ after) ≡ true
numeral_begins (Numeral []) n after e h = absurd (false≢true h)
numeral_begins (Numeral (d ∷ ds)) n after e h = (and_parts (is_digit d) (list_all is_digit ds) h).0
numeral_begins x n after e h = absurd (cc)

one_number : (t : Token) (n : ℕ) → t ∷ [] ≡ Word (Number n) ∷ [] → number_of_token t ≡ n
one_number t n e = ap number_of_token (first_is e)
  where
    first_is : t ∷ [] ≡ Word (Number n) ∷ [] → t ≡ Word (Number n)
    first_is h = cc

not_below : (n m : ℕ) → m ≤ n → nat_lt n m ≡ true → ⊥
not_below n m l h = grind (arith, nat_tests)

module _ (bytes text : List ℕ) (number : ℕ) (rest : List ℕ) (s : Spans bytes [] text) (n : begins_blank text ≡ false) (h : Spans bytes (Word (Number number) ∷ []) rest) where
  -- where no numeral begins
  pub no_numeral : begins_number text ≡ false → ⊥
  no_numeral none =
      let f = first_token bytes text rest (Word (Number number)) s n h in
      false≢true (sym none ∙ ap begins_number f.stands.spelled ∙ numeral_begins f.piece number f.rest f.token_is f.stands.is_one)

  -- where the one that begins is 2 to the 128 or more
  pub no_small_numeral : IsTokenFault (ParseIntError PosOverflow) text → ⊥
  no_small_numeral fault =
      let f = first_token bytes text rest (Word (Number number)) s n h in
      let b = fault.1 in
      let same = first_one b.0 f.piece b.1 f.rest b.2.is_one f.stands.is_one b.2.longest f.stands.longest (sym b.2.spelled ∙ f.stands.spelled) in
      let is_number = one_number fault.0 number (sym b.3 ∙ ap token same.0 ∙ f.token_is) in
      not_below number (2 ^ 128) (subst (λ v. 2 ^ 128 ≤ v) is_number fault.2) (and_parts (nat_lt number (2 ^ 128)) true h.held).0

-- ---- plain strings

-- between two quotes there are these bytes, none of which is a quote
plain_between : (src text rest : List ℕ) → StandsFirst (34 ∷ src) (Quoted text) rest → list_all stands_as_itself text ≡ true → src ≡ text ++ 34 ∷ rest
plain_between src text rest f p =
    (head_is 34 34 src ((flat_map quote_twice text ++ 34 ∷ []) ++ rest) f.spelled).1
    ∙ append_assoc (flat_map quote_twice text) (34 ∷ []) rest
    ∙ ap (λ v. v ++ 34 ∷ rest) (twice_none text (no_quotes text p))

module _ (src run end text rest : List ℕ) (r : IsRun stands_as_itself src run end) (f : StandsFirst (34 ∷ src) (Quoted text) rest) (p : list_all stands_as_itself text ≡ true) where
  -- they are the longest run of plain bytes, and a quote follows
  pub plain_run : (run ≡ text) × (end ≡ 34 ∷ rest)
  plain_run = one_run stands_as_itself run text end (34 ∷ rest) r.each p r.longest refl (sym r.whole ∙ plain_between src text rest f p)

  -- behind it no other quote follows
  pub closed_once : (after more : List ℕ) → end ≡ 34 ∷ after → after ≡ 34 ∷ more → ⊥
  closed_once after more e d =
      let same : after ≡ rest = (head_is 34 34 after rest (sym e ∙ plain_run.1)).1 in
      false≢true (ap (stops (Quoted text)) (sym d ∙ same) ∙ f.longest)

-- white space and comments stand at the front in one way
blanks_end : (xs ys : List Piece) (bytes a b : List ℕ) → IsCut xs bytes a → tokens xs ≡ [] → begins_blank a ≡ false → IsCut ys bytes b → tokens ys ≡ [] → begins_blank b ≡ false → a ≡ b
blanks_end [] [] bytes a b e h n f k m = sym e ∙ f
blanks_end [] (y ∷ ys) bytes a b e h n d k m = absurd (no_blank_here y ys a d.0 (subst (λ v. StandsFirst v y d.0) e d.1) k n)
blanks_end (x ∷ xs) [] bytes a b c h n f k m = absurd (no_blank_here x xs b c.0 (subst (λ v. StandsFirst v x c.0) f c.1) h m)
blanks_end (x ∷ xs) (y ∷ ys) bytes a b c h n d k m =
    let o = first_one x y c.0 d.0 c.1.is_one d.1.is_one c.1.longest d.1.longest (sym c.1.spelled ∙ d.1.spelled) in
    blanks_end xs ys c.0 a b c.2 (both_empty (token x) (tokens xs) h).1 n (subst (λ v. IsCut ys v b) (sym o.1) d.2) (both_empty (token y) (tokens ys) k).1 m

module _ (bytes front text rest : List ℕ) (s : Spans bytes [] front) (n : begins_blank front ≡ false) (h : HasPlainText bytes text rest) where
  plain_first : StandsFirst front (Quoted text) rest
  plain_first =
      let one = blanks_end h.blank.pieces s.pieces bytes h.front front h.blank.cut h.blank.tokens_are (ap begins_blank h.first.spelled) s.cut s.tokens_are n in
      subst (λ v. StandsFirst v (Quoted text) rest) one h.first

  -- where no quote opens
  pub no_quote_opens : ((inside : List ℕ) → front ≡ 34 ∷ inside → ⊥) → ⊥
  no_quote_opens none = none ((flat_map quote_twice text ++ 34 ∷ []) ++ rest) plain_first.spelled

  -- where none is found behind the one that opens
  pub no_plain_inside : (inside : List ℕ) → front ≡ 34 ∷ inside → ((text rest : List ℕ) → StandsFirst (34 ∷ inside) (Quoted text) rest → list_all stands_as_itself text ≡ true → ⊥) → ⊥
  no_plain_inside inside e none = none text rest (subst (λ v. StandsFirst v (Quoted text) rest) e plain_first) h.plain
