-- What is refused is no expression within the limits.
use Rattle.std.proofs.Common.{inl, inr, ◌⊎◌, ◌≡◌, ℕ, ◌*◌, ◌^◌, ◌<◌, ◌≤◌, Bool, true, false, not, ◌||◌, eqb, List, [], ◌∷◌, ◌++◌, refl, sym, ap, ◌∙◌, subst, append_assoc, arith, length, length-append}
use Rattle.std.specs.Prelude.{nat_le, nat_lt}
use Rattle.std.specs.List.{flat_map, list_all}
use Rattle.std.specs.Str.{is_utf8}
use Rattle.std.proofs.Math.Nat.{pow-le-pow_right}
use Rattle.std.proofs.Math.Utf8.{scalars}
use Rattle.std.proofs.lemmas.Bool.{and_parts, cases_Bool, false≢true, leb-true, not-true, cond-true, cond-false}
use Rattle.std.proofs.lemmas.Bool.Decides.{nat_tests}
use Rattle.std.proofs.lemmas.List.{append-nil}
use Rattle.law_texts.specs.Front.{begins_without}
use Rattle.law_texts.proofs.Runs.{head_is, one_run}
use Rattle.law_texts.specs.Reads.{IsQuoted}
use Rattle.law_texts.specs.Lexicon.{Piece, Space, Comment, Open, Close, Quoted, Binary, Hexadecimal, Numeral, Symbol, Bits, Number, Text, Name, Token, Begin, End, Word, token, tokens, spelling, some_all, is_symbol, is_piece, stops, quote_twice, is_digit, is_binary, is_hexadecimal, is_symbol_byte, number_in, decoded}
use Rattle.law_texts.specs.Reading.{Expression, Leaf, Node, Expressions, Nil, Cons, brackets, deepest, inside, nesting, Reads}
use Rattle.law_texts.specs.Tokens.{StandsFirst, IsCut, AreHeld, is_held, IsReadWithin}
use Rattle.law_texts.proofs.Spans.{cut_into, held_parts, into_cut}
use Rattle.law_texts.proofs.Trees.{end_begins, one_expr, token_is}
use Rattle.law_texts.proofs.Unique.{begins, first_one, kind, kind_is, number, one_cut, second, all_of_symbol, run_ends}
use Rattle.smt_sexpr.specs.Refusals.{IsBracketFault, IsRefused, IsTokenFault, number_of_token, open_list, open_lists}
use Rattle.smt_sexpr.specs.declared.error.IntFault.TheVariants.{Empty, PosOverflow}
use Rattle.smt_sexpr.specs.declared.error.SExprParseError.{SExprParseError}
use Rattle.smt_sexpr.specs.declared.error.SExprParseError.TheVariants.{UnexpectedEnd, Utf8Error, StringParseError, ParseIntError, UnclosedSExpr, TrailingTokens, IntegerOverflow, ZeroWidthBitVec, TooDeep, Memory}
use Rattle.smt_sexpr.proofs.Digits.{below, binary_digits, hexadecimal_digits, literal_below}

-- ---- the pieces behind those that stand before a fault

pub behind : (xs ys : List Piece) (bytes rest : List ℕ) → IsCut xs bytes rest → IsCut ys bytes [] → AreHeld (tokens ys) → (zs : List Piece) × IsCut zs rest [] × AreHeld (tokens zs)
behind [] ys bytes rest e c h = (ys, subst (λ v. IsCut ys v []) e c, h)
behind (x ∷ xs) [] bytes rest c e h = absurd (begins x c.0 c.1.is_one (sym e ∙ c.1.spelled))
behind (x ∷ xs) (y ∷ ys) bytes rest c d h =
    let f = first_one x y c.0 d.0 c.1.is_one d.1.is_one c.1.longest d.1.longest (sym c.1.spelled ∙ d.1.spelled) in
    behind xs ys c.0 rest c.2 (subst (λ v. IsCut ys v []) (sym f.1) d.2) (held_parts (token y) (tokens ys) h).1

-- the piece at the front is held
held_first : (x : Piece) (zs : List Piece) (rest after : List ℕ) → StandsFirst rest x after → IsCut zs rest [] → AreHeld (tokens zs) → AreHeld (token x)
held_first x [] rest after s e h = absurd (begins x after s.is_one (sym e ∙ s.spelled))
held_first x (z ∷ zs) rest after s c h =
    let f = first_one x z after c.0 s.is_one c.1.is_one s.longest c.1.longest (sym s.spelled ∙ c.1.spelled) in
    subst (λ v. AreHeld (token v)) (sym f.0) (held_parts (token z) (tokens zs) h).0

-- ---- tokens that are not held

head_of : (a b : Token) → a ∷ [] ≡ b ∷ [] → a ≡ b
head_of a b e = cc

no_token : (t : Token) → [] ≡ t ∷ [] → ⊥
no_token t e = cc

some_is : (test : ℕ → Bool) (ds : List ℕ) → some_all test ds ≡ true → list_all test ds ≡ true
some_is test [] h = refl
some_is test (d ∷ ds) h = h

number_held : (x : Piece) (t : Token) → is_piece x ≡ true → AreHeld (token x) → token x ≡ t ∷ [] → number_of_token t < 2 ^ 128
number_held (Space b) t h k e = absurd (no_token t e)
number_held (Comment s) t h k e = absurd (no_token t e)
number_held Open t h k e = let n : 0 ≡ number_of_token t = ap number_of_token (head_of Begin t e) in omega arith
number_held Close t h k e = let n : 0 ≡ number_of_token t = ap number_of_token (head_of End t e) in omega arith
number_held (Quoted s) t h k e = let n : 0 ≡ number_of_token t = ap number_of_token (head_of (Word (Text (decoded 0 s))) t e) in omega arith
number_held (Binary ds) t h k e =
    let n : number_in 2 ds ≡ number_of_token t = ap number_of_token (head_of (Word (Bits (length ds) (number_in 2 ds))) t e) in
    let w : length ds ≤ 128 = leb-true (length ds) 128 (and_parts (nat_le (length ds) 128) true k).0 in
    let b = below 2 ds (binary_digits ds (some_is is_binary ds h)) in
    let two : 0 < 2 = omega arith in
    let m : 2 ^ length ds ≤ 2 ^ 128 = pow-le-pow_right two w in
    omega arith
number_held (Hexadecimal ds) t h k e =
    let n : number_in 16 ds ≡ number_of_token t = ap number_of_token (head_of (Word (Bits (4 * length ds) (number_in 16 ds))) t e) in
    let w : 4 * length ds ≤ 128 = leb-true (4 * length ds) 128 (and_parts (nat_le (4 * length ds) 128) true k).0 in
    let b = literal_below 16 4 (number_in 16 ds) (4 * length ds) ds refl (hexadecimal_digits ds (some_is is_hexadecimal ds h)) refl refl in
    let two : 0 < 2 = omega arith in
    let m : 2 ^ (4 * length ds) ≤ 2 ^ 128 = pow-le-pow_right two w in
    omega arith
number_held (Numeral ds) t h k e =
    let n : number_in 10 ds ≡ number_of_token t = ap number_of_token (head_of (Word (Number (number_in 10 ds))) t e) in
    let w = (and_parts (nat_lt (number_in 10 ds) (2 ^ 128)) true k).0 in
    let s : number_in 10 ds < 2 ^ 128 = from_test (number_in 10 ds) (2 ^ 128) w in
    omega arith
  where
    from_test : (a b : ℕ) → nat_lt a b ≡ true → a < b
    from_test a b q = grind (arith, nat_tests)
number_held (Symbol s) t h k e = let n : 0 ≡ number_of_token t = ap number_of_token (head_of (Word (Name s)) t e) in omega arith

width_held : (w n : ℕ) (x : Piece) → AreHeld (token x) → token x ≡ Word (Bits w n) ∷ [] → w ≤ 128
width_held w n x k e = leb-true w 128 (and_parts (nat_le w 128) true (sym (ap (list_all is_held) e) ∙ k)).0

-- ---- where no piece stands

nothing : (b : ℕ) (bs : List ℕ) → [] ≡ b ∷ bs → ⊥
nothing b bs e = cc

second_is : (bs : List ℕ) → (5 ≤ second bs) × (second bs ≡ 7 → ⊥) × (second bs ≡ 8 → ⊥)
second_is [] = (omega arith, λ e. (let f : 9 ≡ 7 = e in omega arith), λ e. (let f : 9 ≡ 8 = e in omega arith))
second_is (b ∷ bs) = elim (cases_Bool (eqb b 98)) [
  | inl e ↦ (let s : second (b ∷ bs) ≡ 5 = cond-true (eqb b 98) 5 6 e in (omega arith, λ f. omega arith, λ f. omega arith))
  | inr e ↦ (let s : second (b ∷ bs) ≡ 6 = cond-false (eqb b 98) 5 6 e in (omega arith, λ f. omega arith, λ f. omega arith))
]

starts : (test : ℕ → Bool) (b : ℕ) (bs rest : List ℕ) → test b ≡ true → begins_without test rest ≡ true → rest ≡ b ∷ bs → ⊥
starts test b bs rest h k e = false≢true (sym (ap not h) ∙ sym (ap (begins_without test) e) ∙ k)

some_starts : (test : ℕ → Bool) (ds r inside : List ℕ) → some_all test ds ≡ true → begins_without test inside ≡ true → inside ≡ ds ++ r → ⊥
some_starts test [] r inside h k e = false≢true h
some_starts test (d ∷ ds) r inside h k e = starts test d (ds ++ r) inside (and_parts (test d) (list_all test ds) h).0 k e

-- behind '#' stands a literal
at_hash : (inside : List ℕ) (x : Piece) (r : List ℕ) → is_piece x ≡ true → 35 ∷ inside ≡ spelling x ++ r → ((ds : List ℕ) × (some_all is_binary ds ≡ true) × (inside ≡ 98 ∷ (ds ++ r))) ⊎ ((ds : List ℕ) × (some_all is_hexadecimal ds ≡ true) × (inside ≡ 120 ∷ (ds ++ r)))
at_hash inside (Binary ds) r k e = inl (ds, k, (head_is 35 35 inside (98 ∷ (ds ++ r)) e).1)
at_hash inside (Hexadecimal ds) r k e = inr (ds, k, (head_is 35 35 inside (120 ∷ (ds ++ r)) e).1)
at_hash inside (Numeral ds) r k e = absurd ((second_is inside).1 (ap kind e ∙ kind_is (Numeral ds) r k))
at_hash inside (Symbol ds) r k e = absurd ((second_is inside).2 (ap kind e ∙ kind_is (Symbol ds) r k))
at_hash inside x r k e = let n : second inside ≡ number x = ap kind e ∙ kind_is x r k in let s = (second_is inside).0 in absurd (omega arith)

no_base : (inside : List ℕ) (x : Piece) (r : List ℕ) → begins_without (λ b. eqb b 98 || eqb b 120) inside ≡ true → is_piece x ≡ true → 35 ∷ inside ≡ spelling x ++ r → ⊥
no_base inside x r h k e = elim (at_hash inside x r k e) [
  | inl p ↦ starts (λ b. eqb b 98 || eqb b 120) 98 (p.0 ++ r) inside refl h p.2
  | inr p ↦ starts (λ b. eqb b 98 || eqb b 120) 120 (p.0 ++ r) inside refl h p.2
]

no_binary : (inside : List ℕ) (x : Piece) (r : List ℕ) → begins_without is_binary inside ≡ true → is_piece x ≡ true → 35 ∷ 98 ∷ inside ≡ spelling x ++ r → ⊥
no_binary inside x r h k e = elim (at_hash (98 ∷ inside) x r k e) [
  | inl p ↦ some_starts is_binary p.0 r inside p.1 h (head_is 98 98 inside (p.0 ++ r) p.2).1
  | inr p ↦ (let n = (head_is 98 120 inside (p.0 ++ r) p.2).0 in omega arith)
]

no_hexadecimal : (inside : List ℕ) (x : Piece) (r : List ℕ) → begins_without is_hexadecimal inside ≡ true → is_piece x ≡ true → 35 ∷ 120 ∷ inside ≡ spelling x ++ r → ⊥
no_hexadecimal inside x r h k e = elim (at_hash (120 ∷ inside) x r k e) [
  | inl p ↦ (let n = (head_is 120 98 inside (p.0 ++ r) p.2).0 in omega arith)
  | inr p ↦ some_starts is_hexadecimal p.0 r inside p.1 h (head_is 120 120 inside (p.0 ++ r) p.2).1
]

no_end : (inside : List ℕ) → ((text rest : List ℕ) → IsQuoted inside text rest → ⊥) → (x : Piece) (r : List ℕ) → is_piece x ≡ true → stops x r ≡ true → 34 ∷ inside ≡ spelling x ++ r → ⊥
no_end inside none (Quoted t) r k s e =
    none t r (record {
      spelled = (head_is 34 34 inside ((flat_map quote_twice t ++ 34 ∷ []) ++ r) e).1 ∙ append_assoc (flat_map quote_twice t) (34 ∷ []) r;
      closed = s;
    })
no_end inside none x r k s e = let n : 4 ≡ number x = ap kind e ∙ kind_is x r k in absurd (omega arith)

name_kind : (name r : List ℕ) → is_symbol name ≡ true → kind (name ++ r) ≡ 8
name_kind [] r h = absurd (false≢true h)
name_kind (c ∷ cs) r h =
    let p = and_parts (not (is_digit c)) (some_all is_symbol_byte (c ∷ cs)) h in
    cond-false (is_digit c) 7 _ (not-true (is_digit c) p.0) ∙ cond-true (is_symbol_byte c) 8 _ (and_parts (is_symbol_byte c) (list_all is_symbol_byte cs) p.1).0

no_text : (name r : List ℕ) → begins_without is_symbol_byte r ≡ true → is_symbol name ≡ true → is_utf8 name ≡ false → (x : Piece) (s : List ℕ) → is_piece x ≡ true → stops x s ≡ true → name ++ r ≡ spelling x ++ s → ⊥
no_text name r ends h u (Symbol other) s k t e =
    let p = and_parts (is_symbol other) (is_utf8 other) k in
    let o = one_run is_symbol_byte name other r s (all_of_symbol name h) (all_of_symbol other p.0) ends (run_ends (Symbol other) s t) e in
    false≢true (sym u ∙ ap is_utf8 o.0 ∙ p.1)
no_text name r ends h u x s k t e = let n : 8 ≡ number x = sym (name_kind name r h) ∙ ap kind e ∙ kind_is x s k in absurd (omega arith)

some_piece : (zs : List Piece) (rest : List ℕ) → IsCut zs rest [] → (rest ≡ [] → ⊥) → (x : Piece) × (r : List ℕ) × StandsFirst rest x r
some_piece [] rest c h = absurd (h c)
some_piece (z ∷ zs) rest c h = (z, c.0, c.1)

not_empty : (b : ℕ) (bs rest : List ℕ) → rest ≡ b ∷ bs → rest ≡ [] → ⊥
not_empty b bs rest e f = nothing b bs (sym f ∙ e)

not_nothing : (name r rest : List ℕ) → is_symbol name ≡ true → rest ≡ name ++ r → rest ≡ [] → ⊥
not_nothing [] r rest h e f = false≢true h
not_nothing (c ∷ cs) r rest h e f = nothing c (cs ++ r) (sym f ∙ e)

pub token_excluded : (fault : SExprParseError) (rest : List ℕ) (zs : List Piece) → IsCut zs rest [] → AreHeld (tokens zs) → IsTokenFault fault rest → fault ≡ Memory
token_excluded UnexpectedEnd rest zs c k (inl f) = absurd (let p = some_piece zs rest c (not_empty 35 f.0 rest f.1) in no_base f.0 p.0 p.1 f.2 p.2.is_one (sym f.1 ∙ p.2.spelled))
token_excluded UnexpectedEnd rest zs c k (inr f) = absurd (let p = some_piece zs rest c (not_empty 34 f.0 rest f.1) in no_end f.0 f.2 p.0 p.1 p.2.is_one p.2.longest (sym f.1 ∙ p.2.spelled))
token_excluded Utf8Error rest zs c k f =
    absurd (let p = some_piece zs rest c (not_nothing f.0 f.1 rest f.3 f.2.whole) in no_text f.0 f.1 f.2.longest f.3 f.4 p.0 p.1 p.2.is_one p.2.longest (sym f.2.whole ∙ p.2.spelled))
token_excluded (StringParseError raw) rest zs c k f =
    absurd (let h = held_first (Quoted f.0) zs rest f.1 f.2 c k in false≢true (sym f.3 ∙ (and_parts (scalars (decoded 0 f.0)) true h).0))
token_excluded (ParseIntError Empty) rest zs c k (inl f) = absurd (let p = some_piece zs rest c (not_empty 35 (98 ∷ f.0) rest f.1) in no_binary f.0 p.0 p.1 f.2 p.2.is_one (sym f.1 ∙ p.2.spelled))
token_excluded (ParseIntError Empty) rest zs c k (inr f) = absurd (let p = some_piece zs rest c (not_empty 35 (120 ∷ f.0) rest f.1) in no_hexadecimal f.0 p.0 p.1 f.2 p.2.is_one (sym f.1 ∙ p.2.spelled))
token_excluded (ParseIntError PosOverflow) rest zs c k f =
    absurd (let b = f.1 in
    let small = number_held b.0 f.0 b.2.is_one (held_first b.0 zs rest b.1 b.2 c k) b.3 in
    let big = f.2 in
    omega arith)
token_excluded IntegerOverflow rest zs c k f =
    absurd (let b = f.2 in
    let small = width_held f.0 f.1 b.0 (held_first b.0 zs rest b.1 b.2 c k) b.3 in
    let wide = f.4 in
    omega arith)
token_excluded UnclosedSExpr rest zs c k f = absurd f
token_excluded TrailingTokens rest zs c k f = absurd f
token_excluded ZeroWidthBitVec rest zs c k f = absurd f
token_excluded TooDeep rest zs c k f = absurd f
token_excluded Memory rest zs c k f = refl

-- open lists at the front of an expression are no more than its brackets are deep
mutual
  deep : (e : Expression) (lists : List (List Expression)) (after r : List Token) → open_lists lists ++ after ≡ brackets e ++ r → length lists ≤ nesting e
  deep e [] after r h = omega arith
  deep (Leaf a) (es ∷ lists) after r h = absurd cc
  deep (Node fs) (es ∷ lists) after r h =
      let t = token_is Begin Begin ((flat_map brackets es ++ open_lists lists) ++ after) ((inside fs ++ End ∷ []) ++ r) h in
      let d = deep_inside fs es lists after r (sym (append_assoc (flat_map brackets es) (open_lists lists) after) ∙ t.1 ∙ append_assoc (inside fs) (End ∷ []) r) in
      omega arith

  deep_inside : (fs : Expressions) (es : List Expression) (lists : List (List Expression)) (after r : List Token) → flat_map brackets es ++ (open_lists lists ++ after) ≡ inside fs ++ (End ∷ r) → length lists ≤ deepest fs
  deep_inside fs [] [] after r h = omega arith
  deep_inside Nil [] (gs ∷ lists) after r h = absurd cc
  deep_inside (Cons f fs) [] (gs ∷ lists) after r h =
      let d = deep f (gs ∷ lists) after (inside fs ++ (End ∷ r)) (h ∙ append_assoc (brackets f) (inside fs) (End ∷ r)) in
      omega arith
  deep_inside Nil (e ∷ es) lists after r h =
      absurd (end_begins e r (flat_map brackets es ++ (open_lists lists ++ after)) (sym h ∙ append_assoc (brackets e) (flat_map brackets es) (open_lists lists ++ after)))
  deep_inside (Cons f fs) (e ∷ es) lists after r h =
      let t = one_expr e f (flat_map brackets es ++ (open_lists lists ++ after)) (inside fs ++ (End ∷ r)) (sym (append_assoc (brackets e) (flat_map brackets es) (open_lists lists ++ after)) ∙ h ∙ append_assoc (brackets f) (inside fs) (End ∷ r)) in
      let d = deep_inside fs es lists after r t.1 in
      omega arith

-- where an expression stands at the front, no bracket before its end is at fault
pub front_excluded : (fault : SExprParseError) (depth : ℕ) (ts : List Token) (e : Expression) (us : List Token) → (fault ≡ TrailingTokens → ⊥) → IsBracketFault fault depth ts → ts ≡ brackets e ++ us → nesting e ≤ depth → ⊥
front_excluded UnexpectedEnd depth ts e us k f h n =
    let o = one_expr e f.0 (us ++ f.1 ∷ f.2) [] (sym (append_assoc (brackets e) us (f.1 ∷ f.2)) ∙ ap (λ v. v ++ f.1 ∷ f.2) (sym h) ∙ f.3 ∙ sym (append-nil (brackets f.0))) in
    no_more us f.1 f.2 o.1
  where
    no_more : (vs : List Token) (t : Token) (ws : List Token) → vs ++ t ∷ ws ≡ [] → ⊥
    no_more [] t ws l = cc
    no_more (v ∷ vs) t ws l = cc
front_excluded UnclosedSExpr depth ts e us k f h n = end_begins e f.0 us (sym f.1 ∙ h)
front_excluded TrailingTokens depth ts e us k f h n = k refl
front_excluded TooDeep depth ts e us k f h n =
    let d = deep e f.0 f.1 us (sym f.2 ∙ h) in
    let more = f.3 in
    omega arith
front_excluded Utf8Error depth ts e us k f h n = f
front_excluded (StringParseError raw) depth ts e us k f h n = f
front_excluded (ParseIntError x) depth ts e us k f h n = f
front_excluded IntegerOverflow depth ts e us k f h n = f
front_excluded ZeroWidthBitVec depth ts e us k f h n = f
front_excluded Memory depth ts e us k f h n = f

bracket_excluded : (fault : SExprParseError) (depth : ℕ) (ts : List Token) (e : Expression) → IsBracketFault fault depth ts → ts ≡ brackets e → nesting e ≤ depth → ⊥
bracket_excluded TrailingTokens depth ts e f h n =
    let o = one_expr e f.0 [] (f.1 ∷ f.2) (append-nil (brackets e) ∙ sym h ∙ f.3) in
    no_more f.1 f.2 o.1
  where
    no_more : (t : Token) (us : List Token) → [] ≡ t ∷ us → ⊥
    no_more t us k = cc
bracket_excluded UnexpectedEnd depth ts e f h n = front_excluded UnexpectedEnd depth ts e [] (λ k. cc) f (h ∙ sym (append-nil (brackets e))) n
bracket_excluded UnclosedSExpr depth ts e f h n = front_excluded UnclosedSExpr depth ts e [] (λ k. cc) f (h ∙ sym (append-nil (brackets e))) n
bracket_excluded TooDeep depth ts e f h n = front_excluded TooDeep depth ts e [] (λ k. cc) f (h ∙ sym (append-nil (brackets e))) n
bracket_excluded Utf8Error depth ts e f h n = front_excluded Utf8Error depth ts e [] (λ k. cc) f (h ∙ sym (append-nil (brackets e))) n
bracket_excluded (StringParseError raw) depth ts e f h n = front_excluded (StringParseError raw) depth ts e [] (λ k. cc) f (h ∙ sym (append-nil (brackets e))) n
bracket_excluded (ParseIntError x) depth ts e f h n = front_excluded (ParseIntError x) depth ts e [] (λ k. cc) f (h ∙ sym (append-nil (brackets e))) n
bracket_excluded IntegerOverflow depth ts e f h n = front_excluded IntegerOverflow depth ts e [] (λ k. cc) f (h ∙ sym (append-nil (brackets e))) n
bracket_excluded ZeroWidthBitVec depth ts e f h n = front_excluded ZeroWidthBitVec depth ts e [] (λ k. cc) f (h ∙ sym (append-nil (brackets e))) n
bracket_excluded Memory depth ts e f h n = front_excluded Memory depth ts e [] (λ k. cc) f (h ∙ sym (append-nil (brackets e))) n

-- ---- texts

tokens_of : (bytes : List ℕ) (e : Expression) (xs : List Piece) → Reads bytes (e ∷ []) → IsCut xs bytes [] → tokens xs ≡ brackets e
tokens_of bytes e xs r c =
    let i = cut_into xs bytes c in
    ap tokens (one_cut xs r.pieces i.1 r.cut.longest (sym i.0 ∙ r.cut.spelled)) ∙ r.tokens_are ∙ append-nil (brackets e)

-- Where a text is refused, it is no expression within the limits, unless memory ran out.
pub excluded : (fault : SExprParseError) (depth : ℕ) (bytes : List ℕ) (e : Expression) → IsRefused fault depth bytes → IsReadWithin bytes depth e → fault ≡ Memory
excluded fault depth bytes e (inl f) r =
    let c = into_cut r.reads.pieces bytes r.reads.cut.longest r.reads.cut.spelled in
    let h : AreHeld (tokens r.reads.pieces) = ap (list_all is_held) (r.reads.tokens_are ∙ append-nil (brackets e)) ∙ r.held in
    let b = behind f.pieces r.reads.pieces bytes f.rest f.cut c h in
    token_excluded fault f.rest b.0 b.1 b.2 f.at_rest
excluded fault depth bytes e (inr f) r = absurd (bracket_excluded fault depth (tokens f.pieces) e f.of_tokens (tokens_of bytes e f.pieces r.reads f.cut) r.shallow)

-- ---- no text opens more brackets than it has bytes

token_count : (x : Piece) → is_piece x ≡ true → length (token x) ≤ length (spelling x)
token_count (Space b) h = omega arith
token_count (Comment t) h = omega arith
token_count Open h = omega arith
token_count Close h = omega arith
token_count (Quoted t) h = omega arith
token_count (Binary ds) h = omega arith
token_count (Hexadecimal ds) h = omega arith
token_count (Numeral []) h = absurd (false≢true h)
token_count (Numeral (d ∷ ds)) h = omega arith
token_count (Symbol []) h = absurd (false≢true h)
token_count (Symbol (d ∷ ds)) h = omega arith

tokens_count : (xs : List Piece) (bytes rest : List ℕ) → IsCut xs bytes rest → length (tokens xs) ≤ length bytes
tokens_count [] bytes rest c = omega arith
tokens_count (x ∷ xs) bytes rest c =
    let n = tokens_count xs c.0 rest c.2 in
    let m = token_count x c.1.is_one in
    let l = ap length c.1.spelled ∙ length-append (spelling x) c.0 in
    let k = length-append (token x) (tokens xs) in
    omega arith

lists_count : (lists : List (List Expression)) → length lists ≤ length (open_lists lists)
lists_count [] = omega arith
lists_count (es ∷ lists) =
    let n = lists_count lists in
    let k = length-append (open_list es) (open_lists lists) in
    omega arith

pub never_too_deep : (bytes : List ℕ) → IsRefused TooDeep (length bytes) bytes → ⊥
never_too_deep bytes (inl f) = f.at_rest
never_too_deep bytes (inr f) =
    let t = f.of_tokens in
    let n = tokens_count f.pieces bytes [] f.cut in
    let m = lists_count t.0 in
    let l = ap length t.2 ∙ length-append (open_lists t.0) t.1 in
    let more = t.3 in
    omega arith

mutual
  nesting_count : (e : Expression) → nesting e ≤ length (brackets e)
  nesting_count (Leaf a) = omega arith
  nesting_count (Node es) =
      let n = deepest_count es in
      let k = length-append (inside es) (End ∷ []) in
      omega arith

  deepest_count : (es : Expressions) → deepest es ≤ length (inside es)
  deepest_count Nil = omega arith
  deepest_count (Cons e es) =
      let n = nesting_count e in
      let m = deepest_count es in
      let k = length-append (brackets e) (inside es) in
      omega arith

pub never_deeper : (bytes : List ℕ) (e : Expression) → Reads bytes (e ∷ []) → nesting e ≤ length bytes
never_deeper bytes e r =
    let c = into_cut r.pieces bytes r.cut.longest r.cut.spelled in
    let n = tokens_count r.pieces bytes [] c in
    let m = nesting_count e in
    let l = ap length (r.tokens_are ∙ append-nil (brackets e)) in
    omega arith
