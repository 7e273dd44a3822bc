-- The scan finds where a command ends.
use Rattle.std.proofs.Common.{◌≡◌, ℕ, zero, suc, pred, Bool, true, false, not, ◌&&◌, ◌||◌, cond, eqb, eqb-true, List, [], ◌∷◌, ◌++◌, refl, sym, ap, ◌∙◌, subst, inl, inr, append_assoc, arith, Option, Some, None}
use Rattle.std.specs.Prelude.{codes}
use Rattle.std.specs.List.{flat_map, list_all}
use Rattle.std.proofs.lemmas.Bool.{and_from, and_parts, cases_Bool, cond-false, cond-true, false≢true, not-true}
use Rattle.std.proofs.lemmas.List.{append-nil, append_cancel_left}
use Rattle.std.proofs.lemmas.List.Concat.{flat_map-append}
use Rattle.std.specs.Str.{is_utf8}
use Rattle.law_texts.specs.Lexicon.{Piece, Space, Comment, Open, Close, Quoted, Binary, Hexadecimal, Numeral, Symbol, Token, Begin, End, Word, each_longest, is_binary, is_digit, is_hexadecimal, is_line_end, is_piece, is_space, is_symbol, is_symbol_byte, quote_twice, some_all, spell, spelling, stops, token, tokens}
use Rattle.law_texts.specs.Reading.{Expression, Leaf, Node, Expressions, Nil, Cons, brackets, expressions, inside}
use Rattle.law_texts.proofs.Unique.{begins}
use Rattle.law_scripts.specs.Script.{keyword, name, operands}
use Rattle.law_verdicts.specs.Scan.{Between, ChunksAreScanned, ScannedAreChunks, InComment, InString, Scan, at_depth, ends_command, first_command, in_front, is_between, scanned}
use Rattle.law_verdicts.proofs.Chunks.{closed}

abbrev Cut : Type 0
Cut = Option (List ℕ × List ℕ)

front_front : (a b : List ℕ) (o : Cut) → in_front a (in_front b o) ≡ in_front (a ++ b) o
front_front a b (Some p) = ap (λ t. Some (t, p.1)) (sym (append_assoc a b p.0))
front_front a b None = refl

-- one byte that ends no command
pub one_byte : (s : Scan) (b : ℕ) (bs : List ℕ) → ends_command s b ≡ false → first_command s (b ∷ bs) ≡ in_front (b ∷ []) (first_command (scanned s b) bs)
one_byte s b bs h = cond-false (ends_command s b) (Some (b ∷ [], bs)) (in_front (b ∷ []) (first_command (scanned s b) bs)) h

-- The bytes end no command from one scan to the other, whatever is behind.
abbrev pub Passes : Scan → List ℕ → Scan → Type 0
Passes s bytes t = (more : List ℕ) → first_command s (bytes ++ more) ≡ in_front bytes (first_command t more)

passes_none : (s : Scan) → Passes s [] s
passes_none s more = by (first_command s more)
  where
    by : (o : Cut) → o ≡ in_front [] o
    by (Some p) = refl
    by None = refl

passes_byte : (s : Scan) (b : ℕ) (bytes : List ℕ) (t : Scan) → ends_command s b ≡ false → Passes (scanned s b) bytes t → Passes s (b ∷ bytes) t
passes_byte s b bytes t h p more = one_byte s b (bytes ++ more) h ∙ ap (in_front (b ∷ [])) (p more) ∙ front_front (b ∷ []) bytes (first_command t more)

-- ---- bytes that change nothing

abbrev pub is_special : ℕ → Bool
is_special b = eqb b 34 || (eqb b 59 || (eqb b 40 || eqb b 41))

-- a test that no special byte passes
pub not_special : (test : ℕ → Bool) → test 34 ≡ false → test 59 ≡ false → test 40 ≡ false → test 41 ≡ false → (b : ℕ) → test b ≡ true → is_special b ≡ false
not_special test q s o c b h = four (eqb b 34) (eqb b 59) (eqb b 40) (eqb b 41) (other 34 q) (other 59 s) (other 40 o) (other 41 c)
  where
    other : (n : ℕ) → test n ≡ false → eqb b n ≡ false
    other n f = elim (cases_Bool (eqb b n)) [ inl e ↦ absurd (false≢true (sym f ∙ ap test (sym (eqb-true b n e)) ∙ h)) | inr e ↦ e ]

    four : (x y z w : Bool) → x ≡ false → y ≡ false → z ≡ false → w ≡ false → (x || (y || (z || w))) ≡ false
    four x y z w e f g k = rw (e, f, g, k) refl

pub or_none : (x y : Bool) → (x || y) ≡ false → (x ≡ false) × (y ≡ false)
or_none true y h = absurd (false≢true (sym h))
or_none false y h = (refl, h)

pub plain_byte : (d b : ℕ) → is_special b ≡ false → (ends_command (at_depth d Between) b ≡ false) × (scanned (at_depth d Between) b ≡ at_depth d Between)
plain_byte d b h =
    let p = or_none (eqb b 34) (eqb b 59 || (eqb b 40 || eqb b 41)) h in
    let q = or_none (eqb b 59) (eqb b 40 || eqb b 41) p.1 in
    let r = or_none (eqb b 40) (eqb b 41) q.1 in
    (ap (λ x. x && (true && eqb d 1)) r.1, by (eqb b 34) (eqb b 59) (eqb b 40) (eqb b 41) p.0 q.0 r.0 r.1)
  where
    by : (x y z w : Bool) → x ≡ false → y ≡ false → z ≡ false → w ≡ false → cond x (at_depth d InString) (cond y (at_depth d InComment) (cond z (at_depth (suc d) Between) (cond w (at_depth (pred d) Between) (at_depth d Between)))) ≡ at_depth d Between
    by x y z w e f g k = rw (e, f, g, k) refl

plain_first : (d b : ℕ) (bs : List ℕ) (t : Scan) → is_special b ≡ false → Passes (at_depth d Between) bs t → Passes (at_depth d Between) (b ∷ bs) t
plain_first d b bs t h p = let q = plain_byte d b h in passes_byte (at_depth d Between) b bs t q.0 (subst (λ s. Passes s bs t) (sym q.1) p)

plain_run : (test : ℕ → Bool) → ((b : ℕ) → test b ≡ true → is_special b ≡ false) → (d : ℕ) (bs : List ℕ) → list_all test bs ≡ true → Passes (at_depth d Between) bs (at_depth d Between)
plain_run test f d [] h = passes_none (at_depth d Between)
plain_run test f d (b ∷ bs) h = let p = and_parts (test b) (list_all test bs) h in plain_first d b bs (at_depth d Between) (f b p.0) (plain_run test f d bs p.1)

some_run : (test : ℕ → Bool) → ((b : ℕ) → test b ≡ true → is_special b ≡ false) → (d : ℕ) (bs : List ℕ) → some_all test bs ≡ true → Passes (at_depth d Between) bs (at_depth d Between)
some_run test f d [] h = absurd (false≢true h)
some_run test f d (b ∷ bs) h = plain_run test f d (b ∷ bs) h

-- in a comment
pub not_last : (s : Scan) (b : ℕ) → (is_between s.place ≡ false) → ends_command s b ≡ false
not_last s b h = by (eqb b 41) (is_between s.place) h
  where
    by : (x y : Bool) → y ≡ false → (x && (y && eqb s.depth 1)) ≡ false
    by true y e = ap (λ z. z && eqb s.depth 1) e
    by false y e = refl

comment_run : (d : ℕ) (text : List ℕ) → list_all (λ b. not (is_line_end b)) text ≡ true → Passes (at_depth d InComment) text (at_depth d InComment)
comment_run d [] h = passes_none (at_depth d InComment)
comment_run d (b ∷ text) h =
    let p = and_parts (not (is_line_end b)) (list_all (λ x. not (is_line_end x)) text) h in
    passes_byte (at_depth d InComment) b text (at_depth d InComment) (not_last (at_depth d InComment) b refl)
    (subst (λ s. Passes s text (at_depth d InComment)) (sym (cond-false (is_line_end b) (at_depth d Between) (at_depth d InComment) (not-true (is_line_end b) p.0))) (comment_run d text p.1))

-- in a string, up to its last quote
string_run : (d : ℕ) (text : List ℕ) → Passes (at_depth d InString) (flat_map quote_twice text ++ codes "\"") (at_depth d Between)
string_run d [] = passes_byte (at_depth d InString) 34 [] (at_depth d Between) (not_last (at_depth d InString) 34 refl) (passes_none (at_depth d Between))
string_run d (b ∷ text) = elim (cases_Bool (eqb b 34)) [
  | inl e ↦ subst (λ x. Passes (at_depth d InString) (flat_map quote_twice (x ∷ text) ++ codes "\"") (at_depth d Between)) (sym (eqb-true b 34 e))
      (passes_byte (at_depth d InString) 34 (34 ∷ (flat_map quote_twice text ++ codes "\"")) (at_depth d Between) (not_last (at_depth d InString) 34 refl)
      (passes_byte (at_depth d Between) 34 (flat_map quote_twice text ++ codes "\"") (at_depth d Between) refl (string_run d text)))
  | inr e ↦ subst (λ t. Passes (at_depth d InString) (t ++ codes "\"") (at_depth d Between)) (sym (ap (λ t. t ++ flat_map quote_twice text) (cond-false (eqb b 34) (34 ∷ 34 ∷ []) (b ∷ []) e)))
      (passes_byte (at_depth d InString) b (flat_map quote_twice text ++ codes "\"") (at_depth d Between) (not_last (at_depth d InString) b refl)
      (subst (λ s. Passes s (flat_map quote_twice text ++ codes "\"") (at_depth d Between)) (sym (cond-false (eqb b 34) (at_depth d Between) (at_depth d InString) e)) (string_run d text)))
]

-- ---- pieces

-- A piece other than a comment and a bracket changes nothing.
abbrev is_quiet : Piece → Bool
is_quiet (Comment text) = false
is_quiet Open = false
is_quiet Close = false
is_quiet x = true

pub quiet_piece : (x : Piece) (d : ℕ) → is_quiet x ≡ true → is_piece x ≡ true → Passes (at_depth d Between) (spelling x) (at_depth d Between)
quiet_piece (Space b) d q h = plain_first d b [] (at_depth d Between) (not_special is_space refl refl refl refl b h) (passes_none (at_depth d Between))
quiet_piece (Comment text) d q h = absurd (false≢true q)
quiet_piece Open d q h = absurd (false≢true q)
quiet_piece Close d q h = absurd (false≢true q)
quiet_piece (Quoted text) d q h = passes_byte (at_depth d Between) 34 (flat_map quote_twice text ++ codes "\"") (at_depth d Between) refl (string_run d text)
quiet_piece (Binary ds) d q h = plain_first d 35 (98 ∷ ds) (at_depth d Between) refl (plain_first d 98 ds (at_depth d Between) refl (some_run is_binary (not_special is_binary refl refl refl refl) d ds h))
quiet_piece (Hexadecimal ds) d q h = plain_first d 35 (120 ∷ ds) (at_depth d Between) refl (plain_first d 120 ds (at_depth d Between) refl (some_run is_hexadecimal (not_special is_hexadecimal refl refl refl refl) d ds h))
quiet_piece (Numeral ds) d q h = some_run is_digit (not_special is_digit refl refl refl refl) d ds h
quiet_piece (Symbol []) d q h = absurd (false≢true h)
quiet_piece (Symbol (c ∷ cs)) d q h =
    some_run is_symbol_byte (not_special is_symbol_byte refl refl refl refl) d (c ∷ cs) (and_parts (not (is_digit c)) (some_all is_symbol_byte (c ∷ cs)) (and_parts (is_symbol (c ∷ cs)) (is_utf8 (c ∷ cs)) h).0).1

pub comment_piece : (text : List ℕ) (d : ℕ) → is_piece (Comment text) ≡ true → Passes (at_depth d Between) (spelling (Comment text)) (at_depth d InComment)
comment_piece text d h = passes_byte (at_depth d Between) 59 text (at_depth d InComment) refl (comment_run d text h)

-- behind a comment a line ends
pub behind_comment : (text : List ℕ) (d : ℕ) (bytes rest : List ℕ) → (bytes ≡ [] → ⊥) → stops (Comment text) bytes ≡ true → first_command (at_depth d InComment) (bytes ++ rest) ≡ first_command (at_depth d Between) (bytes ++ rest)
behind_comment text d [] rest some h = absurd (some refl)
behind_comment text d (b ∷ bytes) rest some h =
    let line : is_line_end b ≡ true = twice (is_line_end b) h in
    let p = plain_byte d b (not_special is_line_end refl refl refl refl b line) in
    one_byte (at_depth d InComment) b (bytes ++ rest) (not_last (at_depth d InComment) b refl)
    ∙ ap (λ s. in_front (b ∷ []) (first_command s (bytes ++ rest))) (cond-true (is_line_end b) (at_depth d Between) (at_depth d InComment) line ∙ sym p.1)
    ∙ sym (one_byte (at_depth d Between) b (bytes ++ rest) p.0)
  where
    twice : (x : Bool) → not (not x) ≡ true → x ≡ true
    twice true e = refl
    twice false e = absurd (false≢true e)

-- ---- brackets

abbrev pub is_empty : List Token → Bool
is_empty [] = true
is_empty (t ∷ ts) = false

-- at least two are open
abbrev is_deep : ℕ → Bool
is_deep zero = false
is_deep (suc zero) = false
is_deep (suc (suc d)) = true

-- The last token closes the last bracket, and none before it does.
abbrev pub ends_last : ℕ → List Token → Bool
ends_last d [] = false
ends_last d (Begin ∷ ts) = ends_last (suc d) ts
ends_last d (Word a ∷ ts) = ends_last d ts
ends_last d (End ∷ ts) = cond (is_empty ts) (eqb d 1) (is_deep d && ends_last (pred d) ts)

some_behind : (ts us : List Token) → is_empty us ≡ false → is_empty (ts ++ us) ≡ false
some_behind [] us h = h
some_behind (t ∷ ts) us h = refl

mutual
  balanced : (e : Expression) (k : ℕ) (us : List Token) → is_empty us ≡ false → ends_last (suc k) (brackets e ++ us) ≡ ends_last (suc k) us
  balanced (Leaf a) k us h = refl
  balanced (Node es) k us h =
      ap (ends_last (suc (suc k))) (append_assoc (inside es) (End ∷ []) us)
      ∙ all_balanced es (suc k) (End ∷ us) refl
      ∙ cond-false (is_empty us) (eqb (suc (suc k)) 1) (ends_last (suc k) us) h

  all_balanced : (es : Expressions) (k : ℕ) (us : List Token) → is_empty us ≡ false → ends_last (suc k) (inside es ++ us) ≡ ends_last (suc k) us
  all_balanced Nil k us h = refl
  all_balanced (Cons e es) k us h =
      ap (ends_last (suc k)) (append_assoc (brackets e) (inside es) us) ∙ balanced e k (inside es ++ us) (some_behind (inside es) us h) ∙ all_balanced es k us h

pub command_ends_last : (es : Expressions) → ends_last 0 (brackets (Node es) ++ []) ≡ true
command_ends_last es = ap (ends_last 1) (append_assoc (inside es) (End ∷ []) []) ∙ all_balanced es 0 (End ∷ []) refl

-- ---- the walk

abbrev Found : Scan → List ℕ → List ℕ → Type 0
Found s bytes rest = first_command s (bytes ++ rest) ≡ Some (bytes, rest)

piece_then : (s t : Scan) (front bytes rest : List ℕ) → Passes s front t → Found t bytes rest → Found s (front ++ bytes) rest
piece_then s t front bytes rest p h = ap (first_command s) (append_assoc front bytes rest) ∙ p (bytes ++ rest) ∙ ap (in_front front) h

pub not_nothing : (front : List Piece) → spell (closed front) ≡ [] → ⊥
not_nothing front e = absent (spell front) (sym (flat_map-append spelling front (Close ∷ [])) ∙ e)
  where
    absent : (bytes : List ℕ) → bytes ++ codes ")" ≡ [] → ⊥
    absent [] k = cc
    absent (b ∷ bytes) k = cc

pub closes : (front : List Piece) → is_empty (tokens (closed front)) ≡ false
closes front = ap is_empty (flat_map-append token front (Close ∷ [])) ∙ some_behind (tokens front) (End ∷ []) refl

not_one : (d : ℕ) → eqb (suc (suc d)) 1 ≡ false
not_one d = elim (cases_Bool (eqb (suc (suc d)) 1)) [
  | inl e ↦ (let k : suc (suc d) ≡ 1 = eqb-true (suc (suc d)) 1 e in absurd (omega (arith, k)))
  | inr e ↦ e
]

deeply : (d : ℕ) → is_deep d ≡ true → Passes (at_depth d Between) (codes ")") (at_depth (pred d) Between)
deeply zero h = absurd (false≢true h)
deeply (suc zero) h = absurd (false≢true h)
deeply (suc (suc d)) h = passes_byte (at_depth (suc (suc d)) Between) 41 [] (at_depth (suc d) Between) (not_one d) (passes_none (at_depth (suc d) Between))

pub walk : (front : List Piece) (d : ℕ) (rest : List ℕ) → each_longest (closed front) ≡ true → ends_last d (tokens (closed front)) ≡ true → Found (at_depth d Between) (spell (closed front)) rest
walk [] d rest h k = subst (λ n. Found (at_depth n Between) (codes ")") rest) (sym (eqb-true d 1 k)) refl
walk (x ∷ front) d rest h k = by x (and_parts (is_piece x) (stops x (spell (closed front)) && each_longest (closed front)) h) k (λ n. walk front n rest)
  where
    by : (y : Piece) → (is_piece y ≡ true) × ((stops y (spell (closed front)) && each_longest (closed front)) ≡ true) → ends_last d (token y ++ tokens (closed front)) ≡ true
        → ((n : ℕ) → each_longest (closed front) ≡ true → ends_last n (tokens (closed front)) ≡ true → Found (at_depth n Between) (spell (closed front)) rest) → Found (at_depth d Between) (spelling y ++ spell (closed front)) rest
    by (Space b) p e f = piece_then (at_depth d Between) (at_depth d Between) (spelling (Space b)) (spell (closed front)) rest (quiet_piece (Space b) d refl p.0) (f d (and_parts (stops (Space b) (spell (closed front))) (each_longest (closed front)) p.1).1 e)
    by (Comment text) p e f =
        let q = and_parts (stops (Comment text) (spell (closed front))) (each_longest (closed front)) p.1 in
        piece_then (at_depth d Between) (at_depth d InComment) (spelling (Comment text)) (spell (closed front)) rest (comment_piece text d p.0) (behind_comment text d (spell (closed front)) rest (not_nothing front) q.0 ∙ f d q.1 e)
    by Open p e f =
        piece_then (at_depth d Between) (at_depth (suc d) Between) (spelling Open) (spell (closed front)) rest (passes_byte (at_depth d Between) 40 [] (at_depth (suc d) Between) refl (passes_none (at_depth (suc d) Between)))
        (f (suc d) (and_parts (stops Open (spell (closed front))) (each_longest (closed front)) p.1).1 e)
    by Close p e f =
        let q = and_parts (is_deep d) (ends_last (pred d) (tokens (closed front))) (sym (cond-false (is_empty (tokens (closed front))) (eqb d 1) (is_deep d && ends_last (pred d) (tokens (closed front))) (closes front)) ∙ e) in
        piece_then (at_depth d Between) (at_depth (pred d) Between) (spelling Close) (spell (closed front)) rest (deeply d q.0) (f (pred d) (and_parts (stops Close (spell (closed front))) (each_longest (closed front)) p.1).1 q.1)
    by (Quoted text) p e f = piece_then (at_depth d Between) (at_depth d Between) (spelling (Quoted text)) (spell (closed front)) rest (quiet_piece (Quoted text) d refl p.0) (f d (and_parts (stops (Quoted text) (spell (closed front))) (each_longest (closed front)) p.1).1 e)
    by (Binary ds) p e f = piece_then (at_depth d Between) (at_depth d Between) (spelling (Binary ds)) (spell (closed front)) rest (quiet_piece (Binary ds) d refl p.0) (f d (and_parts (stops (Binary ds) (spell (closed front))) (each_longest (closed front)) p.1).1 e)
    by (Hexadecimal ds) p e f = piece_then (at_depth d Between) (at_depth d Between) (spelling (Hexadecimal ds)) (spell (closed front)) rest (quiet_piece (Hexadecimal ds) d refl p.0) (f d (and_parts (stops (Hexadecimal ds) (spell (closed front))) (each_longest (closed front)) p.1).1 e)
    by (Numeral ds) p e f = piece_then (at_depth d Between) (at_depth d Between) (spelling (Numeral ds)) (spell (closed front)) rest (quiet_piece (Numeral ds) d refl p.0) (f d (and_parts (stops (Numeral ds) (spell (closed front))) (each_longest (closed front)) p.1).1 e)
    by (Symbol n) p e f = piece_then (at_depth d Between) (at_depth d Between) (spelling (Symbol n)) (spell (closed front)) rest (quiet_piece (Symbol n) d refl p.0) (f d (and_parts (stops (Symbol n) (spell (closed front))) (each_longest (closed front)) p.1).1 e)

pub chunks_are_scanned : ChunksAreScanned
chunks_are_scanned chunk rest c h =
    let reads = h.holds.reads in
    let longest = subst (λ xs. each_longest xs ≡ true) h.ends reads.cut.longest in
    let last = ap (ends_last 0) (ap tokens (sym h.ends) ∙ reads.tokens_are) ∙ command_ends_last (Cons (name (keyword c)) (expressions (operands c))) in
    subst (λ t. Found (at_depth 0 Between) t rest) (sym (reads.cut.spelled ∙ ap spell h.ends)) (walk h.front 0 rest longest last)

-- ---- what the scan cuts off

pub pair : (x y : List ℕ × List ℕ) → Some x ≡ Some y → x ≡ y
pair x y h = cc

pub front_of : (b : ℕ) (o : Cut) (p : List ℕ × List ℕ) → in_front (b ∷ []) o ≡ Some p → (q : List ℕ × List ℕ) × (o ≡ Some q) × ((b ∷ q.0, q.1) ≡ p)
front_of b None p h = absurd cc
front_of b (Some q) p h = (q, refl, pair (b ∷ q.0, q.1) p h)

pub joins : (s : Scan) (bytes : List ℕ) (p : List ℕ × List ℕ) → first_command s bytes ≡ Some p → bytes ≡ p.0 ++ p.1
joins s [] p h = absurd cc
joins s (b ∷ bytes) p h = elim (cases_Bool (ends_command s b)) [
  | inl e ↦ ap (λ (x : List ℕ × List ℕ). x.0 ++ x.1) (pair (b ∷ [], bytes) p (sym (cond-true (ends_command s b) (Some (b ∷ [], bytes)) (in_front (b ∷ []) (first_command (scanned s b) bytes)) e) ∙ h))
  | inr e ↦ (let q = front_of b (first_command (scanned s b) bytes) p (sym (one_byte s b bytes e) ∙ h) in
      ap (λ (t : List ℕ). b ∷ t) (joins (scanned s b) bytes q.0 q.1) ∙ ap (λ (x : List ℕ × List ℕ). x.0 ++ x.1) q.2)
]

-- Up to the last bracket, and what is behind it.
record Split (d : ℕ) (xs : List Piece) : Type 0 where
  front : List Piece
  back : List Piece
  whole : xs ≡ closed front ++ back
  last : ends_last d (tokens (closed front)) ≡ true

one_before : (x : Piece) (d n : ℕ) (xs : List Piece) → ((ts : List Token) → ends_last n ts ≡ true → is_empty ts ≡ false → ends_last d (token x ++ ts) ≡ true) → Split n xs → Split d (x ∷ xs)
one_before x d n xs f s = record { front = x ∷ s.front; back = s.back; whole = ap (λ (t : List Piece). x ∷ t) s.whole; last = f (tokens (closed s.front)) s.last (closes s.front) }

nothing_there : (ts : List Token) → is_empty ts ≡ true → ts ≡ []
nothing_there [] h = refl
nothing_there (t ∷ ts) h = absurd (false≢true h)

split : (xs : List Piece) (d : ℕ) → ends_last d (tokens xs) ≡ true → Split d xs
split [] d h = absurd (false≢true h)
split (Space b ∷ xs) d h = one_before (Space b) d d xs (λ ts k e. k) (split xs d h)
split (Comment text ∷ xs) d h = one_before (Comment text) d d xs (λ ts k e. k) (split xs d h)
split (Open ∷ xs) d h = one_before Open d (suc d) xs (λ ts k e. k) (split xs (suc d) h)
split (Close ∷ xs) d h = elim (cases_Bool (is_empty (tokens xs))) [
  | inl e ↦ record { front = []; back = xs; whole = refl; last = sym (cond-true (is_empty (tokens xs)) (eqb d 1) (is_deep d && ends_last (pred d) (tokens xs)) e) ∙ h }
  | inr e ↦ (let p = and_parts (is_deep d) (ends_last (pred d) (tokens xs)) (sym (cond-false (is_empty (tokens xs)) (eqb d 1) (is_deep d && ends_last (pred d) (tokens xs)) e) ∙ h) in
      one_before Close d (pred d) xs (λ ts k f. cond-false (is_empty ts) (eqb d 1) (is_deep d && ends_last (pred d) ts) f ∙ and_from (is_deep d) (ends_last (pred d) ts) p.0 k) (split xs (pred d) p.1))
]
split (Quoted text ∷ xs) d h = one_before (Quoted text) d d xs (λ ts k e. k) (split xs d h)
split (Binary ds ∷ xs) d h = one_before (Binary ds) d d xs (λ ts k e. k) (split xs d h)
split (Hexadecimal ds ∷ xs) d h = one_before (Hexadecimal ds) d d xs (λ ts k e. k) (split xs d h)
split (Numeral ds ∷ xs) d h = one_before (Numeral ds) d d xs (λ ts k e. k) (split xs d h)
split (Symbol n ∷ xs) d h = one_before (Symbol n) d d xs (λ ts k e. k) (split xs d h)

-- a first part is cut as the whole is
stops_before : (x : Piece) (bytes more : List ℕ) → (bytes ≡ [] → ⊥) → stops x (bytes ++ more) ≡ true → stops x bytes ≡ true
stops_before x [] more some h = absurd (some refl)
stops_before x (b ∷ bytes) more some h = h

pub first_part : (front back : List Piece) → each_longest (closed front ++ back) ≡ true → each_longest (closed front) ≡ true
first_part [] back h = refl
first_part (x ∷ front) back h =
    let p = and_parts (is_piece x) (stops x (spell (closed front ++ back)) && each_longest (closed front ++ back)) h in
    let q = and_parts (stops x (spell (closed front ++ back))) (each_longest (closed front ++ back)) p.1 in
    and_from (is_piece x) (stops x (spell (closed front)) && each_longest (closed front)) p.0
    (and_from (stops x (spell (closed front))) (each_longest (closed front)) (stops_before x (spell (closed front)) (spell back) (not_nothing front) (ap (stops x) (sym (flat_map-append spelling (closed front) back)) ∙ q.0)) (first_part front back q.1))

pub last_part : (front back : List Piece) → each_longest (closed front ++ back) ≡ true → each_longest back ≡ true
last_part [] back h = (and_parts (stops Close (spell back)) (each_longest back) h).1
last_part (x ∷ front) back h = last_part front back (and_parts (stops x (spell (closed front ++ back))) (each_longest (closed front ++ back)) (and_parts (is_piece x) (stops x (spell (closed front ++ back)) && each_longest (closed front ++ back)) h).1).1

-- pieces that spell nothing are none
no_pieces : (xs : List Piece) → each_longest xs ≡ true → spell xs ≡ [] → xs ≡ []
no_pieces [] h e = refl
no_pieces (x ∷ xs) h e = absurd (begins x (spell xs) (and_parts (is_piece x) (stops x (spell xs) && each_longest xs) h).0 (sym e))

first_of : (x y : List ℕ × List ℕ) → Some x ≡ Some y → x.0 ≡ y.0
first_of x y h = ap (λ (p : List ℕ × List ℕ). p.0) (pair x y h)

pub scanned_are_chunks : ScannedAreChunks
scanned_are_chunks bytes chunk rest c h holds =
    let whole = joins (at_depth 0 Between) bytes (chunk, rest) h in
    let reads = holds.reads in
    let s = split reads.pieces 0 (ap (ends_last 0) reads.tokens_are ∙ command_ends_last (Cons (name (keyword c)) (expressions (operands c)))) in
    let longest = subst (λ xs. each_longest xs ≡ true) s.whole reads.cut.longest in
    let cut : chunk ≡ spell (closed s.front) ++ spell s.back = reads.cut.spelled ∙ ap spell s.whole ∙ flat_map-append spelling (closed s.front) s.back in
    let found = walk s.front 0 (spell s.back ++ rest) (first_part s.front s.back longest) s.last in
    let same : first_command (at_depth 0 Between) bytes ≡ Some (spell (closed s.front), spell s.back ++ rest) =
    ap (first_command (at_depth 0 Between)) (whole ∙ ap (λ t. t ++ rest) cut ∙ append_assoc (spell (closed s.front)) (spell s.back) rest) ∙ found in
    let is_front : chunk ≡ spell (closed s.front) = first_of (chunk, rest) (spell (closed s.front), spell s.back ++ rest) (sym h ∙ same) in
    let none : spell s.back ≡ [] = append_cancel_left (spell (closed s.front)) (spell s.back) [] (sym cut ∙ is_front ∙ sym (append-nil (spell (closed s.front)))) in
    let no_back = no_pieces s.back (last_part s.front s.back longest) none in
    (whole, record { holds = holds; front = s.front; ends = s.whole ∙ ap (λ t. closed s.front ++ t) no_back ∙ append-nil (closed s.front) })
