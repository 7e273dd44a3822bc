-- What a stream holds of a command, and that no byte of a command of a script is odd.
use Rattle.std.proofs.Common.{◌≡◌, ◌⊎◌, ℕ, zero, suc, pred, Bool, true, false, not, ◌&&◌, ◌||◌, cond, eqb, eqb-true, List, [], ◌∷◌, ◌++◌, map, refl, sym, ap, ap₂, ◌∙◌, subst, inl, inr, append_assoc, arith, Option, Some, None}
use Rattle.std.specs.Prelude.{codes, nat_lt}
use Rattle.std.specs.List.{flat_map, list_all}
use Rattle.std.proofs.lemmas.Bool.{and_parts, cases_Bool, cond-false, cond-true, false≢true, lt-ltb, not-true}
use Rattle.std.proofs.lemmas.List.{append-nil}
use Rattle.std.proofs.lemmas.List.Concat.{flat_map-append}
use Rattle.std.proofs.lemmas.List.Folds.{list_all-append}
use Rattle.std.specs.Str.{is_utf8}
use Rattle.law_texts.specs.Lexicon.{Piece, Space, Comment, Open, Close, Quoted, Binary, Hexadecimal, Numeral, Symbol, Token, Begin, End, each_longest, in_script, is_binary, is_digit, is_hexadecimal, is_line_end, is_piece, is_printable, is_space, is_symbol, is_symbol_byte, quote_twice, some_all, spell, spelling, stops, token, tokens}
use Rattle.law_texts.specs.Reading.{Cons, Reads, brackets, expressions, inside}
use Rattle.law_scripts.specs.Script.{Command, Holds, keyword, name, operands, stated}
use Rattle.law_verdicts.specs.Chunks.{IsChunk}
use Rattle.law_verdicts.specs.Scan.{Between, InComment, InString, Scan, at_depth, ends_command, first_command, in_front, is_between, scanned, scanned_at}
use Rattle.law_verdicts.specs.Streams.{any_odd, is_kept, is_odd}
use Rattle.law_verdicts.proofs.Chunks.{closed}
use Rattle.law_verdicts.proofs.Scan.{behind_comment as after_comment, command_ends_last, comment_piece, ends_last, first_part, front_of, is_special, last_part, not_special, one_byte, or_none, pair, plain_byte, quiet_piece, walk}
use Rattle.law_verdicts.proofs.Streams.{kept, scanned_all}

-- ---- no byte is odd

-- From one scan to the other no byte is odd.
record Clear (s : Scan) (bytes : List ℕ) (t : Scan) : Type 0 where
  none : any_odd s bytes ≡ false
  goes : scanned_all s bytes ≡ t

clear_none : (s : Scan) → Clear s [] s
clear_none s = record { none = refl; goes = refl }

clear_byte : (s : Scan) (b : ℕ) (bs : List ℕ) (t : Scan) → is_odd s b ≡ false → Clear (scanned s b) bs t → Clear s (b ∷ bs) t
clear_byte s b bs t h c = record { none = ap (λ x. x || any_odd (scanned s b) bs) h ∙ c.none; goes = c.goes }

clear_then : (a b : List ℕ) (s t : Scan) → Clear s a t → any_odd t b ≡ false → any_odd s (a ++ b) ≡ false
clear_then [] b s t c h = subst (λ x. any_odd x b ≡ false) (sym c.goes) h
clear_then (x ∷ a) b s t c h =
    let p = or_none (is_odd s x) (any_odd (scanned s x) a) c.none in
    ap (λ y. y || any_odd (scanned s x) (a ++ b)) p.0 ∙ clear_then a b (scanned s x) t (record { none = p.1; goes = c.goes }) h

-- a byte that passes a test that neither a special byte nor a form feed passes
not_feed : (test : ℕ → Bool) → test 12 ≡ false → (b : ℕ) → test b ≡ true → eqb b 12 ≡ false
not_feed test f b h = elim (cases_Bool (eqb b 12)) [ inl e ↦ absurd (false≢true (sym f ∙ ap test (sym (eqb-true b 12 e)) ∙ h)) | inr e ↦ e ]

clear_plain : (d b : ℕ) (bs : List ℕ) (t : Scan) → is_special b ≡ false → eqb b 12 ≡ false → Clear (at_depth d Between) bs t → Clear (at_depth d Between) (b ∷ bs) t
clear_plain d b bs t h f c = clear_byte (at_depth d Between) b bs t f (subst (λ s. Clear s bs t) (sym (plain_byte d b h).1) c)

-- a run of bytes that each pass such a test
record IsPlain (test : ℕ → Bool) : Type 0 where
  special : (b : ℕ) → test b ≡ true → is_special b ≡ false
  feed : (b : ℕ) → test b ≡ true → eqb b 12 ≡ false

plain_test : (test : ℕ → Bool) → test 34 ≡ false → test 59 ≡ false → test 40 ≡ false → test 41 ≡ false → test 12 ≡ false → IsPlain test
plain_test test q s o c f = record { special = not_special test q s o c; feed = not_feed test f }

clear_run : (test : ℕ → Bool) → IsPlain test → (d : ℕ) (bs : List ℕ) → list_all test bs ≡ true → Clear (at_depth d Between) bs (at_depth d Between)
clear_run test p d [] h = clear_none (at_depth d Between)
clear_run test p d (b ∷ bs) h =
    let q = and_parts (test b) (list_all test bs) h in
    clear_plain d b bs (at_depth d Between) (p.special b q.0) (p.feed b q.0) (clear_run test p d bs q.1)

clear_some : (test : ℕ → Bool) → IsPlain test → (d : ℕ) (bs : List ℕ) → some_all test bs ≡ true → Clear (at_depth d Between) bs (at_depth d Between)
clear_some test p d [] h = absurd (false≢true h)
clear_some test p d (b ∷ bs) h = clear_run test p d (b ∷ bs) h

not_false : (x : Bool) → x ≡ true → not x ≡ false
not_false true h = refl
not_false false h = absurd (false≢true h)

-- in a string, up to its last quote
clear_string : (d : ℕ) (text : List ℕ) → list_all is_printable text ≡ true → Clear (at_depth d InString) (flat_map quote_twice text ++ codes "\"") (at_depth d Between)
clear_string d [] h = clear_byte (at_depth d InString) 34 [] (at_depth d Between) refl (clear_none (at_depth d Between))
clear_string d (b ∷ text) h = let p = and_parts (is_printable b) (list_all is_printable text) h in elim (cases_Bool (eqb b 34)) [
  | inl e ↦ subst (λ x. Clear (at_depth d InString) (flat_map quote_twice (x ∷ text) ++ codes "\"") (at_depth d Between)) (sym (eqb-true b 34 e))
      (clear_byte (at_depth d InString) 34 (34 ∷ (flat_map quote_twice text ++ codes "\"")) (at_depth d Between) refl
      (clear_byte (at_depth d Between) 34 (flat_map quote_twice text ++ codes "\"") (at_depth d Between) refl (clear_string d text p.1)))
  | inr e ↦ subst (λ t. Clear (at_depth d InString) (t ++ codes "\"") (at_depth d Between)) (sym (ap (λ t. t ++ flat_map quote_twice text) (cond-false (eqb b 34) (34 ∷ 34 ∷ []) (b ∷ []) e)))
      (clear_byte (at_depth d InString) b (flat_map quote_twice text ++ codes "\"") (at_depth d Between) (not_false (is_printable b) p.0)
      (subst (λ s. Clear s (flat_map quote_twice text ++ codes "\"") (at_depth d Between)) (sym (cond-false (eqb b 34) (at_depth d Between) (at_depth d InString) e)) (clear_string d text p.1)))
]

-- in a comment
clear_comment : (d : ℕ) (text : List ℕ) → list_all (λ b. not (is_line_end b)) text ≡ true → Clear (at_depth d InComment) text (at_depth d InComment)
clear_comment d [] h = clear_none (at_depth d InComment)
clear_comment d (b ∷ text) h =
    let p = and_parts (not (is_line_end b)) (list_all (λ x. not (is_line_end x)) text) h in
    clear_byte (at_depth d InComment) b text (at_depth d InComment) refl
    (subst (λ s. Clear s text (at_depth d InComment)) (sym (cond-false (is_line_end b) (at_depth d Between) (at_depth d InComment) (not-true (is_line_end b) p.0))) (clear_comment d text p.1))

-- a comment ends with its line, so that what is behind it is as without it
behind_comment : (text : List ℕ) (d : ℕ) (bytes : List ℕ) → stops (Comment text) bytes ≡ true → any_odd (at_depth d Between) bytes ≡ false → any_odd (at_depth d InComment) bytes ≡ false
behind_comment text d [] h k = refl
behind_comment text d (b ∷ bytes) h k =
    let line : is_line_end b ≡ true = twice (is_line_end b) h in
    let p = (plain_byte d b (not_special is_line_end refl refl refl refl b line)).1 in
    let q = (or_none (eqb b 12) (any_odd (scanned (at_depth d Between) b) bytes) k).1 in
    ap (λ s. any_odd s bytes) (cond-true (is_line_end b) (at_depth d Between) (at_depth d InComment) line ∙ sym p) ∙ q
  where
    twice : (x : Bool) → not (not x) ≡ true → x ≡ true
    twice true e = refl
    twice false e = absurd (false≢true e)

-- a piece other than a comment, and how deep brackets are open behind it
abbrev behind_piece : Piece → ℕ → ℕ
behind_piece Open d = suc d
behind_piece Close d = pred d
behind_piece x d = d

is_odd_false : (b : ℕ) → not (eqb b 12) ≡ true → eqb b 12 ≡ false
is_odd_false b h = not-true (eqb b 12) h

clear_piece : (x : Piece) (d : ℕ) → is_piece x ≡ true → in_script x ≡ true → (Clear (at_depth d Between) (spelling x) (at_depth (behind_piece x d) Between)) ⊎ ((text : List ℕ) × (x ≡ Comment text) × Clear (at_depth d Between) (spelling x) (at_depth d InComment))
clear_piece (Space b) d h k = inl (clear_plain d b [] (at_depth d Between) (not_special is_space refl refl refl refl b h) (not-true (eqb b 12) k) (clear_none (at_depth d Between)))
clear_piece (Comment text) d h k = inr (text, refl, clear_byte (at_depth d Between) 59 text (at_depth d InComment) refl (clear_comment d text h))
clear_piece Open d h k = inl (clear_byte (at_depth d Between) 40 [] (at_depth (suc d) Between) refl (clear_none (at_depth (suc d) Between)))
clear_piece Close d h k = inl (clear_byte (at_depth d Between) 41 [] (at_depth (pred d) Between) refl (clear_none (at_depth (pred d) Between)))
clear_piece (Quoted text) d h k = inl (clear_byte (at_depth d Between) 34 (flat_map quote_twice text ++ codes "\"") (at_depth d Between) refl (clear_string d text k))
clear_piece (Binary ds) d h k =
    inl (clear_plain d 35 (98 ∷ ds) (at_depth d Between) refl refl (clear_plain d 98 ds (at_depth d Between) refl refl (clear_some is_binary (plain_test is_binary refl refl refl refl refl) d ds h)))
clear_piece (Hexadecimal ds) d h k =
    inl (clear_plain d 35 (120 ∷ ds) (at_depth d Between) refl refl (clear_plain d 120 ds (at_depth d Between) refl refl (clear_some is_hexadecimal (plain_test is_hexadecimal refl refl refl refl refl) d ds h)))
clear_piece (Numeral ds) d h k = inl (clear_some is_digit (plain_test is_digit refl refl refl refl refl) d ds h)
clear_piece (Symbol []) d h k = absurd (false≢true h)
clear_piece (Symbol (c ∷ cs)) d h k =
    inl (clear_some is_symbol_byte (plain_test is_symbol_byte refl refl refl refl refl) d (c ∷ cs) (and_parts (not (is_digit c)) (some_all is_symbol_byte (c ∷ cs)) (and_parts (is_symbol (c ∷ cs)) (is_utf8 (c ∷ cs)) h).0).1)

-- no byte of pieces that a script may hold is odd
pub none_is_odd : (xs : List Piece) (d : ℕ) → each_longest xs ≡ true → list_all in_script xs ≡ true → any_odd (at_depth d Between) (spell xs) ≡ false
none_is_odd [] d h k = refl
none_is_odd (x ∷ xs) d h k =
    let p = and_parts (is_piece x) (stops x (spell xs) && each_longest xs) h in
    let q = and_parts (stops x (spell xs)) (each_longest xs) p.1 in
    let r = and_parts (in_script x) (list_all in_script xs) k in
    by q.0 (λ n. none_is_odd xs n q.1 r.1) (clear_piece x d p.0 r.0)
  where
    by : stops x (spell xs) ≡ true → ((n : ℕ) → any_odd (at_depth n Between) (spell xs) ≡ false)
        → (Clear (at_depth d Between) (spelling x) (at_depth (behind_piece x d) Between)) ⊎ ((text : List ℕ) × (x ≡ Comment text) × Clear (at_depth d Between) (spelling x) (at_depth d InComment)) → any_odd (at_depth d Between) (spelling x ++ spell xs) ≡ false
    by far rest (inl c) = clear_then (spelling x) (spell xs) (at_depth d Between) (at_depth (behind_piece x d) Between) c (rest (behind_piece x d))
    by far rest (inr (text, e, c)) =
        clear_then (spelling x) (spell xs) (at_depth d Between) (at_depth d InComment) c (behind_comment text d (spell xs) (subst (λ y. stops y (spell xs) ≡ true) e far) (rest d))

-- ---- what is held

-- inside a command all is held
pub depth_stays : (d b : ℕ) (s : Scan) → s.depth ≡ suc d → ends_command s b ≡ false → (n : ℕ) × ((scanned s b).depth ≡ suc n)
depth_stays d b s e h = by s.place s.depth e h
  where
    in_string : (x : Bool) (k : ℕ) → k ≡ suc d → (n : ℕ) × ((cond x (at_depth k Between) (at_depth k InString)).depth ≡ suc n)
    in_string true k f = (d, f)
    in_string false k f = (d, f)

    in_comment : (x : Bool) (k : ℕ) → k ≡ suc d → (n : ℕ) × ((cond x (at_depth k Between) (at_depth k InComment)).depth ≡ suc n)
    in_comment true k f = (d, f)
    in_comment false k f = (d, f)

    closing : (m k : ℕ) → m ≡ suc d → k ≡ m → eqb m 1 ≡ false → (n : ℕ) × (pred k ≡ suc n)
    closing m k f g several = elim d as (λ x. m ≡ suc x → (n : ℕ) × (pred k ≡ suc n)) [
      | zero ↦ λ f1. absurd (false≢true (sym several ∙ ap (λ y. eqb y 1) f1))
      | suc x ↦ λ f1. (x, ap pred (g ∙ f1))
    ] f

    between : (w x y z : Bool) (k : ℕ) → k ≡ suc d → (z ≡ true → eqb k 1 ≡ false)
        → (n : ℕ) × ((cond w (at_depth k InString) (cond x (at_depth k InComment) (cond y (at_depth (suc k) Between) (cond z (at_depth (pred k) Between) (at_depth k Between))))).depth ≡ suc n)
    between true x y z k f g = (d, f)
    between false true y z k f g = (d, f)
    between false false true z k f g = (suc d, ap suc f)
    between false false false true k f g = closing k k f refl (g refl)
    between false false false false k f g = (d, f)

    by : (p : _) (k : ℕ) → k ≡ suc d → (eqb b 41 && (is_between p && eqb k 1)) ≡ false → (n : ℕ) × ((scanned_at k p b).depth ≡ suc n)
    by InString k f open_still = in_string (eqb b 34) k f
    by InComment k f open_still = in_comment (is_line_end b) k f
    by Between k f open_still = between (eqb b 34) (eqb b 59) (eqb b 40) (eqb b 41) k f (λ z. sym (ap (λ x. x && eqb k 1) z) ∙ open_still)

-- what is cut off behind a byte
pub cut_behind : (b : ℕ) (bs : List ℕ) (o : Option (List ℕ × List ℕ)) → in_front (b ∷ []) o ≡ Some (b ∷ bs, []) → o ≡ Some (bs, [])
cut_behind b bs o x = let q = front_of b o (b ∷ bs, []) x in q.1 ∙ ap Some (same q.0 (ap (λ (p : List ℕ × List ℕ). p.0) q.2) (ap (λ (p : List ℕ × List ℕ). p.1) q.2))
  where
    same : (r : List ℕ × List ℕ) → b ∷ r.0 ≡ b ∷ bs → r.1 ≡ [] → r ≡ (bs, [])
    same r f g = let k : r.0 ≡ bs = cc in ap₂ (λ (x y : List ℕ). (x, y)) k g

pub kept_inside : (bs : List ℕ) (d : ℕ) (s : Scan) → s.depth ≡ suc d → first_command s bs ≡ Some (bs, []) → kept s bs ≡ bs
kept_inside [] d s e h = absurd cc
kept_inside (b ∷ bs) d s e h =
    let all : is_kept s b ≡ true = ap (λ n. nat_lt 0 n || (is_between s.place && eqb b 40)) e ∙ ap (λ x. x || (is_between s.place && eqb b 40)) (lt-ltb 0 (suc d) (omega arith)) in
    cond-true (is_kept s b) (b ∷ kept (scanned s b) bs) (kept (scanned s b) bs) all ∙ ap (λ (t : List ℕ). b ∷ t) (elim (cases_Bool (ends_command s b)) [
      | inl k ↦ (let none = second (b ∷ [], bs) (b ∷ bs, []) (pair (b ∷ [], bs) (b ∷ bs, []) (sym (cond-true (ends_command s b) (Some (b ∷ [], bs)) (in_front (b ∷ []) (first_command (scanned s b) bs)) k) ∙ h)) in ap (kept (scanned s b)) none ∙ sym none)
      | inr k ↦ (let n = depth_stays d b s e k in
          kept_inside bs n.0 (scanned s b) n.1 (cut_behind b bs (first_command (scanned s b) bs) (sym (one_byte s b bs k) ∙ h)))
    ])
  where
    second : (p q : List ℕ × List ℕ) → p ≡ q → p.1 ≡ q.1
    second p q x = ap (λ (r : List ℕ × List ℕ). r.1) x

-- outside brackets nothing is
pub kept_blank : (b : ℕ) (more : List ℕ) → is_special b ≡ false → kept (at_depth 0 Between) (b ∷ more) ≡ kept (at_depth 0 Between) more
kept_blank b more h =
    let p = or_none (eqb b 34) (eqb b 59 || (eqb b 40 || eqb b 41)) h in
    let q = or_none (eqb b 59) (eqb b 40 || eqb b 41) p.1 in
    let r = or_none (eqb b 40) (eqb b 41) q.1 in
    cond-false (is_kept (at_depth 0 Between) b) (b ∷ kept (scanned (at_depth 0 Between) b) more) (kept (scanned (at_depth 0 Between) b) more) r.0 ∙ ap (λ s. kept s more) (plain_byte 0 b h).1

pub kept_comment : (text more : List ℕ) → list_all (λ b. not (is_line_end b)) text ≡ true → kept (at_depth 0 InComment) (text ++ more) ≡ kept (at_depth 0 InComment) more
kept_comment [] more h = refl
kept_comment (b ∷ text) more h =
    let p = and_parts (not (is_line_end b)) (list_all (λ x. not (is_line_end x)) text) h in
    ap (λ s. kept s (text ++ more)) (cond-false (is_line_end b) (at_depth 0 Between) (at_depth 0 InComment) (not-true (is_line_end b) p.0)) ∙ kept_comment text more p.1

pub kept_behind : (text bytes : List ℕ) → stops (Comment text) bytes ≡ true → kept (at_depth 0 InComment) bytes ≡ kept (at_depth 0 Between) bytes
kept_behind text [] h = refl
kept_behind text (b ∷ bytes) h =
    let line : is_line_end b ≡ true = twice (is_line_end b) h in
    ap (λ s. kept s bytes) (cond-true (is_line_end b) (at_depth 0 Between) (at_depth 0 InComment) line) ∙ sym (kept_blank b bytes (not_special is_line_end refl refl refl refl b line))
  where
    twice : (x : Bool) → not (not x) ≡ true → x ≡ true
    twice true e = refl
    twice false e = absurd (false≢true e)

-- What is held of pieces is what begins with the first bracket.
record Held (front : List Piece) : Type 0 where
  inner : List Piece
  same : kept (at_depth 0 Between) (spell (closed front)) ≡ kept (at_depth 0 Between) (spell (Open ∷ closed inner))
  longest : each_longest (Open ∷ closed inner) ≡ true
  tokens_are : tokens (Open ∷ closed inner) ≡ tokens (closed front)

held_front : (front : List Piece) (ts : List Token) → each_longest (closed front) ≡ true → tokens (closed front) ≡ Begin ∷ ts → Held front
held_front [] ts h e = absurd cc
held_front (Space b ∷ front) ts h e =
    let p = and_parts (is_piece (Space b)) (stops (Space b) (spell (closed front)) && each_longest (closed front)) h in
    let k = held_front front ts (and_parts (stops (Space b) (spell (closed front))) (each_longest (closed front)) p.1).1 e in
    record { inner = k.inner; same = kept_blank b (spell (closed front)) (not_special is_space refl refl refl refl b p.0) ∙ k.same; longest = k.longest; tokens_are = k.tokens_are }
held_front (Comment text ∷ front) ts h e =
    let p = and_parts (is_piece (Comment text)) (stops (Comment text) (spell (closed front)) && each_longest (closed front)) h in
    let q = and_parts (stops (Comment text) (spell (closed front))) (each_longest (closed front)) p.1 in
    let k = held_front front ts q.1 e in
    record {
      inner = k.inner;
      same = kept_comment text (spell (closed front)) p.0 ∙ kept_behind text (spell (closed front)) q.0 ∙ k.same;
      longest = k.longest;
      tokens_are = k.tokens_are;
    }
held_front (Open ∷ front) ts h e = record { inner = front; same = refl; longest = h; tokens_are = refl }
held_front (Close ∷ front) ts h e = absurd cc
held_front (Quoted text ∷ front) ts h e = absurd cc
held_front (Binary ds ∷ front) ts h e = absurd cc
held_front (Hexadecimal ds ∷ front) ts h e = absurd cc
held_front (Numeral ds ∷ front) ts h e = absurd cc
held_front (Symbol n ∷ front) ts h e = absurd cc

whole_held : (inner : List Piece) → each_longest (Open ∷ closed inner) ≡ true → ends_last 0 (tokens (Open ∷ closed inner)) ≡ true → kept (at_depth 0 Between) (spell (Open ∷ closed inner)) ≡ spell (Open ∷ closed inner)
whole_held inner h k =
    let rest = spell (closed inner) in
    let found : first_command (at_depth 0 Between) (40 ∷ rest) ≡ Some (40 ∷ rest, []) = ap (first_command (at_depth 0 Between)) (sym (append-nil (40 ∷ rest))) ∙ walk (Open ∷ inner) 0 [] h k in
    ap (λ (t : List ℕ). 40 ∷ t) (kept_inside rest 0 (at_depth 1 Between) refl (cut_behind 40 rest (first_command (at_depth 1 Between) rest) (sym (one_byte (at_depth 0 Between) 40 rest refl) ∙ found)))

-- what a stream holds of a command of a script is read as it
pub reads_held : (chunk : List ℕ) (c : Command) → IsChunk chunk c → Reads (kept (at_depth 0 Between) chunk) (stated c ∷ [])
reads_held chunk c h =
    let reads = h.holds.reads in
    let longest = subst (λ xs. each_longest xs ≡ true) h.ends reads.cut.longest in
    let are : tokens (closed h.front) ≡ brackets (stated c) ++ [] = ap tokens (sym h.ends) ∙ reads.tokens_are in
    let k = held_front h.front _ longest are in
    let last = ap (ends_last 0) (k.tokens_are ∙ are) ∙ command_ends_last (Cons (name (keyword c)) (expressions (operands c))) in
    record {
      pieces = Open ∷ closed k.inner;
      cut = record { spelled = ap (kept (at_depth 0 Between)) (reads.cut.spelled ∙ ap spell h.ends) ∙ k.same ∙ whole_held k.inner k.longest last; longest = k.longest };
      tokens_are = k.tokens_are ∙ are;
    }

-- ---- where the first command is cut off

-- Up to the bracket that ends these tokens, and what is behind it.
record First (xs : List Piece) (ts us : List Token) : Type 0 where
  front : List Piece
  back : List Piece
  whole : xs ≡ closed front ++ back
  first : tokens (closed front) ≡ ts ++ End ∷ []
  rest : tokens back ≡ us

blank_then : (x : Piece) (xs : List Piece) (ts us : List Token) → token x ≡ [] → First xs ts us → First (x ∷ xs) ts us
blank_then x xs ts us e f = record { front = x ∷ f.front; back = f.back; whole = ap (λ (t : List Piece). x ∷ t) f.whole; first = ap (λ t. t ++ tokens (closed f.front)) e ∙ f.first; rest = f.rest }

word_then : (x : Piece) (a b : Token) (xs : List Piece) (ts us : List Token) → token x ≡ a ∷ [] → a ≡ b → First xs ts us → First (x ∷ xs) (b ∷ ts) us
word_then x a b xs ts us e k f = record {
  front = x ∷ f.front;
  back = f.back;
  whole = ap (λ (t : List Piece). x ∷ t) f.whole;
  first = ap (λ t. t ++ tokens (closed f.front)) e ∙ ap₂ (λ (y : Token) (t : List Token). y ∷ t) k f.first;
  rest = f.rest;
}

head_is : {a b : Token} {x y : List Token} → a ∷ x ≡ b ∷ y → a ≡ b
head_is h = cc

tail_is : {a b : Token} {x y : List Token} → a ∷ x ≡ b ∷ y → x ≡ y
tail_is h = cc

split_first : (xs : List Piece) (ts us : List Token) → tokens xs ≡ ts ++ End ∷ us → First xs ts us
split_first [] [] us h = absurd cc
split_first [] (t ∷ ts) us h = absurd cc
split_first (Space b ∷ xs) ts us h = blank_then (Space b) xs ts us refl (split_first xs ts us h)
split_first (Comment text ∷ xs) ts us h = blank_then (Comment text) xs ts us refl (split_first xs ts us h)
split_first (Open ∷ xs) [] us h = absurd cc
split_first (Open ∷ xs) (t ∷ ts) us h = word_then Open Begin t xs ts us refl (head_is h) (split_first xs ts us (tail_is h))
split_first (Close ∷ xs) [] us h = record { front = []; back = xs; whole = refl; first = refl; rest = cc }
split_first (Close ∷ xs) (t ∷ ts) us h = word_then Close End t xs ts us refl (head_is h) (split_first xs ts us (tail_is h))
split_first (Quoted text ∷ xs) [] us h = absurd cc
split_first (Quoted text ∷ xs) (t ∷ ts) us h = word_then (Quoted text) _ t xs ts us refl (head_is h) (split_first xs ts us (tail_is h))
split_first (Binary ds ∷ xs) [] us h = absurd cc
split_first (Binary ds ∷ xs) (t ∷ ts) us h = word_then (Binary ds) _ t xs ts us refl (head_is h) (split_first xs ts us (tail_is h))
split_first (Hexadecimal ds ∷ xs) [] us h = absurd cc
split_first (Hexadecimal ds ∷ xs) (t ∷ ts) us h = word_then (Hexadecimal ds) _ t xs ts us refl (head_is h) (split_first xs ts us (tail_is h))
split_first (Numeral ds ∷ xs) [] us h = absurd cc
split_first (Numeral ds ∷ xs) (t ∷ ts) us h = word_then (Numeral ds) _ t xs ts us refl (head_is h) (split_first xs ts us (tail_is h))
split_first (Symbol n ∷ xs) [] us h = absurd cc
split_first (Symbol n ∷ xs) (t ∷ ts) us h = word_then (Symbol n) _ t xs ts us refl (head_is h) (split_first xs ts us (tail_is h))

-- The first command of a text, and the text behind it.
pub record Cuts (sent : List ℕ) (c : Command) (cs : List Command) : Type 0 where
  pub chunk : List ℕ
  pub rest : List ℕ
  pub whole : sent ≡ chunk ++ rest
  pub is_chunk : IsChunk chunk c
  pub holds : Holds rest cs

pub cut_first : (sent : List ℕ) (c : Command) (cs : List Command) → Holds sent (c ∷ cs) → Cuts sent c cs
cut_first sent c cs h =
    let es = Cons (name (keyword c)) (expressions (operands c)) in
    let us = flat_map brackets (map stated cs) in
    let s = split_first h.reads.pieces (Begin ∷ inside es) us (h.reads.tokens_are ∙ ap (λ (t : List Token). Begin ∷ t) (append_assoc (inside es) (End ∷ []) us)) in
    let longest = subst (λ xs. each_longest xs ≡ true) s.whole h.reads.cut.longest in
    let plain = and_parts (list_all in_script (closed s.front)) (list_all in_script s.back) (sym (list_all-append in_script (closed s.front) s.back) ∙ subst (λ xs. list_all in_script xs ≡ true) s.whole h.plain) in
    record {
      chunk = spell (closed s.front);
      rest = spell s.back;
      whole = h.reads.cut.spelled ∙ ap spell s.whole ∙ flat_map-append spelling (closed s.front) s.back;
      is_chunk = record {
        holds = record {
          reads = record { pieces = closed s.front; cut = record { spelled = refl; longest = first_part s.front s.back longest }; tokens_are = s.first ∙ sym (append-nil (brackets (stated c))) };
          plain = plain.0;
        };
        front = s.front;
        ends = refl;
      };
      holds = record {
        reads = record { pieces = s.back; cut = record { spelled = refl; longest = last_part s.front s.back longest }; tokens_are = s.rest };
        plain = plain.1;
      };
    }

-- ---- without commands

none_behind : (front : List ℕ) (o : Option (List ℕ × List ℕ)) → o ≡ None → in_front front o ≡ None
none_behind front (Some p) h = absurd cc
none_behind front None h = refl

comment_ends : (text bytes : List ℕ) → stops (Comment text) bytes ≡ true → first_command (at_depth 0 Between) bytes ≡ None → first_command (at_depth 0 InComment) bytes ≡ None
comment_ends text [] h k = refl
comment_ends text (b ∷ bytes) h k =
    let same = after_comment text 0 (b ∷ bytes) [] (λ e. cc) h in
    ap (first_command (at_depth 0 InComment)) (sym (append-nil (b ∷ bytes))) ∙ same ∙ ap (first_command (at_depth 0 Between)) (append-nil (b ∷ bytes)) ∙ k

pub blank_has_none : (xs : List Piece) → each_longest xs ≡ true → tokens xs ≡ [] → first_command (at_depth 0 Between) (spell xs) ≡ None
blank_has_none [] h e = refl
blank_has_none (Space b ∷ xs) h e =
    let p = and_parts (is_piece (Space b)) (stops (Space b) (spell xs) && each_longest xs) h in
    quiet_piece (Space b) 0 refl p.0 (spell xs) ∙ none_behind (b ∷ []) _ (blank_has_none xs (and_parts (stops (Space b) (spell xs)) (each_longest xs) p.1).1 e)
blank_has_none (Comment text ∷ xs) h e =
    let p = and_parts (is_piece (Comment text)) (stops (Comment text) (spell xs) && each_longest xs) h in
    let q = and_parts (stops (Comment text) (spell xs)) (each_longest xs) p.1 in
    comment_piece text 0 p.0 (spell xs) ∙ none_behind (spelling (Comment text)) _ (comment_ends text (spell xs) q.0 (blank_has_none xs q.1 e))
blank_has_none (Open ∷ xs) h e = absurd cc
blank_has_none (Close ∷ xs) h e = absurd cc
blank_has_none (Quoted text ∷ xs) h e = absurd cc
blank_has_none (Binary ds ∷ xs) h e = absurd cc
blank_has_none (Hexadecimal ds ∷ xs) h e = absurd cc
blank_has_none (Numeral ds ∷ xs) h e = absurd cc
blank_has_none (Symbol n ∷ xs) h e = absurd cc
