-- A whole text and a text after it are cut apart.
use Rattle.std.proofs.Common.{ap₂, inl, inr, ◌⊎◌, ◌≡◌, ℕ, Bool, true, false, not, ◌&&◌, List, [], ◌∷◌, ◌++◌, refl, sym, ap, ◌∙◌, subst, map, append_assoc, arith, Option, Some, None}
use Rattle.std.specs.Prelude.{codes}
use Rattle.std.specs.List.{flat_map, list_all}
use Rattle.std.proofs.lemmas.List.{append-nil, map-append}
use Rattle.std.proofs.lemmas.List.Concat.{flat_map-append}
use Rattle.std.proofs.lemmas.List.Folds.{list_all-append}
use Rattle.std.proofs.lemmas.Bool.{and_parts, and_from, false≢true}
use Rattle.std.specs.Str.{is_utf8}
use Rattle.law_texts.specs.Lexicon.{is_symbol, Token, Piece, Space, Comment, Open, Close, Quoted, Binary, Hexadecimal, Numeral, Symbol, spelling, spell, some_all, is_piece, goes_on, stops, each_longest, quote_twice, IsCutInto, token, is_line_end, is_binary, is_hexadecimal, is_digit, is_symbol_byte, in_script}
use Rattle.law_scripts.specs.Script.{Command, State, Holds, Script, HasWholeLines, stated, step, run, start}
use Rattle.law_texts.specs.Options.{◌>>=◌}
use Rattle.law_texts.specs.Reading.{Expression, Reads, brackets}

-- the last byte of a list, or 0
pub last : List ℕ → ℕ
last [] = 0
last (b ∷ []) = b
last (b ∷ c ∷ bs) = last (c ∷ bs)

pub last-append : (xs : List ℕ) (b : ℕ) (ys : List ℕ) → last (xs ++ (b ∷ ys)) ≡ last (b ∷ ys)
unfolding last
last-append [] b ys = refl
last-append (x ∷ []) b ys = refl
last-append (x ∷ y ∷ xs) b ys = last-append (y ∷ xs) b ys

-- what passes a test at each byte passes it at the last
pub last_passes : (test : ℕ → Bool) (b : ℕ) (bs : List ℕ) → test b ≡ true → list_all test bs ≡ true → test (last (b ∷ bs)) ≡ true
unfolding last
last_passes test b [] h hs = h
last_passes test b (c ∷ bs) h hs = let p = and_parts (test c) (list_all test bs) hs in last_passes test c bs p.0 p.1

some_passes : (test : ℕ → Bool) (bs : List ℕ) → some_all test bs ≡ true → test (last bs) ≡ true
some_passes test [] h = absurd (false≢true h)
some_passes test (b ∷ bs) h = let p = and_parts (test b) (list_all test bs) h in last_passes test b bs p.0 p.1

-- a piece that ends with a line feed ends anywhere
ends_anywhere : (x : Piece) (b : ℕ) → is_piece x ≡ true → last (spelling x) ≡ 10 → goes_on x b ≡ false
unfolding last
ends_anywhere (Space a) b h e = refl
ends_anywhere (Comment []) b h e = absurd (omega (arith, e))
ends_anywhere (Comment (c ∷ text)) b h e = absurd (false≢true (ap (λ n. not (is_line_end n)) (sym e) ∙ (let p = and_parts (not (is_line_end c)) (list_all (λ k. not (is_line_end k)) text) h in last_passes (λ k. not (is_line_end k)) c text p.0 p.1)))
ends_anywhere Open b h e = refl
ends_anywhere Close b h e = refl
ends_anywhere (Quoted text) b h e = absurd (let f : last (codes "\"" ++ flat_map quote_twice text ++ codes "\"") ≡ 34 = last-append (34 ∷ flat_map quote_twice text) 34 [] in omega (arith, e, f))
ends_anywhere (Binary (c ∷ ds)) b h e = absurd (false≢true (ap is_binary (sym e) ∙ some_passes is_binary (c ∷ ds) h))
ends_anywhere (Binary []) b h e = absurd (false≢true h)
ends_anywhere (Hexadecimal (c ∷ ds)) b h e = absurd (false≢true (ap is_hexadecimal (sym e) ∙ some_passes is_hexadecimal (c ∷ ds) h))
ends_anywhere (Hexadecimal []) b h e = absurd (false≢true h)
ends_anywhere (Numeral ds) b h e = absurd (false≢true (ap is_digit (sym e) ∙ some_passes is_digit ds h))
ends_anywhere (Symbol []) b h e = absurd (false≢true h)
ends_anywhere (Symbol (c ∷ cs)) b h e = absurd (false≢true (ap is_symbol_byte (sym e) ∙ (let p = and_parts (not (is_digit c)) (some_all is_symbol_byte (c ∷ cs)) (and_parts (is_symbol (c ∷ cs)) (is_utf8 (c ∷ cs)) h).0 in some_passes is_symbol_byte (c ∷ cs) p.1)))

-- nothing, or a last line that is whole
abbrev pub Ends : List ℕ → Type 0
Ends bs = (bs ≡ []) ⊎ (last bs ≡ 10)

-- what comes after the rest is no matter to a piece
stops_still : (x : Piece) (rest more : List ℕ) → is_piece x ≡ true → Ends (spelling x ++ rest) → stops x rest ≡ true → (stops x (rest ++ more) ≡ true) × Ends rest
stops_still x (b ∷ rest) more h ends s = (s, elim ends [ inl none ↦ absurd (nothing (spelling x) none) | inr e ↦ inr (sym (last-append (spelling x) b rest) ∙ e) ])
  where
    nothing : (front : List ℕ) → front ++ b ∷ rest ≡ [] → ⊥
    nothing [] e = cc
    nothing (c ∷ cs) e = cc
stops_still x [] [] h ends s = (refl, inl refl)
stops_still x [] (m ∷ more) h ends s = (
  elim ends [
    | inl none ↦ absurd (empty x h (sym (append-nil (spelling x)) ∙ none))
    | inr e ↦ ap not (ends_anywhere x m h (ap last (sym (append-nil (spelling x))) ∙ e))
  ],
  inl refl,
)
  where
    empty : (y : Piece) → is_piece y ≡ true → spelling y ≡ [] → ⊥
    empty (Space a) g e = cc
    empty (Comment text) g e = cc
    empty Open g e = cc
    empty Close g e = cc
    empty (Quoted text) g e = cc
    empty (Binary ds) g e = cc
    empty (Hexadecimal ds) g e = cc
    empty (Numeral []) g e = false≢true g
    empty (Numeral (d ∷ ds)) g e = cc
    empty (Symbol []) g e = false≢true g
    empty (Symbol (c ∷ cs)) g e = cc

pub cut_append : (xs ys : List Piece) → each_longest xs ≡ true → each_longest ys ≡ true → Ends (spell xs) → each_longest (xs ++ ys) ≡ true
cut_append [] ys h k ends = k
cut_append (x ∷ xs) ys h k ends =
    let p = and_parts (is_piece x) (stops x (spell xs) && each_longest xs) h in
    let q = and_parts (stops x (spell xs)) (each_longest xs) p.1 in
    let s = stops_still x (spell xs) (spell ys) p.0 ends q.0 in
    and_from (is_piece x) (stops x (spell (xs ++ ys)) && each_longest (xs ++ ys)) p.0
    (and_from (stops x (spell (xs ++ ys))) (each_longest (xs ++ ys))
    (rw (flat_map-append spelling xs ys) s.0)
    (cut_append xs ys q.1 k s.1))

-- ---- texts

Ends-from_whole : (bs : List ℕ) → HasWholeLines bs → Ends bs
unfolding last
Ends-from_whole [] w = inl refl
Ends-from_whole (b ∷ bs) w = inr (ap last w.1 ∙ last-append w.0 10 [])

cuts_append : (a b : List ℕ) (xs ys : List Piece) → HasWholeLines a → IsCutInto a xs → IsCutInto b ys → IsCutInto (a ++ b) (xs ++ ys)
cuts_append a b xs ys whole p q = record {
  spelled = rw (p.spelled, q.spelled) (sym (flat_map-append spelling xs ys));
  longest = cut_append xs ys p.longest q.longest (subst Ends p.spelled (Ends-from_whole a whole));
}

-- A whole text and a text behind it read as the one and then the other.
pub reads_append : (a b : List ℕ) (es fs : List Expression) → HasWholeLines a → Reads a es → Reads b fs → Reads (a ++ b) (es ++ fs)
reads_append a b es fs whole p q = record {
  pieces = p.pieces ++ q.pieces;
  cut = cuts_append a b p.pieces q.pieces whole p.cut q.cut;
  tokens_are = flat_map-append token p.pieces q.pieces ∙ ap₂ (λ (x y : List Token). x ++ y) p.tokens_are q.tokens_are ∙ sym (flat_map-append brackets es fs);
}

pub holds_append : (a b : List ℕ) (cs ds : List Command) → HasWholeLines a → Holds a cs → Holds b ds → Holds (a ++ b) (cs ++ ds)
unfolding reads_append
holds_append a b cs ds whole p q = record {
  reads = record {
    pieces = p.reads.pieces ++ q.reads.pieces;
    cut = cuts_append a b p.reads.pieces q.reads.pieces whole p.reads.cut q.reads.cut;
    tokens_are = (reads_append a b (map stated cs) (map stated ds) whole p.reads q.reads).tokens_are ∙ ap (λ es. flat_map brackets es) (sym (map-append stated cs ds));
  };
  plain = list_all-append in_script p.reads.pieces q.reads.pieces ∙ and_from (list_all in_script p.reads.pieces) (list_all in_script q.reads.pieces) p.plain q.plain;
}

pub whole_append : (a b : List ℕ) → HasWholeLines a → HasWholeLines b → HasWholeLines (a ++ b)
whole_append [] b p q = q
whole_append (x ∷ a) [] p q = rw (append-nil a) p
whole_append (x ∷ a) (c ∷ b) p q = ((x ∷ a) ++ q.0, ap (λ (t : List ℕ). (x ∷ a) ++ t) q.1 ∙ sym (append_assoc (x ∷ a) q.0 (10 ∷ [])))

bind_after : (o : Option State) (f g h : State → Option State) → ((t : State) → f t ≡ (g t >>= h)) → (o >>= f) ≡ ((o >>= g) >>= h)
bind_after (Some t) f g h e = e t
bind_after None f g h e = refl

pub run_append : (cs ds : List Command) (s : State) → run (cs ++ ds) s ≡ (run cs s >>= run ds)
run_append [] ds s = refl
run_append (c ∷ cs) ds s = bind_after (step c s) (run (cs ++ ds)) (run cs) (run ds) (λ t. run_append cs ds t)

pub runs_then : (cs ds : List Command) (s t u : State) → run cs s ≡ Some t → run ds t ≡ Some u → run (cs ++ ds) s ≡ Some u
runs_then cs ds s t u a b = run_append cs ds s ∙ ap (λ (o : Option State). o >>= run ds) a ∙ b

-- One more command, or none, after a whole text.
pub script_append : (a b : List ℕ) (s : State) (ds : List Command) (t : State) → HasWholeLines a → Script a s → Holds b ds → run ds s ≡ Some t → Script (a ++ b) t
script_append a b s ds t whole p q r = record {
  commands = p.commands ++ ds;
  holds = holds_append a b p.commands ds whole p.holds q;
  runs = runs_then p.commands ds start s t p.runs r;
}
