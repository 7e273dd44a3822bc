-- Texts that write expressions, put together.
use Rattle.std.proofs.Common.{ap₂, ◌≡◌, ℕ, true, false, not, ◌&&◌, ◌||◌, eqb, inl, inr, List, [], ◌∷◌, ◌++◌, refl, sym, ap, ◌∙◌, subst, map, append_assoc, Some, None, Option}
use Rattle.std.specs.Prelude.{codes}
use Rattle.std.specs.List.{list_all}
use Rattle.std.proofs.lemmas.List.{append-nil}
use Rattle.std.proofs.lemmas.List.Concat.{flat_map-append}
use Rattle.std.proofs.lemmas.List.Folds.{list_all-append}
use Rattle.std.proofs.lemmas.Bool.{and_parts, and_from, false≢true, or_cases, eqb-true}
use Rattle.std.specs.Str.{is_utf8}
use Rattle.law_texts.specs.Lexicon.{Quoted, Numeral, Text, Number, decoded, number_in, Piece, Space, Open, Close, Comment, Symbol, spelling, spell, each_longest, is_piece, is_symbol, is_plain_symbol, is_symbol_byte, is_space, stops, goes_on, in_script, is_line_end, Token, Begin, token, tokens}
use Rattle.law_texts.specs.Reading.{Leaf, Expression, brackets, inside, expressions}
use Rattle.law_scripts.specs.Script.{Command, State, HasWholeLines, step, run, start}
use Rattle.law_scripts.specs.Written.{StringsWrite, NumeralsWrite, is_apart, ReadsAs, Item, is_gap, is_wide_gap, laid, AreSpread, AreItems, IsLine, BracketsWrite, NamesWrite, CommandsAreLines, CommentsAreLines, LinesAdd, CommentsAdd}
use Rattle.law_scripts.proofs.Append.{script_append, whole_append, run_append, holds_append}
use Rattle.law_scripts.proofs.Commands.{one_list_of_commands}
use Rattle.law_scripts.proofs.Symbols.{plain_utf8}

-- ---- white space

abbrev spaces : List ℕ → List Piece
spaces gap = map Space gap

spell_spaces : (gap : List ℕ) (rest : List Piece) → spell (spaces gap ++ rest) ≡ gap ++ spell rest
spell_spaces [] rest = refl
spell_spaces (b ∷ gap) rest = ap (λ (t : List ℕ). b ∷ t) (spell_spaces gap rest)

tokens_spaces : (gap : List ℕ) (rest : List Piece) → tokens (spaces gap ++ rest) ≡ tokens rest
tokens_spaces [] rest = refl
tokens_spaces (b ∷ gap) rest = tokens_spaces gap rest

never : (x : Piece) → ((b : ℕ) → goes_on x b ≡ false) → (rest : List ℕ) → stops x rest ≡ true
never x h [] = refl
never x h (b ∷ rest) = ap not (h b)

-- what passes one test for gaps
gap_byte : (b : ℕ) → (eqb b 32 || eqb b 10) ≡ true → (is_space b ≡ true) × (in_script (Space b) ≡ true) × ((rest : List ℕ) → is_apart (b ∷ rest) ≡ true)
gap_byte b h = elim (or_cases (eqb b 32) (eqb b 10) h) [
  | inl e ↦ rw (eqb-true b 32 e) (refl, refl, λ rest. refl)
  | inr e ↦ rw (eqb-true b 10 e) (refl, refl, λ rest. refl)
]

longest_spaces : (gap : List ℕ) (rest : List Piece) → is_gap gap ≡ true → each_longest rest ≡ true → each_longest (spaces gap ++ rest) ≡ true
longest_spaces [] rest h k = k
longest_spaces (b ∷ gap) rest h k =
    let p = and_parts (eqb b 32 || eqb b 10) (is_gap gap) h in
    let g = gap_byte b p.0 in
    let s = never (Space b) (λ c. refl) (spell (spaces gap ++ rest)) in
    and_from (is_space b) (stops (Space b) (spell (spaces gap ++ rest)) && each_longest (spaces gap ++ rest)) g.0
    (and_from (stops (Space b) (spell (spaces gap ++ rest))) (each_longest (spaces gap ++ rest)) s (longest_spaces gap rest p.1 k))

plain_spaces : (gap : List ℕ) (rest : List Piece) → is_gap gap ≡ true → list_all in_script rest ≡ true → list_all in_script (spaces gap ++ rest) ≡ true
plain_spaces [] rest h k = k
plain_spaces (b ∷ gap) rest h k =
    let p = and_parts (eqb b 32 || eqb b 10) (is_gap gap) h in
    and_from (in_script (Space b)) (list_all in_script (spaces gap ++ rest)) (gap_byte b p.0).1 (plain_spaces gap rest p.1 k)

apart_spaces : (gap : List ℕ) (rest : List Piece) → is_gap gap ≡ true → is_apart (spell rest) ≡ true → is_apart (spell (spaces gap ++ rest)) ≡ true
apart_spaces [] rest h k = k
apart_spaces (b ∷ gap) rest h k = (gap_byte b (and_parts (eqb b 32 || eqb b 10) (is_gap gap) h).0).2 (spell (spaces gap ++ rest))

wide_is_gap : (gap : List ℕ) → is_wide_gap gap ≡ true → is_gap gap ≡ true
wide_is_gap [] h = absurd (false≢true h)
wide_is_gap (b ∷ gap) h = h

apart_wide : (gap : List ℕ) (rest : List Piece) → is_wide_gap gap ≡ true → is_apart (spell (spaces gap ++ rest)) ≡ true
apart_wide [] rest h = absurd (false≢true h)
apart_wide (b ∷ gap) rest h = (gap_byte b (and_parts (eqb b 32 || eqb b 10) (is_gap gap) h).0).2 (spell (spaces gap ++ rest))

-- ---- items

-- The text, with what follows it, is cut into these pieces, whatever follows apart.
record Lays (items : List Item) : Type 0 where
  pieces : List Piece
  spelled : (rest : List Piece) → laid items (spell rest) ≡ spell (pieces ++ rest)
  plain : list_all in_script pieces ≡ true
  tokens_are : tokens pieces ≡ inside (expressions (map (λ i. i.expr) items))
  longest : (rest : List Piece) → each_longest rest ≡ true → is_apart (spell rest) ≡ true → each_longest (pieces ++ rest) ≡ true

record Spread (items : List Item) : Type 0 where
  lays : Lays items
  apart : (rest : List Piece) → is_apart (spell rest) ≡ true → is_apart (spell (lays.pieces ++ rest)) ≡ true

lays_more : (i : Item) (items : List Item) → is_gap i.gap ≡ true → ReadsAs i.text i.expr → Spread items → Lays (i ∷ items)
lays_more i items h w s = record {
  pieces = spaces i.gap ++ (w.pieces ++ s.lays.pieces);
  spelled = λ rest. rw (append_assoc (spaces i.gap) (w.pieces ++ s.lays.pieces) rest, spell_spaces i.gap ((w.pieces ++ s.lays.pieces) ++ rest), append_assoc w.pieces s.lays.pieces rest, flat_map-append spelling w.pieces (s.lays.pieces ++ rest), ← w.spelled, ← (s.lays.spelled rest)) refl;
  plain = plain_spaces i.gap (w.pieces ++ s.lays.pieces) h (list_all-append in_script w.pieces s.lays.pieces ∙ and_from (list_all in_script w.pieces) (list_all in_script s.lays.pieces) w.plain s.lays.plain);
  tokens_are = tokens_spaces i.gap (w.pieces ++ s.lays.pieces) ∙ flat_map-append token w.pieces s.lays.pieces ∙ ap₂ (λ (x y : List Token). x ++ y) w.tokens_are s.lays.tokens_are;
  longest = λ rest k a. rw (append_assoc (spaces i.gap) (w.pieces ++ s.lays.pieces) rest, append_assoc w.pieces s.lays.pieces rest) (longest_spaces i.gap (w.pieces ++ (s.lays.pieces ++ rest)) h (w.longest (s.lays.pieces ++ rest) (s.lays.longest rest k a) (s.apart rest a)));
}

none_spread : Spread []
none_spread = record {
  lays = record { pieces = []; spelled = λ rest. refl; plain = refl; tokens_are = refl; longest = λ rest k a. k };
  apart = λ rest a. a;
}

all_spread : (items : List Item) → AreSpread items → Spread items
unfolding lays_more
all_spread [] h = none_spread
all_spread (i ∷ items) h =
    let s = all_spread items h.2 in
    let more = lays_more i items (wide_is_gap i.gap h.0) h.1 s in
    record {
      lays = more;
      apart = λ rest a. rw (append_assoc (spaces i.gap) (h.1.pieces ++ s.lays.pieces) rest) (apart_wide i.gap ((h.1.pieces ++ s.lays.pieces) ++ rest) h.0);
    }

all_lay : (items : List Item) → AreItems items → Lays items
all_lay [] h = none_spread.lays
all_lay (i ∷ items) h = lays_more i items h.0 h.1 (all_spread items h.2)

-- ---- brackets

pub brackets_write : BracketsWrite
brackets_write items gap h g =
    let lays = all_lay items h in
    let end = spaces gap ++ (Close ∷ []) in
    record {
      pieces = Open ∷ (lays.pieces ++ end);
      spelled = ap (λ (t : List ℕ). 40 ∷ t) (ap (laid items) (sym (spell_spaces gap (Close ∷ []))) ∙ lays.spelled end);
      plain = list_all-append in_script lays.pieces end ∙ and_from (list_all in_script lays.pieces) (list_all in_script end) lays.plain (plain_spaces gap (Close ∷ []) g refl);
      tokens_are = ap (λ (t : List Token). Begin ∷ t) (flat_map-append token lays.pieces end ∙ ap₂ (λ (x y : List Token). x ++ y) lays.tokens_are (tokens_spaces gap (Close ∷ [])));
      longest = λ rest k a. closes lays rest k;
    }
  where
    closes : (lays : Lays items) (rest : List Piece) → each_longest rest ≡ true → each_longest (Open ∷ ((lays.pieces ++ (spaces gap ++ (Close ∷ []))) ++ rest)) ≡ true
    closes lays rest k =
        let e : (lays.pieces ++ (spaces gap ++ (Close ∷ []))) ++ rest ≡ lays.pieces ++ (spaces gap ++ (Close ∷ rest)) = append_assoc lays.pieces (spaces gap ++ (Close ∷ [])) rest ∙ ap (λ (t : List Piece). lays.pieces ++ t) (append_assoc (spaces gap) (Close ∷ []) rest) in
        let c : each_longest (Close ∷ rest) ≡ true = and_from (stops Close (spell rest)) (each_longest rest) (never Close (λ b. refl) (spell rest)) k in
        let m = lays.longest (spaces gap ++ (Close ∷ rest)) (longest_spaces gap (Close ∷ rest) g c) (apart_spaces gap (Close ∷ rest) g refl) in
        rw e (and_from (stops Open (spell (lays.pieces ++ (spaces gap ++ (Close ∷ rest))))) (each_longest (lays.pieces ++ (spaces gap ++ (Close ∷ rest)))) (never Open (λ b. refl) (spell (lays.pieces ++ (spaces gap ++ (Close ∷ rest))))) m)

apart_ends_symbol : (b : ℕ) (rest : List ℕ) → is_apart (b ∷ rest) ≡ true → is_symbol_byte b ≡ false
apart_ends_symbol b rest h = elim (or_cases ((eqb b 32 || eqb b 10) || eqb b 40) (eqb b 41) h) [
  | inr e ↦ rw (eqb-true b 41 e) refl
  | inl f ↦ elim (or_cases (eqb b 32 || eqb b 10) (eqb b 40) f) [
    | inr e ↦ rw (eqb-true b 40 e) refl
    | inl k ↦ elim (or_cases (eqb b 32) (eqb b 10) k) [
      | inl e ↦ rw (eqb-true b 32 e) refl
      | inr e ↦ rw (eqb-true b 10 e) refl
    ]
  ]
]

symbol_stops : (n rest : List ℕ) → is_apart rest ≡ true → stops (Symbol n) rest ≡ true
symbol_stops n [] h = refl
symbol_stops n (b ∷ rest) h = ap not (apart_ends_symbol b rest h)

pub names_write : NamesWrite
names_write n h =
    let p = and_parts (is_symbol n) (is_plain_symbol n) h in
    record {
      pieces = Symbol n ∷ [];
      spelled = sym (append-nil n);
      plain = and_from (is_plain_symbol n) true p.1 refl;
      tokens_are = refl;
      longest = λ rest k a. and_from (is_symbol n && is_utf8 n) (stops (Symbol n) (spell rest) && each_longest rest) (and_from (is_symbol n) (is_utf8 n) p.0 (plain_utf8 n p.1)) (and_from (stops (Symbol n) (spell rest)) (each_longest rest) (symbol_stops n (spell rest) a) k);
    }

apart_stops : (x : Piece) → ((b : ℕ) (rest : List ℕ) → is_apart (b ∷ rest) ≡ true → goes_on x b ≡ false) → (rest : List ℕ) → is_apart rest ≡ true → stops x rest ≡ true
apart_stops x h [] a = refl
apart_stops x h (b ∷ rest) a = ap not (h b rest a)

-- a piece that white space and brackets end is a text of its own
piece_writes : (x : Piece) (e : Expression) → is_piece x ≡ true → in_script x ≡ true → token x ≡ brackets e → ((b : ℕ) (rest : List ℕ) → is_apart (b ∷ rest) ≡ true → goes_on x b ≡ false) → ReadsAs (spelling x) e
piece_writes x e h p t stop = record {
  pieces = x ∷ [];
  spelled = sym (append-nil (spelling x));
  plain = and_from (in_script x) true p refl;
  tokens_are = append-nil (token x) ∙ t;
  longest = λ rest k a. and_from (is_piece x) (stops x (spell rest) && each_longest rest) h (and_from (stops x (spell rest)) (each_longest rest) (apart_stops x stop (spell rest) a) k);
}

apart_is : (P : ℕ → Type 0) → P 32 → P 10 → P 40 → P 41 → (b : ℕ) (rest : List ℕ) → is_apart (b ∷ rest) ≡ true → P b
apart_is P p q r s b rest h = elim (or_cases ((eqb b 32 || eqb b 10) || eqb b 40) (eqb b 41) h) [
  | inr e ↦ subst P (sym (eqb-true b 41 e)) s
  | inl f ↦ elim (or_cases (eqb b 32 || eqb b 10) (eqb b 40) f) [
    | inr e ↦ subst P (sym (eqb-true b 40 e)) r
    | inl k ↦ elim (or_cases (eqb b 32) (eqb b 10) k) [
      | inl e ↦ subst P (sym (eqb-true b 32 e)) p
      | inr e ↦ subst P (sym (eqb-true b 10 e)) q
    ]
  ]
]

pub strings_write : StringsWrite
strings_write text h = piece_writes (Quoted text) (Leaf (Text (decoded 0 text))) refl h refl (apart_is (λ b. goes_on (Quoted text) b ≡ false) refl refl refl refl)

pub numerals_write : NumeralsWrite
numerals_write ds h = piece_writes (Numeral ds) (Leaf (Number (number_in 10 ds))) h refl refl (apart_is (λ b. goes_on (Numeral ds) b ≡ false) refl refl refl refl)

-- ---- lines

pub commands_are_lines : CommandsAreLines
commands_are_lines text c w = record {
  ends = (text, refl);
  holds = record {
    reads = record {
      pieces = w.pieces ++ (Space 10 ∷ []);
      cut = record {
        spelled = ap (λ (t : List ℕ). t ++ 10 ∷ []) w.spelled ∙ sym (flat_map-append spelling w.pieces (Space 10 ∷ []));
        longest = w.longest (Space 10 ∷ []) refl refl;
      };
      tokens_are = flat_map-append token w.pieces (Space 10 ∷ []) ∙ ap (λ (t : List Token). t ++ []) w.tokens_are;
    };
    plain = list_all-append in_script w.pieces (Space 10 ∷ []) ∙ and_from (list_all in_script w.pieces) true w.plain refl;
  };
}

pub comments_are_lines : CommentsAreLines
comments_are_lines text h = record {
  ends = (codes ";" ++ text, refl);
  holds = record {
    reads = record {
      pieces = Comment text ∷ Space 10 ∷ [];
      cut = record { spelled = refl; longest = and_from (list_all (λ b. not (is_line_end b)) text) true h refl };
      tokens_are = refl;
    };
    plain = refl;
  };
}

line_is_whole : (line : List ℕ) (cs : List Command) → IsLine line cs → HasWholeLines line
line_is_whole [] cs h = tt
line_is_whole (b ∷ line) cs h = h.ends

one_more : (c : Command) (s t : State) → step c s ≡ Some t → run (c ∷ []) s ≡ Some t
one_more c s t e = rw e refl

one_less : (c : Command) (s : State) (o : Option State) → step c s ≡ o → run (c ∷ []) s ≡ o
one_less c s (Some t) e = rw e refl
one_less c s None e = rw e refl

pub lines_add : LinesAdd
lines_add text line c s t whole script h = (
  λ e. (script_append text line s (c ∷ []) t whole script h.holds (one_more c s t e), whole_append text line whole (line_is_whole line (c ∷ []) h)),
  λ after. (let cs-is = one_list_of_commands (text ++ line) after.commands (script.commands ++ c ∷ []) after.holds (holds_append text line script.commands (c ∷ []) whole script.holds h.holds) in
      sym (one_less c s (step c s) refl) ∙ sym (run_append script.commands (c ∷ []) start ∙ rw script.runs refl) ∙ ap (λ (cs : List Command). run cs start) (sym cs-is) ∙ after.runs),
)

pub comments_add : CommentsAdd
comments_add text line s whole script h =
    (script_append text line s [] s whole script h.holds refl, whole_append text line whole (line_is_whole line [] h))
