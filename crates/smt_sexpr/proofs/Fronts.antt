-- White space, comments and brackets at the front of a text, and what the tokens of the text say of them.
use Rattle.std.proofs.Common.{inl, inr, ◌≡◌, ℕ, true, false, eqb, List, [], ◌∷◌, ◌++◌, Option, Some, None, refl, sym, ap, ◌∙◌, subst}
use Rattle.std.specs.Prelude.{IfNone}
use Rattle.std.proofs.lemmas.Bool.{cases_Bool, eqb-true, false≢true}
use Rattle.std.proofs.lemmas.List.{append-nil}
use Rattle.law_texts.proofs.Runs.{head_is}
use Rattle.law_texts.specs.Lexicon.{Piece, Space, Comment, Open, Close, Quoted, Binary, Hexadecimal, Numeral, Symbol, Token, Begin, End, is_space, stops, spelling, token, tokens}
use Rattle.law_texts.specs.Reads.{skip_space}
use Rattle.law_texts.specs.Tokens.{StandsFirst, IsCut, Spans, HasTokens}
use Rattle.law_texts.proofs.Spans.{goes_on, joined, no_span}
use Rattle.smt_sexpr.specs.Pieces.{StandsFor, begins_blank}

-- ---- white space and comments

pub one_span : (bytes rest : List ℕ) (ts : List Token) → StandsFor ts bytes rest → Spans bytes ts rest
one_span bytes rest ts s = record {
  pieces = s.piece ∷ [];
  cut = (rest, s.first, refl);
  tokens_are = append-nil (token s.piece) ∙ s.tokens_are;
  held = s.held;
}

-- one piece behind blanks
pub behind_blanks : (bytes text rest : List ℕ) (ts : List Token) → Spans bytes [] text → StandsFor ts text rest → Spans bytes ts rest
behind_blanks bytes text rest ts s f = joined bytes text rest [] ts s (one_span text rest ts f)

never_longer : (b : ℕ) (rest : List ℕ) → stops (Space b) rest ≡ true
never_longer b [] = refl
never_longer b (c ∷ cs) = refl

pub skipped : (bytes : List ℕ) → Spans bytes [] (skip_space bytes)
skipped [] = no_span []
skipped (b ∷ bs) = elim (cases_Bool (is_space b)) [
  | inl h ↦ rw h (let s = skipped bs in record {
    pieces = Space b ∷ s.pieces;
    cut = (bs, record { spelled = refl; is_one = h; longest = never_longer b bs }, s.cut);
    tokens_are = s.tokens_are;
    held = s.held;
  })
  | inr h ↦ rw h (no_span (b ∷ bs))
]

-- blanks behind blanks
pub blank_more : (bytes between rest : List ℕ) → Spans bytes [] between → Spans between [] rest → Spans bytes [] rest
blank_more bytes between rest s r = joined bytes between rest [] [] s r

no_space_first : (bytes : List ℕ) (b : ℕ) (bs : List ℕ) → skip_space bytes ≡ b ∷ bs → is_space b ≡ false
no_space_first [] b bs e = absurd (cc)
no_space_first (c ∷ cs) b bs e = elim (cases_Bool (is_space c)) [
  | inl h ↦ no_space_first cs b bs (rw h at e)
  | inr h ↦ (let f : c ∷ cs ≡ b ∷ bs = rw h at e in ap is_space (sym (head_is c b cs bs f).0) ∙ h)
]

-- behind white space no blank begins where no comment does
pub no_blank : (bytes rest : List ℕ) → rest ≡ skip_space bytes → ((inside : List ℕ) → rest ≡ 59 ∷ inside → ⊥) → begins_blank rest ≡ false
no_blank bytes [] e none = refl
no_blank bytes (b ∷ bs) e none = elim (cases_Bool (eqb b 59)) [
  | inl h ↦ absurd (none bs (ap (λ (v : ℕ). v ∷ bs) (semicolon h)))
  | inr h ↦ rw (no_space_first bytes b bs (sym e), h) refl
]
  where
    semicolon : eqb b 59 ≡ true → b ≡ 59
    semicolon h = eqb-true b 59 h

-- ---- the first token

pub comment_begins : (text after : List ℕ) → begins_blank (59 ∷ (text ++ after)) ≡ true
comment_begins text after = refl

pub space_begins : (b : ℕ) (after : List ℕ) → is_space b ≡ true → begins_blank (b ∷ after) ≡ true
space_begins b after h = rw h refl

first_of : (s t : Token) (ss ts : List Token) → s ∷ ss ≡ t ∷ ts → s ∷ [] ≡ t ∷ []
first_of s t ss ts e = cc

-- The piece of a token that stands at the front.
pub record IsFirst (bytes : List ℕ) (t : Token) : Type 0 where
  pub piece : Piece
  pub rest : List ℕ
  pub stands : StandsFirst bytes piece rest
  pub token_is : token piece ≡ t ∷ []

here : (x : Piece) (ps : List Piece) (bytes end : List ℕ) (s t : Token) (ts : List Token) → token x ≡ s ∷ [] → IsCut (x ∷ ps) bytes end → tokens (x ∷ ps) ≡ t ∷ ts → IsFirst bytes t
here x ps bytes end s t ts k c e = record {
  piece = x;
  rest = c.0;
  stands = c.1;
  token_is = k ∙ first_of s t (tokens ps) ts (ap (λ v. v ++ tokens ps) (sym k) ∙ e);
}

pub first_piece : (ps : List Piece) (bytes end : List ℕ) (t : Token) (ts : List Token) → IsCut ps bytes end → begins_blank bytes ≡ false → tokens ps ≡ t ∷ ts → IsFirst bytes t
first_piece [] bytes end t ts c n e = absurd (cc)
first_piece (Space b ∷ ps) bytes end t ts c n e = absurd (false≢true (sym n ∙ ap begins_blank c.1.spelled ∙ space_begins b c.0 c.1.is_one))
first_piece (Comment text ∷ ps) bytes end t ts c n e = absurd (false≢true (sym n ∙ ap begins_blank c.1.spelled ∙ comment_begins text c.0))
first_piece (Open ∷ ps) bytes end t ts c n e = here Open ps bytes end _ t ts refl c e
first_piece (Close ∷ ps) bytes end t ts c n e = here Close ps bytes end _ t ts refl c e
first_piece (Quoted text ∷ ps) bytes end t ts c n e = here (Quoted text) ps bytes end _ t ts refl c e
first_piece (Binary digits ∷ ps) bytes end t ts c n e = here (Binary digits) ps bytes end _ t ts refl c e
first_piece (Hexadecimal digits ∷ ps) bytes end t ts c n e = here (Hexadecimal digits) ps bytes end _ t ts refl c e
first_piece (Numeral digits ∷ ps) bytes end t ts c n e = here (Numeral digits) ps bytes end _ t ts refl c e
first_piece (Symbol name ∷ ps) bytes end t ts c n e = here (Symbol name) ps bytes end _ t ts refl c e

open_is : (x : Piece) → token x ≡ Begin ∷ [] → spelling x ≡ 40 ∷ []
open_is Open e = refl
open_is x e = absurd (cc)

close_is : (x : Piece) → token x ≡ End ∷ [] → spelling x ≡ 41 ∷ []
close_is Close e = refl
close_is x e = absurd (cc)

-- where no bracket stands behind the blanks, the text doesn't begin with one
pub no_open : (bytes rest : List ℕ) (ts : List Token) → Spans bytes [] rest → begins_blank rest ≡ false → ((inside : List ℕ) → rest ≡ 40 ∷ inside → ⊥) → HasTokens bytes (Begin ∷ ts) → ⊥
no_open bytes rest ts s n none h =
    let g = goes_on bytes rest (Begin ∷ ts) [] h s in
    let f = first_piece g.has.pieces rest [] Begin ts g.has.cut n (g.has.tokens_are ∙ sym g.whole) in
    none f.rest (f.stands.spelled ∙ ap (λ v. v ++ f.rest) (open_is f.piece f.token_is))

pub no_close : (bytes rest : List ℕ) (ts : List Token) → Spans bytes [] rest → begins_blank rest ≡ false → ((inside : List ℕ) → rest ≡ 41 ∷ inside → ⊥) → HasTokens bytes (End ∷ ts) → ⊥
no_close bytes rest ts s n none h =
    let g = goes_on bytes rest (End ∷ ts) [] h s in
    let f = first_piece g.has.pieces rest [] End ts g.has.cut n (g.has.tokens_are ∙ sym g.whole) in
    none f.rest (f.stands.spelled ∙ ap (λ v. v ++ f.rest) (close_is f.piece f.token_is))

-- the pieces of brackets
pub open_span : (bytes rest : List ℕ) → bytes ≡ 40 ∷ rest → Spans bytes (Begin ∷ []) rest
open_span bytes rest e = record { pieces = Open ∷ []; cut = (rest, record { spelled = e; is_one = refl; longest = stops_at rest }, refl); tokens_are = refl; held = refl }
  where
    stops_at : (after : List ℕ) → stops Open after ≡ true
    stops_at [] = refl
    stops_at (b ∷ bs) = refl

pub close_span : (bytes rest : List ℕ) → bytes ≡ 41 ∷ rest → Spans bytes (End ∷ []) rest
close_span bytes rest e = record { pieces = Close ∷ []; cut = (rest, record { spelled = e; is_one = refl; longest = stops_at rest }, refl); tokens_are = refl; held = refl }
  where
    stops_at : (after : List ℕ) → stops Close after ≡ true
    stops_at [] = refl
    stops_at (b ∷ bs) = refl

-- what follows where nothing is found
pub where_none : {X : Type 0} (r : Option X) {P Q : Type 0} → IfNone r P → (P → Q) → IfNone r Q
where_none None p f = f p
where_none (Some x) p f = tt

-- what holds anyway
pub where_any : {X : Type 0} (r : Option X) {P : Type 0} → P → IfNone r P
where_any None p = p
where_any (Some x) p = tt

-- ---- texts without tokens

nothing_left : (ps : List Piece) (bytes : List ℕ) → IsCut ps bytes [] → begins_blank bytes ≡ false → tokens ps ≡ [] → bytes ≡ []
nothing_left [] bytes c n e = c
nothing_left (Space b ∷ ps) bytes c n e = absurd (false≢true (sym n ∙ ap begins_blank c.1.spelled ∙ space_begins b c.0 c.1.is_one))
nothing_left (Comment text ∷ ps) bytes c n e = absurd (false≢true (sym n ∙ ap begins_blank c.1.spelled ∙ comment_begins text c.0))
nothing_left (x ∷ ps) bytes c n e = absurd (cc)

pub blank_text : (bytes rest : List ℕ) → Spans bytes [] rest → rest ≡ [] → HasTokens bytes []
blank_text bytes rest s e = subst (Spans bytes []) e s

pub blank_from : (bytes rest : List ℕ) → Spans bytes [] rest → begins_blank rest ≡ false → HasTokens bytes [] → rest ≡ []
blank_from bytes rest s n h =
    let g = goes_on bytes rest [] [] h s in
    nothing_left g.has.pieces rest g.has.cut n (g.has.tokens_are ∙ sym g.whole)
