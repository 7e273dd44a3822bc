-- Texts that are cut piece by piece.
use Rattle.std.proofs.Common.{◌≡◌, ℕ, ◌+◌, ◌<◌, ◌≤◌, length, length-append, arith, Bool, true, false, ◌&&◌, List, [], ◌∷◌, ◌++◌, refl, sym, ap, ◌∙◌, subst}
use Rattle.std.specs.List.{list_all}
use Rattle.std.proofs.lemmas.Bool.{false≢true}
use Rattle.std.proofs.lemmas.List.{append-nil}
use Rattle.std.proofs.lemmas.List.Concat.{flat_map-append}
use Rattle.law_texts.specs.Lexicon.{Piece, Space, Comment, Open, Close, Quoted, Binary, Hexadecimal, Numeral, Symbol, spelling, is_piece, Token, token, tokens}
use Rattle.law_texts.specs.Tokens.{StandsFirst, IsCut, AreHeld, is_held}
use Rattle.law_texts.proofs.Spans.{cut_join, held_join, tokens_join}
use Rattle.smt_sexpr.specs.OpenLists.{IsScanned}
use Rattle.smt_sexpr.specs.Pieces.{StandsFor}
use Rattle.smt_sexpr.specs.Refusals.{HasTokenFault, IsTokenFault}
use Rattle.smt_sexpr.specs.declared.error.SExprParseError.{SExprParseError}

pub cut_more : (xs : List Piece) (x : Piece) (bytes rest after : List ℕ) → IsCut xs bytes rest → StandsFirst rest x after → IsCut (xs ++ x ∷ []) bytes after
cut_more [] x bytes rest after e s = (after, record { spelled = e ∙ s.spelled; is_one = s.is_one; longest = s.longest }, refl)
cut_more (y ∷ ys) x bytes rest after c s = (c.0, c.1, cut_more ys x c.0 rest after c.2 s)

pub tokens_more : (xs : List Piece) (x : Piece) (ts : List Token) → token x ≡ ts → tokens (xs ++ x ∷ []) ≡ tokens xs ++ ts
tokens_more xs x ts e = flat_map-append token xs (x ∷ []) ∙ ap (λ v. tokens xs ++ v) (append-nil (token x) ∙ e)

pub held_more : (xs : List Piece) (x : Piece) (ts : List Token) → token x ≡ ts → AreHeld (tokens xs) → AreHeld ts → AreHeld (tokens (xs ++ x ∷ []))
held_more xs x ts e h k = ap (list_all is_held) (tokens_more xs x ts e) ∙ held_join (tokens xs) ts h k

-- ---- scans

pub scanned_none : (bytes : List ℕ) → IsScanned true bytes bytes
scanned_none bytes = record { pieces = []; cut = refl; held = refl; none = λ h. refl; some = λ h. absurd (false≢true (sym h)) }

nothing_yet : (blank : Bool) (ts us : List Token) → (blank ≡ true → ts ≡ []) → (b : Bool) → (b ≡ true → us ≡ []) → (blank && b) ≡ true → ts ++ us ≡ []
nothing_yet true ts us f b g h = ap (λ v. v ++ us) (f refl) ∙ g h
nothing_yet false ts us f b g h = absurd (false≢true h)

something : (blank : Bool) (ts us : List Token) → (blank ≡ true → ts ≡ []) → (blank ≡ false → (t : Token) × (vs : List Token) × (ts ≡ t ∷ vs)) → (b : Bool) → (b ≡ false → (t : Token) × (vs : List Token) × (us ≡ t ∷ vs)) → (blank && b) ≡ false → (t : Token) × (vs : List Token) × (ts ++ us ≡ t ∷ vs)
something true ts us f g b k h = let o = k h in (o.0, o.1, ap (λ v. v ++ us) (f refl) ∙ o.2)
something false ts us f g b k h = let o = g refl in (o.0, o.1 ++ us, ap (λ v. v ++ us) o.2)

pub scanned_more : (blank b : Bool) (bytes rest after : List ℕ) (ts : List Token) → IsScanned blank bytes rest → StandsFor ts rest after → (b ≡ true → ts ≡ []) → (b ≡ false → (t : Token) × (vs : List Token) × (ts ≡ t ∷ vs)) → IsScanned (blank && b) bytes after
scanned_more blank b bytes rest after ts s f none some =
    let e = tokens_more s.pieces f.piece ts f.tokens_are in
    record {
      pieces = s.pieces ++ f.piece ∷ [];
      cut = cut_more s.pieces f.piece bytes rest after s.cut f.first;
      held = held_more s.pieces f.piece ts f.tokens_are s.held f.held;
      none = λ h. e ∙ nothing_yet blank (tokens s.pieces) ts s.none b none h;
      some = λ h. (let o = something blank (tokens s.pieces) ts s.none s.some b some h in (o.0, o.1, e ∙ o.2));
    }

pub scanned_all : (blank : Bool) (bytes rest : List ℕ) → rest ≡ [] → IsScanned blank bytes rest → IsScanned blank bytes []
scanned_all blank bytes rest e s = subst (λ v. IsScanned blank bytes v) e s

pub scan_fault : (blank : Bool) (bytes rest : List ℕ) (e : SExprParseError) → IsScanned blank bytes rest → IsTokenFault e rest → HasTokenFault e bytes
scan_fault blank bytes rest e s f = record { pieces = s.pieces; rest = rest; cut = s.cut; held = s.held; at_rest = f }

-- a fault behind pieces
pub fault_behind : (xs : List Piece) (bytes rest : List ℕ) (e : SExprParseError) → IsCut xs bytes rest → AreHeld (tokens xs) → HasTokenFault e rest → HasTokenFault e bytes
fault_behind xs bytes rest e c h f = record {
  pieces = xs ++ f.pieces;
  rest = f.rest;
  cut = cut_join xs f.pieces bytes rest f.rest c f.cut;
  held = ap (list_all is_held) (tokens_join xs f.pieces) ∙ held_join (tokens xs) (tokens f.pieces) h f.held;
  at_rest = f.at_rest;
}

-- a piece has a byte
pub shorter : (ts : List Token) (bytes rest : List ℕ) → StandsFor ts bytes rest → length rest < length bytes
shorter ts bytes rest s = by_piece s.piece s.first.is_one (ap length s.first.spelled ∙ length-append (spelling s.piece) rest)
  where
    by_piece : (x : Piece) → is_piece x ≡ true → length bytes ≡ length (spelling x) + length rest → length rest < length bytes
    by_piece (Space b) h e = omega arith
    by_piece (Comment t) h e = omega arith
    by_piece Open h e = omega arith
    by_piece Close h e = omega arith
    by_piece (Quoted t) h e = omega arith
    by_piece (Binary t) h e = omega arith
    by_piece (Hexadecimal t) h e = omega arith
    by_piece (Numeral []) h e = absurd (false≢true h)
    by_piece (Numeral (d ∷ ds)) h e = omega arith
    by_piece (Symbol []) h e = absurd (false≢true h)
    by_piece (Symbol (d ∷ ds)) h e = omega arith

-- pieces leave no more than there was
pub no_longer : (xs : List Piece) (bytes rest : List ℕ) → IsCut xs bytes rest → length rest ≤ length bytes
no_longer [] bytes rest e = omega (arith, ap length e)
no_longer (x ∷ xs) bytes rest c =
    let n = no_longer xs c.0 rest c.2 in
    let l = ap length c.1.spelled ∙ length-append (spelling x) c.0 in
    omega arith
