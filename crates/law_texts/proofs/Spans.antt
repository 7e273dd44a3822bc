-- Texts that are cut piece by piece: how spans join, and what follows the first.
use Rattle.std.proofs.Common.{◌≡◌, ℕ, ◌≤◌, true, ◌&&◌, List, [], ◌∷◌, ◌++◌, refl, sym, ap, ◌∙◌, subst, append_assoc}
use Rattle.std.specs.List.{list_all}
use Rattle.std.proofs.lemmas.Bool.{and_parts, and_from}
use Rattle.std.proofs.lemmas.List.{append-nil}
use Rattle.std.proofs.lemmas.List.Concat.{flat_map-append}
use Rattle.std.proofs.lemmas.List.Folds.{list_all-append}
use Rattle.law_texts.specs.Lexicon.{Piece, Token, End, is_piece, spelling, spell, stops, each_longest, token, tokens}
use Rattle.law_texts.specs.Reading.{Expression, brackets, nesting}
use Rattle.law_texts.specs.Tokens.{IsCut, is_held, AreHeld, Spans, HasTokens, IsReadWithin}
use Rattle.law_texts.proofs.Trees.{end_begins, one_expr}
use Rattle.law_texts.proofs.Unique.{begins, first_one}

-- ---- pieces

pub cut_join : (xs ys : List Piece) (bytes between rest : List ℕ) → IsCut xs bytes between → IsCut ys between rest → IsCut (xs ++ ys) bytes rest
cut_join [] ys bytes between rest e c = subst (λ v. IsCut ys v rest) (sym e) c
cut_join (x ∷ xs) ys bytes between rest c d = (c.0, c.1, cut_join xs ys c.0 between rest c.2 d)

pub cut_into : (xs : List Piece) (bytes : List ℕ) → IsCut xs bytes [] → (bytes ≡ spell xs) × (each_longest xs ≡ true)
cut_into [] bytes e = (e, refl)
cut_into (x ∷ xs) bytes c =
    let r = cut_into xs c.0 c.2 in (
      c.1.spelled ∙ ap (λ v. spelling x ++ v) r.0,
      and_from (is_piece x) (stops x (spell xs) && each_longest xs) c.1.is_one (and_from (stops x (spell xs)) (each_longest xs) (ap (λ v. stops x v) (sym r.0) ∙ c.1.longest) r.1),
    )

pub into_cut : (xs : List Piece) (bytes : List ℕ) → each_longest xs ≡ true → bytes ≡ spell xs → IsCut xs bytes []
into_cut [] bytes h e = e
into_cut (x ∷ xs) bytes h e =
    let p = and_parts (is_piece x) (stops x (spell xs) && each_longest xs) h in
    let q = and_parts (stops x (spell xs)) (each_longest xs) p.1 in
    (spell xs, record { spelled = e; is_one = p.0; longest = q.0 }, into_cut xs (spell xs) q.1 refl)

pub tokens_join : (xs ys : List Piece) → tokens (xs ++ ys) ≡ tokens xs ++ tokens ys
tokens_join xs ys = flat_map-append token xs ys

pub held_join : (ts us : List Token) → AreHeld ts → AreHeld us → AreHeld (ts ++ us)
held_join ts us h k = list_all-append is_held ts us ∙ and_from (list_all is_held ts) (list_all is_held us) h k

pub held_parts : (ts us : List Token) → AreHeld (ts ++ us) → AreHeld ts × AreHeld us
held_parts ts us h = and_parts (list_all is_held ts) (list_all is_held us) (sym (list_all-append is_held ts us) ∙ h)

-- ---- spans

pub joined : (bytes between rest : List ℕ) (ts us : List Token) → Spans bytes ts between → Spans between us rest → Spans bytes (ts ++ us) rest
joined bytes between rest ts us s r = record {
  pieces = s.pieces ++ r.pieces;
  cut = cut_join s.pieces r.pieces bytes between rest s.cut r.cut;
  tokens_are = tokens_join s.pieces r.pieces ∙ ap (λ v. v ++ tokens r.pieces) s.tokens_are ∙ ap (λ v. ts ++ v) r.tokens_are;
  held = held_join ts us s.held r.held;
}

pub no_span : (bytes : List ℕ) → Spans bytes [] bytes
no_span bytes = record { pieces = []; cut = refl; tokens_are = refl; held = refl }

-- what follows the pieces at the front of a text
record IsLeft (xs ys : List Piece) (rest : List ℕ) : Type 0 where
  pub pieces : List Piece
  pub cut : IsCut pieces rest []
  pub tokens_are : tokens ys ≡ tokens xs ++ tokens pieces

left_of : (xs ys : List Piece) (bytes rest : List ℕ) → IsCut xs bytes rest → IsCut ys bytes [] → IsLeft xs ys rest
left_of [] ys bytes rest e c = record { pieces = ys; cut = subst (λ v. IsCut ys v []) e c; tokens_are = refl }
left_of (x ∷ xs) [] bytes rest c e = absurd (begins x c.0 c.1.is_one (sym e ∙ c.1.spelled))
left_of (x ∷ xs) (y ∷ ys) bytes rest c d =
    let f = first_one x y c.0 d.0 c.1.is_one d.1.is_one c.1.longest d.1.longest (sym c.1.spelled ∙ d.1.spelled) in
    let l = left_of xs ys c.0 rest c.2 (subst (λ v. IsCut ys v []) (sym f.1) d.2) in
    record {
      pieces = l.pieces;
      cut = l.cut;
      tokens_are = ap (λ v. token v ++ tokens ys) (sym f.0) ∙ ap (λ v. token x ++ v) l.tokens_are ∙ sym (append_assoc (token x) (tokens xs) (tokens l.pieces));
    }

-- The tokens of a text begin with those of what stands at its front, and the others are those of the rest.
pub record GoesOn (ts front : List Token) (rest : List ℕ) : Type 0 where
  pub others : List Token
  pub whole : ts ≡ front ++ others
  pub has : HasTokens rest others

pub goes_on : (bytes rest : List ℕ) (ts front : List Token) → HasTokens bytes ts → Spans bytes front rest → GoesOn ts front rest
goes_on bytes rest ts front h s =
    let l = left_of s.pieces h.pieces bytes rest s.cut h.cut in
    let whole : ts ≡ front ++ tokens l.pieces = sym h.tokens_are ∙ l.tokens_are ∙ ap (λ v. v ++ tokens l.pieces) s.tokens_are in
    record {
      others = tokens l.pieces;
      whole = whole;
      has = record {
        pieces = l.pieces;
        cut = l.cut;
        tokens_are = refl;
        held = (held_parts front (tokens l.pieces) (subst AreHeld whole h.held)).1;
      };
    }

-- ---- expressions

pub read_from : (bytes : List ℕ) (depth : ℕ) (e : Expression) → HasTokens bytes (brackets e) → nesting e ≤ depth → IsReadWithin bytes depth e
read_from bytes depth e h n =
    let c = cut_into h.pieces bytes h.cut in
    record {
      reads = record { pieces = h.pieces; cut = record { spelled = c.0; longest = c.1 }; tokens_are = h.tokens_are ∙ sym (append-nil (brackets e)) };
      held = h.held;
      shallow = n;
    }

pub has_tokens : (bytes : List ℕ) (depth : ℕ) (e : Expression) → IsReadWithin bytes depth e → HasTokens bytes (brackets e)
has_tokens bytes depth e r = record {
  pieces = r.reads.pieces;
  cut = into_cut r.reads.pieces bytes r.reads.cut.longest r.reads.cut.spelled;
  tokens_are = r.reads.tokens_are ∙ append-nil (brackets e);
  held = r.held;
}

-- The expression at the front of a text is the first that the text has.
pub one_first : (bytes rest : List ℕ) (e f : Expression) (ts : List Token) → HasTokens bytes (brackets e ++ ts) → Spans bytes (brackets f) rest → (f ≡ e) × HasTokens rest ts
one_first bytes rest e f ts h s =
    let g = goes_on bytes rest (brackets e ++ ts) (brackets f) h s in
    let o = one_expr f e g.others ts (sym g.whole) in
    (o.0, subst (HasTokens rest) o.1 g.has)

-- None stands before a closing bracket.
pub none_before_end : (bytes rest : List ℕ) (f : Expression) (ts : List Token) → HasTokens bytes (End ∷ ts) → Spans bytes (brackets f) rest → ⊥
none_before_end bytes rest f ts h s =
    let g = goes_on bytes rest (End ∷ ts) (brackets f) h s in
    end_begins f ts g.others g.whole

-- what stands at the front of a text is one token of it
pub one_token : (bytes rest : List ℕ) (t u : Token) (ts : List Token) → HasTokens bytes (t ∷ ts) → Spans bytes (u ∷ []) rest → (u ≡ t) × HasTokens rest ts
one_token bytes rest t u ts h s =
    let g = goes_on bytes rest (t ∷ ts) (u ∷ []) h s in
    (first_is t u ts g.others g.whole, subst (HasTokens rest) (sym (others_are t u ts g.others g.whole)) g.has)
  where
    first_is : (a b : Token) (xs ys : List Token) → a ∷ xs ≡ b ∷ ys → b ≡ a
    first_is a b xs ys e = cc

    others_are : (a b : Token) (xs ys : List Token) → a ∷ xs ≡ b ∷ ys → xs ≡ ys
    others_are a b xs ys e = cc
