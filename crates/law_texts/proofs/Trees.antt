-- Tokens are the brackets of one list of expressions, so a text has one reading.
use Rattle.std.proofs.Common.{ap₂, ◌≡◌, ℕ, List, [], ◌∷◌, ◌++◌, refl, sym, ap, ◌∙◌, append_assoc}
use Rattle.std.specs.List.{flat_map}
use Rattle.law_texts.specs.Lexicon.{Token, Begin, End, Word, Atom, tokens}
use Rattle.law_texts.specs.Reading.{Expression, Leaf, Node, Expressions, Nil, Cons, brackets, inside, Reads}
use Rattle.law_texts.proofs.Unique.{one_cut}

pub token_is : (a b : Token) (xs ys : List Token) → a ∷ xs ≡ b ∷ ys → (a ≡ b) × (xs ≡ ys)
token_is a b xs ys e = (cc, cc)

word_is : (a b : Atom) → Word a ≡ Word b → a ≡ b
word_is a b e = cc

pub end_begins : (f : Expression) (r s : List Token) → End ∷ r ≡ brackets f ++ s → ⊥
end_begins (Leaf b) r s h = cc
end_begins (Node fs) r s h = cc

pub empty_begins : (f : Expression) (s : List Token) → [] ≡ brackets f ++ s → ⊥
empty_begins (Leaf b) s h = cc
empty_begins (Node fs) s h = cc

mutual
  pub one_expr : (e f : Expression) (r s : List Token) → brackets e ++ r ≡ brackets f ++ s → (e ≡ f) × (r ≡ s)
  one_expr (Leaf a) (Leaf b) r s h = let t = token_is (Word a) (Word b) r s h in (ap Leaf (word_is a b t.0), t.1)
  one_expr (Leaf a) (Node fs) r s h = absurd cc
  one_expr (Node es) (Leaf b) r s h = absurd cc
  one_expr (Node es) (Node fs) r s h =
      let t = token_is Begin Begin ((inside es ++ End ∷ []) ++ r) ((inside fs ++ End ∷ []) ++ s) h in
      let u = one_inside es fs r s (sym (append_assoc (inside es) (End ∷ []) r) ∙ t.1 ∙ append_assoc (inside fs) (End ∷ []) s) in
      (ap Node u.0, u.1)

  pub one_inside : (es fs : Expressions) (r s : List Token) → inside es ++ (End ∷ r) ≡ inside fs ++ (End ∷ s) → (es ≡ fs) × (r ≡ s)
  one_inside Nil Nil r s h = (refl, (token_is End End r s h).1)
  one_inside Nil (Cons f fs) r s h = absurd (end_begins f r (inside fs ++ (End ∷ s)) (h ∙ append_assoc (brackets f) (inside fs) (End ∷ s)))
  one_inside (Cons e es) Nil r s h = absurd (end_begins e s (inside es ++ (End ∷ r)) (sym h ∙ append_assoc (brackets e) (inside es) (End ∷ r)))
  one_inside (Cons e es) (Cons f fs) r s h =
      let t = one_expr e f (inside es ++ (End ∷ r)) (inside fs ++ (End ∷ s)) (sym (append_assoc (brackets e) (inside es) (End ∷ r)) ∙ h ∙ append_assoc (brackets f) (inside fs) (End ∷ s)) in
      let u = one_inside es fs r s t.1 in
      (ap₂ Cons t.0 u.0, u.1)

one_list : (es fs : List Expression) → flat_map brackets es ≡ flat_map brackets fs → es ≡ fs
one_list [] [] h = refl
one_list [] (f ∷ fs) h = absurd (empty_begins f (flat_map brackets fs) h)
one_list (e ∷ es) [] h = absurd (empty_begins e (flat_map brackets es) (sym h))
one_list (e ∷ es) (f ∷ fs) h =
    let t = one_expr e f (flat_map brackets es) (flat_map brackets fs) h in
    ap₂ (λ (a : Expression) (v : List Expression). a ∷ v) t.0 (one_list es fs t.1)

-- A text has one reading.
pub one_reading : (bytes : List ℕ) (es fs : List Expression) → Reads bytes es → Reads bytes fs → es ≡ fs
one_reading bytes es fs p q =
    let pieces-is = one_cut p.pieces q.pieces p.cut.longest q.cut.longest (sym p.cut.spelled ∙ q.cut.spelled) in
    one_list es fs (sym p.tokens_are ∙ ap tokens pieces-is ∙ q.tokens_are)
