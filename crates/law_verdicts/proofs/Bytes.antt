-- Lines at the front of bytes, and lines that say `unsat`.
use Rattle.std.proofs.Common.{◌≡◌, ◌⊎◌, ℕ, Bool, true, false, ◌||◌, eqb, eqb-true, List, [], ◌∷◌, ◌++◌, refl, sym, ap, ap₂, ◌∙◌, subst, inl, inr, append_assoc, arith}
use Rattle.std.specs.Prelude.{IsTrue, codes, not}
use Rattle.std.specs.List.{AllByRecursion, list_all}
use Rattle.std.proofs.lemmas.Bool.{and_from, and_parts, cases_Bool, eq-eqb, false≢true, not-true}
use Rattle.std.proofs.lemmas.List.Folds.{list_all-append}
use Rattle.law_texts.specs.Lexicon.{is_plain_byte, is_plain_symbol, is_symbol}
use Rattle.law_scripts.specs.Written.{is_name}
use Rattle.law_verdicts.proofs.Formulas.{either}
use Rattle.std.proofs.lemmas.List.Elements.{recursion_from_All}
use Rattle.smt_solve.specs.Answers.{HasSharpEnds, StripsTo, closing, is_blank, opening}
use Rattle.smt_solve.specs.Link.{IsLine}
use Rattle.smt_solve.specs.Model.{IsInner}

abbrev pub NoneIsFeed : List ℕ → Type 0
NoneIsFeed bytes = AllByRecursion (λ b. b ≡ 10 → ⊥) bytes

-- two lines at the front of the same bytes are one
pub same_front : (a b : List ℕ) (r q : List ℕ) → NoneIsFeed a → NoneIsFeed b → a ++ 10 ∷ r ≡ b ++ 10 ∷ q → (a ≡ b) × (r ≡ q)
same_front [] [] r q f g h = (refl, cc)
same_front [] (y ∷ b) r q f g h = let e : y ≡ 10 = cc in absurd (g.0 e)
same_front (x ∷ a) [] r q f g h = let e : x ≡ 10 = cc in absurd (f.0 e)
same_front (x ∷ a) (y ∷ b) r q f g h =
    let e : x ≡ y = cc in
    let k : a ++ 10 ∷ r ≡ b ++ 10 ∷ q = cc in
    let p = same_front a b r q f.1 g.1 k in
    (ap₂ (λ (n : ℕ) (ns : List ℕ). n ∷ ns) e p.0, p.1)

-- a line in front of bytes, beside one that is known
pub line_is : (line a rest behind : List ℕ) → IsLine line → NoneIsFeed a → a ++ 10 ∷ behind ≡ line ++ rest → (line ≡ a ++ 10 ∷ []) × (behind ≡ rest)
line_is line a rest behind l f h =
    let e : (l.0 ++ 10 ∷ []) ++ rest ≡ l.0 ++ 10 ∷ rest = append_assoc l.0 (10 ∷ []) rest in
    let p = same_front a l.0 behind rest f (recursion_from_All (λ b. b ≡ 10 → ⊥) l.0 l.1) (h ∙ ap (λ t. t ++ rest) l.2 ∙ e) in
    (l.2 ∙ ap (λ t. t ++ 10 ∷ []) (sym p.0), p.1)

-- no byte is a line feed, as a test
abbrev pub is_free : List ℕ → Bool
is_free bytes = list_all (λ b. not (eqb b 10)) bytes

pub free : (bytes : List ℕ) → is_free bytes ≡ true → NoneIsFeed bytes
free [] h = tt
free (b ∷ bytes) h = let p = and_parts (not (eqb b 10)) (is_free bytes) h in (λ e. false≢true (sym (not-true (eqb b 10) p.0) ∙ eq-eqb b 10 e), free bytes p.1)

pub free_append : (a b : List ℕ) → is_free a ≡ true → is_free b ≡ true → is_free (a ++ b) ≡ true
free_append a b p q = list_all-append (λ x. not (eqb x 10)) a b ∙ and_from (is_free a) (is_free b) p q

pub free_parts : (a b : List ℕ) → NoneIsFeed a → NoneIsFeed b → NoneIsFeed (a ++ b)
free_parts [] b f g = g
free_parts (x ∷ a) b f g = (f.0, free_parts a b f.1 g)

plain_is_free : (b : ℕ) → is_plain_byte b ≡ true → not (eqb b 10) ≡ true
plain_is_free b h = elim (cases_Bool (eqb b 10)) [
  | inl e ↦ absurd (false≢true (subst (λ x. is_plain_byte x ≡ true) (eqb-true b 10 e) h))
  | inr e ↦ ap not e
]

plain_are_free : (bs : List ℕ) → list_all is_plain_byte bs ≡ true → is_free bs ≡ true
plain_are_free [] h = refl
plain_are_free (b ∷ bs) h = let p = and_parts (is_plain_byte b) (list_all is_plain_byte bs) h in and_from (not (eqb b 10)) (is_free bs) (plain_is_free b p.0) (plain_are_free bs p.1)

-- a name has no line feed
pub name_is_free : (n : List ℕ) → is_name n ≡ true → is_free n ≡ true
name_is_free [] h = refl
name_is_free (b ∷ bs) h =
    let p = and_parts (is_plain_byte b || eqb b 58) (list_all is_plain_byte bs) (and_parts (is_symbol (b ∷ bs)) (is_plain_symbol (b ∷ bs)) h).1 in
    and_from (not (eqb b 10)) (is_free bs) (by (either (is_plain_byte b) (eqb b 58) p.0)) (plain_are_free bs p.1)
  where
    by : (is_plain_byte b ≡ true) ⊎ (eqb b 58 ≡ true) → not (eqb b 10) ≡ true
    by (inl e) = plain_is_free b e
    by (inr e) = ap (λ x. not (eqb x 10)) (eqb-true b 58 e)

-- ---- what lines say

abbrev pub Blanks : List ℕ → Type 0
Blanks bytes = AllByRecursion (λ b. IsTrue (is_blank b)) bytes

abbrev pub Anything : List ℕ → Type 0
Anything bytes = Unit {0}

-- The word comes first, and such bytes behind it.
abbrev Begins : (List ℕ → Type 0) → List ℕ → List ℕ → Type 0
Begins P bytes word = (back : List ℕ) × (bytes ≡ word ++ back) × P back

-- Behind blanks it comes.
abbrev pub Says : (List ℕ → Type 0) → List ℕ → List ℕ → Type 0
Says P [] word = Begins P [] word
Says P (b ∷ bytes) word = Begins P (b ∷ bytes) word ⊎ (IsTrue (is_blank b) × Says P bytes word)

begun : (P : List ℕ → Type 0) (bytes word back : List ℕ) → bytes ≡ word ++ back → P back → Says P bytes word
begun P [] word back e p = (back, e, p)
begun P (b ∷ bytes) word back e p = inl (back, e, p)

behind_blanks : (P : List ℕ → Type 0) (front word back : List ℕ) → Blanks front → P back → Says P (front ++ (word ++ back)) word
behind_blanks P [] word back h p = begun P (word ++ back) word back refl p
behind_blanks P (b ∷ front) word back h p = inr (h.0, behind_blanks P front word back h.1 p)

-- what a line that strips to a word says, whatever stands behind the line
pub says : (line word rest : List ℕ) → StripsTo line word → Says Anything (line ++ rest) word
says line word rest s =
    let e : line ++ rest ≡ s.front ++ (word ++ (s.back ++ rest)) = ap (λ t. t ++ rest) s.whole ∙ append_assoc s.front (word ++ s.back) rest ∙ ap (λ t. s.front ++ t) (append_assoc word s.back rest) in
    subst (λ t. Says Anything t word) (sym e) (behind_blanks Anything s.front word (s.back ++ rest) (recursion_from_All (λ b. IsTrue (is_blank b)) s.front s.blank_front) tt)

pub says_alone : (line word : List ℕ) → StripsTo line word → Says Blanks line word
says_alone line word s = subst (λ t. Says Blanks t word) (sym s.whole)
    (behind_blanks Blanks s.front word s.back (recursion_from_All (λ b. IsTrue (is_blank b)) s.front s.blank_front) (recursion_from_All (λ b. IsTrue (is_blank b)) s.back s.blank_back))

-- ---- what no `unsat` is

abbrev starts : ℕ → List ℕ → Bool
starts c [] = false
starts c (b ∷ bytes) = eqb b c

abbrev rest_of : List ℕ → List ℕ
rest_of [] = []
rest_of (b ∷ bytes) = bytes

pub not_nothing : Says Anything [] (codes "unsat") → ⊥
not_nothing (back, e, p) = false≢true (ap (starts 117) e)

pub not_bracket : (rest : List ℕ) → Says Anything (40 ∷ rest) (codes "unsat") → ⊥
not_bracket rest (inl (back, e, p)) = false≢true (ap (starts 117) e)
not_bracket rest (inr (b, s)) = false≢true b

pub not_sat : (rest : List ℕ) → Says Anything (codes "sat" ++ rest) (codes "unsat") → ⊥
not_sat rest (inl (back, e, p)) = false≢true (ap (starts 117) e)
not_sat rest (inr (b, s)) = false≢true b

pub not_unknown : (rest : List ℕ) → Says Anything (codes "unknown" ++ rest) (codes "unsat") → ⊥
not_unknown rest (inl (back, e, p)) = false≢true (ap (λ t. starts 115 (rest_of (rest_of t))) e)
not_unknown rest (inr (b, s)) = false≢true b

-- ---- what no line of a model is

pub not_opening : Says Blanks (codes "(error \"no model\")\n") opening → ⊥
not_opening (inl (back, e, p)) = false≢true (subst Blanks (sym (ap rest_of e)) p).0
not_opening (inr (b, s)) = false≢true b

pub not_closing : (rest : List ℕ) → Says Blanks (codes "  (" ++ rest) closing → ⊥
not_closing rest (inl (back, e, p)) = false≢true (ap (starts 41) e)
not_closing rest (inr (a, inl (back, e, p))) = false≢true (ap (starts 41) e)
not_closing rest (inr (a, inr (b, inl (back, e, p)))) = false≢true (ap (starts 41) e)
not_closing rest (inr (a, inr (b, inr (c, s)))) = false≢true c

-- a line that is `)` says this alone
closing_said : (front said back : List ℕ) → codes ")\n" ≡ front ++ (said ++ back) → Blanks front → Blanks back → HasSharpEnds said → said ≡ closing
closing_said (x ∷ front) said back e f b sharp = let k : x ≡ 41 = cc in absurd (false≢true (subst (λ y. is_blank y ≡ true) k f.0))
closing_said [] [] back e f b sharp = absurd (false≢true (subst Blanks (sym e) b).0)
closing_said [] (x ∷ []) back e f b sharp = let k : x ≡ 41 = cc in ap (λ (y : ℕ). y ∷ []) k
closing_said [] (x ∷ y ∷ []) back e f b sharp = let k : y ≡ 10 = cc in absurd (sharp.last (omega arith) (ap is_blank k))
closing_said [] (x ∷ y ∷ z ∷ said) back e f b sharp = absurd (false≢true (ap (λ t. is_long (rest_of (rest_of t))) e))
  where
    is_long : List ℕ → Bool
    is_long [] = false
    is_long (c ∷ cs) = true

pub inner_is_not_closing : (line : List ℕ) → IsInner line → line ≡ codes ")\n" → ⊥
inner_is_not_closing line i e =
    let s = i.2 in
    i.3 (closing_said s.front i.1 s.back (sym e ∙ s.whole) (recursion_from_All (λ b. IsTrue (is_blank b)) s.front s.blank_front) (recursion_from_All (λ b. IsTrue (is_blank b)) s.back s.blank_back) s.sharp)
