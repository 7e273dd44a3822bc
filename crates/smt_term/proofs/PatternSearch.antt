-- A pattern is matched from the left: the characters before a wildcard go to the first place where they stand.
use Rattle.std.proofs.Common.{◌≡◌, ℕ, ◌≤◌, ◌≢◌, Bool, true, false, ◌&&◌, List, [], ◌∷◌, ◌++◌, length, map, append_assoc, length-append, refl, ap, sym, ◌∙◌, arith}
use Rattle.std.specs.Prelude.{◌==◌}
use Rattle.std.specs.Cmp.{first_so, second_so}
use Rattle.std.proofs.lemmas.Bool.{eqb-true, eq-eqb, false≢true}
use Rattle.std.proofs.lemmas.Str.{chars-nil, encodes-chars}
use Rattle.std.specs.Str.{IsUtf8, chars, encode_utf8_all}
use Rattle.smt_term.specs.PatternView.{plain_part}
use Rattle.law_terms.specs.Patterns.{Matches, matches}
use Rattle.smt_term.specs.PatternSearch.{Passes, IsFront, LeavesText, front_matches}
use Rattle.law_terms.specs.Plain.{PatternPart, Character, Wildcard}
use Rattle.smt_term.specs.declared.pattern.Front.{Front}
use Rattle.smt_term.specs.declared.pattern.Front.TheVariants.{Continues, Differs, Ends}
use Rattle.smt_term.specs.declared.pattern.PatternElem.{PatternElem}
use Rattle.law_terms.proofs.Matching.{matched, matching}

-- nothing is taken yet
pub passes_none : (p : List PatternPart) (s : List ℕ) → Passes p s p s
passes_none p s = record { taken = []; elements = refl; characters = refl }

characters_push : (taken : List ℕ) (c : ℕ) (q : List PatternPart) → map Character taken ++ (Character c ∷ q) ≡ map Character (taken ++ (c ∷ [])) ++ q
characters_push [] c q = refl
characters_push (d ∷ taken) c q = ap (λ l. Character d ∷ l) (characters_push taken c q)

taken_push : (taken : List ℕ) (c : ℕ) (r : List ℕ) → taken ++ (c ∷ r) ≡ (taken ++ (c ∷ [])) ++ r
taken_push [] c r = refl
taken_push (d ∷ taken) c r = ap (λ l. d ∷ l) (taken_push taken c r)

-- one character more is taken
pub passes_more : (p : List PatternPart) (s : List ℕ) (c : ℕ) (l q : List PatternPart) (r u : List ℕ) → Passes p s l r → l ≡ Character c ∷ q → r ≡ c ∷ u → Passes p s q u
passes_more p s c l q r u h e f = record {
  taken = h.taken ++ (c ∷ []);
  elements = h.elements ∙ (ap (λ x. map Character h.taken ++ x) e ∙ characters_push h.taken c q);
  characters = h.characters ∙ (ap (λ x. h.taken ++ x) f ∙ taken_push h.taken c u);
}

-- the same with what is left written otherwise
pub passes_as : (p : List PatternPart) (s : List ℕ) (l q : List PatternPart) (r : List ℕ) → Passes p s l r → l ≡ q → Passes p s q r
passes_as p s l q r h e = record { taken = h.taken; elements = h.elements ∙ ap (λ x. map Character h.taken ++ x) e; characters = h.characters }

same_front : (taken : List ℕ) (q : List PatternPart) (r : List ℕ) → matches (map Character taken ++ q) (taken ++ r) ≡ matches q r
same_front [] q r = refl
same_front (c ∷ taken) q r = ap (λ b. b && matches (map Character taken ++ q) (taken ++ r)) (eq-eqb c c refl) ∙ same_front taken q r

-- what is taken decides nothing
pub passed_matches : (p : List PatternPart) (s : List ℕ) (q : List PatternPart) (r : List ℕ) → Passes p s q r → matches p s ≡ matches q r
passed_matches p s q r h = ap (λ l. matches l s) h.elements ∙ (ap (λ l. matches (map Character h.taken ++ q) l) h.characters ∙ same_front h.taken q r)

-- a text that does not begin with the next character
pub differs : (c : ℕ) (q : List PatternPart) (r : List ℕ) → ((rest : List ℕ) → r ≢ c ∷ rest) → matches (Character c ∷ q) r ≡ false
differs c q [] h = refl
differs c q (d ∷ r) h = at (c == d) refl
  where
    at : (b : Bool) → (c == d) ≡ b → (b && matches q r) ≡ false
    at true e = absurd (h r (ap (λ x. x ∷ r) (sym (eqb-true c d e))))
    at false e = refl

both_ways : (a b : Bool) → (a ≡ true → b ≡ true) → (b ≡ true → a ≡ true) → a ≡ b
both_ways true b f g = sym (f refl)
both_ways false true f g = g refl
both_ways false false f g = refl

-- where the characters and more are matched, the text begins with them
taken_off : (taken : List ℕ) (q : List PatternPart) (v : List ℕ) → matches (map Character taken ++ q) v ≡ true → (w : List ℕ) × (v ≡ taken ++ w) × (matches q w ≡ true)
taken_off [] q v h = (v, refl, h)
taken_off (c ∷ taken) q [] h = cc
taken_off (c ∷ taken) q (d ∷ v) h =
    let k : (w : List ℕ) × (v ≡ taken ++ w) × (matches q w ≡ true) = taken_off taken q v (second_so (c == d) (matches (map Character taken ++ q) v) h) in
    let e : c ≡ d = eqb-true c d (first_so (c == d) (matches (map Character taken ++ q) v) h) in
    (k.0, λ i. sym e i ∷ k.1 i, k.2)

-- of two ways to cut a list, the one that cuts further back leaves an end of what the other leaves
further_end : (a b r w : List ℕ) → length a ≤ length b → a ++ r ≡ b ++ w → (e : List ℕ) × (r ≡ e ++ w)
further_end [] b r w l h = (b, h)
further_end (x ∷ a) [] r w l h = absurd (omega arith)
further_end (x ∷ a) (y ∷ b) r w l h = let t : a ++ r ≡ b ++ w = cc in further_end a b r w (omega arith) t

-- a wildcard also takes what stands in front
wildcard_takes : (q : List PatternPart) (e w : List ℕ) → matches (Wildcard ∷ q) w ≡ true → matches (Wildcard ∷ q) (e ++ w) ≡ true
wildcard_takes q e w h =
    let k : Matches (Wildcard ∷ q) w = matched (Wildcard ∷ q) w h in
    matching (Wildcard ∷ q) (e ++ w) (e ++ k.0, k.1, ap (λ l. e ++ l) k.2 ∙ sym (append_assoc e k.0 k.1), k.3)

-- a wildcard also takes nothing
pub place_ends : (p : List PatternPart) (s : List ℕ) → matches p s ≡ true → matches (Wildcard ∷ p) s ≡ true
place_ends p s h = matching (Wildcard ∷ p) s ([], s, refl, matched p s h)

-- the first place will do: where p stands further on, the wildcard behind it takes what is between
pub first_place : (p : List PatternPart) (s : List ℕ) (q : List PatternPart) (r : List ℕ) → Passes p s (Wildcard ∷ q) r → matches (Wildcard ∷ q) r ≡ matches (Wildcard ∷ p) s
first_place p s q r h = both_ways (matches (Wildcard ∷ q) r) (matches (Wildcard ∷ p) s) there back
  where
    there : matches (Wildcard ∷ q) r ≡ true → matches (Wildcard ∷ p) s ≡ true
    there k = place_ends p s (passed_matches p s (Wildcard ∷ q) r h ∙ k)

    back : matches (Wildcard ∷ p) s ≡ true → matches (Wildcard ∷ q) r ≡ true
    back k =
        let f : Matches (Wildcard ∷ p) s = matched (Wildcard ∷ p) s k in
        let g : (w : List ℕ) × (f.1 ≡ h.taken ++ w) × (matches (Wildcard ∷ q) w ≡ true) = taken_off h.taken (Wildcard ∷ q) f.1 (ap (λ l. matches l f.1) (sym h.elements) ∙ matching p f.1 f.3) in
        let e : h.taken ++ r ≡ (f.0 ++ h.taken) ++ g.0 = sym h.characters ∙ (f.2 ∙ (ap (λ l. f.0 ++ l) g.1 ∙ sym (append_assoc f.0 h.taken g.0))) in
        let z : (e : List ℕ) × (r ≡ e ++ g.0) = further_end h.taken (f.0 ++ h.taken) r g.0 (omega (arith, length-append f.0 h.taken)) e in
        ap (λ l. matches (Wildcard ∷ q) l) z.1 ∙ wildcard_takes q z.0 g.0 g.2

-- an empty text has no characters, and another has some
pub no_chars : (text : List ℕ) → length text ≡ 0 → chars text ≡ []
no_chars [] h = chars-nil
no_chars (b ∷ text) h = absurd (omega arith)

pub some_chars : (text : List ℕ) → IsUtf8 text → (length text == 0) ≡ false → matches [] (chars text) ≡ false
some_chars text u h = at (chars text) refl
  where
    at : (l : List ℕ) → chars text ≡ l → matches [] l ≡ false
    at [] e = absurd (false≢true (sym h ∙ eq-eqb (length text) 0 (ap length (sym (encodes-chars text u) ∙ ap encode_utf8_all e))))
    at (c ∷ l) e = refl

-- no element is left, and so no part
pub no_parts : (elems : List PatternElem) → length elems ≡ 0 → map plain_part elems ≡ []
no_parts [] h = refl
no_parts (x ∷ elems) h = absurd (omega arith)

-- what is left behind the front decides it of all
pub front_decides : (p : List PatternPart) (s : List ℕ) (f : Front) → IsFront p s f → front_matches f ≡ matches p s
front_decides p s (Continues elems text) h = sym (passed_matches p s (Wildcard ∷ map plain_part elems.now) (chars text.now) h.0)
front_decides p s Differs h = sym h
front_decides p s Ends h = sym h

pub front_text : (p : List PatternPart) (s : List ℕ) (f : Front) → IsFront p s f → LeavesText f
front_text p s (Continues elems text) h = h.1
front_text p s Differs h = tt
front_text p s Ends h = tt
