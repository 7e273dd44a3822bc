-- In a graph every place has a meaning, and no two have one.
use Rattle.std.proofs.Common.{◌≡◌, ℕ, is_some, ◌<◌, List, [], ◌∷◌, ◌++◌, length, refl, sym, ap, ◌∙◌, inl, inr, arith, subst}
use Rattle.std.specs.List.{AllByRecursion}
use Rattle.std.specs.Prelude.{Contains, IsTrue, Option, Some, None, option_map, slice_get}
use Rattle.law_terms.specs.Fits.{fits}
use Rattle.law_terms.specs.Graphs.{IsGraph}
use Rattle.law_terms.specs.Meanings.{all_found, found, meaning_at, meaning_of, meanings, stands_for}
use Rattle.law_terms.specs.Nodes.{PlainNode, Meaning}
use Rattle.law_terms.proofs.Fitting.{fitting}
use Rattle.law_terms.proofs.Growth.{Graph, by_nodes, contains_at, empty, grown, node_within}
use Rattle.law_terms.proofs.Places.{all_stay, as_many, found_split, found_within, get_split, last_has, map_back, meaning_stays, meanings_grow, some_same, then_back}
use Rattle.law_terms.proofs.Whole.{whole}

-- a node stands for this at this place, by what its parts stand for
pub record Stands (ns : List PlainNode) (i : ℕ) (n : PlainNode) : Type 0 where
  pub meaning : Meaning
  pub parts : List Meaning
  pub found_parts : all_found (meanings ns) n.parts ≡ Some parts
  pub label : stands_for n.label parts ≡ Some meaning
  pub here : meaning_at ns i ≡ Some meaning
  pub earlier : AllByRecursion (λ p. p < i) n.parts

stay : (ns : List PlainNode) (n : PlainNode) (i : ℕ) (m : PlainNode) → Stands ns i m → Stands (ns ++ n ∷ []) i m
stay ns n i m s =
    record {
      meaning = s.meaning;
      parts = s.parts;
      found_parts = ap (λ ms. all_found ms m.parts) (meanings_grow ns n) ∙ all_stay (meanings ns) _ m.parts s.parts s.found_parts;
      label = s.label;
      here = meaning_stays ns n i s.meaning s.here;
      earlier = s.earlier;
    }

some_of : {A : Type 0} (o : Option A) → IsTrue (is_some o) → (x : A) × (o ≡ Some x)
some_of (Some x) h = (x, refl)
some_of None h = absurd (cc)

pub fit_has : (ns : List PlainNode) (n : PlainNode) → IsTrue (fits ns n) → (m : Meaning) × (meaning_of (meanings ns) n ≡ Some m)
fit_has ns n h = some_of (meaning_of (meanings ns) n) (fitting ns n ∙ h)

parts_earlier : (ns : List PlainNode) (is : List ℕ) (ms : List Meaning) → all_found (meanings ns) is ≡ Some ms → AllByRecursion (λ p. p < length ns) is
parts_earlier ns [] ms h = tt
parts_earlier ns (i ∷ is) ms h =
    let (m, e, d) = then_back (λ m. option_map (λ rest. m ∷ rest) (all_found (meanings ns) is)) (found (meanings ns) i) ms h in
    let (rest, f, g) = map_back (λ rest. m ∷ rest) (all_found (meanings ns) is) ms d in
    let b : i < length (meanings ns) = found_within (meanings ns) i m e in
    (omega (arith, as_many ns), parts_earlier ns is rest f)

last_stands : (ns : List PlainNode) (n : PlainNode) → IsTrue (fits ns n) → Stands (ns ++ n ∷ []) (length ns) n
last_stands ns n h =
    let (m, e) = fit_has ns n h in
    let (ps, f, k) = then_back (stands_for n.label) (all_found (meanings ns) n.parts) m e in
    record {
      meaning = m;
      parts = ps;
      found_parts = ap (λ ms. all_found ms n.parts) (meanings_grow ns n) ∙ all_stay (meanings ns) _ n.parts ps f;
      label = k;
      here = last_has ns n ∙ e;
      earlier = parts_earlier ns n.parts ps f;
    }

-- each node of a graph stands for something at its place
stands : (ns : List PlainNode) → Graph ns → (i : ℕ) (n : PlainNode) → slice_get ns i ≡ Some n → Stands ns i n
stands _ empty i n h = absurd (cc)
stands _ (grown ns k g f new) i n h =
    elim (get_split ns k i n h) [ inl e ↦ stay ns k i n (stands ns g i n e) | inr e ↦ let P : ℕ → PlainNode → Type 0 = λ j m. Stands (ns ++ k ∷ []) j m in subst (λ j. P j n) (sym e.0) (subst (P (length ns)) e.1 (last_stands ns k f)) ]

have_meanings : (ns : List PlainNode) → Graph ns → (i : ℕ) → i < length ns → (m : Meaning) × (meaning_at ns i ≡ Some m)
have_meanings ns g i h =
    let (n, e) = node_within ns i h in let s : Stands ns i n = stands ns g i n e in (s.meaning, s.here)

abbrev Differ : List (Option Meaning) → Type 0
Differ ms = (i j : ℕ) (m : Meaning) → found ms i ≡ Some m → found ms j ≡ Some m → i ≡ j

-- places that stand for the same are the same places
same_places : (ms : List (Option Meaning)) → Differ ms → (is js : List ℕ) (ps : List Meaning) → all_found ms is ≡ Some ps → all_found ms js ≡ Some ps → is ≡ js
same_places ms d [] [] ps h k = refl
same_places ms d [] (j ∷ js) ps h k =
    let (m, e, f) = then_back (λ m. option_map (λ rest. m ∷ rest) (all_found ms js)) (found ms j) ps k in
    let (rest, q, r) = map_back (λ rest. m ∷ rest) (all_found ms js) ps f in
    let z : [] ≡ ps = some_same [] ps h in
    absurd (cc)
same_places ms d (i ∷ is) [] ps h k =
    let (m, e, f) = then_back (λ m. option_map (λ rest. m ∷ rest) (all_found ms is)) (found ms i) ps h in
    let (rest, q, r) = map_back (λ rest. m ∷ rest) (all_found ms is) ps f in
    let z : [] ≡ ps = some_same [] ps k in
    absurd (cc)
same_places ms d (i ∷ is) (j ∷ js) ps h k =
    let (m, e, f) = then_back (λ m. option_map (λ rest. m ∷ rest) (all_found ms is)) (found ms i) ps h in
    let (rest, q, r) = map_back (λ rest. m ∷ rest) (all_found ms is) ps f in
    let (m', e', f') = then_back (λ m. option_map (λ rest. m ∷ rest) (all_found ms js)) (found ms j) ps k in
    let (rest', q', r') = map_back (λ rest. m' ∷ rest) (all_found ms js) ps f' in
    let one : m' ≡ m = cc in
    let others : rest' ≡ rest = cc in
    let first : i ≡ j = d i j m e (e' ∙ ap Some one) in
    let more : is ≡ js = same_places ms d is js rest q (q' ∙ ap Some others) in
    cc

-- a node that has the meaning of a node of the graph is that node
same_node : (ns : List PlainNode) → Differ (meanings ns) → (n k : PlainNode) (j : ℕ) (m : Meaning) → Stands ns j k → meaning_at ns j ≡ Some m → meaning_of (meanings ns) n ≡ Some m → k ≡ n
same_node ns d n k j m s h e =
    let (ps, f, l) = then_back (stands_for n.label) (all_found (meanings ns) n.parts) m e in
    let one : s.meaning ≡ m = some_same s.meaning m (sym s.here ∙ h) in
    let w = whole n.label ps m l in
    let v = whole k.label s.parts m (s.label ∙ ap Some one) in
    let same : k.label ≡ n.label = v.0 ∙ sym w.0 in
    let parts : s.parts ≡ ps = v.1 ∙ sym w.1 in
    let places : k.parts ≡ n.parts = same_places (meanings ns) d k.parts n.parts ps (s.found_parts ∙ ap Some parts) f in
    λ x. record { label = same x; parts = places x }

-- no new node has the meaning of an older place
new_meaning : (ns : List PlainNode) → Graph ns → Differ (meanings ns) → (n : PlainNode) → ¬ Contains ns n → (j : ℕ) (m : Meaning) → meaning_at ns j ≡ Some m → meaning_of (meanings ns) n ≡ Some m → ⊥
new_meaning ns g d n new j m h e =
    let b : j < length (meanings ns) = found_within (meanings ns) j m h in
    let (k, q) = node_within ns j (omega (arith, as_many ns)) in
    let same : k ≡ n = same_node ns d n k j m (stands ns g j k q) h e in
    new (contains_at ns j n (q ∙ ap Some same))

differ : (ns : List PlainNode) → Graph ns → (i j : ℕ) (m : Meaning) → meaning_at ns i ≡ Some m → meaning_at ns j ≡ Some m → i ≡ j
differ _ empty i j m h k = absurd (cc)
differ _ (grown ns n g f new) i j m h k =
    let h' : found (meanings ns ++ meaning_of (meanings ns) n ∷ []) i ≡ Some m = sym (ap (λ ms. found ms i) (meanings_grow ns n)) ∙ h in
    let k' : found (meanings ns ++ meaning_of (meanings ns) n ∷ []) j ≡ Some m = sym (ap (λ ms. found ms j) (meanings_grow ns n)) ∙ k in
    elim (found_split (meanings ns) (meaning_of (meanings ns) n) i m h') [
      | inl a ↦ elim (found_split (meanings ns) (meaning_of (meanings ns) n) j m k') [ inl b ↦ differ ns g i j m a b | inr b ↦ absurd (new_meaning ns g (differ ns g) n new i m a b.1) ]
      | inr a ↦ elim (found_split (meanings ns) (meaning_of (meanings ns) n) j m k') [ inl b ↦ absurd (new_meaning ns g (differ ns g) n new j m b a.1) | inr b ↦ a.0 ∙ sym b.0 ]
    ]

-- the same of graphs
pub node_stands : (ns : List PlainNode) → IsGraph ns → (i : ℕ) (n : PlainNode) → slice_get ns i ≡ Some n → Stands ns i n
node_stands ns g i n h = stands ns (by_nodes ns g) i n h

pub places_differ : (ns : List PlainNode) → IsGraph ns → (i j : ℕ) (m : Meaning) → meaning_at ns i ≡ Some m → meaning_at ns j ≡ Some m → i ≡ j
places_differ ns g i j m h k = differ ns (by_nodes ns g) i j m h k

pub places_mean : (ns : List PlainNode) → IsGraph ns → (i : ℕ) → i < length ns → (m : Meaning) × (meaning_at ns i ≡ Some m)
places_mean ns g i h = have_meanings ns (by_nodes ns g) i h

-- no node that is new has the meaning of a place
pub no_older : (ns : List PlainNode) → IsGraph ns → (n : PlainNode) → ¬ Contains ns n → (j : ℕ) (m : Meaning) → meaning_at ns j ≡ Some m → meaning_of (meanings ns) n ≡ Some m → ⊥
no_older ns g n new j m h e = new_meaning ns (by_nodes ns g) (places_differ ns g) n new j m h e

none_is_not : (n : PlainNode) → None ≡ Some n → ⊥
none_is_not n e = cc

past : (ns : List PlainNode) (i : ℕ) → slice_get ns i ≡ None → (o : Option Meaning) → meaning_at ns i ≡ o → o ≡ None
past ns i h None e = refl
past ns i h (Some m) e =
    let b : i < length (meanings ns) = found_within (meanings ns) i m e in
    let (n, f) = node_within ns i (omega (arith, as_many ns)) in
    absurd (none_is_not n (sym h ∙ f))

-- where there is no node, nothing is meant
pub nothing_past : (ns : List PlainNode) (i : ℕ) → slice_get ns i ≡ None → meaning_at ns i ≡ None
nothing_past ns i h = past ns i h (meaning_at ns i) refl
