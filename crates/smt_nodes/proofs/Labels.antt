-- The labels and parts of nodes, by what they stand for.
use Rattle.std.proofs.Common.{◌≡◌, ℕ, zero, suc, ◌+◌, ◌<◌, List, [], ◌∷◌, get_or, length, Option, Some, None, arith, sym, ap, ◌∙◌, subst}
use Rattle.std.proofs.lemmas.Option.{slice_get-get_or, slice_get-map, slice_get_within}
use Rattle.std.specs.List.{AllByRecursion}
use Rattle.std.specs.Prelude.{Contains, IfSome, option_and_then, option_map, slice_get}
use Rattle.law_terms.specs.Graphs.{IsGraph}
use Rattle.law_terms.specs.Meanings.{all_found, meaning_at, meaning_of, meanings, stands_for}
use Rattle.law_terms.specs.Nodes.{PlainNode, Meaning}
use Rattle.law_terms.specs.Parts.{label_in, parts_in}
use Rattle.law_terms.proofs.Distinct.{Stands, node_stands, nothing_past}
use Rattle.law_terms.proofs.Growth.{place_in}
use Rattle.law_terms.proofs.Places.{some_same}
use Rattle.law_terms.proofs.Whole.{whole}
use Rattle.smt_nodes.specs.View.{place_of, places_of}
use Rattle.smt_nodes.specs.declared.id.NodeId.{NodeId}

pub label_is : (ns : List PlainNode) → IsGraph ns → (i : ℕ) (n : PlainNode) → slice_get ns i ≡ Some n → Some n.label ≡ option_map label_in (meaning_at ns i)
label_is ns g i n h =
    let s : Stands ns i n = node_stands ns g i n h in
    ap Some (whole n.label s.parts s.meaning s.label).0 ∙ sym (ap (option_map label_in) s.here)

pub no_label : (ns : List PlainNode) (i : ℕ) → slice_get ns i ≡ None → None ≡ option_map label_in (meaning_at ns i)
no_label ns i h = sym (ap (option_map label_in) (nothing_past ns i h))

pub parts_are : (ns : List PlainNode) → IsGraph ns → (i : ℕ) (n : PlainNode) → slice_get ns i ≡ Some n → IfSome (meaning_at ns i) (λ m. all_found (meanings ns) n.parts ≡ Some (parts_in m))
parts_are ns g i n h =
    let s : Stands ns i n = node_stands ns g i n h in
    let P : Option Meaning → Type 0 = λ o. IfSome o (λ m. all_found (meanings ns) n.parts ≡ Some (parts_in m)) in
    subst P (sym s.here) (s.found_parts ∙ ap Some (whole n.label s.parts s.meaning s.label).1)

pub no_parts : (ns : List PlainNode) (i : ℕ) → slice_get ns i ≡ None → IfSome (meaning_at ns i) (λ m. Some [] ≡ Some (parts_in m))
no_parts ns i h = let P : Option Meaning → Type 0 = λ o. IfSome o (λ m. Some [] ≡ Some (parts_in m)) in subst P (sym (nothing_past ns i h)) tt

pub parts_before : (ns : List PlainNode) → IsGraph ns → (i : ℕ) (n : PlainNode) → slice_get ns i ≡ Some n → AllByRecursion (λ p. p < i) n.parts
parts_before ns g i n h = let s : Stands ns i n = node_stands ns g i n h in s.earlier

meaning_from : (ns : List PlainNode) (n : PlainNode) (ps : List Meaning) (m : Meaning) → all_found (meanings ns) n.parts ≡ Some ps → stands_for n.label ps ≡ Some m → meaning_of (meanings ns) n ≡ Some m
meaning_from ns n ps m f l = ap (option_and_then (stands_for n.label)) f ∙ l

-- a node that stands at a place has the meaning of the place
pub means_so : (ns : List PlainNode) → IsGraph ns → (i : ℕ) (n : PlainNode) → slice_get ns i ≡ Some n → (m : Meaning) × (meaning_at ns i ≡ Some m) × (meaning_of (meanings ns) n ≡ Some m)
means_so ns g i n h = let s : Stands ns i n = node_stands ns g i n h in (s.meaning, s.here, meaning_from ns n s.parts s.meaning s.found_parts s.label)

-- the same of a node that was found
pub found_means : (ns : List PlainNode) → IsGraph ns → (n : PlainNode) (o : Option NodeId) (id : NodeId) → o ≡ Some id → IfSome o (λ id. slice_get ns (place_of id) ≡ Some n)
    → (m : Meaning) × (meaning_at ns (place_of id) ≡ Some m) × (meaning_of (meanings ns) n ≡ Some m)
found_means ns g n o id e h = let P : Option NodeId → Type 0 = λ o. IfSome o (λ id. slice_get ns (place_of id) ≡ Some n) in means_so ns g (place_of id) n (subst P e h)

-- ---- a node stands behind its parts, so none has the newest one for a part
all_at : (P : ℕ → Type 0) (xs : List ℕ) (i x : ℕ) → AllByRecursion P xs → slice_get xs i ≡ Some x → P x
all_at P [] i x a h = absurd (cc)
all_at P (y ∷ ys) zero x a h = subst P (some_same y x h) a.0
all_at P (y ∷ ys) (suc i) x a h = all_at P ys i x a.1 h

pub no_newest : (ns : List PlainNode) → IsGraph ns → (n : PlainNode) (i p : ℕ) → slice_get n.parts i ≡ Some p → p + 1 ≡ length ns → Contains ns n → ⊥
no_newest ns g n i p h e c =
    let (j, a) = place_in ns n c in
    let before : p < j = all_at (λ q. q < j) n.parts i p (parts_before ns g j n a) h in
    let within : j < length ns = slice_get_within ns j n a in
    absurd (omega arith)

-- the same of a node by the numbers of its parts
pub none_behind_newest : (ns : List PlainNode) → IsGraph ns → (n : PlainNode) (ids xs : List NodeId) (i : ℕ) (d : NodeId) → place_of (get_or xs i d) + 1 ≡ length ns → xs ≡ ids → n.parts ≡ places_of ids → i < length xs → Contains ns n → ⊥
none_behind_newest ns g n ids xs i d e s p h =
    let there : slice_get (places_of xs) i ≡ Some (place_of (get_or xs i d)) = slice_get-map place_of xs i ∙ ap (option_map place_of) (slice_get-get_or xs i d h) in
    no_newest ns g n i (place_of (get_or xs i d)) (ap (λ l. slice_get l i) (p ∙ ap places_of (sym s)) ∙ there) e
