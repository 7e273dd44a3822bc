-- What is kept at each level.
use Rattle.std.proofs.Common.{◌≡◌, ℕ, ◌≤◌, List, [], ◌∷◌, ◌++◌, length, map, reverse, Some, None, refl, sym, ap, subst, ◌∙◌, arith, append-nil, append_assoc}
use Rattle.std.specs.Prelude.{◌==◌, if◌then◌else◌}
use Rattle.std.specs.List.{AllByRecursion}
use Rattle.std.proofs.lemmas.List.{length-map, map-append}
use Rattle.smt_nodes.specs.View.{place_of, places_of}
use Rattle.smt_nodes.specs.declared.id.NodeId.{NodeId}
use Rattle.smt_spelling.specs.Marks.{AreMarks}
use Rattle.smt_spelling.specs.NodeTexts.{kept_at_mark, kept_below, Kept}
use Rattle.smt_spelling.specs.Texts.{kept_at, kept_then}
use Rattle.smt_spelling.specs.declared.node_names.Mark.{Mark}
use Rattle.smt_spelling.specs.declared.node_names.NodeNames.{NodeNames}
use Rattle.smt_spelling.proofs.Kept as kept
use Rattle.smt_spelling.proofs.Kept.{At, Texts}
use Rattle.smt_spelling.proofs.Marks.{each_same}

-- what was kept at a mark, from what is kept now and the order of keeping
abbrev pub at_mark : At → List NodeId → Mark → Kept
at_mark now order mark = record { texts = kept_then now (places_of order) mark.kept; terms = mark.terms; types = mark.types; functions = mark.functions }

-- the same at each of the marks
abbrev pub at_marks : At → List NodeId → List Mark → List Kept
at_marks now order marks = map (at_mark now order) (reverse marks)

-- the same texts in the same order, and the same marks
pub same_below : (old new : Texts) (order order' : List NodeId) (marks marks' : List Mark) → ((place : ℕ) → kept_at new place ≡ kept_at old place) → order' ≡ order → marks' ≡ marks → at_marks (kept_at new) order' marks' ≡ at_marks (kept_at old) order marks
same_below old new order order' marks marks' texts same_order same_marks = λ i. at_marks (λ place. texts place i) (same_order i) (same_marks i)

-- at a mark as it is made, what is kept now
pub kept_at_last : (now : At) (order : List NodeId) (mark : Mark) → length order ≤ mark.kept → at_mark now order mark ≡ record { texts = now; terms = mark.terms; types = mark.types; functions = mark.functions }
kept_at_last now order mark all =
    let same = kept.nothing_since now (places_of order) mark.kept (omega (arith, all, length-map order place_of)) in
    λ i. record { texts = same i; terms = mark.terms; types = mark.types; functions = mark.functions }

-- a text more, at a node that had none: what was kept at each mark is the same
pub levels_kept : (old new : Texts) (order order' : List NodeId) (marks : List Mark) (id : NodeId) → AreMarks (length order) (reverse marks) → kept_at old (place_of id) ≡ None → ((place : ℕ) → ¬ (place ≡ place_of id) → kept_at new place ≡ kept_at old place)
    → order' ≡ order ++ id ∷ [] → at_marks (kept_at new) order' marks ≡ at_marks (kept_at old) order marks
levels_kept old new order order' marks id are none others more = each_same (at_mark (kept_at new) order') (at_mark (kept_at old) order) (length order) (reverse marks) are at
  where
    places : places_of order' ≡ places_of order ++ place_of id ∷ []
    places = ap places_of more ∙ map-append place_of order (id ∷ [])

    at : (mark : Mark) → mark.kept ≤ length order → at_mark (kept_at new) order' mark ≡ at_mark (kept_at old) order mark
    at mark h =
        let same = ap (λ (l : List ℕ). kept_then (kept_at new) l mark.kept) places
        ∙ kept.levels_stay (kept_at old) (kept_at new) (places_of order) (place_of id) none others mark.kept (omega (arith, h, length-map order place_of)) in
        λ i. record { texts = same i; terms = mark.terms; types = mark.types; functions = mark.functions }

-- ---- texts that are forgotten

-- Of the order these places are left, and the texts of the others are forgotten.
abbrev pub AreLeft : (old now : Texts) → (order left : List NodeId) → Type 0
AreLeft old now order left = (more : List NodeId) × (order ≡ left ++ more) × ((place : ℕ) → kept_at now place ≡ kept_then (kept_at old) (places_of more) 0 place)

pub all_left : (texts : Texts) (order : List NodeId) → AreLeft texts texts order order
all_left texts order = ([], sym (append-nil order), λ place. refl)

-- one text more is forgotten
pub one_left : (old now new : Texts) (order left left' : List NodeId) (id : NodeId) (p : ℕ) → AreLeft old now order left → left ≡ left' ++ id ∷ [] → p ≡ place_of id → ((place : ℕ) → kept_at new place ≡ (if place == p then None else kept_at now place)) → AreLeft old new order left'
one_left old now new order left left' id p (more, split, texts) last at cleared = (
  id ∷ more,
  split ∙ ap (λ (l : List NodeId). l ++ more) last ∙ append_assoc left' (id ∷ []) more,
  kept.taken_out (kept_at old) (kept_at now) (kept_at new) (place_of id) (places_of more) texts (subst (λ (q : ℕ). (place : ℕ) → kept_at new place ≡ (if place == q then None else kept_at now place)) at cleared),
)

-- what was kept before them is what it was
pub levels_left : (old new : Texts) (order left : List NodeId) → AreLeft old new order left → (mark : Mark) → mark.kept ≤ length left → at_mark (kept_at new) left mark ≡ at_mark (kept_at old) order mark
levels_left old new order left (more, split, texts) mark h =
    let same = kept.lower_stay (kept_at old) (kept_at new) (places_of left) (places_of more) texts mark.kept (omega (arith, h, length-map left place_of))
    ∙ ap (λ (l : List ℕ). kept_then (kept_at old) l mark.kept) (sym (ap places_of split ∙ map-append place_of left more)) in
    λ i. record { texts = same i; terms = mark.terms; types = mark.types; functions = mark.functions }

-- and that is what is kept then
pub texts_left : (old new : Texts) (order left : List NodeId) (n : ℕ) → AreLeft old new order left → n ≡ length left → (place : ℕ) → kept_at new place ≡ kept_then (kept_at old) (places_of order) n place
texts_left old new order left n are all place =
    let mark : Mark = record { kept = n; terms = 0; types = 0; functions = 0 } in
    ap (λ (k : Kept). k.texts place) (sym (kept_at_last (kept_at new) left mark (omega (arith, all))) ∙ levels_left old new order left are mark (omega (arith, all)))

-- ---- what is kept at the last level, and at those below

pub first_two : {A : Type 0} (x y : A) (xs ys : List A) → x ∷ xs ≡ y ∷ ys → (x ≡ y) × (xs ≡ ys)
first_two x y xs ys h = (cc, cc)

-- what was kept at a level below is kept now
abbrev pub IsStillKept : At → Kept → Type 0
IsStillKept now k = (place : ℕ) (x : List ℕ) → k.texts place ≡ Some x → now place ≡ Some x

pub all_still_kept : (names : NodeNames) → AllByRecursion (IsStillKept (kept_at names.texts.items)) (kept_below names)
all_still_kept names = each (reverse names.marks.items)
  where
    each : (marks : List Mark) → AllByRecursion (IsStillKept (kept_at names.texts.items)) (map (kept_at_mark names) marks)
    each [] = tt
    each (mark ∷ marks) = (kept.still_kept (kept_at names.texts.items) (places_of names.order.items) mark.kept, each marks)
