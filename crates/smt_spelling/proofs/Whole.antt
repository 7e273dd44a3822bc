-- The parts of what has a text have texts, one node more after the other.
use Rattle.std.proofs.Common.{◌≡◌, ◌⊎◌, inl, inr, ℕ, ◌<◌, ◌≤◌, true, false, List, [], ◌∷◌, length, Option, Some, None, Result, Ok, Err, refl, sym, ap, subst, ◌∙◌, arith}
use Rattle.std.specs.Prelude.{is_some, IsTrue, OnErr, OnOk}
use Rattle.std.specs.List.{AllByRecursion}
use Rattle.std.proofs.Math.Dec.{eqb}
use Rattle.std.proofs.lemmas.Bool.{false≢true}
use Rattle.std.proofs.lemmas.Bool.Decides.{eqb_tells}
use Rattle.law_terms.specs.Nodes.{Meaning}
use Rattle.law_terms.specs.Parts.{parts_in}
use Rattle.smt_nodes.specs.Interned.{meaning_in, nodes_of, KeepsMeanings}
use Rattle.smt_nodes.specs.View.{place_of}
use Rattle.smt_nodes.specs.declared.id.NodeId.{NodeId}
use Rattle.smt_nodes.specs.declared.interner.Interner.{Interner}
use Rattle.smt_spelling.specs.NodeTexts.{kept_below, kept_now, Kept}
use Rattle.smt_spelling.specs.Texts.{kept_at, IsKept}
use Rattle.smt_spelling.specs.Whole.{AreWhole, HasWrittenParts, HaveWrittenParts, IsWritten}
use Rattle.smt_spelling.specs.declared.node_names.NodeNames.{NodeNames}
use Rattle.smt_spelling.proofs.Kept as kept
use Rattle.smt_spelling.proofs.Kept.{At, Texts}
use Rattle.smt_spelling.proofs.Levels.{all_still_kept, IsStillKept}
use Rattle.smt_spelling.proofs.Named.{at_one_place, meant_before}

-- a text that is there is one
some_text : (o : Option (List ℕ)) → IsTrue (is_some o) → (x : List ℕ) × (o ≡ Some x)
some_text (Some x) h = (x, refl)
some_text None h = absurd (false≢true h)

-- ---- what is written stays so

pub written_stays : (i j : Interner) (old new : At) → KeepsMeanings i j → ((place : ℕ) → IsTrue (is_some (old place)) → IsTrue (is_some (new place))) → (ms : List Meaning) → AllByRecursion (IsWritten i old) ms → AllByRecursion (IsWritten j new) ms
written_stays i j old new keeps more [] h = tt
written_stays i j old new keeps more (m ∷ ms) h = ((h.0.0, keeps h.0.0 m h.0.1, more (place_of h.0.0) h.0.2), written_stays i j old new keeps more ms h.1)

-- ---- more nodes, of which none has a text

parts_grow : (i j : Interner) (texts : At) → KeepsMeanings i j → ((place : ℕ) → IsTrue (is_some (texts place)) → place < length (nodes_of i)) → HaveWrittenParts i texts → HaveWrittenParts j texts
parts_grow i j texts keeps within h id there m meant typed =
    written_stays i j texts texts keeps (λ place k. k) (parts_in m) (h id there m (meant_before i j keeps id m (within (place_of id) there) meant) typed)

all_grow : (i j : Interner) (now : Texts) (ks : List Kept) → KeepsMeanings i j → length now ≤ length (nodes_of i) → AllByRecursion (IsStillKept (kept_at now)) ks → AllByRecursion (λ k. HaveWrittenParts i k.texts) ks → AllByRecursion (λ k. HaveWrittenParts j k.texts) ks
all_grow i j now [] keeps fits still h = tt
all_grow i j now (k ∷ ks) keeps fits still h = (parts_grow i j k.texts keeps within h.0, all_grow i j now ks keeps fits still.1 h.1)
  where
    within : (place : ℕ) → IsTrue (is_some (k.texts place)) → place < length (nodes_of i)
    within place there =
        let (x, is) = some_text (k.texts place) there in
        let b = kept.within now place x (still.0 place x is) in
        omega (arith, b, fits)

pub whole_grows : (i j : Interner) (names : NodeNames) → KeepsMeanings i j → length names.texts.items ≤ length (nodes_of i) → AreWhole i names → AreWhole j names
whole_grows i j names keeps fits h = all_grow i j names.texts.items (kept_now names ∷ kept_below names) keeps fits ((λ place x there. there), all_still_kept names) h

-- ---- levels that stay, open and close

pub whole_same : (i : Interner) (old new : NodeNames) → kept_now new ≡ kept_now old → kept_below new ≡ kept_below old → AreWhole i old → AreWhole i new
whole_same i old new now below h =
    subst (λ (ks : List Kept). AllByRecursion (λ k. HaveWrittenParts i k.texts) ks) (λ j. sym now j ∷ sym below j) h

pub whole_opened : (i : Interner) (old new : NodeNames) → kept_now new ≡ kept_now old → kept_below new ≡ kept_now old ∷ kept_below old → AreWhole i old → AreWhole i new
whole_opened i old new now below h =
    subst (λ (ks : List Kept). AllByRecursion (λ k. HaveWrittenParts i k.texts) ks) (λ j. sym now j ∷ sym below j) (h.0, h)

pub whole_closed : (i : Interner) (old new : NodeNames) (k : Kept) (ks : List Kept) → kept_below old ≡ k ∷ ks → kept_now new ≡ k → kept_below new ≡ ks → AreWhole i old → AreWhole i new
whole_closed i old new k ks was now below h =
    let all = λ (ks : List Kept). AllByRecursion (λ k. HaveWrittenParts i k.texts) ks in
    subst all (λ j. sym now j ∷ sym below j) (subst all was h.1)

-- where nothing has a text
pub whole_empty : (i : Interner) (names : NodeNames) → names.texts.items ≡ [] → kept_below names ≡ [] → AreWhole i names
whole_empty i names none below = (
  λ id there. absurd (false≢true (sym (ap (λ (l : Texts). is_some (kept_at l (place_of id))) none) ∙ there)),
  subst (λ (ks : List Kept). AllByRecursion (λ k. HaveWrittenParts i k.texts) ks) (sym below) tt,
)

-- ---- one text more, of a number whose parts are written

pub whole_kept : (i : Interner) (old new : NodeNames) (id : NodeId) (m : Meaning) (x : List ℕ) → IsKept old.texts.items new.texts.items (place_of id) x → meaning_in i id ≡ Some m → HasWrittenParts i (kept_at old.texts.items) id
    → kept_below new ≡ kept_below old → AreWhole i old → AreWhole i new
whole_kept i old new id m x is meant parts below h = (now, subst (λ (ks : List Kept). AllByRecursion (λ k. HaveWrittenParts i k.texts) ks) (sym below) h.1)
  where
    more : (place : ℕ) → IsTrue (is_some (kept_at old.texts.items place)) → IsTrue (is_some (kept_at new.texts.items place))
    more place there = go (eqb_tells place (place_of id))
      where
        go : ((eqb place (place_of id) ≡ true) × (place ≡ place_of id)) ⊎ ((eqb place (place_of id) ≡ false) × ¬ (place ≡ place_of id)) → IsTrue (is_some (kept_at new.texts.items place))
        go (inl same) = ap is_some (ap (kept_at new.texts.items) same.1 ∙ is.here)
        go (inr apart) = ap is_some (is.others place apart.1) ∙ there

    now : HaveWrittenParts i (kept_at new.texts.items)
    now other there k meant' typed = go (eqb_tells (place_of other) (place_of id))
      where
        go : ((eqb (place_of other) (place_of id) ≡ true) × (place_of other ≡ place_of id)) ⊎ ((eqb (place_of other) (place_of id) ≡ false) × ¬ (place_of other ≡ place_of id)) → AllByRecursion (IsWritten i (kept_at new.texts.items)) (parts_in k)
        go (inl same) =
            let one : k ≡ m = at_one_place i other id k m same.1 meant' meant in
            written_stays i i (kept_at old.texts.items) (kept_at new.texts.items) (λ n q e. e) more (parts_in k) (parts k (meant ∙ ap Some (sym one)) typed)
        go (inr apart) =
            written_stays i i (kept_at old.texts.items) (kept_at new.texts.items) (λ n q e. e) more (parts_in k) (h.0 other (ap is_some (sym (is.others (place_of other) apart.1)) ∙ there) k meant' typed)

-- a level was opened, or it was not
pub either : {T E : Type 0} (result : Result T E) (i : Interner) (old new : NodeNames) → kept_now new ≡ kept_now old → OnOk result (kept_below new ≡ kept_now old ∷ kept_below old) → OnErr result (kept_below new ≡ kept_below old) → AreWhole i old → AreWhole i new
either (Ok x) i old new now opened stays h = whole_opened i old new now opened h
either (Err e) i old new now opened stays h = whole_same i old new now stays h
