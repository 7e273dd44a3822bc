-- The tables of names at each level.
use Rattle.std.proofs.Common.{◌≡◌, ℕ, suc, ◌<◌, ◌≤◌, List, [], ◌∷◌, length, map, reverse, Option, Some, None, Result, Ok, Err, refl, sym, ap, subst, ◌∙◌, arith}
use Rattle.std.specs.Prelude.{is_none, is_some, IsTrue, OnErr, OnOk}
use Rattle.std.specs.List.{AllByRecursion, AllZip}
use Rattle.std.proofs.lemmas.Bool.{false≢true}
use Rattle.std.proofs.lemmas.List.{length-map, length-reverse}
use Rattle.law_terms.specs.Nodes.{Meaning}
use Rattle.law_terms.specs.TypeValues.{Enums}
use Rattle.smt_nodes.specs.Interned.{meaning_in, nodes_of}
use Rattle.smt_nodes.specs.View.{place_of}
use Rattle.smt_nodes.specs.declared.id.NodeId.{NodeId}
use Rattle.smt_nodes.specs.declared.interner.Interner.{Interner}
use Rattle.law_lines.specs.NameTables.{Tables}
use Rattle.smt_spelling.specs.NodeLines.{meaning_fault}
use Rattle.smt_spelling.specs.NodeTexts.{kept_at_mark, kept_below, kept_now, text_at, AreSound, Kept, KeepsRoom}
use Rattle.smt_spelling.specs.Names.{enums_under, levels_under, AreKept, HasRoom, KeepLevels, StandsOn}
use Rattle.smt_spelling.specs.Texts.{kept_at}
use Rattle.smt_spelling.specs.declared.names.Names.{Names}
use Rattle.smt_spelling.specs.declared.node_names.Mark.{Mark}
use Rattle.smt_spelling.specs.declared.node_names.NodeNames.{NodeNames}
use Rattle.smt_spelling.proofs.Kept.{Texts}
use Rattle.smt_spelling.proofs.Levels.{all_still_kept, IsStillKept}

-- ---- how many levels there are

length_below : (names : NodeNames) → length (kept_below names) ≡ length names.marks.items
length_below names = length-map (reverse names.marks.items) (kept_at_mark names) ∙ length-reverse names.marks.items

as_long : {A B : Type 0} (R : A → B → Type 0) (xs : List A) (ys : List B) → AllZip R xs ys → length xs ≡ length ys
as_long R [] [] h = refl
as_long R [] (y ∷ ys) h = absurd h
as_long R (x ∷ xs) [] h = absurd h
as_long R (x ∷ xs) (y ∷ ys) h = ap suc (as_long R xs ys h.1)

pub levels_counted : (n : Names) (below : List Tables) → KeepLevels n below → levels_under n ≡ length below
levels_counted n below are = sym (length_below n.texts) ∙ as_long (AreKept (enums_under n) n.nodes) (kept_below n.texts) below are

first_of : {A : Type 0} (xs : List A) → 0 < length xs → (x : A) × (rest : List A) × (xs ≡ x ∷ rest)
first_of [] h = absurd (omega (arith, h))
first_of (x ∷ rest) h = (x, rest, refl)

-- where a level is open, something was kept at it
pub last_kept : (names : NodeNames) → 0 < length names.marks.items → (k : Kept) × (ks : List Kept) × (kept_below names ≡ k ∷ ks)
last_kept names h = first_of (kept_below names) (omega (arith, h, length_below names))

-- ---- room

pub room_kept : (a b : Names) → KeepsRoom a.texts b.texts → b.nodes ≡ a.nodes → HasRoom a → HasRoom b
room_kept a b keeps nodes room = record {
  places = keeps.places ∙ room.places ∙ ap (λ (i : Interner). length (nodes_of i)) (sym nodes);
  order = omega (arith, keeps.places, room.order, keeps.order);
}

pub room_stays : {a b : Names} → StandsOn a b → HasRoom a → HasRoom b
room_stays {a} {b} stands room = room_kept a b stands.room stands.nodes room

-- what holds where both of these do
pub both_ok : {A E : Type 0} (result : Result A E) (P Q R : Type 0) → (P → Q → R) → OnOk result P → OnOk result Q → OnOk result R
both_ok (Ok x) P Q R h p q = h p q
both_ok (Err e) P Q R h p q = tt

-- ---- what is kept at levels that stay, open and close

-- where there are no texts, nothing has one
pub no_texts : (names : NodeNames) → names.texts.items ≡ [] → (id : NodeId) → IsTrue (is_none (text_at names id))
no_texts names none id = ap (λ (l : Texts). is_none (kept_at l (place_of id))) none

pub sound_empty : (enums : Enums) (nodes : Interner) (names : NodeNames) → names.texts.items ≡ [] → AreSound enums nodes names
sound_empty enums nodes names none = record { within = omega (arith, ap length none); sound = λ id m h there. absurd (false≢true (sym (ap (λ (l : Texts). is_some (kept_at l (place_of id))) none) ∙ there)) }

-- where no more texts are kept, what has one has no fault still
pub sound_stays : (enums : Enums) (nodes : Interner) (old new : NodeNames) → length new.texts.items ≤ length (nodes_of nodes) → IsStillKept (kept_at old.texts.items) (kept_now new) → AreSound enums nodes old → AreSound enums nodes new
sound_stays enums nodes old new within fewer s = record { within = within; sound = λ id m h there. go id m h (text_at new id) refl there }
  where
    go : (id : NodeId) (m : Meaning) → meaning_in nodes id ≡ Some m → (o : Option (List ℕ)) → text_at new id ≡ o → IsTrue (is_some (text_at new id)) → IsTrue (is_none (meaning_fault enums m))
    go id m h None is there = absurd (false≢true (sym (ap is_some is) ∙ there))
    go id m h (Some x) is there = s.sound id m h (ap is_some (fewer (place_of id) x is))

-- what is kept now was kept before, where it is the same
pub same_kept : (old new : NodeNames) → kept_now new ≡ kept_now old → IsStillKept (kept_at old.texts.items) (kept_now new)
same_kept old new same place x there = ap (λ (k : Kept). k.texts place) (sym same) ∙ there

-- what is kept after the last level was closed was kept before
pub closed_kept : (old new : NodeNames) → 0 < length old.marks.items → ((k : Kept) (ks : List Kept) → kept_below old ≡ k ∷ ks → (kept_now new ≡ k) × (kept_below new ≡ ks)) → IsStillKept (kept_at old.texts.items) (kept_now new)
closed_kept old new some closes =
    let (k, ks, below) = last_kept old some in
    let still = subst (AllByRecursion (IsStillKept (kept_at old.texts.items))) below (all_still_kept old) in
    λ place x there. still.0 place x (ap (λ (l : Kept). l.texts place) (sym (closes k ks below).0) ∙ there)

module _ (enums : Enums) (nodes : Interner) where
  pub tables_same : (k l : Kept) (s : Tables) → l ≡ k → AreKept enums nodes k s → AreKept enums nodes l s
  tables_same k l s same = subst (λ (k : Kept). AreKept enums nodes k s) (sym same)

  pub levels_same : (ks ls : List Kept) (below : List Tables) → ls ≡ ks → AllZip (AreKept enums nodes) ks below → AllZip (AreKept enums nodes) ls below
  levels_same ks ls below same = subst (λ (ks : List Kept). AllZip (AreKept enums nodes) ks below) (sym same)

  -- no level is open
  pub none_open : (names : NodeNames) → names.marks.items ≡ [] → AllZip (AreKept enums nodes) (kept_below names) []
  none_open names none = subst (λ (marks : List Mark). AllZip (AreKept enums nodes) (map (kept_at_mark names) (reverse marks)) []) (sym none) tt

  -- a level is opened
  pub opens : {A E : Type 0} (result : Result A E) (k : Kept) (ks ls : List Kept) (s : Tables) (below : List Tables) → OnOk result (ls ≡ k ∷ ks) → AreKept enums nodes k s → AllZip (AreKept enums nodes) ks below → OnOk result (AllZip (AreKept enums nodes) ls (s ∷ below))
  opens (Ok x) k ks ls s below same are each = levels_same (k ∷ ks) ls (s ∷ below) same (are, each)
  opens (Err e) k ks ls s below same are each = tt

  -- and none, where there is no memory
  pub stays : {A E : Type 0} (result : Result A E) (ks ls : List Kept) (below : List Tables) → OnErr result (ls ≡ ks) → AllZip (AreKept enums nodes) ks below → OnErr result (AllZip (AreKept enums nodes) ls below)
  stays (Ok x) ks ls below same each = tt
  stays (Err e) ks ls below same each = levels_same ks ls below same each

  -- the last level is closed
  pub closes : (old new : NodeNames) (s : Tables) (below : List Tables) → 0 < length old.marks.items → ((k : Kept) (ks : List Kept) → kept_below old ≡ k ∷ ks → (kept_now new ≡ k) × (kept_below new ≡ ks))
      → AllZip (AreKept enums nodes) (kept_below old) (s ∷ below) → AreKept enums nodes (kept_now new) s × AllZip (AreKept enums nodes) (kept_below new) below
  closes old new s below some closing are =
      let (k, ks, is) = last_kept old some in
      let each = subst (λ (ks : List Kept). AllZip (AreKept enums nodes) ks (s ∷ below)) is are in
      let (now, rest) = closing k ks is in
      (tables_same k (kept_now new) s now each.0, levels_same ks (kept_below new) below rest each.1)
