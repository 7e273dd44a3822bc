-- One more entry of a table.
use Rattle.std.proofs.Common.{◌≡◌, ◌<◌, ◌≤◌, ◌+◌, ◌⊎◌, inl, inr, ℕ, List, [], ◌∷◌, ◌++◌, Option, Some, None, get_or, length, sym, ap, ◌∙◌, subst, arith, length-append}
use Rattle.std.specs.Prelude.{OnOk, Result, Ok, Err, option_and_then}
use Rattle.law_blasting.specs.Blasted.{Variables, blasted}
use Rattle.law_terms.specs.Nodes.{TermMeaning}
use Rattle.law_terms.specs.Plain.{PlainTerm}
use Rattle.law_terms.proofs.Places.{get_last, get_older, some_same}
use Rattle.std.proofs.lemmas.Option.{slice_get-get_or}
use Rattle.smt_nodes.specs.Interned.{meaning_in}
use Rattle.smt_nodes.specs.View.{ids_of, place_of}
use Rattle.smt_nodes.specs.declared.id.IdList.{IdList}
use Rattle.smt_nodes.specs.declared.id.NodeId.{NodeId}
use Rattle.smt_nodes.specs.declared.interner.Interner.{Interner}
use Rattle.smt_blast.specs.Marks.{mark_in, HasSeen, IsSeen}
use Rattle.smt_blast.specs.Standing.{AreBits, Grows}
use Rattle.smt_blast.specs.Tables.{bits_in, HasBits, IsNext, IsTable}
use Rattle.smt_blast.specs.declared.marks.Seen.{Seen}
use Rattle.smt_blast.proofs.Nodes.{few_bits}
use Rattle.smt_blast.proofs.Standing.{bits_stay}

-- ---- lists

bits_before : (table : List IdList) (list : IdList) (i : ℕ) → i < length table → bits_in (table ++ list ∷ []) i ≡ bits_in table i
bits_before table list i h = ap (λ o. elim o as (λ x. List NodeId) [ None ↦ [] | Some bits ↦ ids_of bits ]) (get_older table (list ∷ []) i h)

bits_last : (table : List IdList) (list : IdList) → bits_in (table ++ list ∷ []) (length table) ≡ ids_of list
bits_last table list = ap (λ o. elim o as (λ x. List NodeId) [ None ↦ [] | Some bits ↦ ids_of bits ]) (get_last table list)

-- what holds anyway holds where a call succeeds
pub anyway : {T E : Type 0} {P : Type 0} (r : Result T E) → P → OnOk r P
anyway (Ok x) p = p
anyway (Err e) p = tt

-- ---- marks

pub mark_is : (marks : List (Option Seen)) (i : ℕ) (d : Option Seen) → i < length marks → mark_in marks i ≡ get_or marks i d
mark_is marks i d h = ap (option_and_then (λ m. m)) (slice_get-get_or marks i d h)

-- what a mark at a place says
pub seen_at : (old : Interner) (marks : List (Option Seen)) (ids : List NodeId) (vs : Variables) → HasSeen old marks ids vs → (place : ℕ) (seen : Seen) → mark_in marks place ≡ Some seen → IsSeen old marks vs seen.id seen × (place ≡ place_of seen.id)
seen_at old marks ids vs h place seen e =
    let s = h.sound (record { place = place }) seen e in
    (subst (λ id. IsSeen old marks vs id seen) (sym s.here) s, sym (ap place_of s.here))

-- the next entry's mark
pub next_is : (old : Interner) (marks : List (Option Seen)) (ids : List NodeId) (vs : Variables) (table : List IdList) (mark : Option Seen) → HasSeen old marks ids vs → mark_in marks (length table) ≡ mark → IsNext old marks vs table mark
next_is old marks ids vs table mark h e = λ seen k. seen_at old marks ids vs h (length table) seen (e ∙ k)

pub one_term : (old : Interner) (id : NodeId) (t u : PlainTerm) → meaning_in old id ≡ Some (TermMeaning t) → meaning_in old id ≡ Some (TermMeaning u) → t ≡ u
one_term old id t u e f = let k = some_same (TermMeaning t) (TermMeaning u) (sym e ∙ f) in (cc)

-- a table with one more entry
pub table_more : (old : Interner) (marks : List (Option Seen)) (ids : List NodeId) (vs : Variables) (i j : Interner) (k : ℕ) (table more : List IdList) (list : IdList) (mark : Option Seen)
    → HasSeen old marks ids vs → IsTable old marks vs i table → Grows i j k → more ≡ table ++ list ∷ [] → mark_in marks (length table) ≡ mark
    → ((seen : Seen) (s : IsSeen old marks vs seen.id seen) → mark ≡ Some seen → length table ≡ place_of seen.id → AreBits j (ids_of list) (blasted vs s.term)) → IsTable old marks vs j more
table_more old marks ids vs i j k table more list mark h has w e m bits id s t below marked means =
    subst (λ (l : List IdList). HasBits j l id (blasted vs t)) (sym e) (by (before_or_at (place_of id) (length table) (let n : length more ≡ length (table ++ list ∷ []) = ap length e in omega (arith, length-append table (list ∷ [])))))
  where
    before_or_at : (a n : ℕ) → a < n + 1 → (a < n) ⊎ (a ≡ n)
    before_or_at a n p = grind arith

    by : (place_of id < length table) ⊎ (place_of id ≡ length table) → HasBits j (table ++ list ∷ []) id (blasted vs t)
    by (inl p) =
        let b = has id s t p marked means in
        record { bits = subst (λ (l : List NodeId). AreBits j l (blasted vs t)) (sym (bits_before table list (place_of id) p)) (bits_stay w b.bits); few = b.few }
    by (inr p) =
        let marked_here : mark_in marks (length table) ≡ Some s = ap (mark_in marks) (sym p) ∙ marked in
        let (seen, place) = seen_at old marks ids vs h (length table) s marked_here in
        let same : t ≡ seen.term = one_term old s.id t seen.term (ap (meaning_in old) (h.sound id s marked).here ∙ means) seen.means in
        let b = bits s seen (sym m ∙ marked_here) place in
        record {
          bits = subst (λ (l : List NodeId). AreBits j l (blasted vs t)) (sym (ap (bits_in (table ++ list ∷ [])) p ∙ bits_last table list)) (subst (λ u. AreBits j (ids_of list) (blasted vs u)) (sym same) b);
          few = subst (λ u. length (blasted vs u) ≤ 128) (sym same) (few_bits old marks vs s.id s seen);
        }
