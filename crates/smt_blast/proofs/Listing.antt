-- Variables, listed with their numbers, and the first bits of roots.
use Rattle.std.proofs.Common.{◌≡◌, ◌<◌, ◌≤◌, ◌+◌, ℕ, zero, suc, List, [], ◌∷◌, ◌++◌, Option, Some, drop, get_or, length, map, take, refl, sym, ap, ◌∙◌, subst, append_assoc, arith}
use Rattle.std.proofs.lemmas.List.{append-nil, drop_all, drop_more, length-append}
use Rattle.std.specs.List.{AllByRecursion}
use Rattle.std.specs.Prelude.{IsErrAnd, Result, Ok, Err, None}
use Rattle.std.proofs.Common.{true}
use Rattle.std.proofs.lemmas.Bool.{and_from}
use Rattle.law_blasting.specs.Numbering.{unless_refused, variables_of, walked, walked_all, walked_list}
use Rattle.law_blasting.specs.Refusals.{Refusal, first_refusal}
use Rattle.law_blasting.specs.Theorem.{AreBlastable}
use Rattle.law_blasting.proofs.Numbering.{lists_are_walked}
use Rattle.law_terms.specs.Formed.{IsFormed}
use Rattle.law_terms.specs.Typing.{AreBoolean, typed, typed_all}
use Rattle.smt_nodes.proofs.Formed.{nodes_formed}
use Rattle.smt_term.proofs.FormedTerms.{both_formed}
use Rattle.smt_blast.specs.Answers.{Answers}
use Rattle.smt_blast.specs.Walks.{Refuses}
use Rattle.smt_blast.specs.declared.blasted.Blasted.{Blasted}
use Rattle.smt_blast.specs.declared.error.BlastError.{BlastError}
use Rattle.smt_blast.specs.declared.error.BlastError.TheVariants.{Unsupported, UnsupportedType, Memory}
use Rattle.law_blasting.specs.Blasted.{Variables, blasted}
use Rattle.law_blasting.specs.Laws.{root}
use Rattle.law_blasting.specs.OperatorCircuits.{term_gates, the_bit}
use Rattle.law_blasting.specs.Passing.{Related, none, one}
use Rattle.law_terms.specs.Meanings.{all_found, found, meanings}
use Rattle.law_terms.specs.Nodes.{TermMeaning}
use Rattle.law_terms.specs.Plain.{PlainTerm, PlainType, list_of_terms, terms}
use Rattle.smt_nodes.specs.Interned.{nodes_of, StandFor}
use Rattle.smt_nodes.specs.View.{place_of, places_of}
use Rattle.smt_nodes.specs.declared.id.IdList.{IdList}
use Rattle.smt_nodes.specs.declared.id.NodeId.{NodeId}
use Rattle.smt_nodes.specs.declared.interner.Interner.{Interner}
use Rattle.smt_blast.specs.Marks.{IsMarked, IsVariable}
use Rattle.smt_blast.specs.Standing.{AreBits}
use Rattle.smt_blast.specs.Tables.{HasBits, IsTable}
use Rattle.smt_blast.specs.View.{NumberedVariable, numbered_from, plain_bit_vars}
use Rattle.smt_blast.specs.declared.marks.Seen.{Seen}
use Rattle.smt_blast.specs.declared.variable.BitVarList.{BitVarList}
use Rattle.smt_blast.proofs.Gating.{more_found}
use Rattle.smt_blast.proofs.Nodes.{split_found, within}
use Rattle.smt_blast.proofs.Visiting.{nothing_found}

-- ---- variables

-- so far the variables and those that are left are all of them
pub record Listing (old : Interner) (ids : List NodeId) (vs : Variables) (vars : BitVarList) (k : ℕ) : Type 0 where
  pub left : Variables
  pub related : Related (IsVariable old) (drop k ids) left
  pub whole : plain_bit_vars vars ++ numbered_from (length (plain_bit_vars vars)) left ≡ numbered_from 0 vs

pub listing_begins : (old : Interner) (ids : List NodeId) (vs : Variables) (vars : BitVarList) → plain_bit_vars vars ≡ [] → Related (IsVariable old) ids vs → Listing old ids vs vars 0
listing_begins old ids vs vars e r = record { left = vs; related = r; whole = ap (λ l. l ++ numbered_from (length l) vs) e }

nothing_left : (old : Interner) {left : Variables} → Related (IsVariable old) [] left → left ≡ []
nothing_left old none = refl

pub listing_ends : (old : Interner) (ids : List NodeId) (vs : Variables) (vars : BitVarList) (k : ℕ) → length ids ≤ k → Listing old ids vs vars k → plain_bit_vars vars ≡ numbered_from 0 vs
listing_ends old ids vs vars k n h =
    let left : h.left ≡ [] = nothing_left old (subst (λ (l : List NodeId). Related (IsVariable old) l h.left) (drop_all k ids n) h.related) in
    sym (append-nil (plain_bit_vars vars)) ∙ ap (λ l. plain_bit_vars vars ++ numbered_from (length (plain_bit_vars vars)) l) (sym left) ∙ h.whole

-- the next variable
pub record NextVariable (old : Interner) (id : NodeId) (ids : List NodeId) (left : Variables) : Type 0 where
  pub variable : List ℕ × PlainType
  pub others : Variables
  pub is : left ≡ variable ∷ others
  pub means : IsVariable old id variable
  pub rest : Related (IsVariable old) ids others

next_here : {old : Interner} {id : NodeId} {ids : List NodeId} {left : Variables} → Related (IsVariable old) (id ∷ ids) left → NextVariable old id ids left
next_here (one {y = v} {ys = vs} r k) = record { variable = v; others = vs; is = refl; means = r; rest = k }

pub next_variable : (old : Interner) (ids : List NodeId) (vs : Variables) (vars : BitVarList) (k : ℕ) (d : NodeId) → k < length ids → (h : Listing old ids vs vars k) → NextVariable old (get_or ids k d) (drop (k + 1) ids) h.left
next_variable old ids vs vars k d n h = next_here (subst (λ (l : List NodeId). Related (IsVariable old) l h.left) (drop_more ids k d n) h.related)

pub listing_on : (old : Interner) (ids : List NodeId) (vs : Variables) (vars more : BitVarList) (k : ℕ) (id : NodeId) (item : NumberedVariable) (h : Listing old ids vs vars k) (n : NextVariable old id (drop (k + 1) ids) h.left)
    → plain_bit_vars more ≡ plain_bit_vars vars ++ item ∷ [] → item ≡ record { variable = n.variable; number = length (plain_bit_vars vars) } → Listing old ids vs more (k + 1)
listing_on old ids vs vars more k id item h n e is = record {
  left = n.others;
  related = n.rest;
  whole =
      let xs = plain_bit_vars vars in
      let count : length (plain_bit_vars more) ≡ suc (length xs) = ap length e ∙ (length-append xs (item ∷ []) ∙ omega arith) in
      ap (λ m. plain_bit_vars more ++ numbered_from m n.others) count ∙ ap (λ l. l ++ numbered_from (suc (length xs)) n.others) e
      ∙ append_assoc xs (item ∷ []) (numbered_from (suc (length xs)) n.others) ∙ ap (λ x. xs ++ (x ∷ numbered_from (suc (length xs)) n.others)) is
      ∙ ap (λ l. xs ++ numbered_from (length xs) l) (sym n.is) ∙ h.whole;
}

-- ---- roots

-- what stands at a place of two related lists
pub related_at : {X Y : Type 0} {R : X → Y → Type 0} (i : ℕ) (d : X) {xs : List X} {ys : List Y} → Related R xs ys → i < length xs → (y : Y) × R (get_or xs i d) y × (take (i + 1) ys ≡ take i ys ++ y ∷ [])
related_at zero d none h = absurd (omega arith)
related_at (suc i) d none h = absurd (omega arith)
related_at zero d (one {y = y} r k) h = (y, r, refl)
related_at (suc i) d (one {y = z} {ys = ys} r k) h =
    let (y, q, e) = related_at i d k (omega arith) in
    let n : suc i + 1 ≡ suc (i + 1) = omega arith in
    (y, q, ap (λ m. take m (z ∷ ys)) n ∙ ap (λ l. z ∷ l) e)

-- roots with marks have their bits
pub roots_have_bits : (old : Interner) (marks : List (Option Seen)) (vs : Variables) (i : Interner) (table : List IdList) (count : length table ≡ length (nodes_of old)) → IsTable old marks vs i table → (ids : List NodeId) (ts : List PlainTerm) → StandFor old ids ts → AllByRecursion (IsMarked marks) ids
    → Related (HasBits i table) ids (map (blasted vs) ts)
roots_have_bits old marks vs i table count has [] [] e h = none
roots_have_bits old marks vs i table count has [] (t ∷ ts) e h = absurd (cc)
roots_have_bits old marks vs i table count has (x ∷ ids) [] e h = absurd (nothing_found (found (meanings (nodes_of old)) (place_of x)) (all_found (meanings (nodes_of old)) (places_of ids)) e)
roots_have_bits old marks vs i table count has (x ∷ ids) (t ∷ ts) e h =
    let (here, there) = split_found (meanings (nodes_of old)) (place_of x) (places_of ids) (TermMeaning t) (map TermMeaning ts) e in
    let (s, mark) = h.0 in
    let below : place_of x < length table = (let w = within old x (TermMeaning t) here in omega (arith, w, count)) in
    one (has x s t below mark here) (roots_have_bits old marks vs i table count has ids ts there h.1)

pub first_of_each : (vs : Variables) (ts : List PlainTerm) → map (the_bit term_gates) (map (blasted vs) ts) ≡ map (root vs) ts
first_of_each vs [] = refl
first_of_each vs (t ∷ ts) = ap (λ l. root vs t ∷ l) (first_of_each vs ts)

-- numbers that stand for terms one by one stand for all
pub stand_for : {i : Interner} {ids : List NodeId} {us : List PlainTerm} → AreBits i ids us → StandFor i ids us
stand_for none = refl
stand_for {i} (one {x = x} {y = u} {xs = ids} {ys = us} s r) = more_found (meanings (nodes_of i)) (place_of x) (TermMeaning u) (places_of ids) (map TermMeaning us) s.means (stand_for r)

-- ---- the roots of a call

pub all_within : (old : Interner) (ids : List NodeId) (ts : List PlainTerm) → StandFor old ids ts → AllByRecursion (λ p. p < length (nodes_of old)) (places_of ids)
all_within old [] ts e = tt
all_within old (x ∷ ids) [] e = absurd (nothing_found (found (meanings (nodes_of old)) (place_of x)) (all_found (meanings (nodes_of old)) (places_of ids)) e)
all_within old (x ∷ ids) (t ∷ ts) e =
    let (here, there) = split_found (meanings (nodes_of old)) (place_of x) (places_of ids) (TermMeaning t) (map TermMeaning ts) e in
    (within old x (TermMeaning t) here, all_within old ids ts there)

pub some_node : (old : Interner) (ids : List NodeId) (ts : List PlainTerm) → (ids ≡ [] → ⊥) → StandFor old ids ts → 1 ≤ length (nodes_of old)
some_node old [] ts h e = absurd (h refl)
some_node old (x ∷ ids) ts h e = (let w = (all_within old (x ∷ ids) ts e).0 in omega (arith, w))

pub no_terms_stand : (old : Interner) (ids : List NodeId) (ts : List PlainTerm) → ids ≡ [] → StandFor old ids ts → ts ≡ []
no_terms_stand old [] [] h e = refl
no_terms_stand old [] (t ∷ ts) h e = absurd (cc)
no_terms_stand old (x ∷ ids) ts h e = absurd (cc)

pub all_formed : (old : Interner) (ids : List NodeId) (ts : List PlainTerm) → StandFor old ids ts → AllByRecursion IsFormed ts
all_formed old ids [] e = tt
all_formed old [] (t ∷ ts) e = absurd (cc)
all_formed old (x ∷ ids) (t ∷ ts) e =
    let (here, there) = split_found (meanings (nodes_of old)) (place_of x) (places_of ids) (TermMeaning t) (map TermMeaning ts) e in
    (both_formed t (nodes_formed old.table.nodes.items old.graph (place_of x) (TermMeaning t) here), all_formed old ids ts there)

same_terms : (ts : List PlainTerm) → list_of_terms (terms ts) ≡ ts
same_terms [] = refl
same_terms (t ∷ ts) = ap (λ l. t ∷ l) (same_terms ts)

pub terms_found : (old : Interner) (ids : List NodeId) (ts : List PlainTerm) → StandFor old ids ts → all_found (meanings (nodes_of old)) (places_of ids) ≡ Some (map TermMeaning (list_of_terms (terms ts)))
terms_found old ids ts e = e ∙ ap (λ l. Some (map TermMeaning l)) (sym (same_terms ts))

pub all_typed : (ts : List PlainTerm) → AreBoolean ts → typed_all (terms ts) ≡ true
all_typed [] h = refl
all_typed (t ∷ ts) h = and_from (typed t) (typed_all (terms ts)) h.0.parts (all_typed ts h.1)

listed : (vs : Variables) (ts : List PlainTerm) → walked_all vs (terms ts) ≡ walked_list vs ts
listed vs [] = refl
listed vs (t ∷ ts) = by (walked vs t) (λ ws. listed ws ts)
  where
    by : (r : Result Variables Refusal) → ((ws : Variables) → walked_all ws (terms ts) ≡ walked_list ws ts) → ◌≡◌ {A = Result Variables Refusal} (elim r [ Ok ws ↦ walked_all ws (terms ts) | Err q ↦ Err q ]) (elim r [ Ok ws ↦ walked_list ws ts | Err q ↦ Err q ])
    by (Ok ws) others = others ws
    by (Err q) others = refl

-- what the walk over the roots says of them
pub walked_from_none : (ts : List PlainTerm) → walked_all [] (terms ts) ≡ unless_refused (first_refusal ts) (variables_of ts)
walked_from_none ts = listed [] ts ∙ lists_are_walked [] ts

pub numbered_by : (f : Option Refusal) (vs ws : Variables) → unless_refused f vs ≡ Ok ws → (f ≡ None) × (vs ≡ ws)
numbered_by None vs ws h = (refl, (cc))
numbered_by (Some r) vs ws h = absurd (cc)

pub answers_refusal : (f : Option Refusal) (vs : Variables) (r : Result Blasted BlastError) (e : BlastError) → IsErrAnd r (λ y. y ≡ e) → Refuses (unless_refused f vs) e → Answers f r
answers_refusal f vs (Ok b) e h k = absurd h
answers_refusal f vs (Err y) e h k = subst (λ x. Answers f (Err x)) (sym h) (by f e k)
  where
    by : (g : Option Refusal) (x : BlastError) → Refuses (unless_refused g vs) x → Answers g (Err x)
    by None (Unsupported op) q = absurd (cc)
    by (Some r) (Unsupported op) q = (cc)
    by None (UnsupportedType ty) q = absurd (cc)
    by (Some r) (UnsupportedType ty) q = (cc)
    by g Memory q = tt

-- the terms of roots without refusal
pub blastable : (old : Interner) (ids : List NodeId) (ts : List PlainTerm) → StandFor old ids ts → AreBoolean ts → first_refusal ts ≡ None → AreBlastable ts
blastable old ids ts e h f = record { typed = h; formed = all_formed old ids ts e; taken = f }
